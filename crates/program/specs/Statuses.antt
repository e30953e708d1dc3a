-- The statuses that the programs end with.
use Rattle.std.specs.Prelude.{ℕ}

-- of a wrong call, and where what is needed cannot be read or written
abbrev pub not_done : ℕ
not_done = 2
