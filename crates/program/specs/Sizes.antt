-- The sizes that the programs use.
use Rattle.std.specs.Prelude.{ℕ, ◌+◌, ◌*◌}

-- how many bytes the programs keep events in: the records of 4,096
abbrev pub storage_size : ℕ
storage_size = 8 * 4096

-- how many bytes of a dump decide, where so many are there to keep events in: as many, and one record more
abbrev pub deciding_size : ℕ → ℕ
deciding_size size = size + 8
