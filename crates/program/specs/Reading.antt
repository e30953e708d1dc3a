-- What reading the front of an input comes to.
use Rattle.std.specs.Prelude.{◌≡◌, ℕ, ◌<◌, ◌≤◌, List, length, take, drop, Some, IfSome, Option}
use Rattle.std.specs.Io.KnownBytes.{Consumes, IsAtEnd}

-- the first n places of a buffer have what the input gave, all of them or all that it had left
pub record Fills (old new : Option (List ℕ)) (n : ℕ) (buffer : List ℕ) : Type 0 where
  pub within : n ≤ length buffer
  pub given : Consumes old new (take n buffer)
  pub ended : n < length buffer → IsAtEnd new

-- the input has left what is behind the first n of its bytes
abbrev pub LeavesBehind : Option (List ℕ) → ℕ → Option (List ℕ) → Type 0
LeavesBehind old n new = IfSome old (λ bytes. new ≡ Some (drop n bytes))
