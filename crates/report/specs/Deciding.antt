-- How much of an input decides what becomes of it.
use Rattle.std.specs.Prelude.{◌≡◌, ℕ, ◌+◌, ◌*◌, ◌≤◌, List, [], take}
use Rattle.session.specs.Entries.{enter_all}

-- where a session with room for so many events enters the records of an input, those and one record more decide what it comes to
abbrev pub Deciding : Type 0
Deciding = (room n : ℕ) (input : List ℕ) → 8 * (room + 1) ≤ n → enter_all room [] (take n input) ≡ enter_all room [] input
