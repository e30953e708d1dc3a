-- Examples of what a C host is answered.
use Rattle.std.specs.Prelude.{◌≡◌, ℕ, List, [], ◌∷◌}
use Rattle.host.specs.Hosts.{HostAnswers}

-- of an empty dump every question is refused with 8; wrong: any other number
abbrev pub EmptyDump : Type 0
EmptyDump = HostAnswers [] 0 1 108 × ((n : ℕ) → HostAnswers [] 0 1 n → n ≡ 108)

-- a dump of one byte is refused with 1; wrong: the refusal of a question, as if the byte had been left out
abbrev pub CutDump : Type 0
CutDump = HostAnswers (1 ∷ []) 0 1 101 × (HostAnswers (1 ∷ []) 0 1 108 → ⊥)

-- the records of a write of variable 0 by thread 0 and of a read of it by thread 1
abbrev pub two_records : List ℕ
two_records = 2 ∷ 0 ∷ 0 ∷ 0 ∷ 0 ∷ 0 ∷ 0 ∷ 0 ∷ 1 ∷ 1 ∷ 0 ∷ 0 ∷ 0 ∷ 0 ∷ 0 ∷ 0 ∷ []

-- the two race; wrong: that they do not
abbrev pub RaceDump : Type 0
RaceDump = HostAnswers two_records 0 1 1 × (HostAnswers two_records 0 1 0 → ⊥)

-- for every dump and question there is one number at most
abbrev pub OneAnswer : Type 0
OneAnswer = (dump : List ℕ) (p q m n : ℕ) → HostAnswers dump p q m → HostAnswers dump p q n → m ≡ n
