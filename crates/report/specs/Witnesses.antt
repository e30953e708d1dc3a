-- What is told of a witness: how many positions it has, how far each thread runs to come to them, and the positions.
use Rattle.std.specs.Prelude.{◌≡◌, ℕ, zero, suc, ◌<◌, ◌≤◌, Bool, false, cond, ◌↔◌, List, [], ◌∷◌, ◌++◌, length, Some, None, Option, codes, decimal, ◌==◌}
use Rattle.std.specs.List.{slice_get, flat_map, fold}
use mathlib.Core.List.{Memᴰ}
use Rattle.trace.specs.declared.event.Event.{Event}
use Rattle.trace.specs.Limits.{threads}
use Rattle.trace.specs.Traces.{At}
use Rattle.answer.specs.declared.verdict.WitnessFault.{WitnessFault}
use Rattle.answer.specs.declared.verdict.WitnessFault.TheVariants.{Pair, NoRace, Buffer}
use Rattle.session.specs.Questions.{pair_refusal}
use Rattle.session.specs.Races.{Races, Shows, PartnersOf}
use Rattle.report.specs.declared.told.Finding.{Finding}
use Rattle.report.specs.declared.told.Finding.TheVariants.{Refused, Race, Nothing}
use Rattle.report.specs.Refusals.{refused_question}

-- an event is one of thread h
abbrev pub by_thread : ℕ → Option Event → Bool
by_thread h None = false
by_thread h (Some e) = e.thread == h

-- the last position of a list whose event is one of thread h
abbrev pub last_of : List Event → ℕ → List ℕ → Option ℕ
last_of t h ws = fold (λ last k. cond (by_thread h (slice_get t k)) (Some k) last) None ws

-- how far thread h runs, if it runs
abbrev pub run_line : ℕ → Option ℕ → List ℕ
run_line h None = []
run_line h (Some k) = codes "thread " ++ (decimal h ++ (codes " up to and with event " ++ (decimal k ++ codes "\n")))

-- how far the threads below n run, each to its last position
abbrev pub run_lines : List Event → List ℕ → ℕ → List ℕ
run_lines t ws zero = []
run_lines t ws (suc n) = run_lines t ws n ++ run_line n (last_of t n ws)

-- a position, after a blank
abbrev pub position_entry : ℕ → List ℕ
position_entry k = codes " " ++ decimal k

-- the line of some positions
abbrev pub positions_line : List ℕ → List ℕ
positions_line ks = codes "positions" ++ (flat_map position_entry ks ++ codes "\n")

-- the text of a witness
abbrev pub witness_text : List Event → List ℕ → List ℕ
witness_text t ws = codes "witness " ++ (decimal (length ws) ++ (codes "\n" ++ (run_lines t ws threads ++ positions_line ws)))

-- the list has just the events that each thread runs: those up to its last position
abbrev pub RunsThreads : List Event → List ℕ → Type 0
RunsThreads t ws = (k : ℕ) (e : Event) → At t k e → Memᴰ k ws ↔ ((last : ℕ) × (last_of t e.thread ws ≡ Some last) × (k ≤ last))

-- what a refusal of a witness finds: nothing where the pair does not race
abbrev pub finding_of : WitnessFault → Finding
finding_of NoRace = Nothing
finding_of (Pair f) = Refused
finding_of (Buffer f) = Refused

-- the witness of p and q, or its refusal in words; where they do not race that is 11
pub data WitnessTold (t : List Event) (p q : ℕ) : List ℕ → Finding → Type 0 where
  refused : {n : ℕ} → pair_refusal t p q ≡ Some n → WitnessTold t p q (refused_question (length t) p q n) Refused
  no_race : pair_refusal t p q ≡ None → (Races t p q → ⊥) → WitnessTold t p q (refused_question (length t) p q 11) Nothing
  shown : {ws : List ℕ} → pair_refusal t p q ≡ None → Shows t p q ws → RunsThreads t ws → WitnessTold t p q (witness_text t ws) Race

-- a race is found where there are partners
abbrev pub found_among : List ℕ → Finding
found_among [] = Nothing
found_among (p ∷ ps) = Race

-- the text of partners
abbrev pub partners_text : List ℕ → List ℕ
partners_text ps = codes "partners " ++ (decimal (length ps) ++ (codes "\n" ++ positions_line ps))

-- the partners of q, or the refusal in words, which is 8
pub data PartnersTold (t : List Event) (q : ℕ) : List ℕ → Finding → Type 0 where
  refused : length t ≤ q → PartnersTold t q (refused_question (length t) q q 8) Refused
  found : {ps : List ℕ} → q < length t → PartnersOf t q ps → PartnersTold t q (partners_text ps) (found_among ps)
