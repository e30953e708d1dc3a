-- The text of the answers to the questions about two positions.
use Rattle.std.specs.Prelude.{◌≡◌, ℕ, Bool, true, false, List, ◌++◌, Ok, Err, codes, decimal, Result}
use Rattle.trace.specs.declared.event.Event.{Event}
use Rattle.trace.specs.Faults.{told}
use Rattle.answer.specs.declared.fault.PairFault.{PairFault}
use Rattle.answer.specs.Faults.{pair_number}
use Rattle.session.specs.Questions.{Answers, Unordered, Schedulable, Vetted}

-- an answer in a word, or the number of the refusal
abbrev pub answer_text : Result Bool ℕ → List ℕ
answer_text (Ok true) = codes "yes"
answer_text (Ok false) = codes "no"
answer_text (Err n) = codes "refused " ++ decimal n

-- the three answers, a line each
abbrev pub three_lines : List ℕ → List ℕ → List ℕ → List ℕ
three_lines u s v = codes "unordered " ++ (u ++ (codes "\nschedulable " ++ (s ++ (codes "\nvet " ++ (v ++ codes "\n")))))

-- the text has the answers about p, q and a list of positions of the trace t
pub record Answered (t : List Event) (p q : ℕ) (list text : List ℕ) : Type 0 where
  pub unordered : Result Bool PairFault
  pub schedulable : Result Bool PairFault
  pub vet : Result Bool PairFault
  pub unordered_is : Answers t p q (Unordered t p q) unordered
  pub schedulable_is : Answers t p q (Schedulable t p q) schedulable
  pub vet_is : Answers t p q (Vetted t p q list) vet
  pub text_is : text ≡ three_lines (answer_text (told pair_number unordered)) (answer_text (told pair_number schedulable))
      (answer_text (told pair_number vet))
