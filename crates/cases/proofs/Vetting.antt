-- What Vet answers about the two writes with sections between them.
use Rattle.std.proofs.Common.{ℕ, false, List, [], ◌∷◌, refl, arith}
use mathlib.Core.List.Memᴰ
use mathlib.Core.List.{Memᴰ}
use Rattle.std.proofs.lemmas.Bool.{false≢true}
use Rattle.trace.specs.Reorderings.{Leaves}
use Rattle.session.specs.Questions.Answers.{answered}
use Rattle.cases.specs.Examples.{sections_between}
use Rattle.cases.specs.Cases.{Vets, WitnessVetted}
use Rattle.predict.proofs.Tests.{is_earlier}
use Rattle.cases.proofs.Asking.{witness_leaves}
use Rattle.cases.proofs.Judging.{sections_admitted}

-- a list that does not leave the two enabled is answered no
refuses : (list : List ℕ) → (Leaves sections_between (0 ∷ 5 ∷ []) list → ⊥) → Vets sections_between 0 5 list false
refuses list not_left = answered refl (λ e. absurd (false≢true e), λ leaves. absurd (not_left leaves))

-- the release before the second write has to be there
has_release : (list : List ℕ) → Leaves sections_between (0 ∷ 5 ∷ []) list → Memᴰ 4 list
has_release list leaves = (leaves.enabled 5 (Memᴰ.tail (Memᴰ.head refl))).ready 4 (is_earlier sections_between 4 5 refl)

pub witness_vetted : WitnessVetted
witness_vetted = (
  answered refl (λ _. witness_leaves sections_between 0 5 sections_admitted refl (4 ∷ []) refl refl, λ _. refl),
  refuses (4 ∷ 3 ∷ []) (λ leaves. Memᴰ.not-nil (leaves.correct.thread_prefix [] (3 ∷ []) 3 4 refl (is_earlier sections_between 3 4 refl))),
  refuses (3 ∷ []) (λ leaves. let e = Memᴰ.eq_of_singleton (has_release (3 ∷ []) leaves) in omega arith),
  refuses [] (λ leaves. Memᴰ.not-nil (has_release [] leaves)),
)
