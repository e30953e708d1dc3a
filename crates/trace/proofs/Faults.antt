-- An answer whose refusal is told by its number.
use Rattle.std.proofs.Common.{◌≡◌, true, ◌↔◌, is_ok, None, Ok, Err, Result, refl, arith}
use Rattle.std.specs.Result.{result_ok}
use Rattle.std.proofs.lemmas.Bool.{false≢true}
use Rattle.trace.specs.Faults.{told, refusal_in}

-- what is answered, if it is no refusal, stays
pub ok_told : {A F G : Type 0} (tell : F → G) (r : Result A F) → result_ok r ≡ result_ok (told tell r)
ok_told tell (Ok x) = refl
ok_told tell (Err f) = refl

-- an answer is no refusal just if it is Ok
pub ok_refuses_none : {A F G : Type 0} (tell : F → G) (r : Result A F) → (is_ok r ≡ true) ↔ (refusal_in tell r ≡ None)
ok_refuses_none tell (Ok x) = (λ q. refl, λ q. refl)
ok_refuses_none tell (Err f) = (λ q. absurd (false≢true q), λ q. absurd (grind arith))
