-- The calls of a run, one after another.
use Rattle.std.proofs.Common.{◌≡◌, ℕ, zero, suc, ◌+◌, ◌<◌, ◌≤◌, List, [], ◌∷◌, ◌++◌, length, get_or, set, take, drop, Some, Ok, vec_items, Vec, sym, refl, ap, ◌∙◌, subst, ⊎_elim, append_assoc, append-nil, arith, length-append, length-drop, take_all}
use Rattle.std.specs.List.{slice_get}
use Rattle.std.specs.declared.alloc.Global.{Global}
use Rattle.std.proofs.lemmas.List.{length_push, drop_more, drop_all, set_at, get_or_at, get_or_default}
use Rattle.std.proofs.lemmas.Bool.{cases_lt}
use Rattle.std.proofs.lemmas.List.Sums.{fold_more}
use Rattle.std.proofs.lemmas.Option.{slice_get_read}
use Rattle.trace.specs.declared.event.Event.{Event}
use Rattle.trace.specs.Traces.{Admits}
use Rattle.answer.specs.declared.verdict.Verdict.{Verdict}
use Rattle.answer.specs.declared.verdict.Verdict.TheVariants.{Race}
use Rattle.run.specs.declared.Call.{Call}
use Rattle.run.specs.declared.Call.TheVariants.{Witness}
use Rattle.session.specs.Races.{Shows}
use Rattle.run.specs.Runs.{trace_after, so_far, Served, Turn, Upholds}
use Rattle.run.proofs.Lasting.{same_shown}
use Rattle.run.proofs.SoFar.{Goes, so_far_goes, so_far_admitted}
use Rattle.run.proofs.Lasts.{Decided, says_right, same_verdict, witness_answered}

-- each call so far is answered as the trace so far asks for
abbrev pub Each : ℕ → List Call → List Call → Type 0
Each room given back = (i : ℕ) (x : Turn given back i) → Served room (so_far room (take i given)) x.asked x.answered

-- the last of a list
nth_last : {A : Type 0} (xs : List A) (y z : A) (k : ℕ) → length xs ≤ k → slice_get (xs ++ (y ∷ [])) k ≡ Some z → (k ≡ length xs) × (y ≡ z)
nth_last [] y z zero h is = (refl, cc)
nth_last [] y z (suc k) h is = absurd (grind arith)
nth_last (x ∷ xs) y z zero h is = absurd (omega arith)
nth_last (x ∷ xs) y z (suc k) h is = let r = nth_last xs y z k (omega arith) is in (let e = r.0 in omega arith, r.1)

nth_before : {A : Type 0} (xs ys : List A) (k : ℕ) → k < length xs → slice_get (xs ++ ys) k ≡ slice_get xs k
nth_before [] ys k h = absurd (omega arith)
nth_before (x ∷ xs) ys zero h = refl
nth_before (x ∷ xs) ys (suc k) h = nth_before xs ys k (omega arith)

-- an element in the place of the first one behind others
set_next : {A : Type 0} (xs ys : List A) (i : ℕ) (y d : A) → length xs ≡ i → i < length ys
    → set (xs ++ drop i ys) i y ≡ (xs ++ (y ∷ [])) ++ drop (i + 1) ys
set_next xs ys i y d many inside =
    rw (drop_more ys i d inside) (set_at xs (get_or ys i d) (drop (i + 1) ys) y i many) ∙ sym (append_assoc xs (y ∷ []) (drop (i + 1) ys))

module _ (room : ℕ) (given : List Call) where
  -- one call more
  each_more : (back : List Call) (i : ℕ) (asked answered : Call) → length back ≡ i → slice_get given i ≡ Some asked
      → Served room (so_far room (take i given)) asked answered → Each room given back → Each room given (back ++ (answered ∷ []))
  each_more back i asked answered many is right each k x = ⊎_elim old new (cases_lt k (length back))
    where
      old : k < length back → Served room (so_far room (take k given)) x.asked x.answered
      old h = each k (record { asked = x.asked; answered = x.answered; asked_is = x.asked_is; answered_is = sym (nth_before back (answered ∷ []) k h) ∙ x.answered_is })

      new : length back ≤ k → Served room (so_far room (take k given)) x.asked x.answered
      new h =
          let l = nth_last back answered x.answered k h x.answered_is in
          let k_is : k ≡ i = l.0 ∙ many in
          let at_i = subst (λ (n : ℕ). slice_get given n ≡ Some x.asked) k_is x.asked_is in
          let a_is : asked ≡ x.asked = cc in
          rw k_is (subst (λ (a : Call). Served room (so_far room (take i given)) a x.answered) a_is
          (subst (λ (b : Call). Served room (so_far room (take i given)) asked b) l.1 right))

  -- the trace so far with one call more
  so_far_more : (i : ℕ) (call : Call) → i < length given → call ≡ get_or given i call
      → trace_after room (so_far room (take i given)) call ≡ so_far room (take (i + 1) given)
  so_far_more i call inside is = rw (fold_more (trace_after room) [] given i call inside, ← is) refl

  -- the first i calls are answered in place, and the others are as they were given
  pub record Answering (i : ℕ) (now : List Call) : Type 0 where
    pub back : List Call
    pub many : length back ≡ i
    pub now_is : now ≡ back ++ drop i given
    pub each : Each room given back
    pub within : i ≤ length given

  pub answering_none : Answering 0 given
  answering_none = record { back = []; many = refl; now_is = refl; each = λ i x. let a = x.answered_is in absurd (grind arith); within = omega arith }

  module _ {i : ℕ} {now : List Call} (a : Answering i now) where
    -- there are as many
    pub answering_long : length now ≡ length given
    answering_long = let m = a.many in let w = a.within in omega (arith, ap length a.now_is, length-append a.back (drop i given), length-drop i given)

    module _ (inside : i < length given) where
      -- the next one is as it was given
      next_is : (d : Call) → get_or now i d ≡ get_or given i d
      next_is d = rw (a.now_is, drop_more given i d inside) (get_or_at a.back (get_or given i d) (drop (i + 1) given) d i a.many)

      -- one turn of a run
      pub turn_more : {asked answered : Call} {same : ℕ} {t u : List Event} {next : List Call} (d : Call) → same ≡ room → t ≡ so_far room (take i given)
          → asked ≡ get_or now i d → Served same t asked answered → u ≡ trace_after same t asked → next ≡ set now i answered
          → (u ≡ so_far room (take (i + 1) given)) × Answering (i + 1) next
      turn_more {asked} {answered} d room_is t_is there right u_is next_is' =
          let r = rw (room_is, t_is) at right in
          let v = rw (room_is, t_is) at u_is in
          let is : asked ≡ get_or given i asked = there ∙ next_is d ∙ get_or_default given i d asked inside in (
            v ∙ so_far_more i asked inside is,
            record {
              back = a.back ++ (answered ∷ []);
              many = length_push a.back answered ∙ ap (λ (n : ℕ). n + 1) a.many;
              now_is = next_is' ∙ rw a.now_is (set_next a.back given i answered answered a.many inside);
              each = each_more a.back i asked answered a.many (slice_get_read given (length given) i asked refl inside is) r a.each;
              within = omega arith;
            },
          )

  module _ (back : List Call) (many : length back ≡ length given) (each : Each room given back) where
    -- from an earlier call to a later one
    module _ (i j : ℕ) (h : i ≤ j) where
      goes : Goes (so_far room (take i given)) (so_far room (take j given))
      goes = so_far_goes room given i j h

      later : Admits (so_far room (take i given) ++ goes.more)
      later = subst Admits goes.is (so_far_admitted room given j)

      verdicts : (p q : ℕ) (v w : Verdict) → Decided (so_far room (take i given)) p q v → Decided (so_far room (take j given)) p q w → v ≡ w
      verdicts p q v w d e = same_verdict _ goes.more p q v w later d (subst (λ (t : List Event). Decided t p q w) goes.is e)

      witnesses : (p q : ℕ) (ws vs : List ℕ) → p < q → q < length (so_far room (take i given)) → Shows (so_far room (take i given)) p q ws
          → Shows (so_far room (take j given)) p q vs → ws ≡ vs
      witnesses p q ws vs below inside s r =
          same_shown _ goes.more p q later below inside ws vs s (subst (λ (t : List Event). Shows t p q vs) goes.is r)

    -- an answered Witness
    shown_at : (i p q m : ℕ) (after : Vec ℕ Global) (x : Turn given back i) → x.answered ≡ Witness p q after (Some (Ok m))
        → Decided (so_far room (take i given)) p q Race × Shows (so_far room (take i given)) p q (take m (vec_items after))
    shown_at i p q m after x is =
        let t = so_far room (take i given) in
        witness_answered room t p q m x.asked after (subst (λ (z : Call). Served room t x.asked z) is (each i x))

    pub upheld : Upholds room given back
    upheld = record {
      many = many;
      each = each;
      lasting = λ i j p q v w x y s r.
          let d = says_right room _ p q x.asked x.answered v (each i x) s in
          let e = says_right room _ p q y.asked y.answered w (each j y) r in
          ⊎_elim (λ h. verdicts i j (omega arith) p q v w d e) (λ h. sym (verdicts j i h p q w v e d)) (cases_lt i j);
      same_witness = λ i j p q m n after again x y xa ya.
          let d = shown_at i p q m after x xa in
          let e = shown_at j p q n again y ya in
          ⊎_elim (λ h. witnesses i j (omega arith) p q _ _ d.0.below d.0.inside d.1 e.1)
          (λ h. sym (witnesses j i h p q _ _ e.0.below e.0.inside e.1 d.1)) (cases_lt i j);
    }

  -- where all calls are answered, the promise is kept
  pub upholds : {i : ℕ} {now : List Call} → Answering i now → length given ≤ i → Upholds room given now
  upholds {i} a all =
      let many = a.many in
      let within = a.within in
      rw (a.now_is, drop_all i given all, append-nil a.back) (upheld a.back (omega arith) a.each)

  -- and the trace is that of all
  pub so_far_all : (i : ℕ) → length given ≤ i → so_far room (take i given) ≡ so_far room given
  so_far_all i all = ap (so_far room) (take_all i given all)
