-- The tests of an event that should come next tell whether it may.
use Rattle.std.proofs.Common.{◌≡◌, ℕ, Bool, true, ◌↔◌, List, [], ◌∷◌, ◌++◌, is_ok, Some, None, Option, Result, sym, refl, ap, ◌∙◌, subst, arith, eqb}
use mathlib.Core.Logic.Iff
use Rattle.std.specs.Option.{option_eq}
use Rattle.std.proofs.lemmas.Bool.{both_ways, cond-true, eq-eqb, eqb-true}
use Rattle.trace.specs.declared.event.Event.{Event}
use Rattle.trace.specs.declared.kind.Kind.{Kind}
use Rattle.trace.specs.declared.kind.Kind.TheVariants.{Read, Join}
use Rattle.trace.specs.declared.check.TraceCheck.{TraceCheck}
use Rattle.trace.specs.declared.locks.TraceFault.{TraceFault}
use Rattle.trace.specs.Faults.{trace_number}
use Rattle.trace.specs.Traces.{At}
use Rattle.trace.specs.Lookups.{last_write}
use Rattle.trace.specs.Reorderings.{picked, LatestWrite, Enabled}
use Rattle.trace.specs.Checks.{Tells, Turned}
use Rattle.trace.proofs.Faults.{ok_refuses_none}
use Rattle.trace.proofs.Events.{at_same}
use Rattle.trace.proofs.Places.{at_split}
use Rattle.trace.proofs.Lookups.{last_write_found}
use Rattle.trace.proofs.Picked.{picked_at}
use Rattle.reorder.specs.Comes.{Agrees, Comes, Answered}

-- what `==` tells of two optional numbers
abbrev pub Equal : Option ℕ → Option ℕ → Bool → Type 0
Equal o p r = r ≡ option_eq eqb o p

-- that is whether they are equal
equal : (o p : Option ℕ) (r : Bool) → Equal o p r → (r ≡ true) ↔ (o ≡ p)
equal None None r h = (λ q. refl, λ q. h)
equal None (Some y) r h = (λ q. absurd (both_ways r h q), λ q. absurd (grind arith))
equal (Some x) None r h = (λ q. absurd (both_ways r h q), λ q. absurd (grind arith))
equal (Some x) (Some y) r h = (λ q. ap Some (eqb-true x y (sym h ∙ q)), λ q. h ∙ eq-eqb x y (cc))

-- two optional numbers that are the same number, if either is one, are equal
same_option : (o p : Option ℕ) → ((w : ℕ) → (o ≡ Some w) ↔ (p ≡ Some w)) → o ≡ p
same_option None None h = refl
same_option None (Some y) h = (h y).1 refl
same_option (Some x) p h = sym ((h x).0 refl)

-- an event of another kind is no join
pub not_join : (t : List Event) (k : ℕ) (e : Event) (x : Kind) → At t k e → e.kind ≡ x → (f : Event) → At t k f → f.kind ≡ Join → (x ≡ Join → ⊥) → ⊥
not_join t k e x i q f j join other = other (sym q ∙ ap (λ (g : Event). g.kind) (at_same t k e f i j) ∙ join)

module _ (t : List Event) (xs : List ℕ) (k : ℕ) (e : Event) where
  -- a read agrees with the trace if its two writes are equal
  pub read_agrees : (o p : Option ℕ) (r : Bool) → e.kind ≡ Read → ((w : ℕ) → (o ≡ Some w) ↔ LatestWrite t xs e.subject w) → p ≡ last_write t k
      → Equal o p r → At t k e → (r ≡ true) ↔ Agrees t xs k e
  read_agrees o p r kind found is h at_k = (
    λ q. record {
      reads = λ read w. Iff.trans (Iff.symm (found w)) (rw ((equal o p r h).0 q ∙ is) ((last_write_found t k).0 w));
      acquires = λ outer. let acquire = outer.is_acquire in absurd (grind arith);
      awaited_spawns = λ s h. absurd (not_join t k e Read at_k kind h.join h.join_is h.is_join (λ q. absurd (grind arith)));
      awaited_events = λ d h. absurd (not_join t k e Read at_k kind h.join h.join_is h.is_join (λ q. absurd (grind arith)));
    },
    λ a. (equal o p r h).1 (same_option o p (λ w. Iff.trans (found w) (Iff.trans (a.reads kind w) (Iff.symm (rw is ((last_write_found t k).0 w)))))),
  )

  -- an event that is enabled, agrees with the trace and passes the check of the table may come next, and the table then tells of it too
  pub answered : (table next : TraceCheck) (r : Result (Unit {0}) TraceFault) → At t k e → Enabled t xs k → Agrees t xs k e
      → Tells table (picked t xs) → Turned table e r next → is_ok r ≡ true → Answered t xs k (Some next)
  answered table next r is enabled agrees tells turned ok = record { right = (λ q. comes, λ n. refl); told = told_by }
    where
      comes : Comes t xs k
      comes = record {
        event = e;
        is = is;
        enabled = enabled;
        agrees = agrees;
        allowed = sym (turned.answer (picked t xs) tells) ∙ (ok_refuses_none trace_number r).0 ok;
      }

      told_by : (other : TraceCheck) → Some next ≡ Some other → Tells other (picked t (xs ++ (k ∷ [])))
      told_by other q =
          let same : next ≡ other = cc in
          let all : picked t (xs ++ (k ∷ [])) ≡ picked t xs ++ (e ∷ []) = picked_at t (at_split xs [] refl) e is in
          subst (λ (l : TraceCheck). Tells l (picked t (xs ++ (k ∷ [])))) same
          (subst (Tells next) (cond-true (is_ok r) (picked t xs ++ (e ∷ [])) (picked t xs) ok ∙ sym all) (turned.tells (picked t xs) tells))
