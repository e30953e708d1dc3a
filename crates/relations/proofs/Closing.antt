-- The examples of cuts and closures.
use Rattle.std.proofs.Common.{◌≡◌, ℕ, zero, suc, ◌<◌, eqb, false, List, [], ◌∷◌, sym, refl, ◌∙◌, subst, ⊎_elim, arith}
use mathlib.Core.List.Memᴰ
use mathlib.Core.List.{Memᴰ}
use Rattle.std.proofs.lemmas.Bool.{false≢true, true≢false, eqb-true, or_left, cases_Bool}
use Rattle.trace.specs.Cuts.{Closure, Reached, AllReached, SyncWants}
use Rattle.trace.proofs.Closures.{closure_unique}
use Rattle.trace.proofs.Reached.{reached_in}
use Rattle.trace.proofs.Rules.{sync_laws}
use Rattle.trace.proofs.Seeds.{seeds_of}
use Rattle.predict.specs.Held.{held, Closes}
use Rattle.predict.proofs.Existence.{closes}
use Rattle.predict.proofs.RuleTests.{sync_test, sync_decided}
use Rattle.predict.proofs.Tests.{is_earlier}
use Rattle.session.proofs.Asked.{previous_is}
use Rattle.session.proofs.Racing.{found_race, found_none}
use Rattle.cases.specs.Examples.{sections_between, writes_locked, three_accesses}
use Rattle.cases.proofs.Asking.{sync_closure}
use Rattle.cases.proofs.Closing.{with_earlier, closure_by}
use Rattle.cases.proofs.Judging.{sections_admitted, locked_admitted}
use Rattle.cases.proofs.Sweeping.{three_admitted}
use Rattle.relations.specs.Rules.{one, bounds}
use Rattle.relations.specs.Closures.{CutFromFirst, LessInside, ClosedWithRelease, ClosureLeast, SeedsPrevious, SeedsInTrace, ReleaseReached, ClosesBetween, OutsideSections, FoundOutside}
use Rattle.relations.proofs.Wanting.{sync_of_two}

pub cut_from_first : CutFromFirst
cut_from_first = (
  record {
    in_trace = λ k i. let e = eqb-true k 0 i in omega arith;
    first_events = λ d k h i. let e = eqb-true k 0 i in let b = h.before in absurd (omega arith);
  },
  λ c. false≢true (c.first_events 0 1 (is_earlier writes_locked 0 1 refl) refl),
)

-- no seeds bring in nothing
none_seeded : Closure SyncWants three_accesses [] (λ k. false)
none_seeded = closure_by SyncWants sync_laws sync_test sync_decided three_accesses three_admitted [] [] refl

pub closure_least : ClosureLeast
closure_least = (none_seeded, λ c. true≢false (closure_unique SyncWants three_accesses [] (one 2) (λ k. false) c none_seeded 2))

pub seeds_previous : SeedsPrevious
seeds_previous = (
  seeds_of sections_between (0 ∷ 5 ∷ []),
  λ s. let e = Memᴰ.eq_of_singleton (s.complete 5 4 (Memᴰ.tail (Memᴰ.head refl)) (previous_is sections_between 5 4 refl)) in omega arith,
  λ s. Memᴰ.not-nil (s.complete 5 4 (Memᴰ.tail (Memᴰ.head refl)) (previous_is sections_between 5 4 refl)),
)

pub seeds_in_trace : SeedsInTrace
seeds_in_trace = (λ s m. in_two s m, λ h. let b = h 3 (Memᴰ.head refl) in omega arith)
  where
    in_two : (s : ℕ) → Memᴰ s (0 ∷ 2 ∷ []) → s < 3
    in_two s (Memᴰ.head e) = omega arith
    in_two s (Memᴰ.tail m) = let e = Memᴰ.eq_of_singleton m in omega arith

pub less_inside : LessInside
less_inside = (λ k i. or_left (eqb k 0) (eqb k 3) i, λ h. false≢true (h 3 refl))

-- the closure of the two acquires, as positions and by bounds
between_closure : Closure SyncWants writes_locked (0 ∷ 3 ∷ []) (with_earlier writes_locked (2 ∷ 3 ∷ 0 ∷ []))
between_closure = closure_by SyncWants sync_laws sync_test sync_decided writes_locked locked_admitted (0 ∷ 3 ∷ []) (2 ∷ 3 ∷ 0 ∷ []) refl

same_positions : (k : ℕ) → with_earlier writes_locked (2 ∷ 3 ∷ 0 ∷ []) k ≡ held writes_locked (bounds 3 4) k
same_positions zero = refl
same_positions (suc zero) = refl
same_positions (suc (suc zero)) = refl
same_positions (suc (suc (suc zero))) = refl
same_positions (suc (suc (suc (suc zero)))) = refl
same_positions (suc (suc (suc (suc (suc zero))))) = refl
same_positions (suc (suc (suc (suc (suc (suc k)))))) =
    ⊎_elim (λ i. let b = between_closure.cut.in_trace (suc (suc (suc (suc (suc (suc k)))))) i in absurd (omega arith)) (λ out. out)
    (cases_Bool (with_earlier writes_locked (2 ∷ 3 ∷ 0 ∷ []) (suc (suc (suc (suc (suc (suc k))))))))

-- what is closed by some bounds is closed by these
closes_between : (b : List ℕ) → Closes SyncWants writes_locked (0 ∷ 3 ∷ []) b → (k : ℕ) → held writes_locked b k ≡ held writes_locked (bounds 3 4) k
closes_between b d k =
    closure_unique SyncWants writes_locked (0 ∷ 3 ∷ []) (held writes_locked b) (with_earlier writes_locked (2 ∷ 3 ∷ 0 ∷ [])) d.closure between_closure k
    ∙ same_positions k

-- so these close it
between : Closes SyncWants writes_locked (0 ∷ 3 ∷ []) (bounds 3 4)
between =
    let (b, d) = closes SyncWants sync_laws sync_test sync_decided writes_locked locked_admitted (0 ∷ 3 ∷ [])
    (λ s m. between_closure.cut.in_trace s (between_closure.seeded s m)) in
    let same : held writes_locked b ≡ held writes_locked (bounds 3 4) = λ i k. closes_between b d k i in
    record {
      closure = subst (Closure SyncWants writes_locked (0 ∷ 3 ∷ [])) same d.closure;
      reached = subst (AllReached SyncWants writes_locked (0 ∷ 3 ∷ [])) same d.reached;
    }

pub closed_with_release : ClosedWithRelease
closed_with_release = (between.closure.closed, λ closed. false≢true (closed 2 sync_of_two.0))

pub closes_just_between : ClosesBetween
closes_just_between = (
  between,
  λ h. false≢true (closes_between (bounds 1 4) h 2),
  λ h. true≢false (closes_between (bounds 3 5) h 4),
)

pub release_reached : ReleaseReached
release_reached = (
  λ k i. subst (Reached SyncWants writes_locked (0 ∷ 3 ∷ [])) (sym (eqb-true k 2 i)) (between.reached 2 refl),
  λ h. false≢true (reached_in SyncWants sync_laws writes_locked (0 ∷ []) (with_earlier writes_locked (0 ∷ [])) locked_admitted lone.cut lone.closed
      lone.seeded 3 (h 3 refl)),
)
  where
    lone : Closure SyncWants writes_locked (0 ∷ []) (with_earlier writes_locked (0 ∷ []))
    lone = closure_by SyncWants sync_laws sync_test sync_decided writes_locked locked_admitted (0 ∷ []) (0 ∷ []) refl

pub outside_sections : OutsideSections
outside_sections = (
  (_, sync_closure sections_between 0 5 sections_admitted refl (4 ∷ []) refl, λ i. false≢true i),
  λ o. o.2 (closure_unique SyncWants writes_locked _ o.0 _ o.1 (sync_closure writes_locked 1 4 locked_admitted refl (2 ∷ 3 ∷ 0 ∷ []) refl) 1),
)

pub found_outside : FoundOutside
found_outside = (
  (_, sync_closure writes_locked 1 4 locked_admitted refl (2 ∷ 3 ∷ 0 ∷ []) refl, refl),
  λ cut f. outside_sections.1 (found_race writes_locked 1 4 locked_admitted refl cut f).0,
  λ f. (found_none sections_between 0 5 sections_admitted refl f).0 outside_sections.0,
)
