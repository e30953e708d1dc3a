-- What is answered about two positions, by closures that compute.
use Rattle.std.proofs.Common.{◌≡◌, ℕ, ◌<◌, Bool, true, false, not, ◌↔◌, List, [], ◌∷◌, length, Some, None, sym, refl, ◌∙◌}
use Rattle.std.proofs.lemmas.Bool.{false≢true, both_ways}
use Rattle.trace.specs.declared.event.Event.{Event}
use Rattle.trace.specs.Traces.{Admits}
use Rattle.trace.specs.Lookups.{previous, previous_events}
use Rattle.trace.specs.Cuts.{Positions, Wants, Closure, SyncWants, HappensBeforeWants, SchedulableWants, listed}
use Rattle.trace.specs.Reorderings.{Leaves}
use Rattle.trace.proofs.Seeds.{seeds_of}
use Rattle.trace.proofs.Exact.{exact, realized}
use Rattle.trace.proofs.Rules.{sync_laws, happens_before_laws, schedulable_laws}
use Rattle.trace.proofs.Closures.{closure_unique}
use Rattle.answer.specs.declared.verdict.Verdict.TheVariants.{Race, NoRace}
use Rattle.answer.specs.declared.verdict.WitnessFault.TheVariants.{NoRace as NothingShown}
use Rattle.session.specs.Questions.{pair_refusal, Outside}
use Rattle.session.specs.Questions.Answers.{answered}
use Rattle.answer.specs.Buffers.Filled.{whole}
use Rattle.session.specs.Races.{Races, Witness}
use Rattle.session.specs.Races.Judged.{race, no_race}
use Rattle.session.specs.Races.Witnessed.{no_race as no_witness, written}
use Rattle.session.proofs.Asked.{asked, scheduled_by}
use Rattle.session.proofs.Racing.{races_by}
use Rattle.cases.specs.Cases.{Judges, FindsUnordered, FindsSchedulable, Writes, WitnessRefuses, RacesBy}
use Rattle.predict.proofs.RuleTests.{Test, sync_test, happens_before_test, schedulable_test, sync_decided, happens_before_decided, schedulable_decided}
use Rattle.cases.proofs.Closing.{with_earlier, closes, closure_by}

-- whether p is outside a closure is seen at any one that is at hand
outside_or_not : (wants : Wants) (t : List Event) (ss : List ℕ) (p : ℕ) (c : Positions) → Closure wants t ss c → (b : Bool) → c p ≡ not b
    → (b ≡ true) ↔ Outside wants t ss p
outside_or_not wants t ss p c closure true h = (λ _. (c, closure, λ i. both_ways (c p) h i), λ _. refl)
outside_or_not wants t ss p c closure false h =
    (λ e. absurd (false≢true e), λ o. absurd (o.2 (closure_unique wants t ss o.0 c o.1 closure p ∙ h)))

module _ (t : List Event) (p q : ℕ) (admitted : Admits t) (none : pair_refusal t p q ≡ None) where
  below : p < q
  below = (asked t p q (sym none)).below

  -- races, by the positions that make the sync closure
  module _ (ws : List ℕ) (is : closes sync_test t (previous_events t (p ∷ q ∷ [])) ws ≡ true) where
    pub sync_closure : Closure SyncWants t (previous_events t (p ∷ q ∷ [])) (with_earlier t ws)
    sync_closure = closure_by SyncWants sync_laws sync_test sync_decided t admitted (previous_events t (p ∷ q ∷ [])) ws is

    pub races : with_earlier t ws p ≡ false → Races t p q
    races out = (races_by t p q admitted below (with_earlier t ws) sync_closure).0 (λ i. both_ways (with_earlier t ws p) out i)

    pub judges_race : with_earlier t ws p ≡ false → Judges t p q Race
    judges_race out = race none (races out)

    pub races_not : with_earlier t ws p ≡ true → Races t p q → ⊥
    races_not i r = (races_by t p q admitted below (with_earlier t ws) sync_closure).1 r i

    pub judges_none : with_earlier t ws p ≡ true → Judges t p q NoRace
    judges_none i = no_race none (races_not i)

    pub witness_is : Witness t p q (listed (with_earlier t ws) (length t))
    witness_is = (with_earlier t ws, sync_closure, refl)

    pub refuses_witness : with_earlier t ws p ≡ true → WitnessRefuses t p q 11
    refuses_witness i = (NothingShown, λ buffer. no_witness refl none (races_not i), refl)

    pub writes : with_earlier t ws p ≡ false → Writes t p q (listed (with_earlier t ws) (length t))
    writes out buffer enough = written none (races out) (with_earlier t ws, sync_closure, refl) (whole enough)

    pub races_as : with_earlier t ws p ≡ false → RacesBy t p q (listed (with_earlier t ws) (length t))
    races_as out = (judges_race out, witness_is, writes out)

    -- the witness leaves the two enabled
    pub witness_leaves : with_earlier t ws p ≡ false → Leaves t (p ∷ q ∷ []) (listed (with_earlier t ws) (length t))
    witness_leaves out =
        let ss = previous_events t (p ∷ q ∷ []) in
        let seeds = seeds_of t (p ∷ q ∷ []) in
        realized t (p ∷ q ∷ []) ss (with_earlier t ws) admitted seeds sync_closure
        ((exact t (p ∷ q ∷ []) ss (with_earlier t ws) admitted seeds sync_closure).1 (races out))

  -- happens-before, by the positions that make the closure of q
  pub unordered_or_not : (ws : List ℕ) → closes happens_before_test t (q ∷ []) ws ≡ true → (b : Bool) → with_earlier t ws p ≡ not b → FindsUnordered t p q b
  unordered_or_not ws is b h =
      answered none (outside_or_not HappensBeforeWants t (q ∷ []) p (with_earlier t ws)
      (closure_by HappensBeforeWants happens_before_laws happens_before_test happens_before_decided t admitted (q ∷ []) ws is) b h)

  -- schedulable happens-before, by the positions that make the closure of the previous event of q
  pub schedulable_or_not : (d : ℕ) → previous t q ≡ Some d → (ws : List ℕ) → closes schedulable_test t (d ∷ []) ws ≡ true → (b : Bool)
      → with_earlier t ws p ≡ not b → FindsSchedulable t p q b
  schedulable_or_not d before ws is b h =
      answered none (scheduled_by t p q b d (sym before) (outside_or_not SchedulableWants t (d ∷ []) p (with_earlier t ws)
      (closure_by SchedulableWants schedulable_laws schedulable_test schedulable_decided t admitted (d ∷ []) ws is) b h))
