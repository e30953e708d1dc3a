-- The theorems on Enter and Load.
use Rattle.std.proofs.Common.{◌≡◌, ℕ, ◌*◌, ◌/◌, ◌%◌, ◌≤◌, List, [], ◌∷◌, ◌++◌, length, take, drop, Ok, Err, Result, sym, refl, ap, ◌∙◌, subst, ⊎_elim, append-nil, arith, length-append, take_all, zero-add}
use Rattle.std.specs.List.{flat_map}
use Rattle.std.proofs.lemmas.Bool.{cases_eq, eq-eqb, ne_eqb}
use Rattle.trace.specs.declared.event.Event.{Event}
use Rattle.trace.specs.Records.{record_of}
use Rattle.trace.specs.Traces.{Admits}
use Rattle.trace.specs.declared.record.RecordFault.TheVariants.{Length}
use Rattle.reel.proofs.Lent.{lent_same}
use Rattle.answer.specs.declared.fault.EntryFault.TheVariants.{Record as RecordFault}
use Rattle.answer.specs.declared.fault.Layer.TheVariants.{Record}
use Rattle.answer.specs.Faults.{Refusal, at_index}
use Rattle.session.specs.States.{State}
use Rattle.session.specs.Entries.{Outcome, offered, then, enter, enter_all, load, record_count, Takes}
use Rattle.session.specs.LoadTheorems.{AreBytes, CanFollow, AllCome, StopsAt, TakesAll, AddsAll, LoadStops, LoadMeasures, LoadsWhole, EnterAllStops, EnterTakes, EnterAdds, EnterKeeps}
use Rattle.session.proofs.Lengths.{from_not_one}
use Rattle.session.proofs.Taking.{Ran, Stopped, comes, all_taken, split, follows, offered_taken, taken_next}

-- records have eight bytes each
records_long : (es : List Event) → length (flat_map record_of es) ≡ 8 * length es
records_long [] = refl
records_long (e ∷ es) = let n = records_long es in omega (arith, length-append (record_of e) (flat_map record_of es))

-- events that can follow are taken, all of them
module _ (room : ℕ) (t : List Event) (bytes : List ℕ) (es : List Event) (is : flat_map record_of es ≡ bytes) (follow : CanFollow room t es) where
  long : length bytes ≡ 8 * length es
  long = ap length (sym is) ∙ records_long es

  whole : length bytes % 8 ≡ 0
  whole = let n = long in omega arith

  entered : enter_all room t bytes ≡ record { answer = Ok (length es); events = t ++ es }
  entered =
      let n = long in
      let count : record_count bytes ≡ length es = omega arith in
      rw (count, ← is) (all_taken room es t 0 follow ∙ ap (λ (m : ℕ). record { answer = Ok m; events = t ++ es }) (zero-add (length es)))

module _ (room : ℕ) (t : List Event) (bytes : List ℕ) (small : AreBytes bytes) where
  -- where all are taken, the bytes are the records of events that can follow
  answered : (n : ℕ) → Admits t → length t ≤ room → (enter_all room t bytes).answer ≡ Ok n → AllCome room t bytes n
  answered n a w is = ⊎_elim all (λ s. absurd (let r = sym s.answer ∙ is in grind arith)) (comes room (record_count bytes) bytes t 0 small)
    where
      all : Ran room t 0 (record_count bytes) bytes (enter_all room t bytes) → AllCome room t bytes n
      all r =
          let told = sym r.answer ∙ is in
          let count : record_count bytes ≡ n = grind arith in
          let k = r.took in
          record { new = k.new; many = k.many ∙ count; as_recorded = k.as_recorded ∙ take_all (8 * record_count bytes) bytes (omega arith); follow = k.follow a w }

  -- where one is refused, it stops there
  stopped : (r : Refusal) → (enter_all room t bytes).answer ≡ Err r → StopsAt room t bytes r (enter_all room t bytes).events
  stopped r is = ⊎_elim (λ k. absurd (let q = sym k.answer ∙ is in grind arith)) there (comes room (record_count bytes) bytes t 0 small)
    where
      there : Stopped room t 0 (record_count bytes) bytes (enter_all room t bytes) → StopsAt room t bytes r (enter_all room t bytes).events
      there s =
          let told = sym s.answer ∙ is in
          let same : s.refusal ≡ r = grind arith in
          let index = s.index in
          let at : s.done ≡ r.index = omega (arith, ap (λ (f : Refusal). f.index) same) in
          let k = s.took in
          let few = s.few in
          let by_index = subst (λ (d : ℕ). offered room (enter_all room t bytes).events s.refusal.index (take 8 (drop (8 * d) bytes)) ≡ Err s.refusal) at s.refused in
          let by_r = subst (λ (f : Refusal). offered room (enter_all room t bytes).events f.index (take 8 (drop (8 * r.index) bytes)) ≡ Err f) same by_index in
          record {
            new = k.new;
            many = k.many ∙ at;
            added = k.added;
            as_recorded = rw (← at) k.as_recorded;
            follow = k.follow;
            more = omega arith;
            refused = subst (λ (u : List Event). offered room u r.index (take 8 (drop (8 * r.index) bytes)) ≡ Err r) k.added by_r;
          }

-- the theorems on records that are entered one after another
pub enter_all_takes : TakesAll enter_all
enter_all_takes room n t bytes small a w = (
  answered room t bytes small n a w,
  λ h. ap (λ (o : Outcome ℕ). o.answer) (entered room t bytes h.new h.as_recorded h.follow) ∙ ap (λ (m : ℕ). Ok m) h.many,
)

pub enter_all_adds : AddsAll enter_all
enter_all_adds room t bytes new is follow = ap (λ (o : Outcome ℕ). o.events) (entered room t bytes new is follow)

pub enter_all_stops : EnterAllStops
enter_all_stops room t bytes r small is = stopped room t bytes small r is

-- Load enters them if they are whole records, and else none
load_whole : (room : ℕ) (t : List Event) (dump : List ℕ) → length dump % 8 ≡ 0 → load room t dump ≡ enter_all room t dump
load_whole room t dump h = rw (eq-eqb (length dump % 8) 0 h) refl

pub load_measures : LoadMeasures
load_measures room t dump h = rw (ne_eqb (length dump % 8) 0 h) refl

-- so a call that refuses the length leaves the session as it was
pub length_refused : (s : State) (dump : List ℕ) → (length dump % 8 ≡ 0 → ⊥)
    → Takes (load s.room s.trace dump) s dump (Err (at_index (length dump / 8) (RecordFault Length))) s
length_refused s dump cut =
    let is = load_measures s.room s.trace dump cut in
    record {
      answer = rw is refl;
      events = rw is refl;
      recorded = record { new = []; added = sym (append-nil s.trace); as_recorded = refl };
      admitted = λ a. a;
      room = refl;
      lent = lent_same s.lent s.trace;
      loan = refl;
    }

pub load_takes : TakesAll load
load_takes room n t dump small a w = (
  λ is. ⊎_elim (λ h. (enter_all_takes room n t dump small a w).0 (ap (λ (o : Outcome ℕ). o.answer) (sym (load_whole room t dump h)) ∙ is))
      (λ cut. absurd (let r = ap (λ (o : Outcome ℕ). o.answer) (sym (load_measures room t dump cut)) ∙ is in grind arith)) (cases_eq (length dump % 8) 0),
  λ h. ap (λ (o : Outcome ℕ). o.answer) (load_whole room t dump (whole room t dump h.new h.as_recorded h.follow))
      ∙ (enter_all_takes room n t dump small a w).1 h,
)

pub load_adds : AddsAll load
load_adds room t dump new is follow =
    ap (λ (o : Outcome ℕ). o.events) (load_whole room t dump (whole room t dump new is follow)) ∙ enter_all_adds room t dump new is follow

pub load_stops : LoadStops
load_stops room t dump r small h is = rw (load_whole room t dump h) (stopped room t dump small r (ap (λ (o : Outcome ℕ). o.answer) (sym (load_whole room t dump h)) ∙ is))

-- where no byte is left over, Load does not refuse with 1, and else it does
pub loads_whole : LoadsWhole
loads_whole room t dump = (
  λ h n. whole_dump h (omega (arith, n.1)),
  λ no. (
    record { number = 1; layer = Record; index = length dump / 8 },
    ap (λ (o : Outcome ℕ). o.answer) (load_measures room t dump (λ h. no (length dump / 8, omega arith))),
    refl,
  ),
)
  where
    whole_dump : (r : Refusal) × ((load room t dump).answer ≡ Err r) × (r.number ≡ 1) → length dump % 8 ≡ 0 → ⊥
    whole_dump h none =
        let is = ap (λ (o : Outcome ℕ). o.answer) (sym (load_whole room t dump none)) ∙ h.1 in
        from_not_one room (record_count dump) dump t 0 h.0 (omega arith) is h.2

-- Enter offers one record
module _ (room : ℕ) (t : List Event) where
  enter_record : (e : Event) → CanFollow room t (e ∷ []) → enter room t (record_of e) ≡ record { answer = Ok tt; events = t ++ (e ∷ []) }
  enter_record e follow =
      ap (λ (r : Result Event Refusal). then {A = Unit {0}} t r (λ u. record { answer = Ok tt; events = u }))
      (offered_taken room t 0 e (split room t e [] follow).0)

pub enter_takes : EnterTakes
enter_takes room t bytes small a = (
  by (offered room t 0 bytes) refl,
  λ h. subst (λ (b : List ℕ). (enter room t b).answer ≡ Ok tt) h.1 (ap (λ (o : Outcome (Unit {0})). o.answer) (enter_record room t h.0 h.2)),
)
  where
    by : (o : Result Event Refusal) → offered room t 0 bytes ≡ o → (then {A = Unit {0}} t o (λ u. record { answer = Ok tt; events = u })).answer ≡ Ok tt
        → (e : Event) × (record_of e ≡ bytes) × CanFollow room t (e ∷ [])
    by (Ok e) q is = let k = taken_next room t 0 bytes e small q in (e, k.0, follows room t e k.1 a)
    by (Err f) q is = absurd (grind arith)

pub enter_adds : EnterAdds
enter_adds room t e follow = ap (λ (o : Outcome (Unit {0})). o.events) (enter_record room t e follow)

pub enter_keeps : EnterKeeps
enter_keeps room t bytes r is = by (offered room t 0 bytes) refl is
  where
    by : (o : Result Event Refusal) → offered room t 0 bytes ≡ o → (then {A = Unit {0}} t o (λ u. record { answer = Ok tt; events = u })).answer ≡ Err r
        → ((then {A = Unit {0}} t o (λ u. record { answer = Ok tt; events = u })).events ≡ t) × (offered room t 0 bytes ≡ Err r)
    by (Ok e) q h = absurd (grind arith)
    by (Err f) q h = let same : f ≡ r = grind arith in (refl, q ∙ ap (λ (g : Refusal). Err g) same)
