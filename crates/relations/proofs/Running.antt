-- The examples of calls and runs.
use Rattle.std.proofs.Common.{◌≡◌, ℕ, zero, suc, List, [], ◌∷◌, length, take, Some, None, Ok, Err, Option, vec_items, Result, Vec, sym, refl, ap, ◌∙◌, subst, arith}
use mathlib.Core.List.Memᴰ
use mathlib.Core.List.{Memᴰ}
use Rattle.std.specs.List.{slice_get}
use Rattle.std.specs.declared.alloc.Global.{Global}
use Rattle.std.proofs.lemmas.Option.{none-some}
use Rattle.trace.specs.declared.event.Event.{Event}
use Rattle.trace.specs.declared.kind.Kind.TheVariants.{Read, Write}
use Rattle.trace.specs.Faults.{told}
use Rattle.trace.specs.Records.{record_of}
use Rattle.trace.proofs.Records.{record_means}
use Rattle.answer.specs.declared.fault.EntryRefusal.{EntryRefusal}
use Rattle.answer.specs.declared.fault.Layer.TheVariants.{Record, Reel}
use Rattle.answer.specs.declared.fault.PairFault.{PairFault}
use Rattle.answer.specs.declared.fault.PairFault.TheVariants.{NoEvent, Order}
use Rattle.answer.specs.declared.verdict.Verdict.{Verdict}
use Rattle.answer.specs.declared.verdict.Verdict.TheVariants.{Race, NoRace}
use Rattle.answer.specs.Faults.{refusal}
use Rattle.session.specs.Entries.{Outcome, enter, load}
use Rattle.session.specs.Races.{Races, Judged}
use Rattle.session.specs.Races.Judged.{refused, race}
use Rattle.run.specs.declared.Call.{Call}
use Rattle.run.specs.declared.Call.TheVariants.{Enter, Load, Judge, Witness, Partners, Sweep}
use Rattle.run.specs.Runs.{so_far, Served, Says, Turn, Upholds}
use Rattle.run.specs.Runs.Served.{entered, loaded, judged}
use Rattle.run.specs.Runs.Says.{by_judge, by_witness, by_long_witness, by_no_witness, by_partner, by_no_partner, by_sweep, by_no_sweep}
use Rattle.run.proofs.Upholding.{upheld as kept}
use Rattle.cases.specs.Examples.{event, sections_between, three_accesses}
use Rattle.cases.proofs.Asking.{races}
use Rattle.relations.specs.Runs.{judge, VerdictSays, ListSays, FullServed, CutServed, VerdictServed, EmptyUpheld, EnteredStays, RaceOnceEntered, VerdictStays, WitnessAgrees, WitnessStays}
use Rattle.relations.proofs.Racing.{section_race, two_verdicts, judged_race, refused_by, not_refused}

pub verdict_says : VerdictSays
verdict_says = (by_judge, λ s. no s)
  where
    no : Says sections_between 0 5 (judge 0 5 (Ok Race)) NoRace → ⊥
    no s = elim s [ ]

-- what a list says of a position
abbrev ListMeans : ℕ → Call → Verdict → Type 0
ListMeans p (Partners q after (Some (Ok n))) Race = Memᴰ p (take n (vec_items after))
ListMeans p (Partners q after (Some (Ok n))) NoRace = Memᴰ p (take n (vec_items after)) → ⊥
ListMeans p (Partners q after (Some (Err f))) v = Unit {0}
ListMeans p (Partners q after None) v = Unit {0}
ListMeans p (Enter bytes r) v = Unit {0}
ListMeans p (Load bytes r) v = Unit {0}
ListMeans p (Judge x y r) v = Unit {0}
ListMeans p (Witness x y after r) v = Unit {0}
ListMeans p (Sweep after r) v = Unit {0}

list_means : (t : List Event) (p q : ℕ) (y : Call) (v : Verdict) → Says t p q y v → ListMeans p y v
list_means t p q y v by_judge = tt
list_means t p q y v by_witness = tt
list_means t p q y v (by_long_witness n) = tt
list_means t p q y v (by_no_witness n) = tt
list_means t p q y v (by_partner m) = m
list_means t p q y v (by_no_partner b out) = out
list_means t p q y v (by_sweep m) = tt
list_means t p q y v (by_no_sweep b i out) = tt

pub list_says : ListSays
list_says after is =
    let has : Memᴰ 0 (take 2 (vec_items after)) = subst (λ (xs : List ℕ). Memᴰ {A = ℕ} 0 (take 2 xs)) (sym is) (Memᴰ.head refl) in (
      by_partner has,
      λ s. list_means three_accesses 0 2 (Partners 2 after (Some (Ok 2))) NoRace s has,
      λ s. not_nine (subst (λ (xs : List ℕ). Memᴰ {A = ℕ} 9 (take 2 xs)) is
          (list_means three_accesses 9 2 (Partners 2 after (Some (Ok 2))) Race s)),
    )
  where
    not_nine : Memᴰ {A = ℕ} 9 (0 ∷ 1 ∷ []) → ⊥
    not_nine (Memᴰ.head e) = omega arith
    not_nine (Memᴰ.tail m) = let e = Memᴰ.eq_of_singleton m in omega arith

-- what is said of a record, told by its bytes
enter_said : (room : ℕ) (t : List Event) (bytes back : Vec ℕ Global) (r : Result (Unit {0}) EntryRefusal)
    → Served room t (Enter bytes None) (Enter back (Some r)) → told refusal r ≡ (enter room t (vec_items back)).answer
enter_said room t bytes back r (entered h) = h

load_said : (room : ℕ) (t : List Event) (bytes back : Vec ℕ Global) (r : Result ℕ EntryRefusal) → Served room t (Load bytes None) (Load back (Some r))
    → told refusal r ≡ (load room t (vec_items back)).answer
load_said room t bytes back r (loaded h) = h

pub full_served : FullServed
full_served bytes is r =
    let e = enter_said 0 [] bytes bytes (Ok tt) r ∙ full (vec_items bytes) is in grind arith
  where
    full : (bytes : List ℕ) → bytes ≡ record_of (event Write 0 0 tt tt) → (enter 0 [] bytes).answer ≡ Err (record { number = 7; layer = Reel; index = 0 })
    full bytes is = rw (is, record_means (event Write 0 0 tt tt)) refl

pub cut_served : CutServed
cut_served room bytes is r =
    let e = load_said room [] bytes bytes (Ok 0) r ∙ cut (vec_items bytes) is in grind arith
  where
    cut : (bytes : List ℕ) → bytes ≡ 1 ∷ [] → (load room [] bytes).answer ≡ Err (record { number = 1; layer = Record; index = 0 })
    cut bytes is = rw is refl

no_race_served : (room : ℕ) → Served room sections_between (Judge 0 5 None) (judge 0 5 (Ok NoRace)) → ⊥
no_race_served room (judged j) = judged_race j

-- the question stays, and is answered
same_question : (room : ℕ) (t : List Event) (p q x y : ℕ) (r : Option (Result Verdict PairFault)) → Served room t (Judge p q None) (Judge x y r)
    → (q ≡ y) × (r ≡ None → ⊥)
same_question room t p q x y r (judged {r = s} j) = (refl, λ e. none-some s (sym e))

pub verdict_served : VerdictServed
verdict_served room = (
  judged (race refl section_race),
  no_race_served room,
  λ s. let e = (same_question room sections_between 0 5 0 4 (Some (Ok Race)) s).0 in omega arith,
  λ s. (same_question room sections_between 0 5 0 5 None s).1 refl,
)

-- something holds of each turn, with the number of the turn
abbrev Turns : (ℕ → Call → Call → Type 0) → List Call → List Call → Type 0
Turns P [] back = Unit {0}
Turns P (x ∷ given) [] = Unit {0}
Turns P (x ∷ given) (y ∷ back) = P 0 x y × Turns (λ i. P (suc i)) given back

each_turn : (P : ℕ → Call → Call → Type 0) (given back : List Call) → Turns P given back → (i : ℕ) (x : Turn given back i) → P i x.asked x.answered
each_turn P [] back all i x = absurd (none-some x.asked x.asked_is)
each_turn P (r ∷ given) [] all i x = absurd (none-some x.answered x.answered_is)
each_turn P (r ∷ given) (s ∷ back) all zero x =
    let is = x.asked_is in let so = x.answered_is in
    let e : r ≡ x.asked = cc in
    let f : s ≡ x.answered = cc in subst (λ a. P 0 a x.answered) e (subst (P 0 r) f all.0)
each_turn P (r ∷ given) (s ∷ back) all (suc i) x =
    each_turn (λ i. P (suc i)) given back all.1 i
    (record { asked = x.asked; answered = x.answered; asked_is = x.asked_is; answered_is = x.answered_is })

-- right answers uphold the promise
upheld : (room : ℕ) (given back : List Call) → length back ≡ length given
    → Turns (λ i x y. Served room (so_far room (take i given)) x y) given back → Upholds room given back
upheld room given back many all = kept room given back many (each_turn _ given back all)

-- a call of a run, by its number
abbrev turn : {given back : List Call} {i : ℕ} {x y : Call} → (slice_get given i ≡ Some x) × (slice_get back i ≡ Some y) → Turn given back i
turn {x = x} {y} has = record { asked = x; answered = y; asked_is = has.0; answered_is = has.1 }

-- what Judge is answered
judge_said : (room : ℕ) (t : List Event) (p q x y : ℕ) (r : Result Verdict PairFault) → Served room t (Judge p q None) (judge x y r)
    → Judged t x y (Races t x y) r
judge_said room t p q x y r (judged j) = j

module _ {room : ℕ} {given back : List Call} (u : Upholds room given back) where
  judged_at : (i p q : ℕ) (r : Result Verdict PairFault) (t : List Event) → slice_get given i ≡ Some (Judge p q None)
      → slice_get back i ≡ Some (judge p q r) → so_far room (take i given) ≡ t → Judged t p q (Races t p q) r
  judged_at i p q r t is so at =
      judge_said room t p q p q r (subst (λ t. Served room t (Judge p q None) (judge p q r)) at (u.each i (turn (is, so))))

pub empty_upheld : EmptyUpheld
empty_upheld room = (
  upheld room (Judge 0 1 None ∷ []) (judge 0 1 (Err NoEvent) ∷ []) refl (judged (refused refl), tt),
  λ u. none-some 8 (sym (not_refused [] 0 1 (Races [] 0 1) Race (judged_at u 0 0 1 (Ok Race) [] refl refl refl))),
  λ u. let e = u.many in omega arith,
)

-- the write alone, and with the read behind it
abbrev one_access : List Event
one_access = event Write 0 0 tt tt ∷ []

abbrev two_accesses : List Event
two_accesses = event Write 0 0 tt tt ∷ event Read 1 0 tt tt ∷ []

-- Enter of the one, and then of the other
write_enters : (bytes : List ℕ) → bytes ≡ record_of (event Write 0 0 tt tt) → enter 2 [] bytes ≡ record { answer = Ok tt; events = one_access }
write_enters bytes is = rw (is, record_means (event Write 0 0 tt tt)) refl

read_enters : (t : List Event) (bytes : List ℕ) → t ≡ one_access → bytes ≡ record_of (event Read 1 0 tt tt)
    → enter 2 t bytes ≡ record { answer = Ok tt; events = two_accesses }
read_enters t bytes at is = rw (at, is, record_means (event Read 1 0 tt tt)) refl

-- what is answered, and the events then
answer_of : {o w : Outcome (Unit {0})} → o ≡ w → w.answer ≡ o.answer
answer_of e = sym (ap (λ (o : Outcome (Unit {0})). o.answer) e)

events_of : {o w : Outcome (Unit {0})} → o ≡ w → o.events ≡ w.events
events_of e = ap (λ (o : Outcome (Unit {0})). o.events) e

pub entered_stays : EnteredStays
entered_stays bytes is = (
  upheld 2 (Enter bytes None ∷ Judge 0 0 None ∷ []) (Enter bytes (Some (Ok tt)) ∷ judge 0 0 (Err Order) ∷ []) refl (
    entered (answer_of (write_enters (vec_items bytes) is)),
    (subst (λ t. Served 2 t (Judge 0 0 None) (judge 0 0 (Err Order))) (sym there) (judged (refused refl)), tt),
  ),
  λ u. let e = refused_by one_access 0 0 (Races one_access 0 0) NoEvent (judged_at u 1 0 0 (Err NoEvent) one_access refl refl there) in grind arith,
)
  where
    there : so_far 2 (Enter bytes None ∷ []) ≡ one_access
    there = events_of (write_enters (vec_items bytes) is)

two_race : Judged two_accesses 0 1 (Races two_accesses 0 1) (Ok Race)
two_race = race refl (races two_accesses 0 1 (refl, (refl, tt)) refl [] refl refl)

pub race_once_entered : RaceOnceEntered
race_once_entered one other first second = (
  upheld 2 (Enter one None ∷ Judge 0 1 None ∷ Enter other None ∷ Judge 0 1 None ∷ [])
      (Enter one (Some (Ok tt)) ∷ judge 0 1 (Err NoEvent) ∷ Enter other (Some (Ok tt)) ∷ judge 0 1 (Ok Race) ∷ []) refl (
        entered (answer_of (write_enters (vec_items one) first)),
        (
          subst (λ t. Served 2 t (Judge 0 1 None) (judge 0 1 (Err NoEvent))) (sym before) (judged (refused refl)),
          (
            entered (answer_of (read_enters (so_far 2 (Enter one None ∷ Judge 0 1 None ∷ [])) (vec_items other) before second)),
            (subst (λ t. Served 2 t (Judge 0 1 None) (judge 0 1 (Ok Race))) (sym after) (judged two_race), tt),
          ),
        ),
      ),
  λ u. two_verdicts two_accesses 0 1 (Races two_accesses 0 1) two_race (judged_at u 3 0 1 (Ok NoRace) two_accesses refl refl after),
  λ u. none-some 8 (refused_by two_accesses 0 1 (Races two_accesses 0 1) NoEvent (judged_at u 3 0 1 (Err NoEvent) two_accesses refl refl after)),
  λ u. none-some 8 (sym (not_refused one_access 0 1 (Races one_access 0 1) Race (judged_at u 1 0 1 (Ok Race) one_access refl refl before))),
)
  where
    before : so_far 2 (Enter one None ∷ []) ≡ one_access
    before = events_of (write_enters (vec_items one) first)

    after : so_far 2 (Enter one None ∷ Judge 0 1 None ∷ Enter other None ∷ []) ≡ two_accesses
    after = events_of (read_enters (so_far 2 (Enter one None ∷ Judge 0 1 None ∷ [])) (vec_items other) before second)

pub verdict_stays : VerdictStays
verdict_stays room given back i j p q x y a b u m n = u.lasting i j p q x y (turn m) (turn n) by_judge by_judge

pub witness_agrees : WitnessAgrees
witness_agrees room given back i j p q n after a b u x y =
    let e = u.lasting i j p q NoRace Race (turn x) (turn y) by_judge by_witness in grind arith

pub witness_stays : WitnessStays
witness_stays room given back i j p q m n once again a b u x y = u.same_witness i j p q m n once again (turn x) (turn y) refl refl
