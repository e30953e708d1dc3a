-- How deep the threads are in their locks along a reordering, as a table tells it: as deep as in the trace, so the table tells which acquires are
-- outer.
use Rattle.std.proofs.Common.{◌≡◌, ℕ, ◌+◌, ◌<◌, ◌≤◌, Bool, true, false, ◌↔◌, ◌⊎◌, List, [], ◌∷◌, ◌++◌, length, get_or, take, is_ok, None, Result, sym, refl, ap, ◌∙◌, subst, inl, inr, ⊎_elim, append-nil, arith}
use mathlib.Core.List.{Memᴰ}
use Rattle.std.specs.Prelude.{nat_lt}
use Rattle.std.specs.List.{slice_get}
use Rattle.std.proofs.Props.{props}
use Rattle.std.proofs.Math.Logic.{∥∥₁_elim}
use Rattle.std.proofs.lemmas.Bool.{cond-true, cases_lt, lt-ltb, false≢true, eq-eqb, eqb-true}
use Rattle.std.proofs.lemmas.List.{take_more}
use Rattle.trace.specs.declared.event.Event.{Event}
use Rattle.trace.specs.declared.kind.Kind.TheVariants.{Read, Acquire, Join}
use Rattle.trace.specs.declared.check.TraceCheck.{TraceCheck}
use Rattle.trace.specs.declared.locks.TraceFault.{TraceFault}
use Rattle.trace.specs.Faults.{trace_number}
use Rattle.trace.specs.Traces.{At, SpawnOf, Previous, depth_at, Outer}
use Rattle.trace.specs.Traces.Previous.{in_thread, by_spawn}
use Rattle.trace.specs.Depths.{depth_in}
use Rattle.trace.specs.Reorderings.{picked, Enabled}
use Rattle.trace.specs.Checks.{standing, Tells, Turned}
use Rattle.trace.proofs.Faults.{ok_refuses_none}
use Rattle.trace.proofs.Depths.{held_as_deep}
use Rattle.trace.proofs.Events.{at_same}
use Rattle.trace.proofs.Places.{Stands, at_split, is_member}
use Rattle.trace.proofs.Picked.{picked_at, picked_append, admits_before, allowed_at}
use Rattle.trace.proofs.Owning.{correct_orderly, depth_in_turn, depth_kept}
use Rattle.reorder.specs.Comes.{Reorders, AcquireBefore, AcquiredBefore, HasSpawns, HasEvents, Agrees}
use Rattle.trace.specs.Lookups.{spawns, of_thread}
use Rattle.trace.proofs.Lookups.{is_spawn, as_spawn}
use Rattle.predict.proofs.Inside.{tested}
use Rattle.reorder.proofs.Agreeing.{not_join}
use Rattle.reorder.proofs.Coming.{ready_from}
use Rattle.reorder.proofs.Members.{at_index, push_cases}

module _ (t : List Event) (xs : List ℕ) (old : ∥ Reorders t xs ∥₁) (table : TraceCheck) where
  -- how deep the table has the thread of an event in its lock
  abbrev level : Event → ℕ
  level e = depth_in ((standing table).holders e.subject) e.thread

  -- before an event that is enabled after the list
  pub level_next : (k : ℕ) (e : Event) → At t k e → Enabled t xs k → Tells table (picked t xs) → level e ≡ depth_at t k e
  level_next k e i enabled tells = ∥∥₁_elim old (hlevel props) (λ r.
      ap (λ o. depth_in o e.thread) (tells.holders e.subject) ∙ held_as_deep (picked t xs) r.correct.admitted e.thread e.subject
      ∙ depth_in_turn t xs k e (correct_orderly t xs r.correct) i (record { outside = enabled.outside; ready = enabled.ready }) e.subject)

  module _ {k : ℕ} (s : Stands k xs) (tells : Tells table (picked t s.front)) where
    -- and before one of its own
    pub level_at : (e : Event) → At t k e → level e ≡ depth_at t k e
    level_at e i = ∥∥₁_elim old (hlevel props) (λ r.
        ap (λ o. depth_in o e.thread) (tells.holders e.subject) ∙ held_as_deep (picked t s.front) (admits_before t s e i r.correct.admitted) e.thread e.subject
        ∙ depth_kept t xs s.front s.back k e r.correct s.split i)

    -- with which the table goes on
    pub tells_next : (e : Event) → At t k e → (next : TraceCheck) (r : Result (Unit {0}) TraceFault) → Turned table e r next
        → Tells next (picked t (s.front ++ (k ∷ [])))
    tells_next e i next r turned = ∥∥₁_elim old (hlevel props) (λ o.
        let allowed = allowed_at t s e i o.correct.admitted in
        let lets : is_ok r ≡ true = (ok_refuses_none trace_number r).1 (turned.answer (picked t s.front) tells ∙ allowed) in
        let all : picked t (s.front ++ (k ∷ [])) ≡ picked t s.front ++ (e ∷ []) = picked_at t (at_split s.front [] refl) e i in
        subst (Tells next) (cond-true (is_ok r) (picked t s.front ++ (e ∷ [])) (picked t s.front) lets ∙ sym all) (turned.tells (picked t s.front) tells))

    -- as it does with a position that has no event
    pub tells_past : slice_get t k ≡ None → Tells table (picked t (s.front ++ (k ∷ [])))
    tells_past none = rw (picked_past) tells
      where
        picked_past : picked t (s.front ++ (k ∷ [])) ≡ picked t s.front
        picked_past = picked_append t s.front (k ∷ []) ∙ ap (λ es. picked t s.front ++ es) nothing ∙ append-nil (picked t s.front)
          where
            nothing : picked t (k ∷ []) ≡ []
            nothing = rw none refl

-- the position at index i, where the table tells of the events before it
module _ (t : List Event) (xs : List ℕ) (old : ∥ Reorders t xs ∥₁) (table : TraceCheck) (k l i : ℕ) (b : i < length xs)
    (tells : Tells table (picked t (take i xs))) where
  abbrev here : ℕ
  here = get_or xs i 0

  -- an outer acquire that does not stand before k
  pub not_before : (e : Event) → At t here e → e.kind ≡ Acquire → e.subject ≡ l → k ≤ here → level t xs old table e ≡ 0
      → (false ≡ true) ↔ AcquiredBefore t xs k l
  not_before e is kind lock late out = (λ q. absurd (false≢true q), λ all. absurd (clash (all here (is_member place) e outer lock)))
    where
      place : Stands here xs
      place = at_index xs i 0 b

      outer : Outer t here e
      outer = record { is = is; is_acquire = kind; outside = sym (level_at t xs old table (at_index xs i 0 b) tells e is) ∙ out }

      clash : here < k → ⊥
      clash early = omega arith

  -- any other position stands before k, if it is one that counts
  pub before_more : AcquiredBefore t (take i xs) k l → AcquireBefore t k l here → AcquiredBefore t (take (i + 1) xs) k l
  before_more old new m j = ⊎_elim (λ o. old m o) (λ q. rw q new) (push_cases (take i xs) (rw (take_more xs i 0 b) at j))

  -- one that is no acquire of the lock, that stands before k, or whose thread is in the lock
  pub no_acquire : (e : Event) → At t here e → (e.kind ≡ Acquire → e.subject ≡ l → k ≤ here → level t xs old table e ≡ 0 → ⊥) → AcquireBefore t k l here
  no_acquire e is none f outer lock = ⊎_elim (λ early. early) (λ late. absurd (
      let one : f ≡ e = at_same t here f e outer.is is in
      let out : depth_at t here e ≡ 0 = ap (depth_at t here) (sym one) ∙ outer.outside in
      none (ap (λ (x : Event). x.kind) (sym one) ∙ outer.is_acquire) (ap (λ (x : Event). x.subject) (sym one) ∙ lock) late
      (level_at t xs old table (at_index xs i 0 b) tells e is ∙ out))) (cases_lt here k)

  -- and the table goes on
  pub tells_more : (e : Event) → At t here e → (next : TraceCheck) (r : Result (Unit {0}) TraceFault) → Turned table e r next
      → Tells next (picked t (take (i + 1) xs))
  tells_more e is next r turned = rw (take_more xs i 0 b) (tells_next t xs old table (at_index xs i 0 b) tells e is next r turned)

  pub tells_still : slice_get t here ≡ None → Tells table (picked t (take (i + 1) xs))
  tells_still none = rw (take_more xs i 0 b) (tells_past t xs old table (at_index xs i 0 b) tells none)

-- an event that is no read, acquire or join agrees with the trace
pub other_agrees : (t : List Event) (xs : List ℕ) (k : ℕ) (e : Event) → At t k e → (e.kind ≡ Read → ⊥) → (e.kind ≡ Acquire → ⊥) → (e.kind ≡ Join → ⊥)
    → Agrees t xs k e
other_agrees t xs k e i no_read no_acquire no_join = record {
  reads = λ read. absurd (no_read read);
  acquires = λ outer. absurd (no_acquire (ap (λ (f : Event). f.kind) (at_same t k e e i outer.is) ∙ outer.is_acquire));
  awaited_spawns = λ s h. absurd (not_join t k e e.kind i refl h.join h.join_is h.is_join no_join);
  awaited_events = λ d h. absurd (not_join t k e e.kind i refl h.join h.join_is h.is_join no_join);
}

-- a join agrees with it just if the list has the spawns and the events of the thread that it awaits
pub join_agrees : (t : List Event) (xs : List ℕ) (k : ℕ) (e : Event) → At t k e → e.kind ≡ Join
    → (HasSpawns t xs k e.subject × HasEvents t xs k e.subject) ↔ Agrees t xs k e
join_agrees t xs k e i join = (there, back)
  where
    same : {f : Event} → At t k f → f ≡ e
    same {f} j = at_same t k f e j i

    there : HasSpawns t xs k e.subject × HasEvents t xs k e.subject → Agrees t xs k e
    there has = record {
      reads = λ read. absurd (grind arith);
      acquires = λ outer. let a = outer.is_acquire in absurd (grind arith);
      awaited_spawns = λ s h. has.0 s h.before (rw h.spawn_is (as_spawn h.spawn e.subject h.is_spawn (h.names ∙ ap (λ (f : Event). f.subject) (same h.join_is))));
      awaited_events = λ d h. has.1 d h.before (rw h.event_is (eq-eqb h.event.thread e.subject (h.names ∙ ap (λ (f : Event). f.subject) (same h.join_is))));
    }

    back : Agrees t xs k e → HasSpawns t xs k e.subject × HasEvents t xs k e.subject
    back a = (
      λ m b h. let (f, j, does) = tested (spawns e.subject) (slice_get t m) h in
          let (kind, names) = is_spawn f e.subject does in
          a.awaited_spawns m (record { before = b; spawn = f; join = e; spawn_is = j; join_is = i; is_spawn = kind; is_join = join; names = names }),
      λ m b h. let (f, j, does) = tested (of_thread e.subject) (slice_get t m) h in
          a.awaited_events m (record { before = b; event = f; join = e; event_is = j; join_is = i; is_join = join; names = eqb-true f.thread e.subject does }),
    )

-- the spawns of an event's thread before it are those of the thread before its position
pub spawned_by : (t : List Event) (xs : List ℕ) (k : ℕ) (e : Event) → At t k e → HasSpawns t xs k e.thread ↔ ((s : ℕ) → SpawnOf t s k → Memᴰ s xs)
spawned_by t xs k e i = (
  λ has s h. has s h.before (rw h.spawn_is (as_spawn h.spawn e.thread h.is_spawn (h.names ∙ ap (λ (f : Event). f.thread) (at_same t k h.event e h.event_is i)))),
  λ all m b h. let (f, j, does) = tested (spawns e.thread) (slice_get t m) h in
      let (kind, names) = is_spawn f e.thread does in
      all m (record { before = b; spawn = f; event = e; spawn_is = j; event_is = i; is_spawn = kind; names = names }),
)

-- and so with its events, of which a reordering has all where it has the previous event
pub had_by : (t : List Event) (xs : List ℕ) (k : ℕ) (e : Event) → ∥ Reorders t xs ∥₁ → At t k e
    → (HasSpawns t xs k e.thread × HasEvents t xs k e.thread) ↔ (((d : ℕ) → Previous t k d → Memᴰ d xs) × ((s : ℕ) → SpawnOf t s k → Memᴰ s xs))
had_by t xs k e old i = (
  λ has. (λ d p. previous_had has d p, (spawned_by t xs k e i).0 has.0),
  λ all. (
    (spawned_by t xs k e i).1 all.1,
    λ m b h. let (f, j, does) = tested (of_thread e.thread) (slice_get t m) h in
        ready_from t xs k old all.0 m (record { before = b; first = f; second = e; first_is = j; second_is = i; same_thread = eqb-true f.thread e.thread does }),
  ),
)
  where
    own : {f : Event} → At t k f → f.thread ≡ e.thread
    own {f} j = ap (λ (x : Event). x.thread) (at_same t k f e j i)

    previous_had : HasSpawns t xs k e.thread × HasEvents t xs k e.thread → (d : ℕ) → Previous t k d → Memᴰ d xs
    previous_had has d (in_thread h none) = has.1 d h.before (rw h.first_is (eq-eqb h.first.thread e.thread (h.same_thread ∙ own h.second_is)))
    previous_had has d (by_spawn h none none_later) = (spawned_by t xs k e i).0 has.0 d h

-- an acquire that is enabled after the list agrees with the trace where its thread is in the lock, and else just where it comes after the outer ones
module _ (t : List Event) (xs : List ℕ) (old : ∥ Reorders t xs ∥₁) (table : TraceCheck) (tells : Tells table (picked t xs)) (k : ℕ) (e : Event)
    (acquire : e.kind ≡ Acquire) (is : At t k e) (enabled : Enabled t xs k) where
  same_level : level t xs old table e ≡ depth_at t k e
  same_level = level_next t xs old table k e is enabled tells

  agrees_by : AcquiredBefore t xs k e.subject ⊎ (0 < level t xs old table e) → Agrees t xs k e
  agrees_by how = record {
    reads = λ read. absurd (grind arith);
    acquires = λ outer. ⊎_elim (λ all. all) (λ deep. absurd (omega (arith, same_level, outer.outside))) how;
    awaited_spawns = λ s h. absurd (not_join t k e Acquire is acquire h.join h.join_is h.is_join (λ q. absurd (grind arith)));
    awaited_events = λ d h. absurd (not_join t k e Acquire is acquire h.join h.join_is h.is_join (λ q. absurd (grind arith)));
  }

  pub inner_agrees : (n : ℕ) → n ≡ level t xs old table e → 0 < n → (nat_lt 0 n ≡ true) ↔ Agrees t xs k e
  inner_agrees n told deep = (λ q. agrees_by (inr (omega arith)), λ a. lt-ltb 0 n deep)

  pub outer_agrees : (r : Bool) → level t xs old table e ≡ 0 → (r ≡ true) ↔ AcquiredBefore t xs k e.subject → (r ≡ true) ↔ Agrees t xs k e
  outer_agrees r out same = (
    λ q. agrees_by (inl (same.0 q)),
    λ a. same.1 (a.acquires (record { is = is; is_acquire = acquire; outside = sym same_level ∙ out })),
  )
