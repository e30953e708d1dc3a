-- What the events of a cut want of threads, in one pass: the tables have of each thread a spawn, and its latest event, each if it is outside the cut.
use Rattle.std.proofs.Common.{◌≡◌, ℕ, ◌+◌, ◌<◌, ◌≤◌, Bool, true, false, cond, eqb, ◌⊎◌, List, length, get_or, is_some, Some, None, Option, sym, refl, ap, ◌∙◌, inl, inr, ⊎_elim, below_more, arith}
use Rattle.std.proofs.lemmas.Bool.{cases_eq, cases_Bool, both_ways, true≢false, eq-eqb, eqb-true, cond-true, cond-false}
use Rattle.trace.specs.declared.event.Event.{Event}
use Rattle.trace.specs.declared.kind.Kind.{Kind}
use Rattle.trace.specs.declared.kind.Kind.TheVariants.{Read, Write, Acquire, Release, Spawn, Join}
use Rattle.trace.specs.Traces.{At, SpawnOf, AwaitedSpawn, AwaitedEvent, LastAwaited}
use Rattle.trace.specs.Lookups.{of_thread, spawns, or_found}
use Rattle.trace.specs.Cuts.{In, Cut, Closed, ThreadWants}
use Rattle.trace.specs.Cuts.ThreadWants.{spawn, awaited_spawn, awaited_last}
use Rattle.trace.proofs.Events.{at_inside, at_same}
use Rattle.trace.proofs.Lookups.{is_spawn, as_spawn}
use Rattle.predict.specs.Held.{held, Outside, Misses}
use Rattle.predict.specs.Parts.{joining, awaited_of, wanted_of, spawn_noted, event_noted}
use Rattle.predict.proofs.Bounds.{held_cut}
use Rattle.predict.proofs.Bounds.{Below}
use Rattle.predict.proofs.Inside.{Seen, seen_at, seen_held}

pub is_joining : (k : Kind) → joining k ≡ true → k ≡ Join
is_joining Join h = refl
is_joining Read h = absurd (grind arith)
is_joining Write h = absurd (grind arith)
is_joining Acquire h = absurd (grind arith)
is_joining Release h = absurd (grind arith)
is_joining Spawn h = absurd (grind arith)

is_none : (o : Option ℕ) → is_some o ≡ false → o ≡ None
is_none None h = refl
is_none (Some r) h = absurd (true≢false h)

-- where neither of two is found nothing is, and what is found is one of them
neither_found : (a b : Option ℕ) → or_found a b ≡ None → (a ≡ None) × (b ≡ None)
neither_found None b q = (refl, q)
neither_found (Some x) b q = absurd (grind arith)

either_found : (a b : Option ℕ) (w : ℕ) → or_found a b ≡ Some w → (a ≡ Some w) ⊎ (b ≡ Some w)
either_found None b w q = inr q
either_found (Some x) b w q = inl q

module _ (t : List Event) (bs : List ℕ) where
  -- m is a spawn of the thread p, and m is an event of it
  pub record SpawnAt (p m : ℕ) : Type 0 where
    pub event : Event
    pub is : At t m event
    pub is_spawn : event.kind ≡ Spawn
    pub names : event.subject ≡ p

  pub record EventAt (p m : ℕ) : Type 0 where
    pub event : Event
    pub is : At t m event
    pub own : event.thread ≡ p

  -- a spawn of the thread below k that is outside the cut; or none is
  abbrev pub SpawnNoted : ℕ → ℕ → Option ℕ → Type 0
  SpawnNoted p k None = (m : ℕ) → m < k → SpawnAt p m → In m (held t bs)
  SpawnNoted p k (Some s) = (s < k) × SpawnAt p s × (held t bs s ≡ false)

  -- the latest event of the thread below k, if it is outside the cut; or none is
  abbrev pub EventNoted : ℕ → ℕ → Option ℕ → Type 0
  EventNoted p k None = (m : ℕ) → m < k → EventAt p m → In m (held t bs)
  EventNoted p k (Some d) = (d < k) × EventAt p d × (held t bs d ≡ false) × ((m : ℕ) → d < m → m < k → EventAt p m → ⊥)

  -- what the event at k wants of threads is in the cut
  abbrev pub Settled : ℕ → Type 0
  Settled k = In k (held t bs) → ((w : ℕ) → SpawnOf t w k → In w (held t bs)) × ((w : ℕ) → AwaitedSpawn t w k → In w (held t bs))
      × ((w : ℕ) → LastAwaited t w k → In w (held t bs))

  -- what the pass knows at k
  pub record Pass (k : ℕ) (spawned latest : List (Option ℕ)) : Type 0 where
    pub spawned_noted : (p : ℕ) → SpawnNoted p k (get_or spawned p None)
    pub latest_noted : (p : ℕ) → EventNoted p k (get_or latest p None)
    pub settled : (m : ℕ) → m < k → Settled m

  pub pass_start : (spawned latest : List (Option ℕ)) → ((p : ℕ) → get_or spawned p None ≡ None) → ((p : ℕ) → get_or latest p None ≡ None)
      → Pass 0 spawned latest
  pass_start spawned latest no_spawn no_event = record {
    spawned_noted = λ p. rw (no_spawn p) (λ m b. absurd (omega arith));
    latest_noted = λ p. rw (no_event p) (λ m b. absurd (omega arith));
    settled = λ m b. absurd (omega arith);
  }

  module _ (k : ℕ) (spawned latest : List (Option ℕ)) (e : Event) (b : Bool) (seen : Seen t bs k e b) (p : Pass k spawned latest) where
    same : {f : Event} → At t k f → f ≡ e
    same {f} i = at_same t k f e i (seen_at t bs seen)

    -- what is noted stays, where the event is inside
    spawn_stays : In k (held t bs) → (q : ℕ) (o : Option ℕ) → SpawnNoted q k o → SpawnNoted q (k + 1) o
    spawn_stays inside q None old = λ m c h. ⊎_elim (λ z. rw z inside) (λ z. old m (omega arith) h) (cases_eq m k)
    spawn_stays inside q (Some s) (c, is, out) = (omega arith, is, out)

    event_stays : In k (held t bs) → (q : ℕ) (o : Option ℕ) → EventNoted q k o → EventNoted q (k + 1) o
    event_stays inside q None old = λ m c h. ⊎_elim (λ z. rw z inside) (λ z. old m (omega arith) h) (cases_eq m k)
    event_stays inside q (Some d) (c, is, out, later) = (omega arith, is, out, λ m g h f. ⊎_elim (λ z. after (rw z at f)) (λ z. later m g (omega arith) f) (cases_eq m k))
      where
        -- an event inside has no earlier event of its thread outside
        after : EventAt q k → ⊥
        after f = both_ways (held t bs d) out ((held_cut t bs).first_events d k (record {
          before = c;
          first = is.event;
          second = f.event;
          first_is = is.is;
          second_is = f.is;
          same_thread = is.own ∙ sym f.own;
        }) inside)

    -- an event of the cut that wants nothing that is noted passes
    pub pass_inside : b ≡ true → false ≡ is_some (wanted_of spawned latest e) → Pass (k + 1) spawned latest
    pass_inside is none = record {
      spawned_noted = λ q. spawn_stays inside q (get_or spawned q None) (p.spawned_noted q);
      latest_noted = λ q. event_stays inside q (get_or latest q None) (p.latest_noted q);
      settled = below_more Settled k p.settled here;
    }
      where
        inside : In k (held t bs)
        inside = seen_held t bs seen ∙ is

        parts : (get_or spawned e.thread None ≡ None) × (awaited_of e.kind (get_or spawned e.subject None) (get_or latest e.subject None) ≡ None)
        parts = neither_found _ _ (is_none (wanted_of spawned latest e) (sym none))

        own : (w : ℕ) → SpawnOf t w k → In w (held t bs)
        own w h =
            let all : SpawnNoted e.thread k None = rw parts.0 at (p.spawned_noted e.thread) in
            all w h.before (record { event = h.spawn; is = h.spawn_is; is_spawn = h.is_spawn; names = h.names ∙ ap (λ (f : Event). f.thread) (same h.event_is) })

        awaits : e.kind ≡ Join → (get_or spawned e.subject None ≡ None) × (get_or latest e.subject None ≡ None)
        awaits join = neither_found _ _ (sym (cond-true (joining e.kind) (or_found (get_or spawned e.subject None) (get_or latest e.subject None)) None (ap joining join)) ∙ parts.1)

        spawn_in : (w : ℕ) → AwaitedSpawn t w k → In w (held t bs)
        spawn_in w h =
            let join = ap (λ (f : Event). f.kind) (sym (same h.join_is)) ∙ h.is_join in
            let all : SpawnNoted e.subject k None = rw (awaits join).0 at (p.spawned_noted e.subject) in
            all w h.before (record { event = h.spawn; is = h.spawn_is; is_spawn = h.is_spawn; names = h.names ∙ ap (λ (f : Event). f.subject) (same h.join_is) })

        event_in : (w : ℕ) → LastAwaited t w k → In w (held t bs)
        event_in w l =
            let h = l.awaited in
            let join = ap (λ (f : Event). f.kind) (sym (same h.join_is)) ∙ h.is_join in
            let all : EventNoted e.subject k None = rw (awaits join).1 at (p.latest_noted e.subject) in
            all w h.before (record { event = h.event; is = h.event_is; own = h.names ∙ ap (λ (f : Event). f.subject) (same h.join_is) })

        here : Settled k
        here i = (own, spawn_in, event_in)

    -- an event outside the cut is noted
    pub pass_outside : (spawned' latest' : List (Option ℕ)) → b ≡ false
        → ((q : ℕ) → get_or spawned' q None ≡ spawn_noted q k e (get_or spawned q None))
        → ((q : ℕ) → get_or latest' q None ≡ event_noted q k e (get_or latest q None)) → Pass (k + 1) spawned' latest'
    pass_outside spawned' latest' is new_spawn new_event = record {
      spawned_noted = λ q. rw (new_spawn q) (spawn_next q (cases_Bool (spawns q e)));
      latest_noted = λ q. rw (new_event q) (event_next q (cases_Bool (of_thread q e)));
      settled = below_more Settled k p.settled (λ i. absurd (both_ways (held t bs k) out i));
    }
      where
        out : held t bs k ≡ false
        out = seen_held t bs seen ∙ is

        spawn_next : (q : ℕ) → (spawns q e ≡ true) ⊎ (spawns q e ≡ false) → SpawnNoted q (k + 1) (spawn_noted q k e (get_or spawned q None))
        spawn_next q (inl h) = rw h (
          omega arith,
          record { event = e; is = seen_at t bs seen; is_spawn = (is_spawn e q h).0; names = (is_spawn e q h).1 },
          out,
        )
        spawn_next q (inr h) = rw h (stays (get_or spawned q None) (p.spawned_noted q))
          where
            stays : (o : Option ℕ) → SpawnNoted q k o → SpawnNoted q (k + 1) o
            stays None old = λ m c f. ⊎_elim
                (λ z. absurd (let g = rw z at f in both_ways (spawns q e) h (as_spawn e q (ap (λ (x : Event). x.kind) (sym (same g.is)) ∙ g.is_spawn)
                (ap (λ (x : Event). x.subject) (sym (same g.is)) ∙ g.names)))) (λ z. old m (omega arith) f) (cases_eq m k)
            stays (Some s) (c, f, o) = (omega arith, f, o)

        event_next : (q : ℕ) → (of_thread q e ≡ true) ⊎ (of_thread q e ≡ false) → EventNoted q (k + 1) (event_noted q k e (get_or latest q None))
        event_next q (inl h) = rw h (
          omega arith,
          record { event = e; is = seen_at t bs seen; own = eqb-true e.thread q h },
          out,
          λ m g c. absurd (omega arith),
        )
        event_next q (inr h) = rw h (stays (get_or latest q None) (p.latest_noted q))
          where
            other : EventAt q k → ⊥
            other g = both_ways (of_thread q e) h (eq-eqb e.thread q (ap (λ (x : Event). x.thread) (sym (same g.is)) ∙ g.own))

            stays : (o : Option ℕ) → EventNoted q k o → EventNoted q (k + 1) o
            stays None old = λ m c f. ⊎_elim (λ z. absurd (other (rw z at f))) (λ z. old m (omega arith) f) (cases_eq m k)
            stays (Some d) (c, f, o, later) =
                (omega arith, f, o, λ m g i j. ⊎_elim (λ z. other (rw z at j)) (λ z. later m g (omega arith) j) (cases_eq m k))

    -- an event of the cut that wants something that is noted: that is missing
    pub pass_misses : b ≡ true → true ≡ is_some (wanted_of spawned latest e) → Misses ThreadWants t bs (wanted_of spawned latest e)
    pass_misses is = go (wanted_of spawned latest e) refl
      where
        inside : In k (held t bs)
        inside = seen_held t bs seen ∙ is

        at_k : At t k e
        at_k = seen_at t bs seen

        by_spawn : (q w : ℕ) → get_or spawned q None ≡ Some w → (SpawnAt q w → w < k → ThreadWants t (held t bs) w) → Misses ThreadWants t bs (Some w)
        by_spawn q w found wants =
            let n : SpawnNoted q k (Some w) = rw found at (p.spawned_noted q) in
            record { outside = record { in_trace = at_inside t w n.1.event n.1.is; not_held = n.2 }; exact = λ ok. wants n.1 n.0 }

        by_event : (w : ℕ) → e.kind ≡ Join → get_or latest e.subject None ≡ Some w → Misses ThreadWants t bs (Some w)
        by_event w join found =
            let n : EventNoted e.subject k (Some w) = rw found at (p.latest_noted e.subject) in
            record {
              outside = record { in_trace = at_inside t w n.1.event n.1.is; not_held = n.2 };
              exact = λ ok. awaited_last inside (record {
                awaited = record { before = n.0; event = n.1.event; join = e; event_is = n.1.is; join_is = at_k; is_join = join; names = n.1.own };
                none_later = λ m g a. n.3 m g a.before (record { event = a.event; is = a.event_is; own = a.names ∙ ap (λ (f : Event). f.subject) (same a.join_is) });
              });
            }

        awaited : (w : ℕ) → awaited_of e.kind (get_or spawned e.subject None) (get_or latest e.subject None) ≡ Some w → Misses ThreadWants t bs (Some w)
        awaited w q = of_kind (cases_Bool (joining e.kind))
          where
            of_join : e.kind ≡ Join → (get_or spawned e.subject None ≡ Some w) ⊎ (get_or latest e.subject None ≡ Some w) → Misses ThreadWants t bs (Some w)
            of_join join (inl found) = by_spawn e.subject w found (λ s c. awaited_spawn inside
                (record { before = c; spawn = s.event; join = e; spawn_is = s.is; join_is = at_k; is_spawn = s.is_spawn; is_join = join; names = s.names }))
            of_join join (inr found) = by_event w join found

            of_kind : (joining e.kind ≡ true) ⊎ (joining e.kind ≡ false) → Misses ThreadWants t bs (Some w)
            of_kind (inl h) = of_join (is_joining e.kind h) (either_found _ _ w
                (sym (cond-true (joining e.kind) (or_found (get_or spawned e.subject None) (get_or latest e.subject None)) None h) ∙ q))
            of_kind (inr h) = absurd (
                let none = sym (cond-false (joining e.kind) (or_found (get_or spawned e.subject None) (get_or latest e.subject None)) None h) ∙ q in grind arith)

        go : (o : Option ℕ) → wanted_of spawned latest e ≡ o → true ≡ is_some o → Misses ThreadWants t bs o
        go None q h = absurd (true≢false h)
        go (Some w) q h = of_either (either_found _ _ w q)
          where
            of_either : (get_or spawned e.thread None ≡ Some w) ⊎ (awaited_of e.kind (get_or spawned e.subject None) (get_or latest e.subject None) ≡ Some w)
                → Misses ThreadWants t bs (Some w)
            of_either (inl found) = by_spawn e.thread w found (λ s c. spawn inside
                (record { before = c; spawn = s.event; event = e; spawn_is = s.is; event_is = at_k; is_spawn = s.is_spawn; names = s.names }))
            of_either (inr found) = awaited w found

  -- past all events of the cut nothing is missing
  pub pass_all : (k : ℕ) (spawned latest : List (Option ℕ)) → Below t bs k → Pass k spawned latest → Misses ThreadWants t bs None
  pass_all k spawned latest b p = record { outside = tt; exact = λ ok. closed }
    where
      closed : Closed ThreadWants t (held t bs)
      closed w (spawn {k = m} i h) = (p.settled m (b m i) i).0 w h
      closed w (awaited_spawn {k = m} i h) = (p.settled m (b m i) i).1 w h
      closed w (awaited_last {k = m} i h) = (p.settled m (b m i) i).2 w h
