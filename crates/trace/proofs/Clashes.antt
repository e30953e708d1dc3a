-- The listing of a cut, event by event: the trace check lets each event come that the trace has, but for an outer acquire of a lock that an earlier
-- acquire of the cut has, whose release the cut lacks.
use Rattle.std.proofs.Common.{◌≡◌, ℕ, zero, suc, ◌<◌, Bool, true, false, cond, eqb, ◌||◌, ◌⊎◌, List, take, Some, None, Option, sym, refl, ap, ◌∙◌, subst, inl, inr, ⊎_elim, arith}
use Rattle.std.specs.Prelude.{nat_lt}
use Rattle.std.proofs.lemmas.Bool.{cases_Bool}
use Rattle.trace.specs.declared.event.Event.{Event}
use Rattle.trace.specs.declared.hold.Hold.{Hold}
use Rattle.trace.specs.declared.life.Life.{Life}
use Rattle.trace.specs.declared.kind.Kind.{Kind}
use Rattle.trace.specs.declared.kind.Kind.TheVariants.{Read, Write, Acquire, Release, Spawn, Join}
use Rattle.trace.specs.Limits.{on_lock, deepest}
use Rattle.trace.specs.Traces.{At, standing_after, lock_refusal, ended_refusal, thread_refusal, Allowed, Admits, depth, Outer, ReleaseOf}
use Rattle.trace.specs.Depths.{depth_in}
use Rattle.trace.specs.Reorderings.{picked}
use Rattle.trace.specs.Cuts.{Positions, In, Cut, listed}
use Rattle.trace.proofs.Holders.{off_lock, lets, from_lets, admits_take}
use Rattle.trace.proofs.Lives.{LessKnown, less_known}
use Rattle.trace.proofs.Started.{taken_member}
use Rattle.trace.proofs.Picked.{picked_member}
use Rattle.trace.proofs.Depths.{held_as_deep, held_deep, holder_in, release_inside, inside_release, acquire_inside}
use Rattle.trace.proofs.Events.{at_some, at_same}
use Rattle.trace.proofs.Places.{is_member}
use Rattle.trace.proofs.Ascending.{below}
use Rattle.trace.proofs.Listing.{listed_within, listed_all, listed_ascending, listed_front}
use Rattle.trace.proofs.Sections.{before, Inside, inside, frees_after}
use Rattle.trace.proofs.Owning.{InTurn, Orderly, Owned, owned, depth_in_turn}
use Rattle.trace.proofs.Releases.{allowed_in, release_between}

-- k is an outer acquire of a lock that an earlier outer acquire of the cut has, whose release the cut lacks
pub record Clash (t : List Event) (c : Positions) (k : ℕ) (e : Event) : Type 0 where
  pub second : Outer t k e
  pub first : ℕ
  pub event : Event
  pub first_in : In first c
  pub order : first < k
  pub outer : Outer t first event
  pub same_lock : event.subject ≡ e.subject
  pub release : ℕ
  pub is : ReleaseOf t first release
  pub missing : c release ≡ false

-- where less is known, no more is turned away
still_living : (a b : Life) → LessKnown a b → ended_refusal b ≡ None → ended_refusal a ≡ None
still_living a b less q = ⊎_elim (λ h. absurd (let z = rw (less.joined h) at q in grind arith)) (λ h. rw h refl) (cases_Bool a.joined)

still_startable : (k : Kind) (thread subject : ℕ) (a b : Life) → LessKnown a b → thread_refusal k thread subject b ≡ None → thread_refusal k thread subject a ≡ None
still_startable Read thread subject a b less q = refl
still_startable Write thread subject a b less q = refl
still_startable Acquire thread subject a b less q = refl
still_startable Release thread subject a b less q = refl
still_startable Join thread subject a b less q = q
still_startable Spawn thread subject a b less q = of_own (eqb thread subject) q
  where
    of_begun : (x y : Bool) → a.begun ≡ x → a.named ≡ y → cond {A = Option ℕ} (b.begun || b.named) (Some 14) None ≡ None → cond {A = Option ℕ} (x || y) (Some 14) None ≡ None
    of_begun true y h j r = absurd (let z = rw (less.begun h) at r in grind arith)
    of_begun false true h j r = absurd (let z = rw (less.named j) at r in of_true b.begun z)
      where
        of_true : (x : Bool) → cond {A = Option ℕ} (x || true) (Some 14) None ≡ None → ⊥
        of_true true z = grind arith
        of_true false z = grind arith
    of_begun false false h j r = refl

    of_own : (x : Bool) → cond {A = Option ℕ} (x || (b.begun || b.named)) (Some 14) None ≡ None → cond {A = Option ℕ} (x || (a.begun || a.named)) (Some 14) None ≡ None
    of_own true r = absurd (grind arith)
    of_own false r = of_begun a.begun a.named refl refl r

module _ (t : List Event) (c : Positions) (cut : Cut t c) where
  -- the listing of a cut has with each position the earlier ones of its thread
  pub listing_orderly : (k : ℕ) → Orderly t (listed c k)
  listing_orderly k = record {
    in_trace = λ m i. at_some t m (cut.in_trace m (listed_within c k m i).0);
    in_turn = λ {k = m} s. record {
      outside = λ i. let b = below s (listed_ascending c k) m i in omega arith;
      ready = λ d h. listed_front c k s d (cut.first_events d m h (listed_within c k m (is_member s)).0) h.before;
    };
  }

  -- an event of the cut is the next of its thread after the listing of the earlier ones
  pub listing_turn : (k : ℕ) → In k c → InTurn t (listed c k) k
  listing_turn k h = record {
    outside = λ j. let b = (listed_within c k k j).1 in omega arith;
    ready = λ d q. listed_all c k d (cut.first_events d k q h) q.before;
  }

module _ (t : List Event) (c : Positions) (ok : Admits t) (cut : Cut t c) (k : ℕ) (e : Event) (i : At t k e) (h : In k c)
    (admits : Admits (picked t (listed c k))) where
  abbrev hold : Option Hold
  hold = (standing_after (picked t (listed c k))).holders e.subject

  abbrev then : Option Hold
  then = (standing_after (take k t)).holders e.subject

  -- its thread is as deep in its lock as in the trace
  as_deep : depth_in hold e.thread ≡ depth_in then e.thread
  as_deep =
      held_as_deep (picked t (listed c k)) admits e.thread e.subject
      ∙ depth_in_turn t (listed c k) k e (listing_orderly t c cut k) i (listing_turn t c cut k h) e.subject
      ∙ sym (held_as_deep (take k t) (admits_take t k ok) e.thread e.subject)

  in_trace : (x : Kind) → e.kind ≡ x → lock_refusal x e.thread then ≡ None
  in_trace x q = subst (λ y. lock_refusal y e.thread then ≡ None) q (lets (standing_after (take k t)) e (allowed_in t k e ok i)).lock

  -- what is known of a thread after the listing is known in the trace too
  known_less : (p : ℕ) → LessKnown ((standing_after (picked t (listed c k))).lives p) ((standing_after (take k t)).lives p)
  known_less = less_known (picked t (listed c k)) (take k t) (λ f m. let (n, j, at) = picked_member t (listed c k) f m in
      taken_member t n k f (listed_within c k n j).1 at)

  living : ended_refusal ((standing_after (picked t (listed c k))).lives e.thread) ≡ None
  living = still_living _ _ (known_less e.thread) (lets (standing_after (take k t)) e (allowed_in t k e ok i)).living

  startable : thread_refusal e.kind e.thread e.subject ((standing_after (picked t (listed c k))).lives e.subject) ≡ None
  startable = still_startable e.kind e.thread e.subject _ _ (known_less e.subject) (lets (standing_after (take k t)) e (allowed_in t k e ok i)).startable

  -- where its lock lets it come after the listing, the trace check does
  pub lets_come : lock_refusal e.kind e.thread hold ≡ None → Allowed (standing_after (picked t (listed c k))) e
  lets_come q = from_lets (standing_after (picked t (listed c k))) e (record { living = living; startable = startable; lock = q })

  clash : (o : Hold) → hold ≡ Some o → Outer t k e → Clash t c k e
  clash o is second = record {
    second = second;
    first = since.start;
    event = since.event;
    first_in = first.0;
    order = first.1;
    outer = since.outer;
    same_lock = since.its_lock;
    release = found.0;
    is = found.1;
    missing = ⊎_elim (λ has. absurd (not_in has)) (λ out. out) (cases_Bool (c found.0));
  }
    where
      n : ℕ
      n = (owned t o.thread (listed c k) (listing_orderly t c cut k)).0

      own : Owned t o.thread (listed c k) n
      own = (owned t o.thread (listed c k) (listing_orderly t c cut k)).1

      in_lock : 0 < before o.thread e.subject t n
      in_lock =
          let deep : 0 < o.depth = rw is at (held_deep (picked t (listed c k)) admits e.subject) in
          let level : depth_in (Some o) o.thread ≡ depth o.thread e.subject (picked t (listed c k)) =
          rw is at (held_as_deep (picked t (listed c k)) admits o.thread e.subject) in
          omega (arith, holder_in o, own.depths e.subject)

      since : Inside o.thread e.subject t n
      since = inside o.thread e.subject t n in_lock

      first : In since.start c × (since.start < k)
      first = listed_within c k since.start (own.has since.start since.event since.outer.is since.its_thread since.earlier)

      found : (r : ℕ) × ReleaseOf t since.start r × (r < k)
      found = release_between t since.start k since.event e ok first.1 since.outer second since.its_lock

      not_in : In found.0 c → ⊥
      not_in has =
          let rel = found.1 in
          let same = at_same t since.start rel.acquire since.event rel.acquire_is since.outer.is in
          let thread = rel.same_thread ∙ ap (λ (x : Event). x.thread) same ∙ since.its_thread in
          let lock = rel.same_lock ∙ ap (λ (x : Event). x.subject) same ∙ since.its_lock in
          let late = own.only found.0 rel.release rel.frees.is thread (listed_all c k found.0 has found.2) in
          let out : before o.thread e.subject t (suc found.0) ≡ 0 = rw (thread, lock) at (frees_after t found.0 rel.release rel.frees) in
          omega (arith, since.since (suc found.0) (omega (arith, rel.after)) (omega arith))

  -- the trace check lets it come after them, or it clashes with one of them
  pub allowed_or : Allowed (standing_after (picked t (listed c k))) e ⊎ Clash t c k e
  allowed_or = of_kind e.kind refl
    where
      off : (x : Kind) → e.kind ≡ x → on_lock x ≡ false → Allowed (standing_after (picked t (listed c k))) e ⊎ Clash t c k e
      off x q away = inl (lets_come (subst (λ y. lock_refusal y e.thread hold ≡ None) (sym q) (off_lock x e.thread hold away)))

      of_kind : (x : Kind) → e.kind ≡ x → Allowed (standing_after (picked t (listed c k))) e ⊎ Clash t c k e
      of_kind Read q = off Read q refl
      of_kind Write q = off Write q refl
      of_kind Spawn q = off Spawn q refl
      of_kind Join q = off Join q refl
      of_kind Release q =
          let deep = release_inside e.thread then (in_trace Release q) (held_deep (take k t) (admits_take t k ok) e.subject) in
          inl (lets_come (subst (λ y. lock_refusal y e.thread hold ≡ None) (sym q) (inside_release e.thread hold (omega (arith, as_deep)))))
      of_kind Acquire q = of_depth (depth_in then e.thread) refl
        where
          by_lock : lock_refusal Acquire e.thread hold ≡ None → Allowed (standing_after (picked t (listed c k))) e
          by_lock r = lets_come (subst (λ y. lock_refusal y e.thread hold ≡ None) (sym q) r)

          of_hold : (o : Option Hold) → hold ≡ o → depth_in then e.thread ≡ 0 → Allowed (standing_after (picked t (listed c k))) e ⊎ Clash t c k e
          of_hold None is out = inl (by_lock (rw is refl))
          of_hold (Some o) is out =
              inr (clash o is (record { is = i; is_acquire = q; outside = sym (held_as_deep (take k t) (admits_take t k ok) e.thread e.subject) ∙ out }))

          of_depth : (d : ℕ) → depth_in then e.thread ≡ d → Allowed (standing_after (picked t (listed c k))) e ⊎ Clash t c k e
          of_depth zero out = of_hold hold refl out
          of_depth (suc d) in_lock =
              let there = acquire_inside e.thread then (omega arith) in
              let here = acquire_inside e.thread hold (omega (arith, as_deep)) in
              inl (by_lock (here ∙ ap (λ n. cond (nat_lt n deepest) None (Some 13)) as_deep ∙ sym there ∙ in_trace Acquire q))
