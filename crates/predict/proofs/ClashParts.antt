-- The events of a cut, one after another: as long as the trace check lets them come, each outer acquire finds the releases of the earlier ones in the
-- cut; and where it turns one away, one of these is missing.
use Rattle.std.proofs.Common.{◌≡◌, ℕ, ◌+◌, ◌<◌, ◌≤◌, Bool, true, false, List, [], ◌∷◌, ◌++◌, length, get_or, set, replicate, is_ok, None, Ok, Err, Result, sym, refl, ap, ◌∙◌, subst, ⊎_elim, add-one, arith}
use Rattle.std.proofs.lemmas.Bool.{cases_eq, cases_lt, both_ways, cond-true, false≢true, true≢false}
use Rattle.std.specs.Result.{is_err}
use Rattle.std.proofs.lemmas.List.{length-set, get_or-set_same, get_or-set_other, get_or-replicate, get_or_past}
use Rattle.trace.specs.declared.event.Event.{Event}
use Rattle.trace.specs.declared.kind.Kind.{Kind}
use Rattle.trace.specs.declared.kind.Kind.TheVariants.{Read, Write, Acquire, Release, Spawn, Join}
use Rattle.trace.specs.declared.locks.LockTable.{LockTable}
use Rattle.trace.specs.declared.locks.TraceFault.{TraceFault}
use Rattle.trace.specs.Limits.{on_lock, locks}
use Rattle.trace.specs.Faults.{trace_number, refusal_in}
use Rattle.trace.specs.Traces.{standing_after, lock_refusal, Allowed, Admits}
use Rattle.trace.specs.Locks.{holders, LocksTurned}
use Rattle.trace.specs.Reorderings.{picked}
use Rattle.trace.specs.Cuts.{In, Closed, listed}
use Rattle.trace.proofs.Faults.{ok_refuses_none}
use Rattle.trace.proofs.LockTables.{turned_off}
use Rattle.trace.proofs.Holders.{lets}
use Rattle.trace.proofs.Events.{at_inside}
use Rattle.trace.proofs.Places.{Stands, at_split, stands, of_front}
use Rattle.trace.proofs.Listing.{listed_in, listed_out, listed_within, listed_all, listed_front}
use Rattle.trace.proofs.Picked.{picked_at, picked_push, admits_before, allowed_at}
use Rattle.trace.proofs.Owning.{Orderly, orderly_front}
use Rattle.trace.proofs.Releases.{release_among}
use Rattle.trace.proofs.Clashes.{Clash, listing_orderly, lets_come, allowed_or}
use Rattle.predict.specs.Held.{held}
use Rattle.predict.specs.Parts.{AcquireIn, LockWants, SettledBefore, Enough}
use Rattle.predict.proofs.Bounds.{held_cut, Below}
use Rattle.predict.proofs.Holding.{Holds, holds_next}
use Rattle.predict.proofs.Inside.{Seen, seen_at, seen_held}

-- an answer is a refusal just if it is no success
refuses : {A F : Type 0} (r : Result A F) → is_err r ≡ true → is_ok r ≡ false
refuses (Ok x) h = absurd (false≢true h)
refuses (Err f) h = refl

succeeds : {A F : Type 0} (r : Result A F) → is_err r ≡ false → is_ok r ≡ true
succeeds (Ok x) h = refl
succeeds (Err f) h = absurd (true≢false h)

-- a table that starts with zeros has zero for each lock
pub zeros : (l : ℕ) → get_or {A = ℕ} (replicate locks 0) l 0 ≡ 0
zeros l = ⊎_elim (λ h. get_or-replicate locks l 0 0 h) (λ h. get_or_past (replicate locks 0) l 0 h) (cases_lt l locks)

module _ (t : List Event) (bs : List ℕ) where
  -- the trace check admits the events of the cut below k, and the table has the holders after them
  pub record Checked (k : ℕ) (table : LockTable) : Type 0 where
    pub admitted : Admits (picked t (listed (held t bs) k))
    pub holds : Holds table (picked t (listed (held t bs) k))

  pub checked_start : (table : LockTable) → ((l : ℕ) → holders table l ≡ None) → Checked 0 table
  checked_start table free = record { admitted = tt; holds = free }

  module _ {k : ℕ} {e : Event} {b : Bool} (seen : Seen t bs k e b) (table : LockTable) (known : Admits t → Checked k table) where
    -- an event outside the cut
    pub checked_out : b ≡ false → Admits t → Checked (k + 1) table
    checked_out out ok =
        let c = known ok in
        let same = listed_out (held t bs) k (seen_held t bs seen ∙ out) in
        record { admitted = rw (add-one, same) c.admitted; holds = rw (add-one, same) c.holds }

    module _ (inside : b ≡ true) (next : LockTable) (r : Result (Unit {0}) TraceFault) (turned : LocksTurned table e r next) where
      here : In k (held t bs)
      here = seen_held t bs seen ∙ inside

      abbrev before : List Event
      before = picked t (listed (held t bs) k)

      -- the answer is that of its lock after them
      by_lock : Admits t → refusal_in trace_number r ≡ lock_refusal e.kind e.thread ((standing_after before).holders e.subject)
      by_lock ok = turned.answer ∙ ap (lock_refusal e.kind e.thread) ((known ok).holds e.subject)

      -- one that its lock lets come
      pub checked_in : is_err r ≡ false → Admits t → Checked (k + 1) next
      checked_in comes ok =
          let c = known ok in
          let taken = succeeds r comes in
          let more = listed_in (held t bs) k here in
          let allowed : Allowed (standing_after before) e =
          lets_come t (held t bs) ok (held_cut t bs) k e (seen_at t bs seen) here c.admitted (sym (by_lock ok) ∙ (ok_refuses_none trace_number r).0 taken) in
          let all : picked t (listed (held t bs) k ++ (k ∷ [])) ≡ before ++ (e ∷ []) = picked_at t (at_split (listed (held t bs) k) [] refl) e (seen_at t bs seen) in
          record {
            admitted = rw (add-one, more) (picked_push t (listed (held t bs) k) k e (seen_at t bs seen) c.admitted allowed);
            holds = rw (add-one, more, all) (holds_next table before e r next turned c.holds taken);
          }

      -- one that it turns away clashes with an earlier acquire, whose release is missing
      clashes : Admits t → is_err r ≡ true → Clash t (held t bs) k e
      clashes ok fails =
          let c = known ok in
          ⊎_elim (λ a. absurd (both_ways (is_ok r) (refuses r fails) ((ok_refuses_none trace_number r).1 (by_lock ok ∙ (lets (standing_after before) e a).lock)))) (λ x. x)
          (allowed_or t (held t bs) ok (held_cut t bs) k e (seen_at t bs seen) here c.admitted)

      -- so it is an acquire
      pub checked_never : is_err r ≡ true → (e.kind ≡ Acquire → ⊥) → Admits t → Checked (k + 1) next
      checked_never fails other ok = absurd (other (clashes ok fails).second.is_acquire)

      clash : Admits t → is_err r ≡ true → SettledBefore t (held t bs) e.subject (k + 1) → ⊥
      clash ok fails settled = missing (clashes ok fails)
        where
          missing : Clash t (held t bs) k e → ⊥
          missing x = both_ways (held t bs x.release) x.missing (settled x.first k x.release
              (record { event = x.event; inside = x.first_in; outer = x.outer; its_lock = x.same_lock })
              (record { event = e; inside = here; outer = x.second; its_lock = refl }) x.order (omega arith) x.is)

      few : e.kind ≡ Acquire → e.subject < locks
      few q = rw q at e.known_subject

      inside_trace : k + 1 ≤ length t
      inside_trace = let low = at_inside t k e (seen_at t bs seen) in omega arith

      abbrev ends : List ℕ
      ends = set (replicate locks 0) e.subject (k + 1)

      -- so it is enough to look at its lock up to here
      pub clash_ends : is_err r ≡ true → e.kind ≡ Acquire → Enough t bs (set (replicate locks 0) e.subject (k + 1))
      clash_ends fails acquire = record {
        whole = length-set (replicate locks 0) e.subject (k + 1);
        within = λ l. ⊎_elim
            (λ q. omega (arith, inside_trace, get_or-set_same (replicate locks 0) e.subject (k + 1) 0 (few acquire), ap (λ m. get_or ends m 0) q))
            (λ q. omega (arith, get_or-set_other (replicate locks 0) e.subject l (k + 1) 0 q, zeros l)) (cases_eq l e.subject);
        enough = λ ok settled.
            absurd (clash ok fails (rw (get_or-set_same (replicate locks 0) e.subject (k + 1) 0 (few acquire)) at (settled e.subject)));
      }

  -- an event that is on no lock, inside or outside
  pub checked_off : {k : ℕ} {e : Event} {b : Bool} (seen : Seen t bs k e b) (table : LockTable) → (Admits t → Checked k table) → on_lock e.kind ≡ false
      → Admits t → Checked (k + 1) table
  checked_off {k = k} {e = e} {b = b} seen table known off = of_test b refl
    where
      of_test : (x : Bool) → b ≡ x → Admits t → Checked (k + 1) table
      of_test true i = checked_in seen table known i table (Ok tt) (turned_off table e off) refl
      of_test false i = checked_out seen table known i

  -- where the pass comes to an end, the cut wants no release
  checked_closed : (k : ℕ) → Below t bs k → Admits (picked t (listed (held t bs) k)) → Closed LockWants t (held t bs)
  checked_closed k past ok w h = (listed_within (held t bs) k w (of_front s
      (release_among t s.front (orderly_front t (listed (held t bs) k) order s) (admits_before t s f.event f.outer.is ok) h.second f.event f.outer (order.in_turn s)
      (allowed_at t s f.event f.outer.is ok) h.first w e.event
      (listed_front (held t bs) k s h.first e.inside h.order) e.outer (e.its_lock ∙ sym f.its_lock) h.release))).0
    where
      e : AcquireIn t (held t bs) h.lock h.first
      e = h.first_in

      f : AcquireIn t (held t bs) h.lock h.second
      f = h.second_in

      order : Orderly t (listed (held t bs) k)
      order = listing_orderly t (held t bs) (held_cut t bs) k

      s : Stands h.second (listed (held t bs) k)
      s = stands (listed_all (held t bs) k h.second f.inside (past h.second f.inside))

  pub checked_all : (k : ℕ) → Below t bs k → (Admits t → Admits (picked t (listed (held t bs) k))) → Enough t bs (replicate locks 0)
  checked_all k past ok = record { whole = refl; within = λ l. omega (arith, zeros l); enough = λ admits settled. checked_closed k past (ok admits) }
