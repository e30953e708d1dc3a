-- What becomes of the table of lock holders with one event.
use Rattle.std.proofs.Common.{◌≡◌, ℕ, ◌<◌, ◌≤◌, true, false, cond, eqb, List, length, get_or, set, replicate, Some, None, Option, Ok, Err, sym, refl, ⊎_elim, arith, get_or-set_other, get_or-set_same}
use Rattle.std.proofs.lemmas.Bool.{cases_eq, cases_lt, eq-eqb, ne_eqb}
use Rattle.std.proofs.lemmas.List.{get_or-replicate, get_or_past}
use Rattle.trace.specs.declared.event.Event.{Event}
use Rattle.trace.specs.declared.hold.Hold.{Hold}
use Rattle.trace.specs.declared.kind.Kind.{Kind}
use Rattle.trace.specs.declared.kind.Kind.TheVariants.{Read, Write, Acquire, Release, Spawn, Join}
use Rattle.trace.specs.declared.locks.LockTable.{LockTable}
use Rattle.trace.specs.declared.locks.TraceFault.{TraceFault}
use Rattle.trace.specs.Limits.{on_lock, locks}
use Rattle.trace.specs.Faults.{trace_number}
use Rattle.trace.specs.Traces.{entered, left, turn, lock_refusal}
use Rattle.trace.specs.Locks.{holders, LocksTurned}

-- a table that starts with nothing has nothing of any lock
pub starts_empty : {A : Type 0} (l : ℕ) → get_or {A = Option A} (replicate locks None) l None ≡ None
starts_empty l =
    ⊎_elim (λ (h : l < locks). get_or-replicate locks l None None h) (λ (h : locks ≤ l). get_or_past (replicate locks None) l None h) (cases_lt l locks)

-- one entry written
pub put_entry : {A : Type 0} (xs : List A) (s : ℕ) (x d : A) (l : ℕ) → s < length xs → get_or (set xs s x) l d ≡ cond (eqb l s) x (get_or xs l d)
put_entry xs s x d l h =
    ⊎_elim (λ (e : l ≡ s). let b = eq-eqb l s e in rw b (rw e (get_or-set_same xs s x d h)))
    (λ (n : l ≡ s → ⊥). let b = ne_eqb l s n in rw b (get_or-set_other xs s l x d n))
    (cases_eq l s)

module _ (table : LockTable) (e : Event) where
  -- an event whose lock lets it come
  turned : (next : LockTable) → lock_refusal e.kind e.thread (holders table e.subject) ≡ None
      → ((l : ℕ) → holders next l ≡ turn e.kind e.thread e.subject (holders table) l) → LocksTurned table e (Ok tt) next
  turned next lets step = record { answer = sym lets; then = λ q. step; same = λ q. absurd (grind arith) }

  -- and one that it turns away
  pub refused : (f : TraceFault) → lock_refusal e.kind e.thread (holders table e.subject) ≡ Some (trace_number f) → LocksTurned table e (Err f) table
  refused f is = record { answer = sym is; then = λ q. absurd (grind arith); same = λ q. refl }

  -- what touches no lock leaves the table as it is
  pub turned_off : on_lock e.kind ≡ false → LocksTurned table e (Ok tt) table
  turned_off is = of_kind e.kind refl is
    where
      of_kind : (k : Kind) → e.kind ≡ k → on_lock k ≡ false → LocksTurned table e (Ok tt) table
      of_kind Read q a = turned table (rw q refl) (λ l. rw q refl)
      of_kind Write q a = turned table (rw q refl) (λ l. rw q refl)
      of_kind Acquire q a = absurd (grind arith)
      of_kind Release q a = absurd (grind arith)
      of_kind Spawn q a = turned table (rw q refl) (λ l. rw q refl)
      of_kind Join q a = turned table (rw q refl) (λ l. rw q refl)

  -- the lock of an event is in the table
  acquire_within : e.kind ≡ Acquire → e.subject < length table.holders
  acquire_within q = let s = rw q at e.known_subject in let w = table.whole in omega arith

  release_within : e.kind ≡ Release → e.subject < length table.holders
  release_within q = let s = rw q at e.known_subject in let w = table.whole in omega arith

  module _ (next : LockTable) (o : Option Hold) (was : get_or table.holders e.subject None ≡ o) where
    -- a lock is acquired that is free, or that its thread holds
    pub turned_acquire : (h : Hold) → e.kind ≡ Acquire → lock_refusal Acquire e.thread o ≡ None → Some h ≡ entered e.thread o
        → next.holders ≡ set table.holders e.subject (Some h) → LocksTurned table e (Ok tt) next
    turned_acquire h kind lets new is =
        turned next (rw (kind, was) lets)
        (λ l. rw (kind, is, was, ← new) (put_entry table.holders e.subject (Some h) None l (acquire_within kind)))

    -- a lock is released by its holder
    pub turned_release : e.kind ≡ Release → lock_refusal Release e.thread o ≡ None → next.holders ≡ set table.holders e.subject (left o)
        → LocksTurned table e (Ok tt) next
    turned_release kind lets is =
        turned next (rw (kind, was) lets)
        (λ l. rw (kind, is, was) (put_entry table.holders e.subject (left o) None l (release_within kind)))
