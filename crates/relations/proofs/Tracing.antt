-- The examples of the trace check, the lookups, the table and the reel.
use Rattle.std.proofs.Common.{◌≡◌, ℕ, T, true, false, cond, eqb, [], ◌∷◌, replicate, slice_index_or, Some, None, Option, Ok, Result, sym, refl, ap, ◌∙◌, arith, nat_lt, lit<}
use Rattle.std.proofs.lemmas.Option.{none-some}
use Rattle.trace.specs.declared.kind.Kind.TheVariants.{Acquire}
use Rattle.trace.specs.declared.event.Event.{Event}
use Rattle.trace.specs.declared.check.TraceCheck.{TraceCheck}
use Rattle.trace.specs.declared.locks.TraceFault.{TraceFault}
use Rattle.trace.specs.declared.locks.TraceFault.TheVariants.{AlreadyHeld}
use Rattle.trace.specs.Traces.{At, turn, begin, name, or_else, ended_refusal, depth_at, ReleaseOf}
use Rattle.trace.specs.Lookups.{Finds}
use Rattle.trace.specs.Checks.{Tells, Turned}
use Rattle.trace.specs.Limits.{locks, threads}
use Rattle.trace.specs.Threads.{unknown, lives, life_refusal}
use Rattle.trace.specs.Locks.{holders}
use Rattle.trace.proofs.Lookups.{previous_found, last_write_found, release_found}
use Rattle.trace.specs.declared.life.Life.{Life}
use Rattle.trace.proofs.Checks.{turned_both, refused}
use Rattle.trace.proofs.LockTables.{starts_empty, put_entry}
use Rattle.trace.proofs.ThreadTables.{starts_unknown}
use Rattle.cases.specs.Examples.{event, sections_between, read_between, inner_section, worker_awaited}
use Rattle.relations.specs.Traces.{at_first, held_by, NoSecondHolder, NoneJoined, SpawnedOnce, PreviousLatest, PreviousSpawn, LastWriteOfVariable, ReleaseOfThread, ReleaseFrees, TableChanges, HeldTurnedAway, TakenWithRoom}

pub no_second_holder : NoSecondHolder
no_second_holder h = none-some 5 (sym h.1.0)

pub none_joined : NoneJoined
none_joined h = none-some 15 (sym h.1.1.0)

pub spawned_once : SpawnedOnce
spawned_once h = none-some 14 (sym h.1.0)

-- what a lookup finds stands in the relation, and no other position does
found_alone : (o : Option ℕ) (R : ℕ → Type 0) → Finds o R → (p k : ℕ) → o ≡ Some p → (p ≡ k → ⊥) → R p × (R k → ⊥)
found_alone o R finds p k is other =
    ((finds.0 p).0 is, λ h. let e : Some p ≡ Some k = sym is ∙ (finds.0 k).1 h in other (grind arith))

pub previous_latest : PreviousLatest
previous_latest = found_alone _ _ (previous_found sections_between 5) 4 3 refl (λ e. omega arith)

pub previous_spawn : PreviousSpawn
previous_spawn = found_alone _ _ (previous_found worker_awaited 2) 1 0 refl (λ e. omega arith)

pub last_write_of_variable : LastWriteOfVariable
last_write_of_variable = found_alone _ _ (last_write_found read_between 2) 1 0 refl (λ e. omega arith)

pub release_of_thread : ReleaseOfThread
release_of_thread = found_alone _ _ (release_found sections_between 1 (event Acquire 0 0 tt tt) refl refl) 2 4 refl (λ e. omega arith)

pub release_frees : ReleaseFrees
release_frees = (
  record { is = refl; is_acquire = refl; outside = refl },
  λ o. inner_one o.is o.outside,
  frees.0,
  frees.1,
)
  where
    frees : ReleaseOf inner_section 0 4 × (ReleaseOf inner_section 0 2 → ⊥)
    frees = found_alone _ _ (release_found inner_section 0 (event Acquire 0 0 tt tt) refl refl) 4 2
        refl (λ e. omega arith)

    inner_one : At inner_section 1 (event Acquire 0 0 tt tt) → depth_at inner_section 1 (event Acquire 0 0 tt tt) ≡ 0 → ⊥
    inner_one i d = omega arith

-- at first no thread holds a lock, and nothing is known of any
pub first_tells : Tells at_first []
first_tells = record { holders = starts_empty; lives = starts_unknown }

-- a free lock is acquired
module _ (thread : ℕ) (known : T (nat_lt thread threads)) where
  acquired : let r : Result (Unit {0}) TraceFault = Ok tt in Turned at_first (event Acquire thread 0 known tt) r (held_by thread)
  acquired = turned_both at_first (event Acquire thread 0 known tt) (held_by thread) alive refl holds begins
    where
      alive : None ≡ life_refusal (lives at_first.threads) (event Acquire thread 0 known tt)
      alive = sym (ap (λ (l : Life). or_else (ended_refusal l) None) (starts_unknown thread))

      holds : (l : ℕ) → holders (held_by thread).locks l ≡ turn Acquire thread 0 (holders at_first.locks) l
      holds l = put_entry (replicate locks None) 0 (Some (record { thread = thread; depth = 1 })) None l (lit< tt)

      begins : (p : ℕ) → lives (held_by thread).threads p ≡ name Acquire 0 (begin thread (lives at_first.threads)) p
      begins p =
          put_entry (replicate threads unknown) thread (record { begun = true; named = false; joined = false }) unknown p (lit< known)
          ∙ ap (λ (l : Life). cond (eqb p thread) (record l { begun = true }) (lives at_first.threads p)) (sym (starts_unknown thread))

  pub held_tells : Tells (held_by thread) (event Acquire thread 0 known tt ∷ [])
  held_tells = acquired.tells [] first_tells

-- none tells of both
pub table_stays : (check : TraceCheck) → Tells check [] → Tells check (event Acquire 0 0 tt tt ∷ []) → ⊥
table_stays check a b = none-some _ (sym (a.holders 0) ∙ b.holders 0)

pub table_changes : TableChanges
table_changes = (first_tells, held_tells 0 tt, table_stays)

pub held_turned_away : HeldTurnedAway
held_turned_away = (
  acquired 0 tt,
  refused (held_by 0) (event Acquire 1 0 tt tt) AlreadyHeld refl,
  λ check next tells h. none-some 5 (h.answer (event Acquire 0 0 tt tt ∷ []) tells),
  λ h. none-some _ (ap (λ (c : TraceCheck). slice_index_or c.locks.holders 0 None) (h.same refl)),
  λ h. none-some 5 (sym (h.answer [] first_tells)),
)

pub taken_with_room : TakenWithRoom
taken_with_room = (record { answer = refl; events = refl }, λ h. let e = h.events in grind arith, λ after h. none-some 7 h.answer)
