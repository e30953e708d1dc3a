-- What becomes of the table of threads with one event.
use Rattle.std.proofs.Common.{◌≡◌, ℕ, ◌<◌, ◌≤◌, true, false, cond, eqb, List, length, get_or, set, replicate, sym, refl, ap, ◌∙◌, ⊎_elim, arith}
use Rattle.std.proofs.lemmas.Bool.{cases_lt}
use Rattle.std.proofs.lemmas.List.{length-set, get_or-replicate, get_or_past}
use Rattle.trace.specs.declared.event.Event.{Event}
use Rattle.trace.specs.declared.life.Life.{Life}
use Rattle.trace.specs.declared.kind.Kind.{Kind}
use Rattle.trace.specs.declared.kind.Kind.TheVariants.{Read, Write, Acquire, Release, Spawn, Join}
use Rattle.trace.specs.declared.threads.ThreadTable.{ThreadTable}
use Rattle.trace.specs.Limits.{threads}
use Rattle.trace.specs.Traces.{begin, name}
use Rattle.trace.specs.Threads.{unknown, lives}
use Rattle.trace.proofs.LockTables.{put_entry}
use Rattle.trace.proofs.Holders.{same_name}

-- a table of unknown threads has nothing of any
pub starts_unknown : (p : ℕ) → get_or (replicate threads unknown) p unknown ≡ unknown
starts_unknown p =
    ⊎_elim (λ (h : p < threads). get_or-replicate threads p unknown unknown h)
    (λ (h : threads ≤ p). get_or_past (replicate threads unknown) p unknown h) (cases_lt p threads)

module _ (table : ThreadTable) (e : Event) where
  -- the thread of an event is in the table
  own_within : e.thread < length table.lives
  own_within = let w = table.whole in omega (arith, e.known_thread)

  begun : List Life
  begun = set table.lives e.thread (record (get_or table.lives e.thread unknown) { begun = true })

  -- it has an event then
  begins : (p : ℕ) → get_or begun p unknown ≡ begin e.thread (lives table) p
  unfolding begun
  begins p = put_entry table.lives e.thread (record (get_or table.lives e.thread unknown) { begun = true }) unknown p own_within
