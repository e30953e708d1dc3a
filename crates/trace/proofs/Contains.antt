-- A sync-preserving correct reordering that leaves some events enabled has all positions of the closure of their seeds.
use Rattle.std.proofs.Common.{◌≡◌, ℕ, ◌<◌, List, sym, refl, ⊎_elim, arith}
use mathlib.Core.List.Memᴰ
use mathlib.Core.List.{Memᴰ}
use Rattle.std.proofs.lemmas.Bool.{cases_order}
use Rattle.trace.specs.declared.event.Event.{Event}
use Rattle.trace.specs.Traces.{At, Outer, EarlierInThread, Previous, LastWrite, ReleaseOf}
use Rattle.trace.specs.Reorderings.{Correct, SyncPreserving, Enabled, Leaves}
use Rattle.trace.specs.Cuts.{Positions, In, Cut, Closed, Closure, ThreadWants, SyncWants, SeedsOf}
use Rattle.trace.specs.Cuts.SyncWants.{of_threads, last_write, earlier_release}
use Rattle.trace.specs.Cuts.ThreadWants.{spawn, awaited_spawn, awaited_last}
use Rattle.trace.specs.Traces.Previous.{in_thread, by_spawn}
use Rattle.trace.proofs.Events.{at_inside}
use Rattle.trace.proofs.Places.{Stands, at_split, stands, is_member, of_front, in_front, in_back, Side, side, before, here, behind, members, member_in, in_member}
use Rattle.trace.proofs.Picked.{admits_before, allowed_at}
use Rattle.trace.proofs.Owning.{correct_orderly, orderly_front}
use Rattle.trace.proofs.Releases.{release_among}

module _ (t : List Event) (σ : List ℕ) (correct : Correct t σ) where
  -- two laws of a correct reordering, at a place of it
  once : {k : ℕ} (s : Stands k σ) → Memᴰ k s.front → ⊥
  once {k} s = correct.once s.front s.back k s.split

  earlier_in_front : {d k : ℕ} (s : Stands k σ) → EarlierInThread t d k → Memᴰ d s.front
  earlier_in_front {d} {k} s = correct.thread_prefix s.front s.back d k s.split

  -- its positions are a cut
  members_cut : Cut t (members σ)
  members_cut = record {
    in_trace = λ k h. let i = correct.in_trace k (in_member k σ h) in at_inside t k i.0 i.1;
    first_events = λ d k h g. let s = stands (in_member k σ g) in member_in (of_front s (earlier_in_front s h));
  }

  -- the events of one thread stand in the order of the trace
  thread_order : {d k : ℕ} (s : Stands k σ) (e f : Event) → Memᴰ d s.front → At t d e → At t k f → e.thread ≡ f.thread → d < k
  thread_order {d} {k} s e f i j o q = ⊎_elim (λ u. absurd (once s (Memᴰ.cast (sym u) i))) (⊎_elim (λ g. g) (λ g. absurd (once s (turned g))))
      (cases_order d k)
    where
      p : Stands d s.front
      p = stands i

      turned : k < d → Memᴰ k s.front
      turned g = of_front p (earlier_in_front (in_front s p) (record { before = g; first = f; second = e; first_is = o; second_is = j; same_thread = sym q }))

  -- it has the last write of each of its reads
  has_write : (k w : ℕ) → Memᴰ k σ → LastWrite t k w → Memᴰ w σ
  has_write k w i l =
      let s = stands i in
      let u = (correct.reads s.front s.back k l.read s.split l.read_is l.is_read w).1 l in
      of_front s (is_member (at_split u.front u.back u.stands))

  -- it has the release of an outer acquire a that stands before another outer acquire b of the lock
  has_release : {a b : ℕ} (w : ℕ) (s : Stands b σ) (e f : Event) → Memᴰ a s.front → Outer t a e → Outer t b f → e.subject ≡ f.subject → ReleaseOf t a w
      → Memᴰ w σ
  has_release {a} {b} w s e f member o p same rel =
      let order = correct_orderly t σ correct in
      of_front s (release_among t s.front (orderly_front t σ order s) (admits_before t s f p.is correct.admitted) b f p (order.in_turn s)
      (allowed_at t s f p.is correct.admitted) a w e member o same rel)

  -- it has what its events want of threads
  threads_closed : (w : ℕ) → ThreadWants t (members σ) w → In w (members σ)
  threads_closed w (spawn {k} h r) = let s = stands (in_member k σ h) in member_in (of_front s (correct.spawns s.front s.back w k s.split r))
  threads_closed w (awaited_spawn {k} h r) = let s = stands (in_member k σ h) in member_in (of_front s (correct.awaited_spawns s.front s.back w k s.split r))
  threads_closed w (awaited_last {k} h r) =
      let s = stands (in_member k σ h) in member_in (of_front s (correct.awaited_events s.front s.back w k s.split r.awaited))

  module _ (sync : SyncPreserving t σ) where
    -- of two outer acquires of one lock, the earlier stands before the later
    acquire_order : {a b : ℕ} (s : Stands b σ) (e f : Event) → Memᴰ a σ → a < b → Outer t a e → Outer t b f → e.subject ≡ f.subject → Memᴰ a s.front
    acquire_order {a} {b} s e f i h j o v = of_side (side s i)
      where
        of_side : Side a b s.front s.back → Memᴰ a s.front
        of_side (before k) = k
        of_side (here k) = absurd (omega arith)
        of_side (behind k) =
            let p = in_back s (stands k) in
            let turned = sync.in_order p.front p.back b a f e p.split (Memᴰ.append_right s.front (Memᴰ.head refl)) o j (sym v) in
            absurd (omega arith)

    -- so its positions are closed under the sync rule
    members_closed : Closed SyncWants t (members σ)
    members_closed w (of_threads h) = threads_closed w h
    members_closed w (last_write {k = k} h l) = member_in (has_write k w (in_member k σ h) l)
    members_closed w (earlier_release {a = a} {b = b} {e = e} {f = f} h g l i j v r) =
        let s = stands (in_member b σ g) in
        member_in (has_release w s e f (acquire_order s e f (in_member a σ h) l i j v) i j v r)

-- They hold the seeds too, so the least such cut lies among them.
pub contains : (t : List Event) (es ss : List ℕ) (c : Positions) (σ : List ℕ) → SeedsOf t es ss → Closure SyncWants t ss c → Leaves t es σ → (k : ℕ)
    → In k c → Memᴰ k σ
contains t es ss c σ seeds closure leaves k h = in_member k σ
    (closure.least (members σ) (members_cut t σ correct) (members_closed t σ correct leaves.sync) seeded k h)
  where
    open leaves use {correct}

    of_previous : {e s : ℕ} → Enabled t σ e → Previous t e s → In s (members σ)
    of_previous {s = s} enabled (in_thread h none) = member_in (enabled.ready s h)
    of_previous {s = s} enabled (by_spawn h none later) = member_in (enabled.spawned s h)

    seeded : (s : ℕ) → Memᴰ s ss → In s (members σ)
    seeded s i = let (e, j, previous) = seeds.sound s i in of_previous (leaves.enabled e j) previous
