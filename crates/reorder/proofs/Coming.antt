-- The list of positions stays a sync-preserving correct reordering with just those positions more that may come next.
use Rattle.std.proofs.Common.{◌≡◌, ◌≢◌, ℕ, true, ◌<◌, ◌↔◌, List, [], ◌∷◌, ◌++◌, sym, subst, ⊎_elim, arith}
use mathlib.Core.List.Memᴰ
use mathlib.Core.List.{Memᴰ}
use mathlib.Core.Bool.{Bool-set}
use Rattle.std.proofs.lemmas.Bool.{cases_eq}
use Rattle.std.proofs.Math.Logic.{∥∥₁_elim}
use Rattle.std.proofs.Props.{props}
use Rattle.std.proofs.lemmas.Grind.{merely}
use Rattle.trace.specs.declared.event.Event.{Event}
use Rattle.trace.specs.declared.kind.Kind.TheVariants.{Read}
use Rattle.trace.specs.Traces.{At, Outer, EarlierInThread, SpawnOf, AwaitedSpawn, AwaitedEvent, Previous, LastWrite}
use Rattle.trace.specs.Traces.Previous.{in_thread, by_spawn}
use Rattle.trace.specs.Reorderings.{LatestWrite, Correct, SyncPreserving, Enabled}
use Rattle.trace.proofs.Events.{at_same, earlier_between}
use Rattle.trace.proofs.Places.{Stands, stands, is_member, of_front, members, member_in, in_member}
use Rattle.trace.proofs.Lookups.{previous_from}
use Rattle.trace.proofs.Picked.{picked_push, allowed_at}
use Rattle.reorder.specs.Comes.{Reorders, Agrees, Comes}
use Rattle.reorder.proofs.Members.{push_cases, no_place, Place, place}
use Rattle.reorder.proofs.Members.Place.{last, within}

module _ (t : List Event) where
  -- a reordering that has the previous event of a position has all that its thread does before it
  pub ready_from : (xs : List ℕ) (k : ℕ) → ∥ Reorders t xs ∥₁ → ((d : ℕ) → Previous t k d → Memᴰ d xs) → (d : ℕ) → EarlierInThread t d k → Memᴰ d xs
  ready_from xs k old before d h =
      let (p, previous, earlier, b) = previous_from t d k h in
      let i = before p previous in
      let s = stands i in
      let between : (p ≢ d) → Reorders t xs → Memᴰ d xs = λ n r.
      of_front s (r.correct.thread_prefix s.front s.back d p s.split (earlier_between t d p k h earlier (omega arith))) in
      ⊎_elim (λ (q : p ≡ d). subst (λ (m : ℕ). Memᴰ m xs) q i)
      (λ n. in_member d xs (∥∥₁_elim old (Bool-set (members xs d) true) (λ r. member_in (between n r)))) (cases_eq p d)

  -- after it, an event is enabled if it is new and its previous event is in, and the spawns of its thread
  pub enabled_from : (xs : List ℕ) (k : ℕ) → ∥ Reorders t xs ∥₁ → (Memᴰ k xs → ⊥) → ((d : ℕ) → Previous t k d → Memᴰ d xs)
      → ((s : ℕ) → SpawnOf t s k → Memᴰ s xs) → Enabled t xs k
  enabled_from xs k old new before spawns = record { outside = new; ready = ready_from xs k old before; spawned = spawns }

  -- and the previous event of one that is enabled is in
  pub previous_in : {xs : List ℕ} {k d : ℕ} → Enabled t xs k → Previous t k d → Memᴰ d xs
  previous_in {xs} {k} {d} e (in_thread h none) = e.ready d h
  previous_in {xs} {k} {d} e (by_spawn h none none_later) = e.spawned d h

  -- the empty list is a sync-preserving correct reordering
  pub reorders_none : Reorders t []
  reorders_none = record {
    correct = record {
      in_trace = λ k i. absurd (Memᴰ.not-nil i);
      once = λ xs ys k u. absurd (no_place xs ys k u);
      thread_prefix = λ xs ys d k u. absurd (no_place xs ys k u);
      spawns = λ xs ys d k u. absurd (no_place xs ys k u);
      awaited_spawns = λ xs ys d k u. absurd (no_place xs ys k u);
      awaited_events = λ xs ys d k u. absurd (no_place xs ys k u);
      admitted = tt;
      reads = λ xs ys k e u. absurd (no_place xs ys k u);
    };
    sync = record { in_order = λ xs ys a b e f u. absurd (no_place xs ys b u) };
  }

  module _ (xs : List ℕ) (k : ℕ) (old : Reorders t xs) (next : Comes t xs k) where
    -- what is known of k holds of the last place
    own : (m : ℕ) (f : Event) → m ≡ k → At t m f → next.event ≡ f
    own m f q i = at_same t k next.event f next.is (subst (λ (j : ℕ). At t j f) q i)

    agrees_last : (ys : List ℕ) (m : ℕ) (f : Event) → ys ≡ xs → m ≡ k → At t m f → Agrees t ys m f
    agrees_last ys m f p q i =
        subst (λ (zs : List ℕ). Agrees t zs m f) (sym p)
        (subst (λ (j : ℕ). Agrees t xs j f) (sym q) (subst (λ (e : Event). Agrees t xs k e) (own m f q i) next.agrees))

    correct_next : Correct t (xs ++ (k ∷ []))
    correct_next = record {
      in_trace = λ m i. ⊎_elim (ok.in_trace m) (λ (q : m ≡ k). (next.event, subst (λ (j : ℕ). At t j next.event) (sym q) next.is)) (push_cases xs i);
      once = λ ys zs m u i. once ys m (place xs k ys m zs u) i;
      thread_prefix = λ ys zs d m u h. prefix ys d m (place xs k ys m zs u) h;
      spawns = λ ys zs s m u h. spawns ys s m (place xs k ys m zs u) h;
      awaited_spawns = λ ys zs s m u h. awaited_spawns ys s m (place xs k ys m zs u) h;
      awaited_events = λ ys zs d m u h. awaited_events ys d m (place xs k ys m zs u) h;
      admitted = picked_push t xs k next.event next.is ok.admitted next.allowed;
      reads = λ ys zs m e u. reads ys m e (place xs k ys m zs u);
    }
      where
        ok : Correct t xs
        ok = old.correct

        once : {zs : List ℕ} (ys : List ℕ) (m : ℕ) → Place xs k ys m zs → Memᴰ m ys → ⊥
        once ys m (last p q r) i = next.enabled.outside (subst (λ (j : ℕ). Memᴰ j xs) q (subst (Memᴰ m) p i))
        once ys m (within back p q) i = ok.once ys back m p i

        prefix : {zs : List ℕ} (ys : List ℕ) (d m : ℕ) → Place xs k ys m zs → EarlierInThread t d m → Memᴰ d ys
        prefix ys d m (last p q r) h = subst (Memᴰ d) (sym p) (next.enabled.ready d (subst (EarlierInThread t d) q h))
        prefix ys d m (within back p q) h = ok.thread_prefix ys back d m p h

        spawns : {zs : List ℕ} (ys : List ℕ) (s m : ℕ) → Place xs k ys m zs → SpawnOf t s m → Memᴰ s ys
        spawns ys s m (last p q r) h = subst (Memᴰ s) (sym p) (next.enabled.spawned s (subst (SpawnOf t s) q h))
        spawns ys s m (within back p q) h = ok.spawns ys back s m p h

        awaited_spawns : {zs : List ℕ} (ys : List ℕ) (s m : ℕ) → Place xs k ys m zs → AwaitedSpawn t s m → Memᴰ s ys
        awaited_spawns ys s m (last p q r) h = subst (Memᴰ s) (sym p) (next.agrees.awaited_spawns s (subst (AwaitedSpawn t s) q h))
        awaited_spawns ys s m (within back p q) h = ok.awaited_spawns ys back s m p h

        awaited_events : {zs : List ℕ} (ys : List ℕ) (d m : ℕ) → Place xs k ys m zs → AwaitedEvent t d m → Memᴰ d ys
        awaited_events ys d m (last p q r) h = subst (Memᴰ d) (sym p) (next.agrees.awaited_events d (subst (AwaitedEvent t d) q h))
        awaited_events ys d m (within back p q) h = ok.awaited_events ys back d m p h

        reads : {zs : List ℕ} (ys : List ℕ) (m : ℕ) (e : Event) → Place xs k ys m zs → At t m e → e.kind ≡ Read → (w : ℕ)
            → LatestWrite t ys e.subject w ↔ LastWrite t m w
        reads ys m e (last p q r) i = (agrees_last ys m e p q i).reads
        reads ys m e (within back p q) i = ok.reads ys back m e p i

    sync_next : SyncPreserving t (xs ++ (k ∷ []))
    sync_next = record { in_order = λ ys zs a b e f u i o p q. in_order ys a b e f (place xs k ys b zs u) i o p q }
      where
        in_order : {zs : List ℕ} (ys : List ℕ) (a b : ℕ) (e f : Event) → Place xs k ys b zs → Memᴰ a ys → Outer t a e → Outer t b f
            → e.subject ≡ f.subject → a < b
        in_order ys a b e f (last p q r) i o u s = (agrees_last ys b f p q u.is).acquires u a i e o s
        in_order ys a b e f (within back p q) i o u s = old.sync.in_order ys back a b e f p i o u s

    -- with a position that may come next it stays one
    pub reorders_next : Reorders t (xs ++ (k ∷ []))
    reorders_next = record { correct = correct_next; sync = sync_next }

  -- so where it is known to be one
  pub reorders_more : (xs : List ℕ) (k : ℕ) → ∥ Reorders t xs ∥₁ → Comes t xs k → ∥ Reorders t (xs ++ (k ∷ [])) ∥₁
  reorders_more xs k old next = ∥∥₁_elim old (hlevel props) (λ r. merely (reorders_next xs k r next))

  -- and each of its positions may come next after those before it
  pub comes_at : {k : ℕ} {σ : List ℕ} → Reorders t σ → (s : Stands k σ) → Comes t s.front k
  comes_at {k} r s =
      let (e, i) = r.correct.in_trace k (is_member s) in
      record {
        event = e;
        is = i;
        enabled = record {
          outside = r.correct.once s.front s.back k s.split;
          ready = λ d. r.correct.thread_prefix s.front s.back d k s.split;
          spawned = λ d. r.correct.spawns s.front s.back d k s.split;
        };
        agrees = record {
          reads = r.correct.reads s.front s.back k e s.split i;
          acquires = λ u a m f o q. r.sync.in_order s.front s.back a k f e s.split m o u q;
          awaited_spawns = λ d. r.correct.awaited_spawns s.front s.back d k s.split;
          awaited_events = λ d. r.correct.awaited_events s.front s.back d k s.split;
        };
        allowed = allowed_at t s e i r.correct.admitted;
      }
