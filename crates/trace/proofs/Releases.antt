-- In an admitted trace an outer acquire finds its lock free, so the release of an earlier acquire of the lock stands before it; and likewise in a
-- list of positions.
use Rattle.std.proofs.Common.{◌≡◌, ℕ, suc, ◌<◌, List, [], ◌∷◌, take, None, sym, refl, ap, ◌∙◌, subst, arith}
use mathlib.Core.List.{Memᴰ}
use Rattle.trace.specs.declared.event.Event.{Event}
use Rattle.trace.specs.declared.kind.Kind.TheVariants.{Acquire}
use Rattle.trace.specs.Traces.{At, at_start, standing_after, lock_refusal, Allowed, Admits, depth, Outer, ReleaseOf}
use Rattle.trace.specs.Reorderings.{picked}
use Rattle.trace.proofs.Holders.{admits_append, admits_take, lets}
use Rattle.trace.proofs.Depths.{held_as_deep, held_deep, acquire_outside}
use Rattle.trace.proofs.Events.{at_same}
use Rattle.trace.proofs.Sections.{take_next, freed_before, release_only}
use Rattle.trace.proofs.Owning.{InTurn, Orderly, owned, depth_in_turn}

-- an event of an admitted trace is allowed after those before it
pub allowed_in : (t : List Event) (k : ℕ) (e : Event) → Admits t → At t k e → Allowed (standing_after (take k t)) e
allowed_in t k e ok i = ((admits_append at_start (take k t) (e ∷ [])).0 (rw (take_next t k e i) at (admits_take t (suc k) ok))).1.0

module _ (us : List Event) (ok : Admits us) (f : Event) (allowed : Allowed (standing_after us) f) (kind : f.kind ≡ Acquire)
    (out : depth f.thread f.subject us ≡ 0) where
  lock_lets : lock_refusal Acquire f.thread ((standing_after us).holders f.subject) ≡ None
  lock_lets = subst (λ x. lock_refusal x f.thread ((standing_after us).holders f.subject) ≡ None) kind (lets (standing_after us) f allowed).lock

  -- an acquire that is allowed to a thread outside the lock finds the lock free
  pub free_then : (standing_after us).holders f.subject ≡ None
  free_then = acquire_outside f.thread _ lock_lets (held_as_deep us ok f.thread f.subject ∙ out) (held_deep us ok f.subject)

  -- so no thread is in the lock
  pub none_in : (q : ℕ) → depth q f.subject us ≡ 0
  none_in q = sym (held_as_deep us ok q f.subject) ∙ rw free_then refl

-- before an outer acquire of an admitted trace its lock is free, and no thread is in it
pub free_before : (t : List Event) (b : ℕ) (f : Event) → Admits t → Outer t b f → (standing_after (take b t)).holders f.subject ≡ None
free_before t b f ok o = free_then (take b t) (admits_take t b ok) f (allowed_in t b f ok o.is) o.is_acquire o.outside

pub none_before : (t : List Event) (b : ℕ) (f : Event) → Admits t → Outer t b f → (q : ℕ) → depth q f.subject (take b t) ≡ 0
none_before t b f ok o = none_in (take b t) (admits_take t b ok) f (allowed_in t b f ok o.is) o.is_acquire o.outside

module _ (t : List Event) (a b : ℕ) (e f : Event) (ok : Admits t) (order : a < b) (o : Outer t a e) (p : Outer t b f)
    (same : e.subject ≡ f.subject) where
  -- of two outer acquires of one lock, the first has a release, and before the second
  pub release_between : (r : ℕ) × ReleaseOf t a r × (r < b)
  release_between = freed_before t a e o.is o.is_acquire b order (rw same (none_before t b f ok p e.thread))

  -- so its release stands before the second
  pub release_before_next : (r : ℕ) → ReleaseOf t a r → r < b
  release_before_next r h =
      let (x, is, before) = release_between in
      let one : r ≡ x = release_only t a e o.is o.is_acquire r x h is in
      omega arith

-- of an outer acquire among positions after which another of the lock may come next, the release is among them
pub release_among : (t : List Event) (xs : List ℕ) → Orderly t xs → Admits (picked t xs) → (b : ℕ) (f : Event) → Outer t b f → InTurn t xs b
    → Allowed (standing_after (picked t xs)) f → (a w : ℕ) (e : Event) → Memᴰ a xs → Outer t a e → e.subject ≡ f.subject → ReleaseOf t a w
    → Memᴰ w xs
release_among t xs order ok b f p turn allowed a w e member o same rel =
    let (n, own) = owned t e.thread xs order in
    let out = depth_in_turn t xs b f order p.is turn f.subject ∙ p.outside in
    let none = rw (← same) at (none_in (picked t xs) ok f allowed p.is_acquire out e.thread) in
    let (r, is, before) = freed_before t a e o.is o.is_acquire n (own.only a e o.is refl member) (sym (own.depths e.subject) ∙ none) in
    let one : w ≡ r = release_only t a e o.is o.is_acquire w r rel is in
    let its : rel.release.thread ≡ e.thread = rel.same_thread ∙ ap (λ (x : Event). x.thread) (at_same t a rel.acquire e rel.acquire_is o.is) in
    own.has w rel.release rel.frees.is its (omega arith)
