-- In an admitted trace a thread has one spawn at most, before its events, and no event of a thread follows a join of it.
use Rattle.std.proofs.Common.{◌≡◌, ℕ, zero, suc, ◌<◌, Bool, true, false, ◌&&◌, ◌||◌, eqb, List, [], ◌∷◌, take, Some, None, Option, cond, ◌⊎◌, sym, refl, ap, ◌∙◌, subst, inl, inr, ⊎_elim, arith}
use mathlib.Core.List.Memᴰ
use mathlib.Core.List.{Memᴰ}
use Rattle.std.specs.List.{slice_get}
use Rattle.std.proofs.lemmas.Bool.{cases_order, both_ways, and_from, or_left, or_right, eq-eqb, false≢true}
use Rattle.trace.specs.declared.event.Event.{Event}
use Rattle.trace.specs.declared.life.Life.{Life}
use Rattle.trace.specs.declared.kind.Kind.{Kind}
use Rattle.trace.specs.declared.kind.Kind.TheVariants.{Spawn, Join}
use Rattle.trace.specs.Traces.{At, Standing, at_start, standing_after, ended_refusal, thread_refusal, Allowed, Admits}
use Rattle.trace.specs.ThreadTheorems.{SpawnsFirst, JoinsLast}
use Rattle.trace.proofs.Holders.{lets}
use Rattle.trace.proofs.Events.{at_same}
use Rattle.trace.proofs.Lives.{begins, names, ends, naming, joining, member_some, begun_after, named_after, joined_after}
use Rattle.trace.proofs.Releases.{allowed_in}

-- an earlier event is among those before a position
pub taken_member : (t : List Event) (m k : ℕ) (e : Event) → m < k → At t m e → Memᴰ e (take k t)
taken_member [] m k e b i = absurd (grind arith)
taken_member (x ∷ t) m zero e b i = absurd (omega arith)
taken_member (x ∷ t) zero (suc k) e b i = let q : x ≡ e = cc in Memᴰ.head (sym q)
taken_member (x ∷ t) (suc m) (suc k) e b i = Memᴰ.tail (taken_member t m k e (omega arith) i)

module _ (t : List Event) (ok : Admits t) (m k : ℕ) (e f : Event) (b : m < k) (i : At t m e) (j : At t k f) where
  abbrev before : Standing
  before = standing_after (take k t)

  there : Memᴰ e (take k t)
  there = taken_member t m k e b i

  -- what an earlier event makes known
  pub begun_before : (before.lives e.thread).begun ≡ true
  begun_before = begun_after e.thread at_start (take k t) ∙ member_some (begins e.thread) (take k t) e there (eq-eqb e.thread e.thread refl)

  pub named_before : (e.kind ≡ Spawn) ⊎ (e.kind ≡ Join) → (before.lives e.subject).named ≡ true
  named_before is = named_after e.subject at_start (take k t) ∙ member_some (names e.subject) (take k t) e there
      (and_from (naming e.kind) (eqb e.subject e.subject) (⊎_elim (λ q. ap naming q) (λ q. ap naming q) is) (eq-eqb e.subject e.subject refl))

  pub joined_before : e.kind ≡ Join → (before.lives e.subject).joined ≡ true
  joined_before is = joined_after e.subject at_start (take k t) ∙ member_some (ends e.subject) (take k t) e there
      (and_from (joining e.kind) (eqb e.subject e.subject) (ap joining is) (eq-eqb e.subject e.subject refl))

  -- no event of a joined thread comes later
  pub not_ended : e.kind ≡ Join → f.thread ≡ e.subject → ⊥
  not_ended is own =
      let known : (before.lives f.thread).joined ≡ true = ap (λ p. (before.lives p).joined) own ∙ joined_before is in
      let living = (lets before f (allowed_in t k f ok j)).living in
      let z = rw known at living in grind arith

  -- and no spawn of a thread that has an event or was named
  not_started : (life : Life) (thread subject : ℕ) → (life.begun ≡ true) ⊎ (life.named ≡ true) → thread_refusal Spawn thread subject life ≡ None → ⊥
  not_started life thread subject known q = ⊎_elim (λ h. let z = rw h at q in of_own (eqb thread subject) z)
      (λ h. let z = rw h at q in of_both (eqb thread subject) life.begun z) known
    where
      of_own : (b : Bool) → cond {A = Option ℕ} (b || true) (Some 14) None ≡ None → ⊥
      of_own true z = grind arith
      of_own false z = grind arith

      of_both : (b c : Bool) → cond {A = Option ℕ} (b || (c || true)) (Some 14) None ≡ None → ⊥
      of_both true c z = grind arith
      of_both false true z = grind arith
      of_both false false z = grind arith

  startable : f.kind ≡ Spawn → thread_refusal Spawn f.thread f.subject (before.lives f.subject) ≡ None
  startable is = subst (λ x. thread_refusal x f.thread f.subject (before.lives f.subject) ≡ None) is (lets before f (allowed_in t k f ok j)).startable

  pub not_begun : f.kind ≡ Spawn → e.thread ≡ f.subject → ⊥
  not_begun is own = not_started (before.lives f.subject) f.thread f.subject (inl (ap (λ p. (before.lives p).begun) (sym own) ∙ begun_before)) (startable is)

  pub not_named : f.kind ≡ Spawn → (e.kind ≡ Spawn) ⊎ (e.kind ≡ Join) → e.subject ≡ f.subject → ⊥
  not_named is kind own =
      not_started (before.lives f.subject) f.thread f.subject (inr (ap (λ p. (before.lives p).named) (sym own) ∙ named_before kind)) (startable is)

-- a spawn or a join is not of its own thread
module _ (t : List Event) (ok : Admits t) (k : ℕ) (f : Event) (j : At t k f) where
  abbrev life_then : Life
  life_then = (standing_after (take k t)).lives f.subject

  refusal_then : (x : Kind) → f.kind ≡ x → thread_refusal x f.thread f.subject life_then ≡ None
  refusal_then x is = subst (λ y. thread_refusal y f.thread f.subject life_then ≡ None) is (lets (standing_after (take k t)) f (allowed_in t k f ok j)).startable

  pub not_own_spawn : f.kind ≡ Spawn → f.thread ≡ f.subject → ⊥
  not_own_spawn is own = let z = rw (eq-eqb f.thread f.subject own) at (refusal_then Spawn is) in grind arith

  pub not_own_join : f.kind ≡ Join → f.thread ≡ f.subject → ⊥
  not_own_join is own = let z = rw (eq-eqb f.thread f.subject own) at (refusal_then Join is) in grind arith

pub spawns_first : SpawnsFirst
spawns_first t ok s k e f i j spawn = (
  λ own. ⊎_elim (λ q. absurd (at_one q own)) (⊎_elim (λ b. b) (λ b. absurd (not_begun t ok k s f e b j i spawn own))) (cases_order s k),
  λ kind same. ⊎_elim (λ q. sym q) (⊎_elim (λ b. absurd (not_named t ok s k e f b i j kind (inl spawn) (sym same)))
      (λ b. absurd (not_named t ok k s f e b j i spawn (inl kind) same))) (cases_order s k),
)
  where
    at_one : s ≡ k → f.thread ≡ e.subject → ⊥
    at_one q own =
        let one : f ≡ e = at_same t k f e j (subst (λ m. At t m e) q i) in
        not_own_spawn t ok s e i spawn (ap (λ (x : Event). x.thread) (sym one) ∙ own)

pub joins_last : JoinsLast
joins_last t ok k m f e j i join own = ⊎_elim (λ q. absurd (at_one q)) (⊎_elim (λ b. b) (λ b. absurd (not_ended t ok k m f e b j i join own))) (cases_order m k)
  where
    at_one : m ≡ k → ⊥
    at_one q =
        let one : e ≡ f = at_same t k e f (subst (λ x. At t x e) q i) j in
        not_own_join t ok k f j join (ap (λ (x : Event). x.thread) (sym one) ∙ own)
