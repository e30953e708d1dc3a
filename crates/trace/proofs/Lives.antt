-- What is known of a thread after some events: that it has one, that a spawn or a join named it, that a join did, just where there is such an event.
use Rattle.std.proofs.Common.{◌≡◌, ℕ, Bool, true, false, ◌&&◌, ◌||◌, cond, eqb, ◌⊎◌, List, [], ◌∷◌, sym, refl, ap, ◌∙◌, inl, inr, ⊎_elim, arith}
use mathlib.Core.List.Memᴰ
use mathlib.Core.List.{Memᴰ}
use Rattle.std.proofs.lemmas.Bool.{cases_eq, eq-eqb, ne_eqb, eqb-true, and_parts, and_from, or_cases, or_left, or_right, false≢true}
use Rattle.trace.specs.declared.event.Event.{Event}
use Rattle.trace.specs.declared.life.Life.{Life}
use Rattle.trace.specs.declared.kind.Kind.{Kind}
use Rattle.trace.specs.declared.kind.Kind.TheVariants.{Read, Write, Acquire, Release, Spawn, Join}
use Rattle.trace.specs.Traces.{Lives, Standing, at_start, begin, name, after_event, after, standing_after}

-- whether a kind is a spawn or a join, and whether it is a join
abbrev pub naming : Kind → Bool
naming Read = false
naming Write = false
naming Acquire = false
naming Release = false
naming Spawn = true
naming Join = true

abbrev pub joining : Kind → Bool
joining Read = false
joining Write = false
joining Acquire = false
joining Release = false
joining Spawn = false
joining Join = true

-- an event of the thread, a spawn or a join of it, and a join of it
abbrev pub begins : ℕ → Event → Bool
begins p e = eqb p e.thread

abbrev pub names : ℕ → Event → Bool
names p e = naming e.kind && eqb p e.subject

abbrev pub ends : ℕ → Event → Bool
ends p e = joining e.kind && eqb p e.subject

-- whether some event of a list passes a test
abbrev pub some : (Event → Bool) → List Event → Bool
some test [] = false
some test (e ∷ es) = test e || some test es

pub some_member : (test : Event → Bool) (es : List Event) → some test es ≡ true → (e : Event) × Memᴰ e es × (test e ≡ true)
some_member test [] h = absurd (false≢true h)
some_member test (e ∷ es) h = ⊎_elim (λ q. (e, Memᴰ.head refl, q)) (λ q. let r = some_member test es q in (r.0, Memᴰ.tail r.1, r.2)) (or_cases (test e) (some test es) h)

pub member_some : (test : Event → Bool) (es : List Event) (e : Event) → Memᴰ e es → test e ≡ true → some test es ≡ true
member_some test [] e m h = absurd (Memᴰ.not-nil m)
member_some test (x ∷ es) e (Memᴰ.head q) h = or_left (test x) (some test es) (ap test (sym q) ∙ h)
member_some test (x ∷ es) e (Memᴰ.tail m) h = or_right (test x) (some test es) (member_some test es e m h)

or_true : (b : Bool) → true ≡ (b || true)
or_true true = refl
or_true false = refl

or_false : (b : Bool) → b ≡ (b || false)
or_false true = refl
or_false false = refl

-- a field of what is known of a thread, where it is marked at one thread: there it is true, and elsewhere as before
module _ (lives : Lives) (q p : ℕ) where
  begun_by : (begin q lives p).begun ≡ ((lives p).begun || eqb p q)
  begun_by = ⊎_elim (λ same. rw (eq-eqb p q same) (or_true (lives p).begun)) (λ n. rw (ne_eqb p q n) (or_false (lives p).begun)) (cases_eq p q)

  named_still : (begin q lives p).named ≡ (lives p).named
  named_still = ⊎_elim (λ same. rw (eq-eqb p q same) (ap (λ m. (lives m).named) (sym same))) (λ n. rw (ne_eqb p q n) refl) (cases_eq p q)

  joined_still : (begin q lives p).joined ≡ (lives p).joined
  joined_still = ⊎_elim (λ same. rw (eq-eqb p q same) (ap (λ m. (lives m).joined) (sym same))) (λ n. rw (ne_eqb p q n) refl) (cases_eq p q)

module _ (k : Kind) (x : ℕ) (lives : Lives) (p : ℕ) where
  begun_named : (name k x lives p).begun ≡ (lives p).begun
  begun_named = of_kind k
    where
      of_kind : (k : Kind) → (name k x lives p).begun ≡ (lives p).begun
      of_kind Read = refl
      of_kind Write = refl
      of_kind Acquire = refl
      of_kind Release = refl
      of_kind Spawn = ⊎_elim (λ same. rw (eq-eqb p x same) (ap (λ m. (lives m).begun) (sym same))) (λ n. rw (ne_eqb p x n) refl) (cases_eq p x)
      of_kind Join = ⊎_elim (λ same. rw (eq-eqb p x same) (ap (λ m. (lives m).begun) (sym same))) (λ n. rw (ne_eqb p x n) refl) (cases_eq p x)

  named_by : (name k x lives p).named ≡ ((lives p).named || (naming k && eqb p x))
  named_by = of_kind k
    where
      of_kind : (k : Kind) → (name k x lives p).named ≡ ((lives p).named || (naming k && eqb p x))
      of_kind Read = or_false (lives p).named
      of_kind Write = or_false (lives p).named
      of_kind Acquire = or_false (lives p).named
      of_kind Release = or_false (lives p).named
      of_kind Spawn = ⊎_elim (λ same. rw (eq-eqb p x same) (or_true (lives p).named)) (λ n. rw (ne_eqb p x n) (or_false (lives p).named)) (cases_eq p x)
      of_kind Join = ⊎_elim (λ same. rw (eq-eqb p x same) (or_true (lives p).named)) (λ n. rw (ne_eqb p x n) (or_false (lives p).named)) (cases_eq p x)

  joined_by : (name k x lives p).joined ≡ ((lives p).joined || (joining k && eqb p x))
  joined_by = of_kind k
    where
      of_kind : (k : Kind) → (name k x lives p).joined ≡ ((lives p).joined || (joining k && eqb p x))
      of_kind Read = or_false (lives p).joined
      of_kind Write = or_false (lives p).joined
      of_kind Acquire = or_false (lives p).joined
      of_kind Release = or_false (lives p).joined
      of_kind Spawn = ⊎_elim (λ same. rw (eq-eqb p x same) (ap (λ m. (lives m).joined) (sym same) ∙ or_false (lives p).joined)) (λ n. rw (ne_eqb p x n) (or_false (lives p).joined)) (cases_eq p x)
      of_kind Join = ⊎_elim (λ same. rw (eq-eqb p x same) (or_true (lives p).joined)) (λ n. rw (ne_eqb p x n) (or_false (lives p).joined)) (cases_eq p x)

-- what is known after one event more, and after some events
known_chain : (a b c d : Bool) → b ≡ (a || c) → (b || d) ≡ (a || (c || d))
known_chain true b c d q = rw q refl
known_chain false b c d q = rw q refl

module _ (p : ℕ) where
  pub begun_after : (s : Standing) (es : List Event) → ((after s es).lives p).begun ≡ ((s.lives p).begun || some (begins p) es)
  begun_after s [] = or_false (s.lives p).begun
  begun_after s (e ∷ es) =
      begun_after (after_event s e) es
      ∙ known_chain (s.lives p).begun ((after_event s e).lives p).begun (begins p e) (some (begins p) es)
      (begun_named e.kind e.subject (begin e.thread s.lives) p ∙ begun_by s.lives e.thread p)

  pub named_after : (s : Standing) (es : List Event) → ((after s es).lives p).named ≡ ((s.lives p).named || some (names p) es)
  named_after s [] = or_false (s.lives p).named
  named_after s (e ∷ es) =
      named_after (after_event s e) es
      ∙ known_chain (s.lives p).named ((after_event s e).lives p).named (names p e) (some (names p) es)
      (named_by e.kind e.subject (begin e.thread s.lives) p ∙ ap (λ b. b || names p e) (named_still s.lives e.thread p))

  pub joined_after : (s : Standing) (es : List Event) → ((after s es).lives p).joined ≡ ((s.lives p).joined || some (ends p) es)
  joined_after s [] = or_false (s.lives p).joined
  joined_after s (e ∷ es) =
      joined_after (after_event s e) es
      ∙ known_chain (s.lives p).joined ((after_event s e).lives p).joined (ends p e) (some (ends p) es)
      (joined_by e.kind e.subject (begin e.thread s.lives) p ∙ ap (λ b. b || ends p e) (joined_still s.lives e.thread p))

-- what is known of a thread after some events is known after any events that have these among them
pub record LessKnown (a b : Life) : Type 0 where
  pub begun : a.begun ≡ true → b.begun ≡ true
  pub named : a.named ≡ true → b.named ≡ true
  pub joined : a.joined ≡ true → b.joined ≡ true

pub less_known : (es fs : List Event) → ((e : Event) → Memᴰ e es → Memᴰ e fs) → (p : ℕ)
    → LessKnown ((standing_after es).lives p) ((standing_after fs).lives p)
less_known es fs among p = record {
  begun = λ h. begun_after p at_start fs ∙ more (begins p) (sym (begun_after p at_start es) ∙ h);
  named = λ h. named_after p at_start fs ∙ more (names p) (sym (named_after p at_start es) ∙ h);
  joined = λ h. joined_after p at_start fs ∙ more (ends p) (sym (joined_after p at_start es) ∙ h);
}
  where
    more : (test : Event → Bool) → some test es ≡ true → some test fs ≡ true
    more test h = let (e, m, q) = some_member test es h in member_some test fs e (among e m) q
