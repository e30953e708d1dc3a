-- The last writes of the reads of a cut, in one pass: a table has the last write so far to each variable, if that is outside the cut.
use Rattle.std.proofs.Common.{◌≡◌, ℕ, ◌+◌, ◌<◌, ◌≤◌, Bool, true, false, not, ◌&&◌, eqb, ◌⊎◌, List, length, get_or, set, replicate, is_some, Some, None, Option, sym, refl, ap, ◌∙◌, inl, inr, ⊎_elim, below_more, arith}
use Rattle.std.specs.Bool.{then_some}
use Rattle.std.specs.List.{slice_get}
use Rattle.std.proofs.lemmas.Bool.{cases_eq, true≢false, eq-eqb, ne_eqb}
use Rattle.std.proofs.lemmas.List.{length-set, get_or-set_same, get_or-set_other, get_or-replicate}
use Rattle.trace.specs.declared.event.Event.{Event}
use Rattle.trace.specs.declared.kind.Kind.{Kind}
use Rattle.trace.specs.declared.kind.Kind.TheVariants.{Read, Write, Acquire, Release, Spawn, Join}
use Rattle.trace.specs.Traces.{LastWrite}
use Rattle.trace.specs.Lookups.{fits_here, writing, writes, latest}
use Rattle.trace.specs.Cuts.{In}
use Rattle.trace.proofs.Events.{at_inside, at_same}
use Rattle.trace.proofs.Lookups.{last_write_found}
use Rattle.predict.specs.Held.{held, Misses}
use Rattle.predict.specs.Parts.{ReadWants}
use Rattle.predict.proofs.Bounds.{Below}
use Rattle.predict.proofs.Inside.{Seen, seen_at, seen_held}
use Rattle.predict.proofs.Finding.{latest_here, latest_skip, write_search}

-- no kind but Write writes
not_writing : (k : Kind) → (k ≡ Write → ⊥) → writing k ≡ false
not_writing Write h = absurd (h refl)
not_writing Read h = refl
not_writing Acquire h = refl
not_writing Release h = refl
not_writing Spawn h = refl
not_writing Join h = refl

module _ (t : List Event) (bs : List ℕ) where
  -- a position, if it is outside the cut
  abbrev outside_of : Option ℕ → Option ℕ
  outside_of None = None
  outside_of (Some w) = then_some (not (held t bs w)) w

  -- the read at k has its last write in the cut
  abbrev Settled : ℕ → Type 0
  Settled k = (w : ℕ) → In k (held t bs) → LastWrite t k w → In w (held t bs)

  -- what the pass knows at k
  pub record Pass (k : ℕ) (table : List (Option ℕ)) : Type 0 where
    pub whole : length table ≡ 1024
    pub noted : (x : ℕ) → x < 1024 → get_or table x None ≡ outside_of (latest (writes x) t k)
    pub settled : (m : ℕ) → m < k → Settled m

  pub pass_start : Pass 0 (replicate 1024 None)
  pass_start = record {
    whole = refl;
    noted = λ x b. get_or-replicate {A = Option ℕ} 1024 x None None b;
    settled = λ m b. absurd (omega arith);
  }

  -- a position with no write passes, if a read there is settled
  pass_no_write : (k : ℕ) (table : List (Option ℕ)) → ((x : ℕ) → fits_here (writes x) (slice_get t k) ≡ false) → Settled k → Pass k table → Pass (k + 1) table
  pass_no_write k table none here p = record {
    whole = p.whole;
    noted = λ x b. p.noted x b ∙ ap outside_of (sym (latest_skip (writes x) t k (none x)));
    settled = below_more Settled k p.settled here;
  }

  module _ (k : ℕ) (table : List (Option ℕ)) (e : Event) (b : Bool) (seen : Seen t bs k e b) (p : Pass k table) where
    not_write : (e.kind ≡ Write → ⊥) → (x : ℕ) → fits_here (writes x) (slice_get t k) ≡ false
    not_write other x = ap (fits_here (writes x)) (seen_at t bs seen) ∙ ap (λ c. c && eqb e.subject x) (not_writing e.kind other)

    not_read : (e.kind ≡ Read → ⊥) → Settled k
    not_read other w i l = absurd (other (ap (λ (f : Event). f.kind) (at_same t k e l.read (seen_at t bs seen) l.read_is) ∙ l.is_read))

    -- an event that is no access passes
    pub pass_other : (e.kind ≡ Read → ⊥) → (e.kind ≡ Write → ⊥) → Pass (k + 1) table
    pass_other no_read no_write = pass_no_write k table (not_write no_write) (not_read no_read) p

    -- a read passes that is outside, or has nothing noted
    pub pass_read : e.kind ≡ Read → (b ≡ true → is_some (get_or table e.subject None) ≡ false) → Pass (k + 1) table
    pass_read is free = pass_no_write k table (not_write (λ q. grind arith)) here p
      where
        inside : (w : ℕ) (c : Bool) → is_some {T = ℕ} (then_some (not c) w) ≡ false → c ≡ true
        inside w true h = refl
        inside w false h = absurd (true≢false h)

        here : Settled k
        here w i l =
            let few : e.subject < 1024 = rw is at e.known_subject in
            let last : latest (writes e.subject) t k ≡ Some w = sym (write_search t k e (seen_at t bs seen) is) ∙ ((last_write_found t k).0 w).1 l in
            inside w (held t bs w) (ap is_some (sym (p.noted e.subject few ∙ ap outside_of last)) ∙ free (sym (seen_held t bs seen) ∙ i))

    -- a write is noted, if it is outside
    pub pass_write : (o : Option ℕ) → e.kind ≡ Write → o ≡ then_some (not b) k → Pass (k + 1) (set table e.subject o)
    pass_write o is new = record {
      whole = length-set table e.subject o ∙ p.whole;
      noted = λ x low. ⊎_elim (own x) (other x low) (cases_eq x e.subject);
      settled = below_more Settled k p.settled (not_read (λ q. grind arith));
    }
      where
        few : e.subject < 1024
        few = rw is at e.known_subject

        test : (x : ℕ) (c : Bool) → eqb e.subject x ≡ c → fits_here (writes x) (slice_get t k) ≡ c
        test x c q = ap (fits_here (writes x)) (seen_at t bs seen) ∙ ap (λ w. w && eqb e.subject x) (ap writing is) ∙ q

        own : (x : ℕ) → x ≡ e.subject → get_or (set table e.subject o) x None ≡ outside_of (latest (writes x) t (k + 1))
        own x q =
            let same : get_or (set table e.subject o) x None ≡ o = rw q (get_or-set_same table e.subject o None (omega (arith, few, p.whole))) in
            let noted : o ≡ outside_of (Some k) = new ∙ ap (λ c. then_some (not c) k) (sym (seen_held t bs seen)) in
            same ∙ noted ∙ ap outside_of (sym (latest_here (writes x) t k (test x true (eq-eqb e.subject x (sym q)))))

        other : (x : ℕ) → x < 1024 → (x ≡ e.subject → ⊥) → get_or (set table e.subject o) x None ≡ outside_of (latest (writes x) t (k + 1))
        other x low q =
            get_or-set_other table e.subject x o None q ∙ p.noted x low
            ∙ ap outside_of (sym (latest_skip (writes x) t k (test x false (ne_eqb e.subject x (λ r. q (sym r))))))

    -- a read inside whose last write is noted: that one is missing
    pub pass_misses : e.kind ≡ Read → b ≡ true → true ≡ is_some (get_or table e.subject None) → Misses ReadWants t bs (get_or table e.subject None)
    pass_misses is i = go (get_or table e.subject None) (latest (writes e.subject) t k) (p.noted e.subject (rw is at e.known_subject)) refl
      where
        from : (w : ℕ) → latest (writes e.subject) t k ≡ Some w → held t bs w ≡ false → Misses ReadWants t bs (Some w)
        from w q out =
            let at = seen_at t bs seen in
            let l = ((last_write_found t k).0 w).0 (write_search t k e at is ∙ q) in
            record {
              outside = record { in_trace = at_inside t w l.write l.write_is; not_held = out };
              exact = λ ok. record { read = k; inside = seen_held t bs seen ∙ i; last_write = l };
            }

        out_of : (r w : ℕ) (c : Bool) → Some r ≡ then_some (not c) w → (c ≡ false) × (r ≡ w)
        out_of r w true q = absurd (grind arith)
        out_of r w false q = (refl, cc)

        go : (o last : Option ℕ) → o ≡ outside_of last → latest (writes e.subject) t k ≡ last → true ≡ is_some o → Misses ReadWants t bs o
        go None last q n h = absurd (true≢false h)
        go (Some r) None q n h = absurd (grind arith)
        go (Some r) (Some w) q n h = let (out, one) = out_of r w (held t bs w) q in rw one (from w n out)

  -- past all events of the cut nothing is missing
  pub pass_all : (k : ℕ) (table : List (Option ℕ)) → Below t bs k → Pass k table → Misses ReadWants t bs None
  pass_all k table b p = record { outside = tt; exact = λ ok w h. p.settled h.read (b h.read h.inside) w h.inside h.last_write }
