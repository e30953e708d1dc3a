-- The examples of partners.
use Rattle.std.proofs.Common.{◌≡◌, ℕ, ◌<◌, ◌≤◌, ◌&&◌, List, [], ◌∷◌, ◌++◌, length, take, drop, Ok, Err, Result, sym, refl, ap, ◌∙◌, subst, ⊎_elim, arith, lit<, lit≤}
use mathlib.Core.List.Memᴰ
use mathlib.Core.List.{Memᴰ}
use Rattle.std.proofs.lemmas.Option.{none-some}
use Rattle.std.proofs.lemmas.Bool.{false≢true, and_parts, cases_lt}
use Rattle.trace.specs.declared.event.Event.{Event}
use Rattle.trace.specs.declared.kind.Kind.TheVariants.{Acquire}
use Rattle.trace.specs.Limits.{accesses}
use Rattle.trace.proofs.Ascending.{no_longer}
use Rattle.answer.specs.declared.collector.BufferFault.TheVariants.{Full}
use Rattle.answer.specs.declared.verdict.PartnersFault.{PartnersFault}
use Rattle.answer.specs.declared.verdict.PartnersFault.TheVariants.{NoEvent, Buffer as BufferOf}
use Rattle.answer.specs.Buffers.{Filled}
use Rattle.answer.specs.Buffers.Filled.{whole}
use Rattle.session.specs.Races.{PartnersOf, Partnered, RacingPair}
use Rattle.session.specs.Races.Partnered.{refused as partners_refused, written as partners_written}
use Rattle.session.proofs.Asked.{asked}
use Rattle.cases.specs.Examples.{event, sections_between, writes_locked, three_accesses}
use Rattle.cases.proofs.Asking.{races, races_not}
use Rattle.cases.proofs.Judging.{locked_admitted}
use Rattle.cases.proofs.Sweeping.{three_admitted}
use Rattle.relations.specs.Races.{PairsThatRace, BothPartners, AcquireAlone, PartnersWritten, PartnersRefused}
use Rattle.relations.proofs.Buffering.{filled_collects, counted}

-- the pairs of the three accesses race
pub race_of : (p : ℕ) → p < 2 → RacingPair three_accesses p 2
race_of p b =
    ⊎_elim (λ l. let e : p ≡ 0 = omega arith in rw e (refl, races three_accesses 0 2 three_admitted refl [] refl refl))
    (λ l. let e : p ≡ 1 = omega arith in rw e (refl, races three_accesses 1 2 three_admitted refl [] refl refl)) (cases_lt p 1)

pub pairs_that_race : PairsThatRace
pairs_that_race = (
  race_of 0 (lit< tt),
  λ h. none-some 9 (sym h.0),
  λ h. races_not writes_locked 1 4 locked_admitted refl (2 ∷ 3 ∷ 0 ∷ []) refl refl h.1,
)

-- they are the partners of the last access
both : PartnersOf three_accesses 2 (0 ∷ 1 ∷ [])
both = record {
  ascending = (λ m i. let e = Memᴰ.eq_of_singleton i in omega arith, (λ m i. absurd (Memᴰ.not-nil i), tt));
  exact = λ p. (λ m. race_of p (there p m), λ r. let a = asked three_accesses p 2 (sym r.0) in back p a.below);
}
  where
    there : (p : ℕ) → Memᴰ p (0 ∷ 1 ∷ []) → p < 2
    there p (Memᴰ.head e) = omega arith
    there p (Memᴰ.tail m) = let e = Memᴰ.eq_of_singleton m in omega arith

    back : (p : ℕ) → p < 2 → Memᴰ p (0 ∷ 1 ∷ [])
    back p b = ⊎_elim (λ l. Memᴰ.head (omega arith)) (λ l. Memᴰ.tail (Memᴰ.head (omega arith))) (cases_lt p 1)

pub both_partners : BothPartners
both_partners = (
  both,
  λ h. let e = Memᴰ.eq_of_singleton ((h.exact 0).1 (race_of 0 (lit< tt))) in omega arith,
  λ h. none-some 9 (sym ((h.exact 2).0 (Memᴰ.tail (Memᴰ.tail (Memᴰ.head refl)))).0),
  λ h. let b = h.ascending.0 0 (Memᴰ.head refl) in omega arith,
)

-- an acquire races with nothing
no_race_with : (p : ℕ) → RacingPair sections_between p 3 → ⊥
no_race_with p r =
    let a = asked sections_between p 3 (sym r.0) in
    let f : event Acquire 1 0 tt tt ≡ a.second = cc in
    let parts = and_parts (accesses a.first.kind && accesses a.second.kind) _ a.conflicting in
    let second = (and_parts (accesses a.first.kind) (accesses a.second.kind) parts.0).1 in
    false≢true (ap (λ (e : Event). accesses e.kind) f ∙ second)

pub acquire_alone : AcquireAlone
acquire_alone = (
  record { ascending = tt; exact = λ p. (λ m. absurd (Memᴰ.not-nil m), λ r. absurd (no_race_with p r)) },
  λ p ps h. no_race_with p ((h.exact p).0 (Memᴰ.head refl)),
)

-- so it has two
two_partners : (ps : List ℕ) → PartnersOf three_accesses 2 ps → length ps ≡ 2
two_partners ps h =
    let a : length ps ≤ 2 = no_longer ps (0 ∷ 1 ∷ []) h.ascending (λ m i. (both.exact m).1 ((h.exact m).0 i)) in
    let b : 2 ≤ length ps = no_longer (0 ∷ 1 ∷ []) ps both.ascending (λ m i. (h.exact m).1 ((both.exact m).0 i)) in
    omega arith

-- what is answered with a number was written
partnered_by : (before : List ℕ) (r : Result ℕ PartnersFault) (after : List ℕ) → Partnered three_accesses 2 before r after → (n : ℕ) → r ≡ Ok n
    → (ps : List ℕ) × PartnersOf three_accesses 2 ps × Filled ps before (Ok n) after
partnered_by before r after (partners_refused n h) m e = absurd (omega arith)
partnered_by before r after (partners_written {ps} {r = Ok k} i h f) m e =
    let same : k ≡ m = grind arith in (ps, h, subst (λ k. Filled ps before (Ok k) after) same f)
partnered_by before r after (partners_written {r = Err g} i h f) m e = absurd (grind arith)

-- so the number is two
counts_two : (before : List ℕ) (n : ℕ) (after : List ℕ) → Partnered three_accesses 2 before (Ok n) after → n ≡ 2
counts_two before n after p =
    let (ps, h, f) = partnered_by before (Ok n) after p n refl in
    (counted ps before after (Ok n) f).0 n refl ∙ two_partners ps h

-- it is refused with 12 only where there are fewer places
fits_by : (before : List ℕ) (r : Result ℕ PartnersFault) (after : List ℕ) → Partnered three_accesses 2 before r after → r ≡ Err (BufferOf Full)
    → length before < 2
fits_by before r after (partners_refused n h) e = absurd (omega arith)
fits_by before r after (partners_written {r = Ok m} i h f) e = absurd (grind arith)
fits_by before r after (partners_written {ps} {r = Err g} i h f) e =
    let l = two_partners ps h in let c = (counted ps before after (Err g) f).1 g refl in omega arith

-- the two partners of the last access stand at the start of a buffer of three, and its last entry stays
two_written : (a b c : ℕ) → Partnered three_accesses 2 (9 ∷ 9 ∷ 9 ∷ []) (Ok 2) (a ∷ b ∷ c ∷ []) → (a < 2) × (c ≡ 9)
two_written a b c p =
    let (ps, h, f) = partnered_by (9 ∷ 9 ∷ 9 ∷ []) (Ok 2) (a ∷ b ∷ c ∷ []) p 2 refl in
    by ps h (two_partners ps h) (filled_collects ps (9 ∷ 9 ∷ 9 ∷ []) (a ∷ b ∷ c ∷ []) (Ok 2) f).entries_are
  where
    by : (ps : List ℕ) → PartnersOf three_accesses 2 ps → length ps ≡ 2
        → a ∷ b ∷ c ∷ [] ≡ take 3 ps ++ drop (length ps) (9 ∷ 9 ∷ 9 ∷ []) → (a < 2) × (c ≡ 9)
    by [] h l e = absurd (omega arith)
    by (x ∷ []) h l e = absurd (omega arith)
    by (x ∷ y ∷ []) h l e =
        let r = asked three_accesses x 2 (sym ((h.exact x).0 (Memᴰ.head refl)).0) in
        let less = r.below in
        let same : a ≡ x = grind arith in (omega arith, grind arith)
    by (x ∷ y ∷ z ∷ ps) h l e = absurd (omega arith)

pub partners_fit : PartnersWritten
partners_fit = (
  partners_written {ps = 0 ∷ 1 ∷ []} {r = Ok 2} (lit< tt) both (whole (omega arith)),
  λ after p. let b = fits_by (9 ∷ 9 ∷ []) _ after p refl in omega arith,
  λ after p. let e = counts_two _ 3 after p in omega arith,
  λ after p. let e = counts_two _ 1 after p in omega arith,
  λ p. let e = (two_written 0 1 2 p).1 in omega arith,
  λ p. let b = (two_written 9 9 9 p).0 in omega arith,
)

-- a position that is answered is in the trace
answered_inside : (t : List Event) (q n : ℕ) (before after : List ℕ) (r : Result ℕ PartnersFault) → Partnered t q before r after → r ≡ Ok n → q < length t
answered_inside t q n before after r (partners_refused i h) e = absurd (grind arith)
answered_inside t q n before after r (partners_written i h f) e = i

-- and one that is refused with 8 is past it
refused_past : (t : List Event) (q : ℕ) (before after : List ℕ) (r : Result ℕ PartnersFault) → Partnered t q before r after → r ≡ Err NoEvent → length t ≤ q
refused_past t q before after r (partners_refused i h) e = h
refused_past t q before after r (partners_written {r = Ok n} i h f) e = absurd (grind arith)
refused_past t q before after r (partners_written {r = Err g} i h f) e = absurd (grind arith)

pub refused_partners : PartnersRefused
refused_partners = (
  partners_refused {f = NoEvent} refl (lit≤ tt),
  λ p. let b = answered_inside three_accesses 3 0 _ _ _ p refl in omega arith,
  λ after p. let b = refused_past three_accesses 2 _ after _ p refl in omega arith,
)
