-- A record gives back the event that it was made of.
use Rattle.std.proofs.Common.{◌≡◌, ℕ, ◌+◌, ◌*◌, ◌/◌, ◌%◌, ◌<◌, List, map, length, get_or, Some, None, Ok, Err, Option, Result, sym, refl, ap, ◌∙◌, ⊎_elim, arith}
use mathlib.Core.Logic.{dite, dif_pos}
use native.Mathlib.Decide.{dec_lt}
use denote.Struct.Props.{props}
use Rattle.std.specs.List.{range_with_len}
use Rattle.std.specs.Option.{ok_or}
use Rattle.trace.specs.declared.record.RecordFault.{RecordFault}
use Rattle.std.proofs.lemmas.List.FromFn.{fill_by_all}
use Rattle.std.proofs.lemmas.Bool.Decides.{nat_tests}
use Rattle.std.proofs.lemmas.Bool.{cases_eq, eq-eqb, ne_eqb}
use Rattle.trace.specs.declared.event.Event.{Event}
use Rattle.trace.specs.declared.kind.Kind.{Kind}
use Rattle.trace.specs.declared.kind.Kind.TheVariants.{Read, Write, Acquire, Release, Spawn, Join}
use Rattle.trace.specs.Limits.{threads, subjects}
use Rattle.trace.specs.Records.{number, kind_of, event_of, event_if_known, meaning, record_of}

lt_prop : (a b : ℕ) → IsProp (a < b)
lt_prop a b = hlevel props

-- parts within their limits are those of an event
pub event_within : (k : Kind) (t x i : ℕ) (p : t < threads) (q : x < subjects k)
    → event_of k t x i ≡ Ok (record { kind = k; thread = t; subject = x; site = i; known_thread = p; known_subject = q })
event_within k t x i p q =
    dif_pos (dec_lt t threads) (lt_prop t threads) p _ _ ∙ dif_pos (dec_lt x (subjects k)) (lt_prop x (subjects k)) q _ _

kind_back : (k : Kind) → kind_of (number k) ≡ Some k
kind_back Read = refl
kind_back Write = refl
kind_back Acquire = refl
kind_back Release = refl
kind_back Spawn = refl
kind_back Join = refl

-- the numbers of two and of four bytes are those that the bytes were taken from
two_bytes : (n : ℕ) → n % 256 + n / 256 * 256 ≡ n
two_bytes n = omega arith

four_bytes : (n : ℕ) → n % 256 + n / 256 % 256 * 256 + n / 65536 % 256 * 65536 + n / 16777216 * 16777216 ≡ n
four_bytes n = omega arith

-- the record of an event means that event
pub record_means : (e : Event) → meaning (record_of e) ≡ Ok e
record_means e =
    rw (kind_back e.kind, two_bytes e.subject, four_bytes e.site)
    (event_within e.kind e.thread e.subject e.site e.known_thread e.known_subject)

-- an event has the parts that it was made of
pub record Parts (k : Kind) (t x i : ℕ) (e : Event) : Type 0 where
  pub kind : e.kind ≡ k
  pub thread : e.thread ≡ t
  pub subject : e.subject ≡ x
  pub site : e.site ≡ i

-- the two tests of the limits
event_by : (k : Kind) (t x i : ℕ) → Dec (t < threads) → Dec (x < subjects k) → Result Event ℕ
event_by k t x i d f =
    dite d (λ p. dite f (λ q. Ok (record { kind = k; thread = t; subject = x; site = i; known_thread = p; known_subject = q })) (λ _. Err 4)) (λ _. Err 3)

parts_by : (k : Kind) (t x i : ℕ) (d : Dec (t < threads)) (f : Dec (x < subjects k)) (e : Event) → event_by k t x i d f ≡ Ok e → Parts k t x i e
unfolding event_by
parts_by k t x i (yes p) (yes q) e is =
    let same : record { kind = k; thread = t; subject = x; site = i; known_thread = p; known_subject = q } ≡ e = cc in
    record {
      kind = sym (ap (λ (f : Event). f.kind) same);
      thread = sym (ap (λ (f : Event). f.thread) same);
      subject = sym (ap (λ (f : Event). f.subject) same);
      site = sym (ap (λ (f : Event). f.site) same);
    }
parts_by k t x i (yes p) (no n) e is = absurd (grind arith)
parts_by k t x i (no n) f e is = absurd (grind arith)

event_parts : (k : Kind) (t x i : ℕ) (e : Event) → event_of k t x i ≡ Ok e → Parts k t x i e
unfolding event_by
event_parts k t x i e is = parts_by k t x i (dec_lt t threads) (dec_lt x (subjects k)) e is

kind_number : (n : ℕ) (k : Kind) → kind_of n ≡ Some k → number k ≡ n
kind_number n Read is = grind (arith, nat_tests)
kind_number n Write is = grind (arith, nat_tests)
kind_number n Acquire is = grind (arith, nat_tests)
kind_number n Release is = grind (arith, nat_tests)
kind_number n Spawn is = grind (arith, nat_tests)
kind_number n Join is = grind (arith, nat_tests)

-- and the bytes of a number made of two or of four bytes are these
pub record TwoBytes (a b n : ℕ) : Type 0 where
  pub low : n % 256 ≡ a
  pub high : n / 256 ≡ b

split_two : (a b n : ℕ) → a < 256 → n ≡ a + b * 256 → TwoBytes a b n
split_two a b n p is = record { low = omega arith; high = omega arith }

pub record FourBytes (a b c d n : ℕ) : Type 0 where
  pub first : n % 256 ≡ a
  pub second : n / 256 % 256 ≡ b
  pub third : n / 65536 % 256 ≡ c
  pub fourth : n / 16777216 ≡ d

split_four : (a b c d n : ℕ) → a < 256 → b < 256 → c < 256 → n ≡ a + b * 256 + c * 65536 + d * 16777216 → FourBytes a b c d n
split_four a b c d n p q r is = record { first = omega arith; second = omega arith; third = omega arith; fourth = omega arith }

-- bytes that mean an event are its record
pub meaning_back : (bytes : List ℕ) (e : Event) → ((i : ℕ) → get_or bytes i 0 < 256) → meaning bytes ≡ Ok e → record_of e ≡ bytes
meaning_back bytes e small is = ⊎_elim eight (λ n. absurd (let b = ne_eqb (length bytes) 8 n in let r = rw b at is in grind arith)) (cases_eq (length bytes) 8)
  where
    known : (o : Option Kind) → kind_of (get_or bytes 0 0) ≡ o
        → event_if_known o (get_or bytes 1 0) (get_or bytes 2 0 + get_or bytes 3 0 * 256)
        (get_or bytes 4 0 + get_or bytes 5 0 * 256 + get_or bytes 6 0 * 65536 + get_or bytes 7 0 * 16777216) ≡ Ok e
        → record_of e ≡ map (λ i. get_or bytes i 0) (range_with_len 0 8)
    known None q r = absurd (grind arith)
    known (Some k) q r =
        let p = event_parts k _ _ _ e r in
        let n = ap number p.kind ∙ kind_number (get_or bytes 0 0) k q in
        let x = split_two _ _ e.subject (small 2) p.subject in
        let i = split_four _ _ _ _ e.site (small 4) (small 5) (small 6) p.site in
        cc

    eight : length bytes ≡ 8 → record_of e ≡ bytes
    eight l =
        let all = fill_by_all (λ i. get_or bytes i 0) bytes 8 0 l (λ k h. refl) in
        known (kind_of (get_or bytes 0 0)) refl (let b = eq-eqb (length bytes) 8 l in rw b at is) ∙ sym all

-- eight bytes whose first is the number of a kind mean what the others say
pub meaning_known : (bytes : List ℕ) (k : Kind) → length bytes ≡ 8 → kind_of (get_or bytes 0 0) ≡ Some k
    → meaning bytes ≡ event_of k (get_or bytes 1 0) (get_or bytes 2 0 + get_or bytes 3 0 * 256)
    (get_or bytes 4 0 + get_or bytes 5 0 * 256 + get_or bytes 6 0 * 65536 + get_or bytes 7 0 * 16777216)
meaning_known bytes k long known = rw (eq-eqb (length bytes) 8 long, known) refl

pub kind_found : (o : Option Kind) (f : RecordFault) (k : Kind) → Ok k ≡ ok_or o f → o ≡ Some k
kind_found None f k q = absurd (grind arith)
kind_found (Some j) f k q = let same : k ≡ j = cc in ap (λ (x : Kind). Some x) (sym same)
