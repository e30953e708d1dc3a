-- Records that are offered one after another: all are taken, or the first that is refused stops it.
use Rattle.std.proofs.Common.{◌≡◌, ℕ, zero, suc, ◌+◌, ◌*◌, ◌<◌, ◌≤◌, ◌⊎◌, List, [], ◌∷◌, ◌++◌, length, get_or, take, drop, Some, None, Ok, Err, Option, Result, sym, refl, ap, ap₂, ◌∙◌, subst, inl, inr, ⊎_elim, append_assoc, append-nil, arith, lit<, length-append, take-add, take_at, drop_at}
use Rattle.std.specs.List.{flat_map}
use Rattle.std.proofs.lemmas.List.{drop-drop, get_or_past}
use Rattle.std.proofs.lemmas.List.Elements.{All-take, All-drop}
use Rattle.std.proofs.lemmas.Bool.{cases_lt, le-ltb}
use Rattle.trace.specs.declared.event.Event.{Event}
use Rattle.trace.specs.Records.{meaning, record_of}
use Rattle.trace.specs.Traces.{at_start, Allowed, Admits, standing_after, trace_refusal}
use Rattle.trace.proofs.Holders.{admits_append, admits_push}
use Rattle.trace.proofs.Records.{record_means, meaning_back}
use Rattle.reel.specs.Reels.{reel_refusal}
use Rattle.reel.proofs.Reels.{has_room}
use Rattle.answer.specs.declared.fault.Layer.TheVariants.{Trace, Reel}
use Rattle.answer.specs.Faults.{Refusal}
use Rattle.session.specs.Entries.{Outcome, unless, checked, offered, then, records, enter_from}
use Rattle.session.specs.LoadTheorems.{AreBytes, CanFollow}

-- at each place there is a byte, or 0 past the last
small : (bytes : List ℕ) → AreBytes bytes → (i : ℕ) → get_or bytes i 0 < 256
small bytes h i = ⊎_elim (h i 0) (λ past. rw (get_or_past bytes i 0 past) (lit< tt)) (cases_lt i (length bytes))

module _ (room : ℕ) (t : List Event) where
  room_left : reel_refusal room t ≡ None → length t < room
  room_left is = ⊎_elim (λ l. l) (λ full. absurd (let b = le-ltb (length t) room full in let r = rw b at is in grind arith)) (cases_lt (length t) room)

  -- the event e passes the trace check after t, and there is room for it
  pub record Next (e : Event) : Type 0 where
    pub allowed : Allowed (standing_after t) e
    pub within : length t < room

  -- it can follow t, and what can follow then can follow t behind it; and the other way round
  pub follows : (e : Event) → Next e → Admits t → CanFollow room t (e ∷ [])
  follows e n a = (admits_push at_start t e a n.allowed, let w = n.within in omega (arith, length-append t (e ∷ [])))

  pub joined : (e : Event) (es : List Event) → CanFollow room (t ++ (e ∷ [])) es → CanFollow room t (e ∷ es)
  joined e es f = subst (λ (u : List Event). Admits u × (length u ≤ room)) (append_assoc t (e ∷ []) es) f

  pub split : (e : Event) (es : List Event) → CanFollow room t (e ∷ es) → Next e × CanFollow room (t ++ (e ∷ [])) es
  split e es f = (
    record { allowed = ((admits_append at_start t (e ∷ es)).0 f.0).1.0; within = let w = f.1 in omega (arith, length-append t (e ∷ es)) },
    subst (λ (u : List Event). Admits u × (length u ≤ room)) (sym (append_assoc t (e ∷ []) es)) f,
  )

  module _ (i : ℕ) where
    -- the record of such an event is taken
    pub offered_taken : (e : Event) → Next e → offered room t i (record_of e) ≡ Ok e
    offered_taken e n = ap (checked room t i) (record_means e) ∙ rw (n.allowed, ← has_room room t n.within) refl

    -- and an event that is taken is such an event, and the bytes are its record
    pub taken_next : (bytes : List ℕ) (e : Event) → AreBytes bytes → offered room t i bytes ≡ Ok e → (record_of e ≡ bytes) × Next e
    taken_next bytes e h is = by_meaning (meaning bytes) refl is
      where
        by_reel : (d : Event) (o : Option ℕ) → meaning bytes ≡ Ok d → Allowed (standing_after t) d → reel_refusal room t ≡ o
            → unless o Reel i (Ok d) ≡ Ok e → (record_of e ≡ bytes) × Next e
        by_reel d (Some n) m a q r = absurd (grind arith)
        by_reel d None m a q r =
            let same : d ≡ e = cc in (
              meaning_back bytes e (small bytes h) (m ∙ ap (λ (x : Event). Ok x) same),
              record { allowed = subst (Allowed (standing_after t)) same a; within = room_left q },
            )

        by_trace : (d : Event) (o : Option ℕ) → meaning bytes ≡ Ok d → trace_refusal (standing_after t) d ≡ o
            → unless o Trace i (unless (reel_refusal room t) Reel i (Ok d)) ≡ Ok e → (record_of e ≡ bytes) × Next e
        by_trace d (Some n) m q r = absurd (grind arith)
        by_trace d None m q r = by_reel d (reel_refusal room t) m q refl r

        by_meaning : (m : Result Event ℕ) → meaning bytes ≡ m → checked room t i m ≡ Ok e → (record_of e ≡ bytes) × Next e
        by_meaning (Err n) q r = absurd (grind arith)
        by_meaning (Ok d) q r = by_trace d (trace_refusal (standing_after t) d) q refl r

    -- a refusal has the index of the record
    pub index_told : (m : Result Event ℕ) (f : Refusal) → checked room t i m ≡ Err f → f.index ≡ i
    index_told (Err n) f is = grind arith
    index_told (Ok d) f is = by (trace_refusal (standing_after t) d) (reel_refusal room t) is
      where
        by : (o r : Option ℕ) → unless o Trace i (unless r Reel i (Ok d)) ≡ Err f → f.index ≡ i
        by (Some n) r h = grind arith
        by None (Some n) h = grind arith
        by None None h = absurd (grind arith)

-- the events of the first n records of the bytes are taken after t, and u are the events then
pub record Took (room : ℕ) (t : List Event) (bytes : List ℕ) (n : ℕ) (u : List Event) : Type 0 where
  pub new : List Event
  pub many : length new ≡ n
  pub added : u ≡ t ++ new
  pub as_recorded : flat_map record_of new ≡ take (8 * n) bytes
  pub follow : Admits t → length t ≤ room → CanFollow room t new

-- a record is taken before them
took_more : (room : ℕ) (t : List Event) (bytes : List ℕ) (n : ℕ) (u : List Event) (e : Event) → record_of e ≡ take 8 bytes → Next room t e
    → Took room (t ++ (e ∷ [])) (drop 8 bytes) n u → Took room t bytes (suc n) u
took_more room t bytes n u e back next k =
    let size : 8 + 8 * n ≡ 8 * suc n = omega arith in
    record {
      new = e ∷ k.new;
      many = ap suc k.many;
      added = k.added ∙ append_assoc t (e ∷ []) k.new;
      as_recorded = ap₂ (λ (xs ys : List ℕ). xs ++ ys) back k.as_recorded ∙ sym (take-add 8 (8 * n) bytes) ∙ ap (λ (m : ℕ). take m bytes) size;
      follow = λ a w. let f = follows room t e next a in joined room t e k.new (k.follow f.0 f.1);
    }

-- n records are offered from record i on, and this is what it comes to: all are taken
pub record Ran (room : ℕ) (t : List Event) (i n : ℕ) (bytes : List ℕ) (o : Outcome ℕ) : Type 0 where
  pub answer : o.answer ≡ Ok (i + n)
  pub took : Took room t bytes n o.events

-- or the first that is refused stops it
pub record Stopped (room : ℕ) (t : List Event) (i n : ℕ) (bytes : List ℕ) (o : Outcome ℕ) : Type 0 where
  pub refusal : Refusal
  pub answer : o.answer ≡ Err refusal
  pub done : ℕ
  pub few : done < n
  pub index : refusal.index ≡ i + done
  pub took : Took room t bytes done o.events
  pub refused : offered room o.events refusal.index (take 8 (drop (8 * done) bytes)) ≡ Err refusal

module _ (room : ℕ) where
  -- one of the two
  abbrev pub Comes : List Event → ℕ → ℕ → List ℕ → Outcome ℕ → Type 0
  Comes t i n bytes o = Ran room t i n bytes o ⊎ Stopped room t i n bytes o

  module _ (t : List Event) (i n : ℕ) (bytes : List ℕ) where
    comes_more : (e : Event) (o : Outcome ℕ) → record_of e ≡ take 8 bytes → Next room t e → Comes (t ++ (e ∷ [])) (i + 1) n (drop 8 bytes) o
        → Comes t i (suc n) bytes o
    comes_more e o back next (inl r) = inl (record {
      answer = r.answer ∙ ap (λ (m : ℕ). Ok m) {x = i + 1 + n} {y = i + suc n} (omega arith);
      took = took_more room t bytes n o.events e back next r.took;
    })
    comes_more e o back next (inr s) =
        let size : 8 + 8 * s.done ≡ 8 * suc s.done = omega arith in
        let there : drop (8 * s.done) (drop 8 bytes) ≡ drop (8 * suc s.done) bytes =
        drop-drop (8 * s.done) 8 bytes ∙ ap (λ (m : ℕ). drop m bytes) size in
        let few = s.few in
        let index = s.index in
        inr (record {
          refusal = s.refusal;
          answer = s.answer;
          done = suc s.done;
          few = omega arith;
          index = omega arith;
          took = took_more room t bytes s.done o.events e back next s.took;
          refused = rw (← there) s.refused;
        })

    comes_first : (f : Refusal) → offered room t i (take 8 bytes) ≡ Err f → Stopped room t i (suc n) bytes (record { answer = Err f; events = t })
    comes_first f is =
        let at : f.index ≡ i = index_told room t i (meaning (take 8 bytes)) f is in
        record {
          refusal = f;
          answer = refl;
          done = 0;
          few = omega arith;
          index = omega arith;
          took = record { new = []; many = refl; added = sym (append-nil t); as_recorded = refl; follow = λ a w. rw (append-nil t) (a, w) };
          refused = subst (λ (j : ℕ). offered room t j (take 8 bytes) ≡ Err f) (sym at) is;
        }

  pub comes : (n : ℕ) (bytes : List ℕ) (t : List Event) (i : ℕ) → AreBytes bytes → Comes t i n bytes (enter_from room t i (records n bytes))
  comes zero bytes t i h = inl (record {
    answer = ap (λ (m : ℕ). Ok m) {x = i} {y = i + 0} (omega arith);
    took = record { new = []; many = refl; added = sym (append-nil t); as_recorded = refl; follow = λ a w. rw (append-nil t) (a, w) };
  })
  comes (suc n) bytes t i h = by (λ u. comes n (drop 8 bytes) u (i + 1) (All-drop (λ b. b < 256) 8 bytes h)) (offered room t i (take 8 bytes)) refl
    where
      by : ((u : List Event) → Comes u (i + 1) n (drop 8 bytes) (enter_from room u (i + 1) (records n (drop 8 bytes))))
          → (o : Result Event Refusal) → offered room t i (take 8 bytes) ≡ o
          → Comes t i (suc n) bytes (then t o (λ u. enter_from room u (i + 1) (records n (drop 8 bytes))))
      by rest (Err f) q = inr (comes_first t i n bytes f q)
      by rest (Ok e) q =
          let k = taken_next room t i (take 8 bytes) e (All-take (λ b. b < 256) 8 bytes h) q in
          comes_more t i n bytes e _ k.0 k.1 (rest (t ++ (e ∷ [])))

  -- events that can follow are all taken from their records
  pub all_taken : (es t : List Event) (i : ℕ) → CanFollow room t es
      → enter_from room t i (records (length es) (flat_map record_of es)) ≡ record { answer = Ok (i + length es); events = t ++ es }
  all_taken [] t i f =
      let same : i ≡ i + 0 = omega arith in
      ap₂ (λ (m : ℕ) (u : List Event). record { answer = Ok m; events = u }) same (sym (append-nil t))
  all_taken (e ∷ es) t i f =
      let (next, rest) = split room t e es f in
      let size : i + 1 + length es ≡ i + suc (length es) = omega arith in
      ap₂ (λ (r : List ℕ) (b : List ℕ). then t (offered room t i r) (λ u. enter_from room u (i + 1) (records (length es) b)))
      (take_at (record_of e) (flat_map record_of es) 8 refl) (drop_at (record_of e) (flat_map record_of es) 8 refl)
      ∙ ap (λ (r : Result Event Refusal). then t r (λ u. enter_from room u (i + 1) (records (length es) (flat_map record_of es))))
      (offered_taken room t i e next)
      ∙ all_taken es (t ++ (e ∷ [])) (i + 1) rest
      ∙ ap₂ (λ (m : ℕ) (u : List Event). record { answer = Ok m; events = u }) size (append_assoc t (e ∷ []) es)
