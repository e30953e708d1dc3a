-- What becomes of records that are offered one after another.
use Rattle.std.proofs.Common.{◌≡◌, ℕ, suc, ◌+◌, ◌-◌, ◌*◌, ◌<◌, ◌≤◌, min, List, [], ◌∷◌, ◌++◌, length, take, drop, Ok, Err, Result, sym, refl, ap, ◌∙◌, subst, ⊎_elim, append_assoc, append-nil, arith, length-append, length-drop, take_all, take-take, take-add}
use Rattle.std.specs.List.{flat_map}
use Rattle.std.specs.Int.{div_ceil}
use Rattle.std.proofs.Math.Seq.{take-append_seam, drop-append_seam}
use Rattle.std.proofs.lemmas.List.{drop-drop, drop_all}
use Rattle.std.proofs.lemmas.Bool.{cases_lt}
use Rattle.trace.specs.declared.event.Event.{Event}
use Rattle.trace.specs.Records.{record_of}
use Rattle.trace.specs.Traces.{Admits}
use Rattle.answer.specs.declared.fault.EntryRefusal.{EntryRefusal}
use Rattle.answer.specs.Faults.{Refusal, refusal}
use Rattle.reel.specs.Lent.{recorded_in}
use Rattle.reel.proofs.Lent.{flat_map-append, lent_same, recorded_on}
use Rattle.session.specs.States.{State}
use Rattle.session.specs.Entries.{offered, offer, records, record_count, enter_from, enter_all, Takes}

-- record i of some bytes
abbrev pub piece : List ℕ → ℕ → List ℕ
piece bytes i = take 8 (drop (8 * i) bytes)

-- a chunk of eight bytes, or of those that are left, and what is behind it
pub chunk_is : (rest r behind : List ℕ) → rest ≡ r ++ behind → length r ≡ min 8 (length rest) → (r ≡ take 8 rest) × (behind ≡ drop 8 rest)
chunk_is rest r behind parts size = ⊎_elim short full (cases_lt (length rest) 8)
  where
    front : take (length r) rest ≡ r
    front = rw parts (take-append_seam r behind)

    back : drop (length r) rest ≡ behind
    back = rw parts (drop-append_seam r behind)

    short : length rest < 8 → (r ≡ take 8 rest) × (behind ≡ drop 8 rest)
    short h = (
      sym front ∙ take_all (length r) rest (omega arith) ∙ sym (take_all 8 rest (omega arith)),
      sym back ∙ drop_all (length r) rest (omega arith) ∙ sym (drop_all 8 rest (omega arith)),
    )

    full : 8 ≤ length rest → (r ≡ take 8 rest) × (behind ≡ drop 8 rest)
    full h =
        let n : 8 ≡ length r = omega arith in
        (rw n (sym front), rw n (sym back))

-- what a chunk is where the records before it are gone
pub next_piece : (bytes rest r behind : List ℕ) (i size : ℕ) → rest ≡ drop (8 * i) bytes → size ≡ 8 → rest ≡ r ++ behind
    → length r ≡ min size (length rest) → 0 < length rest → (i < record_count bytes) × (r ≡ piece bytes i) × (behind ≡ drop (8 * (i + 1)) bytes)
next_piece bytes rest r behind i size rest_is size_is parts many some =
    let k = chunk_is rest r behind parts (rw size_is at many) in
    let n : length rest ≡ length bytes - 8 * i = rw rest_is (length-drop (8 * i) bytes) in
    let m : 8 * i + 8 ≡ 8 * (i + 1) = omega arith in
    (omega arith, k.0 ∙ ap (take 8) rest_is, k.1 ∙ ap (drop 8) rest_is ∙ drop-drop 8 (8 * i) bytes ∙ ap (λ (j : ℕ). drop j bytes) m)

module _ (old : State) (bytes : List ℕ) where
  -- the first i records are taken: the session is as said, and the others are still to come
  pub record Loading (i : ℕ) (now : State) : Type 0 where
    pub left : enter_from old.room old.trace 0 (records (record_count bytes) bytes)
        ≡ enter_from old.room now.trace i (records (record_count bytes - i) (drop (8 * i) bytes))
    pub new : List Event
    pub many : length new ≡ i
    pub added : now.trace ≡ old.trace ++ new
    pub as_recorded : flat_map record_of new ≡ take (8 * i) bytes
    pub admitted : Admits old.trace → Admits now.trace
    pub room : now.room ≡ old.room
    pub lent : now.lent ≡ recorded_in old.lent old.trace now.trace
    pub loan : now.loan ≡ old.loan
    pub within : i ≤ record_count bytes

  -- none is taken yet
  pub loading_none : Loading 0 old
  loading_none =
      let all : record_count bytes - 0 ≡ record_count bytes = omega arith in
      record {
        left = rw all refl;
        new = [];
        many = refl;
        added = sym (append-nil old.trace);
        as_recorded = refl;
        admitted = λ a. a;
        room = refl;
        lent = lent_same old.lent old.trace;
        loan = refl;
        within = omega arith;
      }

  module _ {i : ℕ} {now : State} (l : Loading i now) (inside : i < record_count bytes) where
    next_records : records (record_count bytes - i) (drop (8 * i) bytes) ≡ piece bytes i ∷ records (record_count bytes - (i + 1)) (drop (8 * (i + 1)) bytes)
    next_records =
        let n : record_count bytes - i ≡ suc (record_count bytes - (i + 1)) = omega arith in
        let m : 8 * i + 8 ≡ 8 * (i + 1) = omega arith in
        rw (n, drop-drop 8 (8 * i) bytes, m) refl

    -- it goes on with this record
    on : enter_from old.room old.trace 0 (records (record_count bytes) bytes)
        ≡ enter_from old.room now.trace i (piece bytes i ∷ records (record_count bytes - (i + 1)) (drop (8 * (i + 1)) bytes))
    on = l.left ∙ ap (enter_from old.room now.trace i) next_records

    module _ {next : State} {part : List ℕ} (part_is : part ≡ piece bytes i) where
      as_offered : (r : Result (Unit {0}) EntryRefusal) → Takes (offer now.room now.trace i part) now part r next
          → Takes (offer old.room now.trace i (piece bytes i)) now (piece bytes i) r next
      as_offered r taken =
          subst (λ (b : List ℕ). Takes (offer old.room now.trace i b) now b r next) part_is
          (subst (λ (m : ℕ). Takes (offer m now.trace i part) now part r next) l.room taken)

      -- one record more is taken
      pub loading_more : Takes (offer now.room now.trace i part) now part (Ok tt) next → Loading (i + 1) next
      loading_more taken = by (offered old.room now.trace i (piece bytes i)) refl
        where
          k : Takes (offer old.room now.trace i (piece bytes i)) now (piece bytes i) (Ok tt) next
          k = as_offered (Ok tt) taken

          by : (o : Result Event Refusal) → offered old.room now.trace i (piece bytes i) ≡ o → Loading (i + 1) next
          by (Ok e) q =
              let v_is : next.trace ≡ now.trace ++ (e ∷ []) = rw q at k.events in
              let size : 8 * (i + 1) ≡ 8 * i + 8 = omega arith in
              let one : length k.recorded.new ≡ 1 =
              omega (arith, ap length v_is, ap length k.recorded.added, length-append now.trace (e ∷ []), length-append now.trace k.recorded.new) in
              record {
                left = on ∙ rw (q, v_is) refl;
                new = l.new ++ k.recorded.new;
                many = let m = l.many in omega (arith, length-append l.new k.recorded.new);
                added = k.recorded.added ∙ ap (λ (es : List Event). es ++ k.recorded.new) l.added ∙ append_assoc old.trace l.new k.recorded.new;
                as_recorded = rw (size, take-add (8 * i) 8 bytes, flat_map-append record_of l.new k.recorded.new, l.as_recorded, k.recorded.as_recorded, one)
                    (ap (λ (bs : List ℕ). take (8 * i) bytes ++ bs) (take-take 8 8 (drop (8 * i) bytes) (omega arith)));
                admitted = λ a. k.admitted (l.admitted a);
                room = k.room ∙ l.room;
                lent = recorded_on old.lent old.trace l.new k.recorded.new l.added k.recorded.added l.lent k.lent;
                loan = k.loan ∙ l.loan;
                within = omega arith;
              }
          by (Err f) q = let a = rw q at k.answer in absurd (grind arith)

      -- a record is refused
      pub stopped : (f : EntryRefusal) → Takes (offer now.room now.trace i part) now part (Err f) next
          → Takes (enter_all old.room old.trace bytes) old bytes (Err f) next
      stopped f refused = by (offered old.room now.trace i (piece bytes i)) refl
        where
          k : Takes (offer old.room now.trace i (piece bytes i)) now (piece bytes i) (Err f) next
          k = as_offered (Err f) refused

          by : (o : Result Event Refusal) → offered old.room now.trace i (piece bytes i) ≡ o
              → Takes (enter_all old.room old.trace bytes) old bytes (Err f) next
          by (Ok e) q = let a = rw q at k.answer in absurd (grind arith)
          by (Err g) q =
              let v_is : next.trace ≡ now.trace = rw q at k.events in
              let a = rw q at k.answer in
              let f_is : refusal f ≡ g = cc in
              let full : enter_all old.room old.trace bytes ≡ record { answer = Err g; events = now.trace } = on ∙ rw q refl in
              record {
                answer = rw full (ap Err f_is);
                events = rw full v_is;
                recorded = record { new = l.new; added = v_is ∙ l.added; as_recorded = rw l.many l.as_recorded };
                admitted = λ a. k.admitted (l.admitted a);
                room = k.room ∙ l.room;
                lent = recorded_on old.lent old.trace l.new k.recorded.new l.added k.recorded.added l.lent k.lent;
                loan = k.loan ∙ l.loan;
              }

  -- all records are taken where no byte is left
  pub loading_all : {i : ℕ} {now : State} (rest : List ℕ) (n : ℕ) → Loading i now → rest ≡ drop (8 * i) bytes → length rest ≡ 0
      → n ≡ div_ceil (length bytes) 8 → Takes (enter_all old.room old.trace bytes) old bytes (Ok n) now
  loading_all {i} {now} rest n l rest_is none n_is =
      let left : length rest ≡ length bytes - 8 * i = rw rest_is (length-drop (8 * i) bytes) in
      let w = l.within in
      let is : i ≡ n = omega arith in
      let no_more : record_count bytes - i ≡ 0 = omega arith in
      let full : enter_all old.room old.trace bytes ≡ record { answer = Ok n; events = now.trace } = l.left ∙ rw (no_more, is) refl in
      record {
        answer = rw full refl;
        events = rw full refl;
        recorded = record { new = l.new; added = l.added; as_recorded = rw l.many l.as_recorded };
        admitted = l.admitted;
        room = l.room;
        lent = l.lent;
        loan = l.loan;
      }
