-- A buffer to which a list is offered entry by entry.
use Rattle.std.proofs.Common.{◌≡◌, ℕ, ◌+◌, ◌<◌, ◌≤◌, true, false, cond, ltb, List, [], ◌∷◌, ◌++◌, length, take, drop, set, Ok, Err, Result, sym, refl, ◌∙◌, ◌⊎◌, inl, inr, ap, ⊎_elim, append_assoc, append-nil, arith, length-append, length-drop, length-take}
use lib.Seq.{take-nil}
use Rattle.std.proofs.lemmas.List.{length_push, drop_more, drop_all, take_all, take-append-le, set_at}
use Rattle.std.proofs.lemmas.Bool.{cases_lt, lt-ltb, le-ltb}
use Rattle.answer.specs.declared.collector.BufferFault.{BufferFault}
use Rattle.answer.specs.declared.collector.BufferFault.TheVariants.{Full}
use Rattle.answer.specs.declared.collector.Collector.{Collector}
use Rattle.answer.specs.Buffers.{fitted, Filled, Collecting}
use Rattle.answer.specs.Collectors.{Adds}
use Rattle.answer.specs.Buffers.Filled.{whole, short}

-- what is told after one entry more, where a buffer has so much room
abbrev pub one_more : Result ℕ BufferFault → ℕ → Result ℕ BufferFault
one_more (Ok n) room = cond (ltb n room) (Ok (n + 1)) (Err Full)
one_more (Err f) room = Err f

-- the entries after it: it is written behind those that are written, if there is a place
abbrev pub written_next : {A : Type 0} → Result ℕ BufferFault → A → List A → List A
written_next (Ok n) x entries = cond (ltb n (length entries)) (set entries n x) entries
written_next (Err f) x entries = entries

-- what fits, and what is too long
pub fitted_whole : (n room : ℕ) → n ≤ room → fitted n room ≡ Ok n
fitted_whole n room h = rw (le-ltb room n h) refl

pub fitted_short : (n room : ℕ) → room < n → fitted n room ≡ Err Full
fitted_short n room h = rw (lt-ltb room n h) refl

module _ {A : Type 0} (before : List A) where
  pub collecting_none : Collecting before [] before (Ok 0)
  collecting_none = record { entries_are = rw (take-nil (length before)) refl; written_is = sym (fitted_whole 0 (length before) (omega arith)) }

  module _ {list entries : List A} {written : Result ℕ BufferFault} (c : Collecting before list entries written) where
    long : length entries ≡ length before
    long = rw c.entries_are (simp (length-append, length-take, length-drop) (omega arith))

    -- one entry more
    pub collecting_more : (x : A) (next : List A) (more : Result ℕ BufferFault) → more ≡ one_more written (length entries)
        → next ≡ written_next written x entries → Collecting before (list ++ (x ∷ [])) next more
    collecting_more x next more more_is next_is = ⊎_elim placed passed (cases_lt (length list) (length before))
      where
        longer : length (list ++ (x ∷ [])) ≡ length list + 1
        longer = length_push list x

        placed : length list < length before → Collecting before (list ++ (x ∷ [])) next more
        placed inside =
            let l = long in
            let was : written ≡ Ok (length list) = c.written_is ∙ fitted_whole (length list) (length before) (omega arith) in
            let room : ltb (length list) (length entries) ≡ true = lt-ltb (length list) (length entries) (omega arith) in
            let all : take (length before) list ≡ list = take_all (length before) list (omega arith) in
            let all_more : take (length before) (list ++ (x ∷ [])) ≡ list ++ (x ∷ []) = take_all (length before) (list ++ (x ∷ [])) (let n = longer in omega arith) in
            let put : next ≡ set entries (length list) x = next_is ∙ rw (was, room) refl in
            record {
              entries_are = put
                  ∙ rw (c.entries_are, all, all_more, longer, append_assoc list (x ∷ []) (drop (length list + 1) before), drop_more before (length list) x inside)
                  (set_at list _ (drop (length list + 1) before) x (length list) refl);
              written_is = more_is ∙ rw (was, room, longer) (sym (fitted_whole (length list + 1) (length before) (omega arith)));
            }

        passed : length before ≤ length list → Collecting before (list ++ (x ∷ [])) next more
        passed none =
            let l = long in
            let room : ltb (length list) (length entries) ≡ false = le-ltb (length list) (length entries) (omega arith) in
            let kept : next ≡ entries = next_is ∙ stays none in
            record {
              entries_are = kept
                  ∙ rw (c.entries_are, take-append-le (length before) list (x ∷ []) none, longer, drop_all (length list) before none, drop_all (length list + 1) before (omega arith))
                  refl;
              written_is = (more_is ∙ refuses none) ∙ rw longer (sym (fitted_short (length list + 1) (length before) (omega arith)));
            }
          where
            full : length before ≤ length list → (written ≡ Err Full) ⊎ (written ≡ Ok (length before))
            full h = ⊎_elim (λ (s : length before < length list). inl (c.written_is ∙ fitted_short (length list) (length before) s))
                (λ (e : length list ≤ length before). inr (c.written_is ∙ fitted_whole (length list) (length before) e ∙ ap Ok (omega arith)))
                (cases_lt (length before) (length list))

            no_room : ltb (length before) (length entries) ≡ false
            no_room = let l = long in le-ltb (length before) (length entries) (omega arith)

            stays : length before ≤ length list → written_next written x entries ≡ entries
            stays h = ⊎_elim (λ (e : written ≡ Err Full). rw e refl) (λ (e : written ≡ Ok (length before)). rw (e, no_room) refl) (full h)

            refuses : length before ≤ length list → one_more written (length entries) ≡ Err Full
            refuses h = ⊎_elim (λ (e : written ≡ Err Full). rw e refl) (λ (e : written ≡ Ok (length before)). rw (e, no_room) refl) (full h)

    -- what the buffer then holds
    pub collected : Filled list before written entries
    collected = ⊎_elim too_long fits (cases_lt (length before) (length list))
      where
        too_long : length before < length list → Filled list before written entries
        too_long h =
            let entries_are : entries ≡ take (length before) list =
            c.entries_are ∙ rw (drop_all (length list) before (omega arith)) (append-nil (take (length before) list)) in
            rw (c.written_is, fitted_short (length list) (length before) h, entries_are) (short refl h)

        fits : length list ≤ length before → Filled list before written entries
        fits h = rw (c.written_is, fitted_whole (length list) (length before) h, c.entries_are, take_all (length before) list h) (whole h)

-- nothing is added
pub adds_none : {A : Type 0} {c : Collector A} → Adds [] c c
adds_none = record { offered = λ before earlier o. rw (append-nil earlier) o; lender = refl }

-- one entry is added
pub adds_one : {A : Type 0} {old new : Collector A} (x : A) → new.written ≡ one_more old.written (length old.entries.now)
    → new.entries.now ≡ written_next old.written x old.entries.now → new.entries.ghost_name ≡ old.entries.ghost_name → Adds (x ∷ []) old new
adds_one x written_is entries_are lender_is =
    record { offered = λ before earlier c. collecting_more before c x _ _ written_is entries_are; lender = lender_is }

module _ {A : Type 0} {list : List A} {old now : Collector A} (a : Adds list old now) where
  -- a list more is added
  pub adds_both : {new : Collector A} (also : List A) → Adds also now new → Adds (list ++ also) old new
  adds_both also b = record {
    offered = λ before earlier c. rw (← append_assoc earlier list also) (b.offered before (earlier ++ list) (a.offered before earlier c));
    lender = b.lender ∙ a.lender;
  }

  -- all is added to a fresh collector
  pub adds_filled : (before : List A) → old.entries.now ≡ before → old.written ≡ Ok 0 → Filled list before now.written now.entries.now
  adds_filled before fresh none = collected before (a.offered before [] (rw (fresh, none) (collecting_none before)))

-- the buffer is what was written into it
pub filled_as : {A : Type 0} {list before entries buffer : List A} {r : Result ℕ BufferFault} → buffer ≡ entries → Filled list before r entries
    → Filled list before r buffer
filled_as is f = rw is f
