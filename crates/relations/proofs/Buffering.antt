-- The examples of buffers.
use Rattle.std.proofs.Common.{◌≡◌, ℕ, ◌<◌, List, [], ◌∷◌, ◌++◌, length, take, Ok, Err, Result, sym, refl, ap, ◌∙◌, subst, ⊎_elim, arith, lit<, lit≤, append-nil}
use Rattle.std.proofs.lemmas.Bool.{cases_lt}
use Rattle.std.proofs.lemmas.List.{take_all, drop_all}
use Rattle.answer.specs.declared.collector.BufferFault.{BufferFault}
use Rattle.answer.specs.declared.collector.BufferFault.TheVariants.{Full}
use Rattle.answer.specs.Buffers.{Filled, Collecting, Offered}
use Rattle.answer.specs.Buffers.Filled.{whole, short}
use Rattle.answer.proofs.Collecting.{fitted_whole, fitted_short}
use Rattle.relations.specs.Buffers.{FilledAtStart, FilledWhenShort, FilledCollects, CollectedAtStart, OfferedCounts, AddsCount}

pub filled_collects : FilledCollects
filled_collects list before after r (whole h) = record {
  entries_are = rw (take_all (length before) list h) refl;
  written_is = sym (fitted_whole (length list) (length before) h);
}
filled_collects list before after r (short {f = Full} n h) = record {
  entries_are = rw (drop_all (length list) before (omega arith)) (sym (append-nil (take (length before) list)));
  written_is = sym (fitted_short (length list) (length before) h);
}

pub filled_at_start : FilledAtStart
filled_at_start = (
  whole (lit≤ tt),
  λ f. let e = (filled_collects (7 ∷ []) (9 ∷ 9 ∷ []) (7 ∷ 7 ∷ []) (Ok 1) f).entries_are in grind arith,
  λ after f. let e = (filled_collects (7 ∷ []) (9 ∷ 9 ∷ []) after (Err Full) f).written_is in grind arith,
  λ after f. let e = (filled_collects (7 ∷ []) (9 ∷ 9 ∷ []) after (Ok 2) f).written_is in grind arith,
)

pub filled_when_short : FilledWhenShort
filled_when_short = (
  short {f = Full} refl (lit< tt),
  λ f. let e = (filled_collects (7 ∷ 8 ∷ []) (9 ∷ []) (9 ∷ []) (Err Full) f).entries_are in grind arith,
  λ after f. let e = (filled_collects (7 ∷ 8 ∷ []) (9 ∷ []) after (Ok 1) f).written_is in grind arith,
)

pub collected_at_start : CollectedAtStart
collected_at_start = (
  record { entries_are = refl; written_is = refl },
  λ c. let e = c.entries_are in grind arith,
  λ c. let e = c.written_is in grind arith,
)

pub offered_counts : OfferedCounts
offered_counts = (one, λ o. let c = o (9 ∷ 9 ∷ []) [] none in let e = c.written_is in grind arith)
  where
    none : Collecting {A = ℕ} (9 ∷ 9 ∷ []) [] (9 ∷ 9 ∷ []) (Ok 0)
    none = record { entries_are = refl; written_is = refl }

    -- nothing was offered before, so the buffer is the one that was lent
    one : Offered {A = ℕ} (7 ∷ []) (9 ∷ 9 ∷ []) (Ok 0) (7 ∷ 9 ∷ []) (Ok 1)
    one before [] c =
        let e : 9 ∷ 9 ∷ [] ≡ before = c.entries_are ∙ ap (λ xs. xs ++ before) (take_all (length before) [] (omega arith)) in
        subst (λ b. Collecting b (7 ∷ []) (7 ∷ 9 ∷ []) (Ok 1)) e collected_at_start.0
    one before (x ∷ earlier) c =
        let w = c.written_is in
        absurd (⊎_elim (λ s. let e = w ∙ fitted_short (length (x ∷ earlier)) (length before) s in grind arith)
        (λ s. let e = w ∙ fitted_whole (length (x ∷ earlier)) (length before) s in grind arith) (cases_lt (length before) (length (x ∷ earlier))))

pub adds_count : AddsCount
adds_count old new entries was is adds =
    let before : Collecting (9 ∷ 9 ∷ []) [] old.entries.now old.written = record { entries_are = entries; written_is = was } in
    let c = adds.offered (9 ∷ 9 ∷ []) [] before in
    let e = sym is ∙ c.written_is in grind arith

-- a list is counted, or it is longer than the buffer
pub counted : {A : Type 0} (list before after : List A) (r : Result ℕ BufferFault) → Filled list before r after
    → ((n : ℕ) → r ≡ Ok n → n ≡ length list) × ((f : BufferFault) → r ≡ Err f → length before < length list)
counted list before after r (whole h) = (λ n e. grind arith, λ f e. absurd (grind arith))
counted list before after r (short i h) = (λ n e. absurd (grind arith), λ f e. h)
