-- What a caller's buffer holds after a call.
use Rattle.std.specs.Prelude.{◌≡◌, ℕ, ◌<◌, ◌≤◌, cond, List, ◌++◌, length, take, drop, Ok, Err, Result, nat_lt}
use Rattle.answer.specs.declared.fault.Layer.{Layer}
use Rattle.answer.specs.declared.fault.Layer.TheVariants.{Buffer}
use Rattle.answer.specs.declared.collector.BufferFault.{BufferFault}
use Rattle.answer.specs.declared.collector.BufferFault.TheVariants.{Full}

-- the number of a refusal by a buffer
abbrev pub buffer_number : BufferFault → ℕ
buffer_number Full = 12

-- the layer that refuses
abbrev pub buffer_layer : BufferFault → Layer
buffer_layer f = Buffer

-- a list is written into a buffer: it stands at its start, the entries behind it stay, and the answer is its length; or it is longer than the
-- buffer, where as much of its start then stands as fits, and the answer is the refusal 12
pub data Filled {A : Type 0} (list before : List A) : Result ℕ BufferFault → List A → Type 0 where
  whole : length list ≤ length before → Filled list before (Ok (length list)) (list ++ drop (length list) before)
  short : {f : BufferFault} → buffer_number f ≡ 12 → length before < length list → Filled list before (Err f) (take (length before) list)

-- of so many entries a buffer with so much room takes all, or there is the refusal
abbrev pub fitted : ℕ → ℕ → Result ℕ BufferFault
fitted count room = cond (nat_lt room count) (Err Full) (Ok count)

-- a list was offered to a buffer, entry by entry: its first entries stand in the buffer as far as there is a place for them, the entries behind
-- stay, and its length is told, or the refusal if it is longer than the buffer
pub record Collecting {A : Type 0} (before list entries : List A) (written : Result ℕ BufferFault) : Type 0 where
  pub entries_are : entries ≡ take (length before) list ++ drop (length list) before
  pub written_is : written ≡ fitted (length list) (length before)

-- a list is offered to a buffer, after what was offered to it before
abbrev pub Offered : {A : Type 0} → List A → List A → Result ℕ BufferFault → List A → Result ℕ BufferFault → Type 0
Offered list entries written next told =
    (before earlier : List _) → Collecting before earlier entries written → Collecting before (earlier ++ list) next told
