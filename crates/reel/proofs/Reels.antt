-- Whether a reel has room for an event more.
use Rattle.std.proofs.Common.{◌≡◌, ℕ, ◌<◌, List, length, None}
use Rattle.std.proofs.lemmas.Bool.{lt-ltb}
use Rattle.trace.specs.declared.event.Event.{Event}
use Rattle.reel.specs.Reels.{reel_refusal}

pub has_room : (room : ℕ) (es : List Event) → length es < room → None ≡ reel_refusal room es
has_room room es h = rw (lt-ltb (length es) room h)
