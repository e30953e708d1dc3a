-- What taking an event into a reel comes to.
use Rattle.std.specs.Prelude.{◌≡◌, ℕ, cond, List, length, Some, None, Option, Result, nat_lt}
use Rattle.trace.specs.declared.event.Event.{Event}
use Rattle.trace.specs.Faults.{refusal_in}
use Rattle.trace.specs.Locks.{with_taken}
use Rattle.reel.specs.declared.ReelFault.{ReelFault}
use Rattle.reel.specs.declared.ReelFault.TheVariants.{Full}

-- the number of a refusal by a reel
abbrev pub reel_number : ReelFault → ℕ
reel_number Full = 7

-- why a reel with room for so many events takes no more: 7 where it has as many
abbrev pub reel_refusal : ℕ → List Event → Option ℕ
reel_refusal room events = cond (nat_lt (length events) room) None (Some 7)

-- the event e is taken after those before, or refused where there is no room, and the events stay
pub record Taken {A : Type 0} (room : ℕ) (before : List Event) (e : Event) (r : Result A ReelFault) (after : List Event) : Type 0 where
  pub answer : refusal_in reel_number r ≡ reel_refusal room before
  pub events : after ≡ with_taken before e r
