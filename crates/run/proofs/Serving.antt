-- The calls that fill a buffer: it is lent to the session, and holds then what the session left in it.
use Rattle.std.proofs.Common.{◌≡◌, ℕ, List, Some, vec_items, Option, Result, Vec}
use Rattle.std.specs.declared.alloc.Global.{Global}
use Rattle.trace.specs.declared.event.Event.{Event}
use Rattle.answer.specs.declared.collector.BufferFault.{BufferFault}
use Rattle.answer.specs.declared.verdict.RacePair.{RacePair}
use Rattle.answer.specs.declared.verdict.WitnessFault.{WitnessFault}
use Rattle.answer.specs.declared.verdict.PartnersFault.{PartnersFault}
use Rattle.run.specs.declared.Call.TheVariants.{Witness, Partners, Sweep}
use Rattle.session.specs.Races.{Shows, Witnessed, Partnered, Swept}
use Rattle.run.specs.Runs.{Served}
use Rattle.run.specs.Runs.Served.{witnessed, partnered, swept}

module _ (room : ℕ) (t : List Event) {before after : Vec ℕ Global} {given last : List ℕ} (given_is : given ≡ vec_items before) (last_is : vec_items after ≡ last) where
  pub witness_served : (p q : ℕ) (a : Option (Result ℕ WitnessFault)) (r : Result ℕ WitnessFault) → Witnessed t p q (Shows t p q) given r last
      → Served room t (Witness p q before a) (Witness p q after (Some r))
  witness_served p q a r w = witnessed (rw (← given_is, last_is) w)

  pub partners_served : (q : ℕ) (a : Option (Result ℕ PartnersFault)) (r : Result ℕ PartnersFault) → Partnered t q given r last
      → Served room t (Partners q before a) (Partners q after (Some r))
  partners_served q a r w = partnered (rw (← given_is, last_is) w)

module _ (room : ℕ) (t : List Event) {before after : Vec RacePair Global} {given last : List RacePair} (given_is : given ≡ vec_items before)
    (last_is : vec_items after ≡ last) where
  pub sweep_served : (a : Option (Result ℕ BufferFault)) (r : Result ℕ BufferFault) → Swept t given r last
      → Served room t (Sweep before a) (Sweep after (Some r))
  sweep_served a r w = swept (rw (← given_is, last_is) w)
