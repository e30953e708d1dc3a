-- The positions of a cut are added to a collector one by one.
use Rattle.std.proofs.Common.{◌≡◌, ℕ, ◌+◌, false, [], ◌∷◌, add-one}
use Rattle.trace.specs.Cuts.{Positions, In, listed}
use Rattle.trace.proofs.Listing.{listed_in, listed_out}
use Rattle.answer.specs.declared.collector.Collector.{Collector}
use Rattle.answer.specs.Collectors.{Adds}
use Rattle.answer.proofs.Collecting.{adds_both}

module _ (c : Positions) {old now : Collector ℕ} (k : ℕ) (a : Adds (listed c k) old now) where
  -- a position that the cut has is added
  pub listing_more : {new : Collector ℕ} → In k c → Adds (k ∷ []) now new → Adds (listed c (k + 1)) old new
  listing_more has one = rw (add-one, listed_in c k has) (adds_both a (k ∷ []) one)

  -- one that it has not is passed over
  pub listing_skip : c k ≡ false → Adds (listed c (k + 1)) old now
  listing_skip has-not = rw (add-one, listed_out c k has-not) a
