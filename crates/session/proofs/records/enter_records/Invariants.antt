-- The records so far are entered.
use Rattle.std.proofs.Common.{◌≡◌, ◌*◌, drop}
use Rattle.session.proofs.Loads.{Loading}
use Rattle.session.proofs.records.enter_records.Given as goal

abbrev pub invariant-loop-index : goal.invariant-loop-index
invariant-loop-index g l =
    Loading l.initial.session l.bytes l.index-iterator.count l.session
    × (l.index-iterator.iter.rest.now ≡ drop (8 * l.index-iterator.count) l.bytes)
    × (l.index-iterator.iter.size ≡ 8)
