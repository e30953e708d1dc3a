use Rattle.std.proofs.Common.{refl, ◌∙◌, arith}
use Rattle.reel.specs.Hosts.{held}
use Rattle.reel.proofs.Reels.{has_room}
use Rattle.reel.proofs.Hosts.{grows}
use Rattle.reel.proofs.host.methods.HostReelReel.take.Goals as goal

pub invariant_of-self : goal.invariant_of-self
invariant_of-self c =
    let g = grows c.args.self.now c.args.e _ (omega arith) (c.copy_from_slice.ensures.after ∙ c.encode.ensures.bytes) in
    let r = g.room in
    record { within = omega arith; records = g.records; counted = g.counted }

pub returns : goal.returns
returns c =
    let n = c.args.self.now.counted in
    let g = grows c.args.self.now c.args.e _ (omega arith) (c.copy_from_slice.ensures.after ∙ c.encode.ensures.bytes) in
    record { taken = record { answer = has_room _ (held c.args.self.now) (omega arith); events = g.events }; same = g.room; lent = g.lent; loan = refl }
