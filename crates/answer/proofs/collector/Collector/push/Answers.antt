use Rattle.std.proofs.Common.{length, refl}
use Rattle.std.proofs.lemmas.Bool.{lt-ltb}
use Rattle.answer.proofs.Collecting.{adds_one}
use Rattle.answer.proofs.collector.Collector.push.Goals as goal

pub returns : goal.returns
returns g c =
    let room = lt-ltb c.in-Ok.at (length c.args.self.now.entries.now) c.if-at-self.false in
    adds_one c.args.entry (rw (c.in-Ok.is, room) refl) (rw (c.in-Ok.is, room) refl) refl
