use Rattle.std.proofs.Common.{◌≡◌, ◌+◌, ◌-◌, ◌*◌, ap, ◌∙◌, arith}
use Rattle.std.specs.Result.{result_ok}
use Rattle.trace.specs.Faults.{record_number}
use Rattle.trace.proofs.Faults.{ok_told}
use Rattle.reel.proofs.Hosts.{begun}
use Rattle.reel.proofs.Stored.{event_at}
use Rattle.reel.proofs.host.methods.HostReelReel.event.Goals as goal

pub returns : goal.returns
returns c =
    let size : 8 * c.args.k + 8 - 8 * c.args.k ≡ 8 = omega arith in
    let there = event_at (begun c.args.self.now) c.args.k c.if-k-self.false in
    let read = rw size at c.decode.ensures.answer in
    c.ok.ensures.value ∙ ok_told record_number c.decode.result ∙ ap result_ok read ∙ there
