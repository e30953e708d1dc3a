-- The calls so far are answered, and the session has the trace so far.
use Rattle.std.proofs.Common.{◌≡◌, [], take}
use Rattle.reel.specs.Lent.{recorded_in}
use Rattle.run.specs.Runs.{so_far}
use Rattle.run.proofs.Upholding.{Answering}
use Rattle.run.proofs.perform.Given as goal

abbrev pub invariant-loop-call : goal.invariant-loop-call
invariant-loop-call g l =
    let start = l.initial.session in
    record {
      room : l.session.room ≡ start.room;
      trace : l.session.trace ≡ so_far start.room (take l.call-index l.initial.calls);
      lent : l.session.lent ≡ recorded_in start.lent [] l.session.trace;
      loan : l.session.loan ≡ start.loan;
      answering : Answering start.room l.initial.calls l.call-index l.calls;
    }
