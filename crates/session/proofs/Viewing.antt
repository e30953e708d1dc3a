-- What is seen of a session.
use Rattle.std.proofs.Common.{◌≡◌, ap}
use Rattle.session.specs.States.{State}

-- the same state has the same trace
pub trace_is : {x y : State} → x ≡ y → x.trace ≡ y.trace
trace_is is = ap (λ (s : State). s.trace) is
