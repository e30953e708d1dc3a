use Rattle.std.proofs.Common.{ℕ, List, string_bytes, subst, ◌∙◌, arith}
use Rattle.std.proofs.lemmas.Option.{IfSome_then}
use Rattle.lenogneiss.specs.Printed.{Printed}
use Rattle.lenogneiss.proofs.Decided.{printed_decided}
use Rattle.lenogneiss.proofs.question.Question.about.Goals as goal

pub returns : goal.returns
returns g c =
    let asked = c.args.self.now in
    let r = c.in_ok-answer.field-0 in
    IfSome_then (g.I.Read.remaining c.args.source.now) c.in_ok-front.ensures.front
    (λ dump is. printed_decided 32776 dump (omega arith) asked (string_bytes r.text) (string_bytes r.note) r.finding
    (subst (λ (bytes : List ℕ). Printed asked bytes (string_bytes r.text) (string_bytes r.note) r.finding) (c.as_slice.ensures.value ∙ is) c.in_ok-answer.ensures))
