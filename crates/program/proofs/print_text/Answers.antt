use Rattle.std.proofs.Common.{◌≡◌, rules}
use Rattle.std.proofs.lemmas.Option.{IfSome_then}
use Rattle.std.proofs.lemmas.Result.{on_ok_weaker}
use Rattle.program.proofs.print_text.Goals as goal

-- the input that was read is what the text is made of
pub returns : goal.returns
returns g c =
    on_ok_weaker c.write_text.result (λ made. IfSome_then (g.I.Read.remaining c.args.input.now) c.in_ok-read_to_end.ensures.bytes (λ bytes eq.
    let same : c.as_slice.result.now ≡ bytes = search rules in
    rw same at made)) c.write_text.ensures
