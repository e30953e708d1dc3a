use Rattle.std.proofs.Common.{ℕ, List, ◌++◌, length, refl, ap, sym, ◌∙◌, arith}
use Rattle.std.proofs.lemmas.Option.{slice_get_read}
use Rattle.replies.specs.Replies.{reply_line, told_line}
use Rattle.replies.proofs.Telling.{no_calls, told_more, alone_more}
use Rattle.replies.proofs.told_lines.Goals as goal
use Rattle.replies.proofs.told_lines.Goals.{in-Some+in_ok-write-in-Some, in-None+in_ok-write-in-None}

pub loop-index-init : goal.loop-index-init
loop-index-init c = c.new-text.ensures.bytes ∙ sym (no_calls c.args.words.now)

pub loop-index-preserved : goal.loop-index-preserved
loop-index-preserved c =
    let words = c.args.words.now in
    let calls = c.args.calls.now in
    let i = c.loop-index.index in
    let call = slice_get_read calls (length calls) i c.index-calls-index.result refl (omega arith) c.index-calls-index.is in
    elim c.match-get.branch [
      | in-Some+in_ok-write-in-Some w ↦
          let look = w.in-Some.ensures.lookup in
          let has = slice_get_read words (length words) i w.in-Some.words.now refl look.3.0 look.1 in
          rw w.text-is (w.in_ok-write-in-Some.ensures.bytes ∙ ap (λ (t : List ℕ). t ++ told_line w.in-Some.words.now.now c.index-calls-index.result) c.loop-index.invariant
          ∙ sym (told_more words calls i w.in-Some.words.now c.index-calls-index.result has call))
      | in-None+in_ok-write-in-None w ↦
          rw w.text-is (w.in_ok-write-in-None.ensures.bytes ∙ ap (λ (t : List ℕ). t ++ reply_line c.index-calls-index.result) c.loop-index.invariant
          ∙ sym (alone_more words calls i c.index-calls-index.result w.in-None.ensures.lookup.3 call))
    ]
