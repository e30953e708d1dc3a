-- The lines of the calls so far.
use Rattle.std.proofs.Common.{◌≡◌, take, string_bytes}
use Rattle.replies.specs.Replies.{told_lines}
use Rattle.replies.proofs.told_lines.Given as goal

abbrev pub invariant-loop-index : goal.invariant-loop-index
invariant-loop-index l = string_bytes l.text ≡ told_lines l.words (take l.index l.calls)
