-- What is printed of the first records of a dump is what is printed of all of it.
use Rattle.std.proofs.Common.{ℕ, ◌+◌, ◌*◌, ◌≤◌, List, take}
use Rattle.report.specs.declared.told.Finding.{Finding}
use Rattle.report.proofs.ToldDecided.{told_decided, report_told_decided, report_same}
use Rattle.lenogneiss.specs.declared.question.Question.{Question}
use Rattle.lenogneiss.specs.declared.question.Question.TheVariants.{Report, List as Listing, Judge, Witness, Partners, Ask}
use Rattle.lenogneiss.specs.Printed.{event_room, Printed}

module _ (n : ℕ) (dump : List ℕ) (enough : 8 * (event_room + 1) ≤ n) where
  pub printed_decided : (asked : Question) (text note : List ℕ) (finding : Finding) → Printed asked (take n dump) text note finding
      → Printed asked dump text note finding
  printed_decided Report text note finding made = (
    report_same event_room n dump enough text made.0,
    report_told_decided event_room n dump enough note finding made.1,
  )
  printed_decided Listing text note finding made = (told_decided event_room n dump enough _ text finding made.0, made.1)
  printed_decided (Judge p q) text note finding made = (told_decided event_room n dump enough _ text finding made.0, made.1)
  printed_decided (Witness p q) text note finding made = (told_decided event_room n dump enough _ text finding made.0, made.1)
  printed_decided (Partners q) text note finding made = (told_decided event_room n dump enough _ text finding made.0, made.1)
  printed_decided (Ask p q list) text note finding made = (told_decided event_room n dump enough _ text finding made.0, made.1)
