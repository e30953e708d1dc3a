-- The examples of records that are offered to a session.
use Rattle.std.proofs.Common.{◌≡◌, ◌*◌, List, [], ◌∷◌, length, take, sym, refl, subst, arith}
use Rattle.std.specs.List.{flat_map}
use Rattle.trace.specs.declared.event.Event.{Event}
use Rattle.trace.specs.declared.kind.Kind.TheVariants.{Read, Write, Acquire}
use Rattle.trace.specs.Records.{record_of}
use Rattle.trace.proofs.Records.{record_means}
use Rattle.cases.specs.Examples.{event}
use Rattle.relations.specs.Entries.{EventTaken, FullRefuses, RecordedAsRead, StandsUpToDate}
use Rattle.relations.proofs.Tracing.{first_tells, held_tells, table_stays}

pub event_taken : EventTaken
event_taken = (
  record {
    answer = rw (record_means (event Write 0 0 tt tt)) refl;
    events = rw (record_means (event Write 0 0 tt tt)) refl;
    recorded = record { new = event Write 0 0 tt tt ∷ []; added = refl; as_recorded = refl };
    admitted = λ a. (refl, tt);
    room = refl;
    lent = refl;
    loan = refl;
  },
  λ h. let e = h.events in grind arith,
  λ h. let e = h.events in grind arith,
  λ h. let e = h.lent in grind arith,
)

pub full_refuses : FullRefuses
full_refuses = (
  record {
    answer = rw (record_means (event Write 0 0 tt tt)) refl;
    events = rw (record_means (event Write 0 0 tt tt)) refl;
    recorded = record { new = []; added = refl; as_recorded = refl };
    admitted = λ a. a;
    room = refl;
    lent = refl;
    loan = refl;
  },
  λ h. let e = h.events in grind arith,
  λ h. let e = h.answer in grind arith,
  λ h. let e = h.lent in grind arith,
)

pub recorded_as_read : RecordedAsRead
recorded_as_read = (
  record { new = event Write 0 0 tt tt ∷ []; added = refl; as_recorded = refl },
  λ h.
      let n : event Read 0 0 tt tt ∷ [] ≡ h.new = h.added in
      let e = subst (λ (es : List Event). flat_map record_of es ≡ take (8 * length es) (record_of (event Write 0 0 tt tt))) (sym n) h.as_recorded in
      grind arith,
)

pub stands_up_to_date : StandsUpToDate
stands_up_to_date = (
  record { admitted = tt; tells = first_tells },
  record { admitted = (refl, tt); tells = held_tells 0 tt },
  λ table a b. table_stays table a.tells b.tells,
)
