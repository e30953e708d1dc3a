-- What becomes of a collector.
use Rattle.std.specs.Prelude.{◌≡◌, List}
use Rattle.answer.specs.declared.collector.Collector.{Collector}
use Rattle.answer.specs.Buffers.{Offered}

-- a list was offered to a collector, after what was offered to it before; it is lent the same buffer
pub record Adds {A : Type 0} (list : List A) (old new : Collector A) : Type 0 where
  pub offered : Offered list old.entries.now old.written new.entries.now new.written
  pub lender : new.entries.ghost_name ≡ old.entries.ghost_name
