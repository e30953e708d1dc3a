use Rattle.std.proofs.Common.{take, sym}
use Rattle.std.proofs.lemmas.List.{length-take-le}
use Rattle.std.proofs.lemmas.Option.{slice_get_within}
use Rattle.report.proofs.Gathered.{not_refused, gathered}
use Rattle.report.proofs.races.partner_lines.Goals as goal

pub unreachable-requires : goal.unreachable-requires
unreachable-requires g c =
    not_refused (slice_get_within _ _ _ c.requires.later) c.requires.places c.partners.ensures c.in_default.field-0 c.in_default.is

pub slice_bounds-pair_lines-end : goal.slice_bounds-pair_lines-end
slice_bounds-pair_lines-end g c = (gathered (slice_get_within _ _ _ c.requires.later) c.requires.places c.partners.ensures c.in-Ok.count c.in-Ok.is).0

pub slice_bounds-pair_lines-end-2 : goal.slice_bounds-pair_lines-end-2
slice_bounds-pair_lines-end-2 g c =
    let all = gathered (slice_get_within _ _ _ c.requires.later) c.requires.places c.partners.ensures c.in-Ok.count c.in-Ok.is in
    sym (length-take-le c.in-Ok.count c.partners.new.buffer all.0)

pub pair_lines-requires-clause-partners : goal.pair_lines-requires-clause-partners
pair_lines-requires-clause-partners g c =
    (gathered (slice_get_within _ _ _ c.requires.later) c.requires.places c.partners.ensures c.in-Ok.count c.in-Ok.is).1

pub returns : goal.returns
returns g c =
    let all = gathered (slice_get_within _ _ _ c.requires.later) c.requires.places c.partners.ensures c.in-Ok.count c.in-Ok.is in
    record {
      partners = take c.in-Ok.count c.partners.new.buffer;
      all = all.1;
      many = length-take-le c.in-Ok.count c.partners.new.buffer all.0;
      lines = c.in_ok-text.ensures;
    }
