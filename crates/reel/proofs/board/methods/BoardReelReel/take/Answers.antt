use Rattle.std.proofs.Common.{refl, arith}
use Rattle.std.proofs.lemmas.List.{take_more_set}
use Rattle.reel.specs.Boards.{board_room, kept}
use Rattle.reel.proofs.Reels.{has_room}
use Rattle.reel.proofs.Boards.{count_is}
use Rattle.reel.proofs.board.methods.BoardReelReel.take.Goals as goal

pub returns : goal.returns
returns c =
    let x = c.args.self.now in
    let n = count_is x in
    let w = x.whole in
    record {
      taken = record {
        answer = has_room board_room (kept x) (omega arith);
        events = rw (c.put.ensures.count, c.put.ensures.entries) (take_more_set x.table.entries x.table.count c.args.e (omega arith));
      };
      same = refl;
      lent = refl;
      loan = refl;
    }
