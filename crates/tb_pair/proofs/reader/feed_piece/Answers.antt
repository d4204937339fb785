use Rattle.std.proofs.Common.{Bool, [], ◌∷◌, ◌++◌, not, ◌&&◌, true, subst, sym}
use Rattle.tb_pair.specs.Helpers.Reading.{ReadsOn}
use Rattle.tb_pair.proofs.ReaderLemmas.{fed_on, fed_refused}
use Rattle.tb_pair.proofs.reader.feed_piece.Goals as goal

pub returns-in-Ok : goal.returns-in-Ok
returns-in-Ok g c = λ got.
    subst (λ (l : Bool). ReadsOn c.args.seat.now c.hand_piece.new.seat got (got ++ c.args.piece ∷ []) true (c.in-Ok.up && not l)) (sym c.is_last-last.ensures) (fed_on c.args.seat.now c.hand_piece.new.seat got c.args.piece c.in-Ok.up c.in-Ok.ensures)

pub returns-in-Err : goal.returns-in-Err
returns-in-Err g c = λ got. fed_refused c.args.seat.now c.hand_piece.new.seat got c.args.piece c.in-Err.end c.in-Err.ensures
