use Rattle.std.proofs.Common.{Bool, List, [], ◌∷◌, ◌++◌, subst, sym}
use Rattle.rtrb.specs.Ring.{received}
use Rattle.tb_pair.specs.declared.piece.Piece.{Piece}
use Rattle.tb_pair.specs.Helpers.Reading.{Feeds, ReadsOn}
use Rattle.tb_pair.proofs.ReaderLemmas.{reads_none}
use Rattle.tb_pair.proofs.reader.feed.Goals as goal

pub returns-then-not-reads-clause-work : goal.returns-then-not-reads-clause-work
returns-then-not-reads-clause-work g c = reads_none c.args.seat.now (received c.args.pipe.now.end) c.args.reads.now

pub returns-in-Some-clause-work : goal.returns-in-Some-clause-work
returns-in-Some-clause-work g c =
    subst (λ (got : List Piece). Feeds c.args.seat.now c.feed_piece.new.seat (received c.args.pipe.now.end) got c.args.reads.now c.feed_piece.new.reads c.feed_piece.result) (sym c.in-Some.ensures.got)
    (subst (λ (r : Bool). Feeds c.args.seat.now c.feed_piece.new.seat (received c.args.pipe.now.end) (received c.args.pipe.now.end ++ c.in-Some.piece ∷ []) r c.feed_piece.new.reads c.feed_piece.result) (sym c.if-not-reads.false) (c.feed_piece.ensures (received c.args.pipe.now.end)))

pub returns-in-None-clause-work : goal.returns-in-None-clause-work
returns-in-None-clause-work g c =
    subst (λ (got : List Piece). ReadsOn c.args.seat.now c.args.seat.now (received c.args.pipe.now.end) got c.args.reads.now c.args.reads.now) (sym c.in-None.ensures.got) (reads_none c.args.seat.now (received c.args.pipe.now.end) c.args.reads.now)
