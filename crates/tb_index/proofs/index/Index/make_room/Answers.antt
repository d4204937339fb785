use Rattle.std.proofs.Common.{subst}
use Rattle.tb_index.specs.Indexes.{SameIndex}
use Rattle.tb_index.proofs.IndexLemmas as indexes
use Rattle.tb_index.proofs.index.Index.make_room.Goals as goal

pub returns-clause-same : goal.returns-clause-same
returns-clause-same c = subst (λ old. SameIndex old (indexes.state c.self.inside.sending c.self.inside.receiving c.self.inside.counts.opened c.self.inside.counts.pairs c.make_room.new.self c.self.inside.active.items)) c.self.view_is
    (indexes.grown c.self.inside.sending c.self.inside.receiving c.self.inside.counts.opened c.self.inside.counts.pairs c.self.inside.awake c.self.inside.active.items c.make_room.new.self c.make_room.ensures.same c.make_room.ensures.long)

pub returns-clause-room : goal.returns-clause-room
returns-clause-room c = indexes.room-made c.self.inside.sending c.self.inside.receiving c.self.inside.counts.opened c.self.inside.counts.pairs c.make_room.new.self c.self.inside.active.items c.args.proc c.make_room.result c.make_room.ensures.room
