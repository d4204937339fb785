use Rattle.std.proofs.Common.{◌≡◌, ◌++◌, take, arith}
use Rattle.std.proofs.lemmas.Grind.{common_steps}
use Rattle.tb_edge.proofs.Puts.{WritesPrefix-take}
use Rattle.tb_edge.proofs.mem_sink.MemSinkSink.put.Goals as goal

pub returns-then-prefix-piece-clause-prefix : goal.returns-then-prefix-piece-clause-prefix
returns-then-prefix-piece-clause-prefix c =
    let piece = c.args.piece.now in
    let prefix = c.if-fails_at.prefix in
    let takes : c.extend_from_slice.new.self.items ≡ c.args.self.now.taken ++ take prefix piece = grind (arith, common_steps) in
    WritesPrefix-take c.args.self.now.taken piece c.extend_from_slice.new.self.items prefix takes
