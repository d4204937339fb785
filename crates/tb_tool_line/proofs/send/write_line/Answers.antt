use Rattle.std.proofs.Common.{arith}
use Rattle.tb_tool_line.proofs.SendLemmas.{line-fits}
use Rattle.tb_tool_line.proofs.send.write_line.Goals as goal

pub unreachable-requires : goal.unreachable-requires
unreachable-requires c =
    let fits = line-fits c.args.term.now c.show_proper.ensures c.requires.shape in
    omega (arith, fits, c.requires.room, c.in-Err.ensures.full)
