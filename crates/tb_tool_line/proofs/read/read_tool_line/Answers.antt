use Rattle.tb_log.specs.Shapes.{IsToolLineInShape}
use Rattle.std.proofs.Common.{sym, subst}
use Rattle.tb_tool_line.proofs.Shaping.{line_of-in_shape}
use Rattle.tb_tool_line.proofs.Lines.{faulty-line}
use Rattle.tb_tool_line.proofs.read.read_tool_line.Goals as goal

pub returns-in-Ok-clause-shape : goal.returns-in-Ok-clause-shape
returns-in-Ok-clause-shape c = subst IsToolLineInShape (sym c.line_of.ensures) (line_of-in_shape c.in-Ok.term)

pub returns-in_ok-out_of_memory-in-Err-clause-line : goal.returns-in_ok-out_of_memory-in-Err-clause-line
returns-in_ok-out_of_memory-in-Err-clause-line c =
    faulty-line c.args.bytes.now c.in-Err.fault c.if-bytes-gt-MOST_LINE.false c.in_ok-out_of_memory-in-Err.ensures c.in-Err.ensures.fault
