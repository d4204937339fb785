use Rattle.std.proofs.Common.{◌≤◌, vec_capacity}
use Rattle.tb_tool_line.specs.Sending.{most_line_text}
use Rattle.tb_run.specs.Helpers.Working.{Writes}
use Rattle.tb_run.proofs.writer.write_all.Given as goal

abbrev pub invariant-loop : goal.invariant-loop
invariant-loop g l =
    Writes l.fn.lane l.fn.seat l.seat (g.O.Outlet.told l.fn.outlet) (g.O.Outlet.told l.outlet) (g.O.Outlet.faults l.fn.outlet) (g.O.Outlet.faults l.outlet)
    × (most_line_text ≤ vec_capacity l.buffer)
