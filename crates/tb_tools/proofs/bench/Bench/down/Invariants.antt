use Rattle.std.proofs.Common.{◌≡◌, ◌++◌, map, take, drop, replicate, count_by}
use Rattle.tb_tools.specs.Lanes.{is_open}
use Rattle.tb_tools.specs.Acts.{dismissed, last_line}
use Rattle.tb_tools.proofs.bench.Bench.down.Given as goal

-- the lanes so far were dismissed, and there is a line for each that is left and open
abbrev pub invariant-loop-index : goal.invariant-loop-index
invariant-loop-index l = record {
  lanes : l.self-inside.lanes.items ≡ map (dismissed (last_line l.t)) (take l.index l.initial.self-inside.lanes.items) ++ drop l.index l.initial.self-inside.lanes.items;
  next_tool : l.self-inside.next_tool ≡ l.initial.self-inside.next_tool;
  lines : l.lines.items ≡ replicate (count_by is_open (drop l.index l.initial.self-inside.lanes.items)) (last_line l.t);
}
