use Rattle.std.proofs.Common.{◌≡◌, ◌≤◌, length}
use Rattle.tb_child.proofs.inlet.ChildInlet.next_line.Given as goal

abbrev pub invariant-loop : goal.invariant-loop
invariant-loop g l = record {
  short : length l.line.items ≤ 65536;
  faults : l.self.faults ≡ l.fn.self.faults;
}
