use Rattle.std.proofs.Common.{arith, map, ap, ◌∙◌}
use Rattle.tb_script.specs.Programs.{declared_tool}
use Rattle.tb_script.proofs.ProgramRanges.{program_in_range, roots_have_values}
use Rattle.tb_script.proofs.program.program_of.Goals as goal

pub roots_of-requires : goal.roots_of-requires
roots_of-requires c = roots_have_values c.args.names.now.script.now c.requires.proper

pub invariant_of-result : goal.invariant_of-result
invariant_of-result c = record {
  in_range =
      program_in_range c.args.names.now.script.now c.args.bodies c.in_ok-roots.roots c.in_ok-tools.tools c.requires.proper c.requires.expanded.bodies_are c.in_ok-roots.ensures (c.in_ok-tools.ensures ∙ ap (map declared_tool) c.as_slice.ensures)
      (omega (arith, c.len.ensures, c.if-len-gt-MOST_ROOTS.false));
}
