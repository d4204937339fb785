use Rattle.std.proofs.Common.{◌≡◌, drop}
use Rattle.tb_body.specs.Programs.{have_sorts}
use Rattle.tb_body.proofs.in_program.have_sorts.Given as goal

abbrev pub invariant-loop-position : goal.invariant-loop-position
invariant-loop-position l = have_sorts (drop l.position l.sorts) (drop l.position l.terms) ≡ have_sorts l.sorts l.terms
