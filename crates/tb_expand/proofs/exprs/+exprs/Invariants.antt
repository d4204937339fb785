use Rattle.std.proofs.Common.{◌≡◌, take}
use Rattle.tb_expand.specs.Scopes.{of_blocks}
use Rattle.tb_expand.specs.Exprs.{exprs_of}
use Rattle.tb_expand.proofs.exprs.+exprs.Given as goal

abbrev pub invariant-exprs_of-loop-ast : goal.invariant-exprs_of-loop-ast
invariant-exprs_of-loop-ast l = l.exprs ≡ exprs_of (of_blocks l.blocks) (take l.ast-index l.asts)
