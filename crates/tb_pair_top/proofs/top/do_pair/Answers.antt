use Rattle.std.proofs.Common.{refl}
use Rattle.tb_pair_top.proofs.Parts.{pair-comes, unloaded-comes}
use Rattle.tb_pair_top.proofs.top.do_pair.Goals as goal

pub returns-in-Ok-clause-comes : goal.returns-in-Ok-clause-comes
returns-in-Ok-clause-comes g c =
    pair-comes c.args.command.now _ _ c.in-Ok.programs c.as_str.result.now c.as_str-2.result.now c.run_programs.result c.as_str.ensures.value c.as_str-2.ensures.value c.in-Ok.ensures.ok c.in-Ok.ensures.asks
    c.run_programs.ensures.outcome c.run_programs.ensures.tells c.run_programs.ensures.behind

pub returns-in-Err-clause-comes : goal.returns-in-Err-clause-comes
returns-in-Err-clause-comes g c =
    unloaded-comes (Unit {0}) c.args.command.now _ _ c.as_str.result.now c.as_str-2.result.now c.in-Err.fault c.of_load.result c.as_str.ensures.value c.as_str-2.ensures.value c.of_load.ensures c.in-Err.ensures.err refl c.in-Err.ensures.rose
