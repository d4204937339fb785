use Rattle.std.proofs.Common.{slice_get, List, ap, sym, ◌∙◌}
use Rattle.tb_process_steps.specs.Processes.{fresh}
use Rattle.tb_code.specs.Positions.{size}
use Rattle.tb_walk.specs.Helpers.Rests.{frame_in}
use Rattle.tb_code.specs.declared.node.Node.{Node}
use Rattle.tb_walk.proofs.EndingLemmas.{above_less}
use Rattle.tb_walk.proofs.ending.above.Goals as goal

pub returns-clause-frame : goal.returns-clause-frame
returns-clause-frame c = sym (ap frame_in (ap (λ (l : List Node). slice_get l c.args.at) (sym c.args.code.now.numbered) ∙ c.node.ensures.node))

pub returns-clause-within : goal.returns-clause-within
returns-clause-within c = above_less c.node.result.now.frame c.args.at (size (fresh c.args.code.now.body.tree)) c.requires c.node.ensures.frame
