use Rattle.std.proofs.Common.{ap, ◌∙◌}
use Rattle.tb_log.specs.declared.entry.Out.{Out}
use Rattle.tb_tools.specs.Lanes.{Lane, on_tool, with_out}
use Rattle.tb_tools.specs.declared.stage.Eval.TheVariants as eval
use Rattle.tb_tools.proofs.lane.LaneRow.eval.Goals as goal

pub returns-clause-ok : goal.returns-clause-ok
returns-clause-ok c =
    c.ask.ensures
    ∙ ap (λ (lane : Lane). on_tool (λ tool. record tool { eval = eval.Asked }) lane) c.in_ok-put.ensures.ok
    ∙ ap (λ (out : Out). on_tool (λ tool. record tool { eval = eval.Asked }) (with_out out c.args.self.now)) c.in_ok-line_with.ensures
