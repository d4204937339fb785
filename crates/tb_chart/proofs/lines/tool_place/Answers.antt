use Rattle.std.proofs.Common.{◌≡◌, ◌∙◌, false, sym, arith}
use Rattle.std.specs.List.{list_any}
use Rattle.std.proofs.lemmas.Bool.{false≢true}
use Rattle.tb_chart.specs.Lifelines.{is_tool}
use Rattle.tb_chart.proofs.ListLemmas.{none_any}
use Rattle.tb_chart.proofs.lines.tool_place.Goals as goal

pub returns : goal.returns
returns c =
    let none : list_any (is_tool c.args.seat) c.args.tools.now ≡ false =
    none_any (is_tool c.args.seat) c.args.tools.now (λ k d within. c.loop-index.invariant k (omega (arith, within)) d) in
    λ any. absurd (false≢true (sym none ∙ any))
