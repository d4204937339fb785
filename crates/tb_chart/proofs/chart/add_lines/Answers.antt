use Rattle.std.proofs.Common.{Bool, Option, IsTrue, subst, sym}
use Rattle.tb_chart.specs.declared.row.Who.{Who}
use Rattle.tb_chart.specs.Helpers.Additions.{are_all}
use Rattle.tb_chart.specs.Lifelines.{HasOnly}
use Rattle.tb_chart.proofs.LineLemmas.{only_through}
use Rattle.tb_chart.proofs.chart.add_lines.Goals as goal

pub returns-in_ok-add-in-Some-2-clause-only : goal.returns-in_ok-add-in-Some-2-clause-only
returns-in_ok-add-in-Some-2-clause-only c =
    subst (λ (ends : Option (Who × Who)). (test : Who → Bool) → IsTrue (are_all test ends) → HasOnly test c.args.lines.now
    → HasOnly test c.add-in-Some.new.self) (sym c.in-Some.is)
    (only_through _ _ _ _ _ _ c.in_ok-add-in-Some.ensures c.in_ok-add-in-Some-2.ensures)
