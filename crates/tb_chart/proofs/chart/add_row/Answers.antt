use Rattle.std.proofs.Common.{refl}
use Rattle.tb_chart.proofs.LineLemmas.{lines_push}
use Rattle.tb_chart.proofs.NameLemmas.{named_push}
use Rattle.tb_chart.proofs.NeedLemmas.{needed_push}
use Rattle.tb_chart.proofs.chart.add_row.Goals as goal

pub returns-clause-named : goal.returns-clause-named
returns-clause-named c = λ all.
    named_push c.args.scene.now.cast.now.tools.items c.args.scene.now.cast.now.tools.items c.args.entry.now c.figure_of.result c.ends_of.result
    c.in-Some.ends c.row_of.result c.args.rows.now.items c.push.new.self.items c.in-Some.ensures.named refl c.figure_of.ensures
    c.ends_of.ensures c.row_of.ensures.entry c.row_of.ensures.ends c.in_ok-push.ensures.items all

pub returns-clause-lines : goal.returns-clause-lines
returns-clause-lines c = λ all.
    lines_push c.args.lines.now c.add_lines.new.lines c.args.rows.now.items c.push.new.self.items c.row_of.result c.in-Some.ends
    c.in_ok-add_lines.ensures.stay (c.in_ok-add_lines.ensures.there c.in-Some.ensures.are) c.row_of.ensures.ends c.in_ok-push.ensures.items all

pub returns-clause-needed : goal.returns-clause-needed
returns-clause-needed c =
    needed_push c.args.lines.now c.add_lines.new.lines c.args.rows.now.items c.push.new.self.items c.row_of.result c.in-Some.ends
    c.in_ok-add_lines.ensures.only c.row_of.ensures.ends c.in_ok-push.ensures.items
