use Rattle.std.proofs.Common.{◌≡◌, true, subst, rules}
use Rattle.tb_chart.specs.Helpers.Additions.{Follows}
use Rattle.tb_chart.proofs.NameLemmas.{named_goes}
use Rattle.tb_chart.proofs.chart.add_entry.Goals as goal

pub returns-clause-named : goal.returns-clause-named
returns-clause-named c =
    let yes : c.in_ok-follow.field-0 ≡ true = search rules in
    named_goes c.args.entry.now c.args.scene.now c.follow.new.self c.args.rows.now.items c.add_row.new.rows.items c.add_row.result
    (subst (Follows c.args.entry.now c.args.scene.now c.follow.new.self) yes c.in_ok-follow.ensures.goes) c.add_row.ensures.named
