use Rattle.tb_chart.proofs.NeedLemmas.{needed_first}
use Rattle.tb_chart.proofs.chart.root_lines.Goals as goal
use Rattle.std.proofs.Common.{[], length, subst, sym}
use Rattle.tb_chart.specs.Lifelines.{HasOnly, is_needed}

pub returns-then-all-clause-sound : goal.returns-then-all-clause-sound
returns-then-all-clause-sound c = c.in_ok-add_players.ensures.sound (c.new-lines.ensures.sound c.args.scene.now.players.items)

pub returns-then-all-clause-only : goal.returns-then-all-clause-only
returns-then-all-clause-only c =
    let many = length c.args.scene.now.players.items in
    subst (λ all. HasOnly (is_needed all many []) c.add_players.new.lines) (sym c.if-all.true)
    (needed_first many c.new-lines.result c.add_players.new.lines c.in_ok-add_players.ensures.only c.new-lines.ensures.only)

pub returns-clause-sound : goal.returns-clause-sound
returns-clause-sound c = c.new-lines.ensures.sound c.args.scene.now.players.items

pub returns-clause-only : goal.returns-clause-only
returns-clause-only c = c.new-lines.ensures.only _
