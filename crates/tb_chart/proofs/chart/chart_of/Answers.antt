use Rattle.std.proofs.Common.{◌≡◌, ◌∙◌, ◌+◌, All, Err, length, take, refl, subst, rules, arith}
use Rattle.tb_chart.specs.declared.cast.Cast.{Cast}
use Rattle.tb_chart.specs.declared.row.Who.TheVariants as who
use Rattle.tb_chart.specs.Helpers.Additions.{Seated}
use Rattle.tb_chart.specs.Named.{NamesTools}
use Rattle.tb_chart.specs.Tools.{tools_of}
use Rattle.tb_chart.proofs.LineLemmas.{bodies_after, sound_once}
use Rattle.tb_chart.proofs.RefusalLemmas.{refused_by}
use Rattle.tb_chart.proofs.RightLemmas.{right_all, right_more}
use Rattle.tb_chart.proofs.RowLemmas.{players-more, rows-more, tools-more}
use Rattle.tb_chart.proofs.chart.chart_of.Goals as goal

pub loop-index-preserved : goal.loop-index-preserved
loop-index-preserved c = record {
  cast = c.in_ok-add_entry.ensures.goes_on.cast ∙ c.loop-index.invariant.cast;
  lanes = c.in_ok-add_entry.ensures.goes_on.lanes ∙ c.loop-index.invariant.lanes;
  players = players-more c.args.cast.now c.loop-index.scene.cast.now c.loop-index.scene.players.items c.add_entry.new.scene.players.items
      c.loop-index.index c.args.entries.now _ c.loop-index-test.true c.index-entries-index.is c.loop-index.invariant.cast
      c.loop-index.invariant.players c.in_ok-add_entry.ensures.goes_on.players;
  tools = subst (Seated c.add_entry.new.scene) (tools-more (tools_of (take c.loop-index.index c.args.entries.now)) c.loop-index.index
      c.args.entries.now _ c.loop-index-test.true c.index-entries-index.is refl)
      (c.in_ok-add_entry.ensures.goes_on.tools (tools_of (take c.loop-index.index c.args.entries.now)) c.loop-index.invariant.tools);
  rows = rows-more c.args.cast.now c.loop-index.scene.cast.now c.args.span c.loop-index.scene.players.items c.add_entry.new.scene.players.items
      c.loop-index.index c.args.entries.now _ _ _ _ c.loop-index-test.true c.index-entries-index.is c.loop-index.invariant.cast
      c.in_ok-add_entry.ensures.goes_on.players c.in_ok-add_entry.ensures.rows c.loop-index.invariant.rows;
  named = subst (λ (cast : Cast). All (NamesTools cast.tools.items) c.loop-index.rows.items → All (NamesTools cast.tools.items) c.add_entry.new.rows.items)
      c.loop-index.invariant.cast c.in_ok-add_entry.ensures.named c.loop-index.invariant.named;
  lines = c.in_ok-add_entry.ensures.lines c.loop-index.invariant.lines;
  roots = λ all number from to. c.in_ok-add_entry.ensures.stay (who.Process number) (c.loop-index.invariant.roots all number from to);
  needed = c.in_ok-add_entry.ensures.needed c.args.span.all (length c.args.cast.now.roots.items) c.loop-index.invariant.needed;
  right = right_more c.loop-index.scene c.args.cast.now c.args.span c.loop-index.index (c.loop-index.index + 1)
      c.args.entries.now _ c.loop-index-test.true c.index-entries-index.is refl c.loop-index.invariant.lanes c.loop-index.invariant.cast
      c.loop-index.invariant.players c.loop-index.invariant.tools c.loop-index.invariant.right c.in_ok-add_entry.ensures.right;
  sound = c.in_ok-add_entry.ensures.sound c.loop-index.invariant.sound;
}

pub returns-in_err-add_entry-clause-err : goal.returns-in_err-add_entry-clause-err
returns-in_err-add_entry-clause-err c =
    let told : c.from_residual-in_err-add_entry.result ≡ Err c.in_err-add_entry.field-0.0 = search rules in
    refused_by c.from_residual-in_err-add_entry.result c.loop-index.scene c.args.cast.now c.args.span c.loop-index.index (c.loop-index.index + 1)
    c.args.entries.now _ c.in_err-add_entry.field-0.0 told c.loop-index-test.true c.index-entries-index.is refl c.loop-index.invariant.lanes
    c.loop-index.invariant.cast c.loop-index.invariant.players c.loop-index.invariant.tools c.loop-index.invariant.right c.in_err-add_entry.ensures.err

pub returns-clause-once : goal.returns-clause-once
returns-clause-once c = sound_once c.loop-index.scene.players.items c.loop-index.lines c.loop-index.invariant.sound

pub returns-clause-bodies : goal.returns-clause-bodies
returns-clause-bodies c =
    let last : c.loop-index.index ≡ length c.args.entries.now = omega (arith, c.loop-index-test.false, c.loop-index.auto.index-end) in
    bodies_after c.args.cast.now c.args.entries.now c.loop-index.index c.loop-index.scene.players.items c.loop-index.lines last
    c.loop-index.invariant.players c.loop-index.invariant.sound

pub returns-clause-right : goal.returns-clause-right
returns-clause-right c =
    let last : c.loop-index.index ≡ length c.args.entries.now = omega (arith, c.loop-index-test.false, c.loop-index.auto.index-end) in
    right_all c.args.cast.now c.args.span c.loop-index.index c.args.entries.now last c.loop-index.invariant.right
