use Rattle.std.proofs.Common.{◌<◌, length, arith}
use Rattle.tb_chart.proofs.LineLemmas.{first_more}
use Rattle.tb_chart.proofs.lines.add_players.Goals as goal

pub loop-index-preserved : goal.loop-index-preserved
loop-index-preserved c =
    let players = c.args.scene.now.players.items in
    let within : c.loop-index.index < length players = omega (arith, c.loop-index-test.true, c.count-index-end.ensures) in
    record {
      there = first_more players c.in_ok-number_at.field-0 c.loop-index.index c.loop-index.lines c.add_process.new.self c.in_ok-number_at.ensures within
          c.in_ok-add_process.ensures c.loop-index.invariant.there;
      only = λ test pass before. c.in_ok-add_process.ensures.only test
          (pass c.in_ok-number_at.field-0 (omega (arith, c.in_ok-number_at.ensures)) (omega (arith, c.in_ok-number_at.ensures, within)))
          (c.loop-index.invariant.only test pass before);
      sound = λ before. c.in_ok-add_process.ensures.sound (c.loop-index.invariant.sound before);
    }
