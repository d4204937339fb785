use Rattle.std.proofs.Common.{◌≤◌, ℕ, Bool, IsTrue, length}
use Rattle.tb_chart.specs.declared.row.Who.{Who}
use Rattle.tb_chart.specs.declared.row.Who.TheVariants as who
use Rattle.tb_chart.specs.Helpers.Additions.{Sound}
use Rattle.tb_chart.specs.Lifelines.{HasFirst, HasOnly}
use Rattle.tb_chart.proofs.lines.add_players.Given as goal

-- the processes so far have a lifeline
abbrev pub invariant-loop-index : goal.invariant-loop-index
invariant-loop-index l = record {
  there : HasFirst l.index l.lines;
  only : (test : Who → Bool) → ((number : ℕ) → 1 ≤ number → number ≤ length l.scene.players.items → IsTrue (test (who.Process number)))
      → HasOnly test l.fn.lines → HasOnly test l.lines;
  sound : Sound l.scene.players.items l.fn.lines → Sound l.scene.players.items l.lines;
}
