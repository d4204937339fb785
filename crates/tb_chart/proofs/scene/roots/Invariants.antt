use Rattle.std.proofs.Common.{◌≡◌, take}
use Rattle.tb_chart.proofs.scene.roots.Given as goal

abbrev pub invariant-loop-root : goal.invariant-loop-root
invariant-loop-root l = l.players.items ≡ take l.root-index l.cast.roots.items
