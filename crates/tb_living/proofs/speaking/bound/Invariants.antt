use Rattle.std.proofs.Common.{◌≡◌, take}
use Rattle.tb_bus.specs.Exchanges.{values_in}
use Rattle.tb_living.proofs.speaking.bound.Given as goal

abbrev pub invariant-loop-bind : goal.invariant-loop-bind
invariant-loop-bind l = l.shown ≡ values_in (take l.bind-index l.bind-items)
