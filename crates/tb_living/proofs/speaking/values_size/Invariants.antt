use Rattle.std.proofs.Common.{◌≡◌, min, take}
use Rattle.tb_log.specs.Limits.{terms_size}
use Rattle.tb_bus.specs.Exchanges.{values_in}
use Rattle.tb_living.proofs.speaking.values_size.Given as goal

abbrev pub invariant-loop-bind : goal.invariant-loop-bind
invariant-loop-bind l = l.total ≡ min (terms_size (values_in (take l.bind-index l.binds))) 18446744073709551615
