-- The reached buses of an origin.
use Rattle.std.specs.Prelude.{◌≡◌, List}
use Rattle.tb_bus.specs.Buses.{Bus, start}
use Rattle.tb_bus.specs.declared.origin.Origin.{Origin}
use Rattle.tb_bus.specs.Traces.{IsTrace, replay}
use Rattle.tb_log.specs.declared.entry.Entry.{Entry}

-- a trace from the initial bus of the origin leads to this bus
abbrev pub Reaches : Origin → Bus → Type 0
Reaches origin bus = (log : List Entry) × IsTrace (start origin) log × (bus ≡ replay (start origin) log)
