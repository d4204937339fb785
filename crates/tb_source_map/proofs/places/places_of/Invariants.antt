use Rattle.std.proofs.Common.{◌≡◌, map, take}
use Rattle.tb_source_map.specs.Places.{place_of}
use Rattle.tb_source_map.proofs.places.places_of.Given as goal

abbrev pub invariant-loop-def : goal.invariant-loop-def
invariant-loop-def l = l.places ≡ map (place_of l.tokens l.script) (take l.def-index l.script.procs)
