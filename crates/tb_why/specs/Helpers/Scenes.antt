-- The specified values of what the code works with: a format that is partly read, and the parts of a bus on which reasons depend.
use Rattle.std.specs.Prelude.{ℕ, ◌+◌, List, ◌∷◌, map, drop, Option, Some, None}
use Rattle.std.specs.Borrow.{Bor}
use Rattle.tb_terms.specs.declared.term.Term.{Term}
use Rattle.tb_body.specs.declared.act.Act.{Act}
use Rattle.tb_body.specs.declared.act.Act.TheVariants.{Delta}
use Rattle.tb_bus.specs.Exchanges.{setting_by}
use Rattle.tb_search.specs.declared.living.Living.{Living}
use Rattle.tb_why.specs.Formats.{fault_from}
use Rattle.tb_why.specs.Reasons.{Queue, Scene}
use Rattle.tb_why.specs.declared.formats.Reading.{Reading}
use Rattle.tb_why.specs.declared.scene.Sight.{Sight}
use Rattle.tb_why.specs.declared.reason.FormatFault.{FormatFault}

-- the fault of the rest of a format, in this state of reading, with all arguments
abbrev pub fault_at : Reading → List ℕ → List Term → FormatFault
fault_at reading format terms = fault_from reading.begun (reading.taken + 1) format (drop reading.taken terms)

-- the fault at this byte, or else the fault of the rest of the format
abbrev pub fault_or : Option FormatFault → FormatFault → FormatFault
fault_or None later = later
fault_or (Some fault) later = fault

-- the queue of a living process
abbrev pub queue_in : {W : Type 0} → Living W → Queue
queue_in living = record { number = living.number; held = living.inbox.held }

abbrev pub queues_in : {W : Type 0} → List (Living W) → List Queue
queues_in all = map queue_in all

-- the scene of the parts of a bus that the code has
abbrev pub scene_seen : {W : Type 0} → Sight W → Scene
scene_seen sight = record {
  setting = setting_by sight.program.now.bodies sight.program.now.tools sight.bench.now;
  bodies = sight.program.now.bodies;
  next_number = sight.next_number;
  standings = sight.standings.now;
  queues = queues_in sight.all.now;
}

-- the act of a borrowed atom; `delta`, which never happens, if there is none
abbrev pub act_found : Option (Bor Act) → Act
act_found None = Delta
act_found (Some act) = act.now
