-- The ring ends well: its script is accepted, and its simulation ends because the bus has shut down.
use Rattle.std.specs.Prelude.{◌≡◌, ℕ, ◌*◌, List, [], ◌∷◌, ◌++◌, map, replicate, Option, Some, None}
use Rattle.tb_body.specs.declared.program.Program.{Program}
use Rattle.tb_bus.specs.declared.origin.Origin.{Origin}
use Rattle.tb_bus.specs.Buses.{origin_of, start}
use Rattle.tb_gen.specs.Ring.{ring_text}
use Rattle.tb_log.specs.declared.entry.Entry.{Entry}
use Rattle.tb_log.specs.declared.entry.Entry.TheVariants.{Did, Quiet, Fed, Gave}
use Rattle.tb_log.specs.declared.entry.LabelKind.{LabelKind}
use Rattle.tb_log.specs.declared.entry.LabelKind.TheVariants as kind
use Rattle.tb_script.specs.Findings.{IsFound, Program'}
use Rattle.tb_sim.specs.Simulation.{IsSim, limits_of, sim_start}
use Rattle.tb_sim.specs.declared.ends.SimEnd.TheVariants.{Down}

-- the greatest number of steps of the simulation, and of entries of its log
abbrev pub most_steps : ℕ
most_steps = 4000000

-- the origin of a program without connected commands
abbrev pub alone : Program → Origin
alone program = origin_of program [] most_steps

-- the kind of the step of an entry, if the entry is a step
abbrev pub step_kind : Entry → Option LabelKind
step_kind (Did label) = Some label.kind
step_kind Quiet = None
step_kind (Fed input reply) = None
step_kind (Gave lane out) = None

-- the kinds of the entries of a log: this number of messages, and then one shutdown
abbrev pub messages_then_end : ℕ → List (Option LabelKind)
messages_then_end count = replicate count (Some kind.Msg) ++ Some kind.Shutdown ∷ []

-- The script of a ring of n processes that a message goes round k times has this program and no error. Within the limits, its simulation
-- makes this log: n times k messages and one shutdown. Then the simulation ends because the bus has shut down.
pub record GoesDown (n k : ℕ) : Type 0 where
  pub program : Program
  pub found : IsFound (ring_text n k) (Program' program)
  pub log : List Entry
  pub entries : map step_kind log ≡ messages_then_end (n * k)
  pub ends : IsSim (limits_of most_steps (alone program)) (sim_start (start (alone program)) []) log Down
