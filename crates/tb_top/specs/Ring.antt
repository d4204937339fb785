-- The answers of `ring`, and the bytes that it writes.
use Rattle.std.specs.Prelude.{◌≡◌, ℕ, List, [], ◌∷◌, ◌++◌, Option, Result, Ok, Err, codes, sum_by}
use Rattle.std.specs.Prelude.{fold}
use Rattle.std.specs.Fmt.{decimal}
use Rattle.tb_edge.specs.Sinks.{Writes, WritesPrefix}
use Rattle.tb_body.specs.declared.program.Program.{Program}
use Rattle.tb_bus.specs.declared.origin.Origin.{Origin}
use Rattle.tb_bus.specs.Buses.{origin_of, start}
use Rattle.tb_bus.specs.Traces.{IsTrace}
use Rattle.tb_gen.specs.Ring.{ring_text}
use Rattle.tb_log.specs.LogText.{kind_word}
use Rattle.tb_log.specs.declared.entry.Entry.{Entry}
use Rattle.tb_log.specs.declared.entry.Entry.TheVariants.{Did}
use Rattle.tb_script.specs.Findings.{IsFound, Program'}
use Rattle.tb_sim.specs.Simulation.{IsSim, limits_of, sim_start}
use Rattle.tb_sim.specs.declared.ends.SimEnd.{SimEnd}
use Rattle.tb_sim.specs.declared.ends.SimEnd.TheVariants as sim
use Rattle.tb_load.specs.Loading.{IsRefused}
use Rattle.tb_top.specs.declared.fault.Fault.{Fault}
use Rattle.tb_top.specs.declared.fault.Fault.TheVariants.{Script, Out, Limit, NoMemory}
use Rattle.tb_top.specs.declared.status.Bound.TheVariants as bound

-- the greatest number of steps of a ring, and of entries of its log
abbrev pub most_of_ring : ℕ
most_of_ring = 4000000

abbrev pub ring_origin : Program → Origin
ring_origin program = origin_of program [] most_of_ring

-- The ring's script has this program and no error, and this log is the log of the program's
-- simulation, which ends for the reason `last`. The log is a trace of the program.
pub record IsRingOf (n k : ℕ) (log : List Entry) (last : SimEnd) : Type 0 where
  pub program : Program
  pub found : IsFound (ring_text n k) (Program' program)
  pub simulated :
      IsSim (limits_of most_of_ring (ring_origin program))
      (sim_start (start (ring_origin program)) []) log last
  pub trace : IsTrace (start (ring_origin program)) log

-- the number of steps of an entry: 1 or 0
abbrev pub steps_in : Entry → ℕ
steps_in (Did label) = 1
steps_in _ = 0

-- the word of the last step so far
abbrev pub word_after : List ℕ → Entry → List ℕ
word_after word (Did label) = kind_word label.kind
word_after word _ = word

-- the word of the last step of a log, or nothing if there is none
abbrev pub last_word : List Entry → List ℕ
last_word log = fold word_after [] log

-- the summary: the number of processes, the number of steps in the log, and the word of the last
-- step
abbrev pub summary : ℕ → List Entry → List ℕ
summary n log =
    codes "processes " ++ decimal n ++ codes " steps " ++ decimal (sum_by steps_in log)
    ++ codes " end " ++ last_word log ++ 10 ∷ []

-- the whole summary of a simulation was written, and the simulation ends for the reason `last`
abbrev pub PutsSummary : ℕ → ℕ → Option (List ℕ) → Option (List ℕ) → SimEnd → Type 0
PutsSummary n k old new last =
    (log : List Entry) × IsRingOf n k log last × Writes old new (summary n log)

-- a prefix of the summary was written
abbrev pub PutsSome : ℕ → ℕ → Option (List ℕ) → Option (List ℕ) → Type 0
PutsSome n k old new =
    (log : List Entry) × (last : SimEnd) × IsRingOf n k log last
    × WritesPrefix old new (summary n log)

-- the claims about `ring` by its answer, for the number of processes, the number of rounds, and the
-- bytes of the sink before and after the call
abbrev pub RingOutcome : {A : Type 0} → ℕ → ℕ → Option (List ℕ) → Option (List ℕ) → Result A Fault
    → Type 0
-- the bus shut down
RingOutcome n k old new (Ok done) = PutsSummary n k old new sim.Down
-- the limit of steps was reached, and another step was possible
RingOutcome n k old new (Err (Limit bound.Steps)) = PutsSummary n k old new sim.Steps
-- the log had no capacity for the next entry
RingOutcome n k old new (Err (Limit bound.Events)) = PutsSummary n k old new sim.Events
-- the sink failed
RingOutcome n k old new (Err Out) = PutsSome n k old new
-- the ring's script was rejected
RingOutcome n k old new (Err (Script fault)) = IsRefused (ring_text n k) fault × (new ≡ old)
-- memory ran out
RingOutcome n k old new (Err NoMemory) = new ≡ old
-- no other answer comes
RingOutcome n k old new _ = ⊥
