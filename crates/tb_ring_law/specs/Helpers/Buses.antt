-- The states of the ring's bus and of its processes during the simulation.
use Rattle.std.specs.Prelude.{◌≡◌, ◌==◌, ℕ, ◌+◌, Bool, List, [], ◌∷◌, length, false, if◌then◌else◌}
use Rattle.tb_func.specs.declared.slot.Slot.{Slot}
use Rattle.tb_terms.specs.declared.sort.Sort.TheVariants as sort
use Rattle.tb_body.specs.declared.program.Program.{Program}
use Rattle.tb_process_steps.specs.Processes.{Process, At, Seq, Star, If, Let}
use Rattle.tb_notes.specs.Inboxes.{nothing}
use Rattle.tb_tools.specs.Lanes.{opening}
use Rattle.tb_bus.specs.Buses.{Bus, Proc}
use Rattle.tb_ring_law.specs.Helpers.Bodies.{worth, setting, first_test}

abbrev pub slot : ℕ → Slot
slot n = record { sort = sort.Int; value = worth n }

-- the slots of a process of Node, and the slot of the process of First
abbrev pub node_store : ℕ → ℕ → ℕ → List Slot
node_store process next t = slot process ∷ slot next ∷ slot t ∷ []

abbrev pub first_store : ℕ → List Slot
first_store t = slot t ∷ []

-- the terms of Node: it waits for its first message or for a further message, or it holds a message to send
abbrev pub node_loop : Process
node_loop = Star (Seq (At 1 0) (At 2 0)) (At 3 0)

abbrev pub node_waits : Bool → Process
node_waits fresh = if fresh then Let (setting 2) node_loop else node_loop

abbrev pub node_holds : Process
node_holds = Seq (At 2 0) node_loop

-- the terms of First: it starts, waits, or holds a message
abbrev pub first_loop : ℕ → Process
first_loop messages = Star (Seq (At 2 0) (If (first_test messages) (At 3 0) (At 4 0))) (At 5 0)

abbrev pub first_begins_with : ℕ → Process
first_begins_with messages = Let (setting 0) (Seq (At 1 0) (first_loop messages))

abbrev pub first_holds : ℕ → Process
first_holds messages = Seq (If (first_test messages) (At 3 0) (At 4 0)) (first_loop messages)

-- the process to which a process sends, in a ring of n
abbrev pub next_of : ℕ → ℕ → ℕ
next_of n process = if process == n then 1 else process + 1

-- a process of Node with this number and this term; the last message that it received is t
abbrev pub node_at : ℕ → Process → ℕ → ℕ → Proc
node_at n term process t = record { number = process; body = 0; term = term; store = node_store process (next_of n process) t; inbox = nothing }

abbrev pub first_at : Process → ℕ → Proc
first_at term t = record { number = 1; body = 1; term = term; store = first_store t; inbox = nothing }

-- the process is a process of Node that waits
abbrev pub Waits : ℕ → ℕ → Proc → Type 0
Waits n process proc = (fresh : Bool) × (t : ℕ) × (proc ≡ node_at n (node_waits fresh) process t)

-- these are the processes with the numbers from `from` to before `to`, and each waits
abbrev pub AllWait : ℕ → ℕ → ℕ → List Proc → Type 0
AllWait n from to [] = from ≡ to
AllWait n from to (proc ∷ procs) = Waits n from proc × AllWait n (from + 1) to procs

-- a bus that hasn't shut down; process `starter` took the last step
abbrev pub bus_of : Program → List Proc → ℕ → Bus
bus_of program procs starter = record {
  program = program;
  procs = procs;
  now = 0;
  last_starter = starter;
  next_number = length program.roots + 1;
  no_ticks = false;
  down = false;
  bench = opening [];
}
