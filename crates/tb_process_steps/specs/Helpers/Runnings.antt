-- The process term that a running term represents: parts of a plan, each entered at its own tick.
use Rattle.std.specs.Prelude.{ℕ, zero, suc, ◌-◌, Bool, ◌&&◌, nat_lt, nat_le, List, length}
use Rattle.tb_process_steps.specs.Processes as process
use Rattle.tb_process_steps.specs.Processes.{Process, aged}
use Rattle.tb_process_steps.specs.Helpers.Plans.{process_at}
use Rattle.tb_process_steps.specs.declared.node.Node.{Node}
use Rattle.tb_process_steps.specs.declared.running.Entry.{Entry}
use Rattle.tb_process_steps.specs.declared.running.Running.{Running}
use Rattle.tb_process_steps.specs.declared.running.Running.TheOpen.{Running-F, Whole, Seq, Par, Disrupt}
use Rattle.tb_process_steps.specs.declared.running.Running.TheFolds.{fold-Running}

-- the term this number of ticks later
abbrev pub waited : ℕ → Process → Process
waited zero term = term
waited (suc ticks) term = aged (waited ticks term)

-- the term of an entry: a part of the plan that was entered at its tick and has taken no step since
unfoldable pub entered_term : List Node → ℕ → Entry → Process
entered_term nodes ticks entry = waited (ticks - entry.entered) (process_at nodes entry.node)

abbrev pub term_step : List Node → ℕ → Running-F Process → Process
term_step nodes ticks (Whole entry) = entered_term nodes ticks entry
term_step nodes ticks (Seq x y) = process.Seq x (process_at nodes y)
term_step nodes ticks (Par x y) = process.Par x y
term_step nodes ticks (Disrupt x entry) = process.Disrupt x (entered_term nodes ticks entry)

abbrev pub term_of : List Node → ℕ → Running → Process
term_of nodes ticks = fold-Running Process (term_step nodes ticks)

-- the node exists, and the process entered it no later than now
abbrev pub is_entry : List Node → ℕ → Entry → Bool
is_entry nodes ticks entry = nat_lt entry.node (length nodes) && nat_le entry.entered ticks

abbrev pub on_step : List Node → ℕ → Running-F Bool → Bool
on_step nodes ticks (Whole entry) = is_entry nodes ticks entry
on_step nodes ticks (Seq x y) = x && nat_lt y (length nodes)
on_step nodes ticks (Par x y) = x && y
on_step nodes ticks (Disrupt x entry) = x && is_entry nodes ticks entry

-- each part is a node of the plan, and each part that the process has entered was entered no later than now
abbrev pub is_on : List Node → ℕ → Running → Bool
is_on nodes ticks = fold-Running Bool (on_step nodes ticks)
