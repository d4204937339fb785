-- The buses in shape: those whose values in stores, notes in queues, and contents of lanes are in shape.
use Rattle.std.specs.Prelude.{◌≤◌, List, length, IfSome, ⊤}
use Rattle.std.specs.List.{All}
use Rattle.tb_terms.specs.declared.term.Term.{Term}
use Rattle.tb_terms.specs.Sizes.{term_levels, most_term_levels, IsWithinLimits}
use Rattle.tb_func.specs.declared.slot.Slot.{Slot}
use Rattle.tb_log.specs.Shapes.{AreParts, IsOutInShape}
use Rattle.tb_tools.specs.declared.stage.Eval.{Eval}
use Rattle.tb_tools.specs.declared.stage.Eval.TheVariants.{Closed, Asked, Answered}
use Rattle.tb_tools.specs.Lanes.{Tool, Lane, BenchState}
use Rattle.tb_bus.specs.Buses.{Bus, Proc}

-- The value of a slot is no deeper than a term can be. Its size has no limit of its own, since the initial value of a tool's variable can
-- exceed the largest size of a term. When the value is sent, its size is checked.
abbrev pub IsShallow : Term → Type 0
IsShallow term = term_levels term ≤ most_term_levels

abbrev pub IsShallowStore : List Slot → Type 0
IsShallowStore store = All (λ (slot : Slot). IsShallow slot.value) store

-- a note: at least one term, each within the limits, and all together no larger than a term can be
abbrev pub IsNote : List Term → Type 0
IsNote terms = (1 ≤ length terms) × AreParts terms

-- an event: at least one part, each within the limits, and all together no larger than a term can be
abbrev pub IsEvent : List Term → Type 0
IsEvent terms = (1 ≤ length terms) × AreParts terms

abbrev pub IsEvalInShape : Eval → Type 0
IsEvalInShape Closed = ⊤
IsEvalInShape Asked = ⊤
IsEvalInShape (Answered value) = IsWithinLimits value

pub record IsToolInShape (tool : Tool) : Type 0 where
  pub eval : IsEvalInShape tool.eval
  pub events : All IsEvent tool.events
  pub received : All IsEvent tool.received

pub record IsLaneInShape (lane : Lane) : Type 0 where
  pub tool : IfSome lane.tool IsToolInShape
  pub outs : All IsOutInShape lane.outs

abbrev pub IsBenchInShape : BenchState → Type 0
IsBenchInShape bench = All IsLaneInShape bench.lanes

pub record IsProcInShape (proc : Proc) : Type 0 where
  pub store : IsShallowStore proc.store
  pub notes : All IsNote proc.inbox.notes

pub record IsBusInShape (bus : Bus) : Type 0 where
  pub procs : All IsProcInShape bus.procs
  pub bench : IsBenchInShape bus.bench
