-- The orders that a process gives to a tool.
use Rattle.std.specs.Prelude.{ℕ, Bool}
use Rattle.tb_terms.specs.declared.term.Term.{Term}
use Rattle.tb_log.specs.declared.entry.LabelKind.{LabelKind}
use Rattle.tb_log.specs.declared.entry.LabelKind.TheVariants as kind
use Rattle.tb_tools.specs.Lanes.{BenchState}
use Rattle.tb_tools.specs.Acts.{asked, can_do, can_eval, can_terminate, terminated, told}
use Rattle.tb_living.specs.declared.speaking.Order.{Order}
use Rattle.tb_living.specs.declared.speaking.Order.TheVariants.{Eval, Do, Terminate}

-- the label kind of a step with this order
abbrev pub order_kind : Order → LabelKind
order_kind Eval = kind.SndEval
order_kind Do = kind.SndDo
order_kind Terminate = kind.SndTerminate

-- whether the tool of a lane can receive this order now
abbrev pub may_order : Order → ℕ → BenchState → Bool
may_order Eval = can_eval
may_order Do = can_do
may_order Terminate = can_terminate

-- the lanes after the tool of a lane receives this order with this term
abbrev pub ordered : Order → Term → ℕ → BenchState → BenchState
ordered Eval = asked
ordered Do = told
ordered Terminate = terminated
