-- When a found exchange with a tool is possible, and the result of its effect.
use Rattle.std.specs.Prelude.{◌≡◌, List, Option, Some, None}
use Rattle.tb_body.specs.declared.body.Body.{Body}
use Rattle.tb_body.specs.declared.program.Tool.{Tool as ToolKind}
use Rattle.tb_tools.specs.Lanes.{BenchState, HasLanes}
use Rattle.tb_bus.specs.Effects.{Effect}
use Rattle.tb_bus.specs.Exchanges.{Setting, exchange_for}
use Rattle.tb_bus.specs.declared.action.ToolAction.{ToolAction}
use Rattle.tb_bus.specs.declared.exchange.Exchange.{Exchange}
use Rattle.tb_living.specs.declared.done.Done.{Done}

-- the exchange is the one that this action finds, for a process of some body, with these kinds of tools and these lanes
pub record CanSpeak (kinds : List ToolKind) (bench : BenchState) (does : ToolAction) (exchange : Exchange) : Type 0 where
  pub body : Option Body
  pub found : exchange_for (record { body = body; kinds = kinds; bench = bench }) does ≡ Some exchange
  pub lanes : HasLanes bench

-- The setting without the body of a process. Neither the label nor the lanes after an exchange depend on the body.
abbrev pub around : List ToolKind → BenchState → Setting
around kinds bench = record { body = None; kinds = kinds; bench = bench }

-- the result has the label kind, the shown terms, and the binds of the effect
abbrev pub IsDone : Effect → Done → Type 0
IsDone effect done = (done.kind ≡ effect.kind) × (done.shown ≡ effect.shown) × (done.binds ≡ effect.binds)
