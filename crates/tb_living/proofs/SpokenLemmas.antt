-- What the lanes allow for a found exchange. The process that speaks matters only for the values that its slots can take.
use Rattle.std.proofs.Common.{◌≡◌, List, [], ◌∷◌, ◌++◌, length, slice_set, refl, ap, subst}
use Rattle.tb_body.specs.declared.program.Tool.{Tool as ToolKind}
use Rattle.tb_log.specs.Shapes.{IsLane}
use Rattle.tb_tools.specs.Lanes.{BenchState}
use Rattle.tb_bus.specs.Exchanges.{Setting, terms_seen}
use Rattle.tb_bus.specs.Effects.{speaking}
use Rattle.tb_bus.specs.declared.action.ToolAction.{ToolAction}
use Rattle.tb_bus.specs.declared.action.ToolAction.TheVariants.{Execute, Connect, DisconnectAny, Disconnect, Eval, TakeValue, Do, TakeEvent, Acknowledge, Terminate}
use Rattle.tb_bus.specs.declared.exchange.Exchange.{Exchange}
use Rattle.tb_bus.proofs.ExchangeLemmas.{CanExchange, can-exchange}
use Rattle.tb_living.specs.Spoken.{CanSpeak, around}

module _ (kinds : List ToolKind) (bench : BenchState) (does : ToolAction) (exchange : Exchange) (h : CanSpeak kinds bench does exchange) where
  -- its lane is there
  pub spoken-lane : IsLane exchange.lane
  spoken-lane = (can-exchange (record { body = h.body; kinds = kinds; bench = bench }) h.lanes does exchange h.found).0

  -- and what is done there may be
  pub spoken-can : (other : ToolAction) → does ≡ other → CanExchange bench other exchange
  spoken-can other e = subst (λ d. CanExchange bench d exchange) e (can-exchange (record { body = h.body; kinds = kinds; bench = bench }) h.lanes does exchange h.found).1

-- the effect is the same for each process
pub speaking-around : (setting : Setting) (does : ToolAction) (exchange : Exchange) → speaking setting does exchange ≡ speaking (around setting.kinds setting.bench) does exchange
speaking-around setting (Execute tool slot) exchange = refl
speaking-around setting (Connect tool slot) exchange = refl
speaking-around setting (DisconnectAny tool slot) exchange = refl
speaking-around setting (Disconnect terms) exchange = refl
speaking-around setting (Eval terms) exchange = refl
speaking-around setting (TakeValue terms patterns) exchange = refl
speaking-around setting (Do terms) exchange = refl
speaking-around setting (TakeEvent terms patterns) exchange = refl
speaking-around setting (Acknowledge terms) exchange = refl
speaking-around setting (Terminate terms) exchange = refl

-- and what is seen of it, whatever kinds of tools there are
pub seen-around : (setting : Setting) (does : ToolAction) (exchange : Exchange) → terms_seen setting does exchange ≡ terms_seen (around [] setting.bench) does exchange
seen-around setting (Execute tool slot) exchange = refl
seen-around setting (Connect tool slot) exchange = refl
seen-around setting (DisconnectAny tool slot) exchange = refl
seen-around setting (Disconnect terms) exchange = refl
seen-around setting (Eval terms) exchange = refl
seen-around setting (TakeValue terms patterns) exchange = refl
seen-around setting (Do terms) exchange = refl
seen-around setting (TakeEvent terms patterns) exchange = refl
seen-around setting (Acknowledge terms) exchange = refl
seen-around setting (Terminate terms) exchange = refl

-- the last is replaced
pub set-last : {A : Type 0} (xs : List A) (x y : A) → slice_set (xs ++ x ∷ []) (length xs) y ≡ xs ++ y ∷ []
set-last [] x y = refl
set-last (z ∷ xs) x y = ap (λ rest. z ∷ rest) (set-last xs x y)
