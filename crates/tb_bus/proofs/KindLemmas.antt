-- Which kind of step a process may make by itself.
use Rattle.std.proofs.Common.{length, Option, Some, None, is_some, option_map, Bool, true, false, if◌then◌else◌}
use Rattle.std.specs.Bool.{⊤}
use Rattle.std.specs.List.{list_all}
use Rattle.tb_notes.specs.Inboxes.{Held, oldest_match}
use Rattle.tb_notes.specs.declared.queue.Found.{Found}
use Rattle.tb_log.specs.declared.entry.LabelKind.{LabelKind}
use Rattle.tb_log.specs.declared.entry.LabelKind.TheVariants as kind
use Rattle.tb_bus.specs.Buses.{Bus, Proc}
use Rattle.tb_bus.specs.Exchanges.{Setting, exchange_for, kind_of}
use Rattle.tb_bus.specs.Effects.{Effect, takes_note, may_create, taking, own_effect, setting_of, speaking, effect_of}
use Rattle.tb_bus.specs.declared.action.Action.{Action}
use Rattle.tb_bus.specs.declared.action.Action.TheVariants as action
use Rattle.tb_bus.specs.declared.action.OwnAction.{OwnAction}
use Rattle.tb_bus.specs.declared.action.OwnAction.TheVariants as own
use Rattle.tb_bus.specs.declared.action.ToolAction.{ToolAction}
use Rattle.tb_bus.specs.declared.action.ToolAction.TheVariants as tool_action
use Rattle.tb_bus.specs.declared.exchange.Exchange.{Exchange}

-- what kind of step a process may make by itself: no handshake, and no end of the bus
abbrev pub IsOwnKind : LabelKind → Type 0
IsOwnKind kind.Msg = ⊥
IsOwnKind kind.Set = ⊤
IsOwnKind kind.Tau = ⊤
IsOwnKind kind.Printf = ⊤
IsOwnKind kind.SndNote = ⊤
IsOwnKind kind.RecNote = ⊤
IsOwnKind kind.NoNote = ⊤
IsOwnKind kind.Subscribe = ⊤
IsOwnKind kind.Unsubscribe = ⊤
IsOwnKind kind.Create = ⊤
IsOwnKind kind.Execute = ⊤
IsOwnKind kind.RecConnect = ⊤
IsOwnKind kind.RecDisconnect = ⊤
IsOwnKind kind.SndEval = ⊤
IsOwnKind kind.RecValue = ⊤
IsOwnKind kind.SndDo = ⊤
IsOwnKind kind.RecEvent = ⊤
IsOwnKind kind.SndAckEvent = ⊤
IsOwnKind kind.SndTerminate = ⊤
IsOwnKind kind.Shutdown = ⊤
IsOwnKind kind.Finish = ⊥
IsOwnKind kind.Halt = ⊥

abbrev pub IsOwnEffect : Option Effect → Type 0
IsOwnEffect None = ⊤
IsOwnEffect (Some effect) = IsOwnKind effect.kind

if-own : (b : Bool) (effect : Option Effect) → IsOwnEffect effect → IsOwnEffect (if b then effect else None)
if-own true effect h = h
if-own false effect h = tt

unless-own : (b : Bool) (effect : Option Effect) → IsOwnEffect effect → IsOwnEffect (if b then None else effect)
unless-own true effect h = tt
unless-own false effect h = h

taken-own : (inbox : Held) (found : Option Found) → IsOwnEffect (option_map (taking inbox) found)
taken-own inbox None = tt
taken-own inbox (Some found) = tt

tool-own : (does : ToolAction) → IsOwnKind (kind_of does)
tool-own (tool_action.Execute tool slot) = tt
tool-own (tool_action.Connect tool slot) = tt
tool-own (tool_action.DisconnectAny tool slot) = tt
tool-own (tool_action.Disconnect terms) = tt
tool-own (tool_action.Eval terms) = tt
tool-own (tool_action.TakeValue terms patterns) = tt
tool-own (tool_action.Do terms) = tt
tool-own (tool_action.TakeEvent terms patterns) = tt
tool-own (tool_action.Acknowledge terms) = tt
tool-own (tool_action.Terminate terms) = tt

spoken-own : (setting : Setting) (does : ToolAction) (found : Option Exchange) → IsOwnEffect (option_map (speaking setting does) found)
spoken-own setting does None = tt
spoken-own setting does (Some exchange) = tool-own does

own_effect-own : (bus : Bus) (proc : Proc) (own : OwnAction) → IsOwnEffect (own_effect bus proc own)
own_effect-own bus proc own.Tau = tt
own_effect-own bus proc (own.Set values binds) = tt
own_effect-own bus proc (own.Print text) = tt
own_effect-own bus proc (own.Notify terms) = if-own (list_all (λ (other : Proc). takes_note terms other.inbox) bus.procs) _ tt
own_effect-own bus proc (own.TakeNote patterns) = taken-own proc.inbox (oldest_match patterns proc.inbox)
own_effect-own bus proc (own.NoNote patterns) = unless-own (is_some (oldest_match patterns proc.inbox)) _ tt
own_effect-own bus proc (own.Subscribe patterns) = tt
own_effect-own bus proc (own.Unsubscribe patterns) = tt
own_effect-own bus proc (own.Create process actuals slot) =
    if-own (may_create bus.program.bodies (length bus.procs) bus.next_number proc.body process actuals slot) _ tt
own_effect-own bus proc (own.Speak does) = spoken-own (setting_of bus proc) does (exchange_for (setting_of bus proc) does)
own_effect-own bus proc (own.Shutdown reason) = tt

-- each effect is of such a kind
pub effect-own : (bus : Bus) (proc : Proc) (does : Action) → IsOwnEffect (effect_of bus proc does)
effect-own bus proc (action.Own own) = own_effect-own bus proc own
effect-own bus proc (action.Send terms) = tt
effect-own bus proc (action.Receive patterns) = tt
