-- Each line that a step of a process sends to a tool, or takes from it, matches a line of the action that made the step.
use Rattle.std.proofs.Common.{◌≡◌, ℕ, true, ◌&&◌, List, [], ◌∷◌, ◌++◌, length, slice_get, Option, Some, None, IfSome, is_some, option_map, option_and_then, option_to_list, refl, ap, sym, ◌∙◌, subst}
use Rattle.std.specs.List.{list_all}
use Rattle.std.specs.Str.{bytes_eq}
use Rattle.std.proofs.lemmas.Bool.{and_parts}
use Rattle.std.proofs.lemmas.List.Elements.{All-nil}
use Rattle.std.proofs.lemmas.Option.{MatchOption-at_some, get_or_from_slice_get}
use Rattle.std.proofs.lemmas.Slice.Eq.{bytes_eq-Decides}
use Rattle.tb_terms.specs.declared.term.Term.{Term}
use Rattle.tb_terms.specs.declared.pattern.Pattern.{Pattern}
use Rattle.tb_terms.specs.Sizes.{is_within_limits}
use Rattle.tb_body.specs.declared.program.Tool.{Tool as ToolKind}
use Rattle.tb_notes.specs.Inboxes.{oldest_match}
use Rattle.tb_log.specs.declared.entry.LabelKind.{LabelKind}
use Rattle.tb_log.specs.declared.entry.LabelKind.TheVariants as kind
use Rattle.tb_tools.specs.Acts.{event_at, events_at}
use Rattle.tb_tools.specs.Finding.{first_at}
use Rattle.tb_tools.specs.First.{NoToolAt, HasSmallest}
use Rattle.tb_tools.specs.Lanes.{Tool, is_same_stage, tool_at, tool_term, term_of}
use Rattle.tb_tools.specs.declared.stage.Stage.TheVariants.{Waiting}
use Rattle.tb_tools.proofs.Lowest.{first_at-smallest}
use Rattle.tb_bus.specs.Buses.{Bus, Proc}
use Rattle.tb_bus.specs.Effects.{Nothing, PutsNote, Effect, takes_note, may_create, creation, taking, own_effect, setting_of, speaking, effect_of}
use Rattle.tb_bus.specs.Exchanges.{Setting, name_of, term_on, bound_on, binding_on, taking_tool, first_of, exchange_for, values_in, terms_seen}
use Rattle.tb_bus.specs.Slots.{fits_slot}
use Rattle.tb_bus.specs.declared.action.Action.{Action}
use Rattle.tb_bus.specs.declared.action.Action.TheVariants as action
use Rattle.tb_bus.specs.declared.action.OwnAction.{OwnAction}
use Rattle.tb_bus.specs.declared.action.OwnAction.TheVariants as own
use Rattle.tb_bus.specs.declared.action.ToolAction.{ToolAction}
use Rattle.tb_bus.specs.declared.action.ToolAction.TheVariants as tool_action
use Rattle.tb_bus.specs.declared.exchange.Exchange.{Exchange}
use Rattle.tb_bus.proofs.ExchangeLemmas.{ExchangeIs, exchange-is}
use Rattle.tb_iface.specs.Hearing.{MatchesOne, told_as, heard_as}
use Rattle.tb_iface.proofs.FoundLemmas.{map-each, test-each, unless-each, test-some}
use Rattle.tb_iface.proofs.LineLemmas.{AreMatched, SpeakMatches, OwnMatches, ActionMatches}
use Rattle.tb_iface.proofs.MatchLemmas.{then-some}

-- each line that a step with these terms sends to a tool of this name matches one of the first patterns, and each that it takes matches one of the others
pub record AreHeard (tool : List ℕ) (to from : List Pattern) (kind : LabelKind) (terms : List Term) : Type 0 where
  pub told : AreMatched to (told_as tool kind terms)
  pub heard : AreMatched from (heard_as tool kind terms)

abbrev pub IsHeard : List ℕ → List Pattern → List Pattern → Effect → Type 0
IsHeard tool to from effect = AreHeard tool to from effect.kind effect.shown

-- nothing is said
none-told : (to : List Pattern) → AreMatched to []
none-told to = All-nil (MatchesOne to)

-- a tool that has connected

-- the slot takes a tool of this name
record TakesTool (name : List ℕ) (exchange : Exchange) : Type 0 where
  number : ℕ
  values : values_in exchange.binds ≡ tool_term name number ∷ []

bound-tool : (setting : Setting) (slot lane : ℕ) (name : List ℕ) (tool : Tool) (term : Term) (exchange : Exchange) → bytes_eq tool.name name ≡ true → term_of tool ≡ term → binding_on setting slot lane term ≡ Some exchange → TakesTool name exchange
bound-tool setting slot lane name tool term exchange named is e =
    let bound : bound_on slot lane term ≡ exchange = test-some (is_within_limits term && fits_slot setting.body slot term) (bound_on slot lane term) exchange e in
    let same : tool.name ≡ name = (bytes_eq-Decides tool.name name).0 named in
    let its : term ≡ tool_term name tool.number = sym is ∙ ap (λ (n : List ℕ). tool_term n tool.number) same in
    record {
      number = tool.number;
      values = sym (ap (λ (x : Exchange). values_in x.binds) bound) ∙ ap (λ (t : Term). t ∷ []) its;
    }

taken-tool : (setting : Setting) (slot lane : ℕ) (name : List ℕ) (tool : Tool) (exchange : Exchange) → bytes_eq tool.name name ≡ true → tool_at lane setting.bench ≡ Some tool → taking_tool setting slot lane ≡ Some exchange → TakesTool name exchange
taken-tool setting slot lane name tool exchange named stands e =
    let at = then-some (binding_on setting slot lane) (term_on lane setting.bench) exchange e in
    let there : ◌≡◌ {A = Option Term} (Some (term_of tool)) (Some at.0) = sym (ap (option_map term_of) stands) ∙ at.1 in
    bound-tool setting slot lane name tool at.0 exchange named (cc) at.2

kind-tool : (setting : Setting) (which : ℕ) (slot : ℕ) (found : Option ToolKind) (exchange : Exchange) → slice_get setting.kinds which ≡ found → option_and_then (first_of setting Waiting slot) found ≡ Some exchange →
    TakesTool (name_of (slice_get setting.kinds which)) exchange
kind-tool setting which slot None exchange there e = cc
kind-tool setting which slot (Some its) exchange there e =
    let bench = setting.bench in
    let at = then-some (taking_tool setting slot) (first_at its.name Waiting bench) exchange e in
    let it = MatchOption-at_some (NoToolAt its.name Waiting bench) (HasSmallest its.name Waiting bench) at.0 at.1 (first_at-smallest its.name Waiting bench) in
    let named = (and_parts (bytes_eq it.0.name its.name) (is_same_stage it.0.stage Waiting) it.1.2).0 in
    subst (λ (found : Option ToolKind). TakesTool (name_of found) exchange) (sym there) (taken-tool setting slot at.0 its.name it.0 exchange named it.1.1 at.2)

-- exchanges

exchange-heard : (tool : List ℕ) (to from : List Pattern) (setting : Setting) (does : ToolAction) (exchange : Exchange) → exchange_for setting does ≡ Some exchange → ExchangeIs setting does exchange → SpeakMatches setting.kinds tool to from does →
    IsHeard tool to from (speaking setting does exchange)
exchange-heard tool to from setting (tool_action.Execute which slot) exchange e is h = record { told = none-told to; heard = none-told from }
exchange-heard tool to from setting (tool_action.Connect which slot) exchange e is h =
    let it = kind-tool setting which slot (slice_get setting.kinds which) exchange refl e in
    record { told = none-told to; heard = subst (λ (terms : List Term). AreMatched from (heard_as tool kind.RecConnect terms)) (sym it.values) (h it.number) }
exchange-heard tool to from setting (tool_action.DisconnectAny which slot) exchange e is h = record { told = none-told to; heard = none-told from }
exchange-heard tool to from setting (tool_action.Disconnect terms) exchange e is h = record { told = none-told to; heard = none-told from }
exchange-heard tool to from setting (tool_action.Eval terms) exchange e is h = record { told = h; heard = none-told from }
exchange-heard tool to from setting (tool_action.TakeValue terms patterns) exchange e is h =
    let came : terms_seen setting (tool_action.TakeValue terms patterns) exchange ≡ terms ++ is.value ∷ [] = ap (λ (o : Option Term). terms ++ option_to_list o) is.there in
    record { told = none-told to; heard = subst (λ (all : List Term). AreMatched from (heard_as tool kind.RecValue all)) (sym came) (h (is.value ∷ []) (ap is_some is.matches)) }
exchange-heard tool to from setting (tool_action.Do terms) exchange e is h = record { told = h; heard = none-told from }
exchange-heard tool to from setting (tool_action.TakeEvent terms patterns) exchange e is h =
    let same : event_at exchange.event (events_at exchange.lane setting.bench) ≡ is.terms = get_or_from_slice_get (events_at exchange.lane setting.bench) exchange.event is.terms [] is.there in
    record { told = none-told to; heard = subst (λ (event : List Term). AreMatched from (heard_as tool kind.RecEvent (terms ++ event))) (sym same) (h is.terms (ap is_some is.matches)) }
exchange-heard tool to from setting (tool_action.Acknowledge terms) exchange e is h = record { told = h; heard = none-told from }
exchange-heard tool to from setting (tool_action.Terminate terms) exchange e is h = record { told = h; heard = none-told from }

-- what a process does by itself

abbrev GivesHeard : List ℕ → List Pattern → List Pattern → Option Effect → Type 0
GivesHeard tool to from found = IfSome found (IsHeard tool to from)

own-heard : (tool : List ℕ) (to from : List Pattern) (bus : Bus) (proc : Proc) (does : OwnAction) → OwnMatches bus.program.tools tool to from does → GivesHeard tool to from (own_effect bus proc does)
own-heard tool to from bus proc own.Tau h = record { told = none-told to; heard = none-told from }
own-heard tool to from bus proc (own.Set values binds) h = record { told = none-told to; heard = none-told from }
own-heard tool to from bus proc (own.Print text) h = record { told = none-told to; heard = none-told from }
own-heard tool to from bus proc (own.Notify terms) h =
    test-each (IsHeard tool to from) (list_all (λ (other : Proc). takes_note terms other.inbox) bus.procs) (record { kind = kind.SndNote; shown = terms; binds = []; change = PutsNote terms })
    (λ e. record { told = none-told to; heard = none-told from })
own-heard tool to from bus proc (own.TakeNote patterns) h = map-each (IsHeard tool to from) (taking proc.inbox) (oldest_match patterns proc.inbox) (λ found e. record { told = none-told to; heard = none-told from })
own-heard tool to from bus proc (own.NoNote patterns) h =
    unless-each (IsHeard tool to from) (is_some (oldest_match patterns proc.inbox)) (record { kind = kind.NoNote; shown = []; binds = []; change = Nothing }) (record { told = none-told to; heard = none-told from })
own-heard tool to from bus proc (own.Subscribe patterns) h = record { told = none-told to; heard = none-told from }
own-heard tool to from bus proc (own.Unsubscribe patterns) h = record { told = none-told to; heard = none-told from }
own-heard tool to from bus proc (own.Create process actuals slot) h =
    test-each (IsHeard tool to from) (may_create bus.program.bodies (length bus.procs) bus.next_number proc.body process actuals slot) (creation bus.next_number process actuals slot) (λ e. record { told = none-told to; heard = none-told from })
own-heard tool to from bus proc (own.Speak does) h =
    let setting = setting_of bus proc in
    map-each (IsHeard tool to from) (speaking setting does) (exchange_for setting does) (λ exchange e. exchange-heard tool to from setting does exchange e (exchange-is setting does exchange e).is h)
own-heard tool to from bus proc (own.Shutdown reason) h = record { told = h; heard = none-told from }

effect-gives : (tool : List ℕ) (to from : List Pattern) (bus : Bus) (proc : Proc) (does : Action) → ActionMatches bus.program.tools tool to from does → GivesHeard tool to from (effect_of bus proc does)
effect-gives tool to from bus proc (action.Own does) h = own-heard tool to from bus proc does h
effect-gives tool to from bus proc (action.Send terms) h = tt
effect-gives tool to from bus proc (action.Receive patterns) h = tt

-- So the lines that a process sends and takes by itself match the lines of its action.
pub effect-heard : (tool : List ℕ) (to from : List Pattern) (bus : Bus) (proc : Proc) (does : Action) (effect : Effect) → ActionMatches bus.program.tools tool to from does → effect_of bus proc does ≡ Some effect → IsHeard tool to from effect
effect-heard tool to from bus proc does effect h e = subst (GivesHeard tool to from) e (effect-gives tool to from bus proc does h)
