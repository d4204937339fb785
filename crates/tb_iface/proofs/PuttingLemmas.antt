-- A step changes the output queue of a lane in one of these ways: the queue stays, a command comes to its end, or the items of such a step come to its end.
use Rattle.std.proofs.Common.{◌≡◌, ◌⊎◌, inl, inr, ℕ, zero, suc, ◌-◌, Bool, true, false, List, [], ◌∷◌, ◌++◌, map, length, append-nil, slice_get, slice_index_or, Option, Some, None, IfSome, is_some, option_map, option_and_then, if◌then◌else◌, unwrap_or, refl, ap, sym, ◌∙◌, subst, arith, codes}
use Rattle.std.specs.List.{list_all}
use Rattle.std.proofs.lemmas.List.Elements.{All-contains}
use Rattle.std.proofs.lemmas.Option.{MatchOption-at_some, get_or_from_slice_get}
use Rattle.tb_terms.specs.declared.term.Term.{Term}
use Rattle.tb_terms.specs.Same.{is_same_term}
use Rattle.tb_notes.specs.Inboxes.{oldest_match}
use Rattle.tb_log.specs.declared.entry.LabelKind.{LabelKind}
use Rattle.tb_log.specs.declared.entry.LabelKind.TheVariants as kind
use Rattle.tb_log.specs.declared.entry.Label.{Label}
use Rattle.tb_log.specs.declared.entry.Out.{Out}
use Rattle.tb_log.specs.declared.entry.Out.TheVariants.{Start, End}
use Rattle.tb_log.specs.declared.entry.Entry.TheVariants.{Did}
use Rattle.tb_tools.specs.declared.stage.Stage.TheVariants as stage
use Rattle.tb_tools.specs.Lanes.{Tool, Lane, BenchState, unused, of_tool, lane_at, outs_at, on_lane, with_tool, without_tool, with_out, is_open, started, new_tool, term_of}
use Rattle.tb_tools.specs.Acts.{received_of, tool_line, is_live_at, can_eval, with_live_tool, with_question, without_answer, with_received, with_acknowledged_of, with_acknowledged, last_line, ended_with, dismissed, gone_down}
use Rattle.tb_tools.specs.Finding.{find_tool, has_tool, oldest_received}
use Rattle.tb_tools.specs.First.{NoLane, IsFirstLane}
use Rattle.tb_tools.proofs.Lowest.{first_lane-lowest}
use Rattle.tb_tools.proofs.Staying.{with_lane-or}
use Rattle.tb_bus.specs.declared.action.Action.{Action}
use Rattle.tb_bus.specs.declared.action.Action.TheVariants as action
use Rattle.tb_bus.specs.declared.action.OwnAction.{OwnAction}
use Rattle.tb_bus.specs.declared.action.OwnAction.TheVariants as own
use Rattle.tb_bus.specs.declared.action.ToolAction.{ToolAction}
use Rattle.tb_bus.specs.declared.action.ToolAction.TheVariants as tool
use Rattle.tb_bus.specs.declared.exchange.Exchange.{Exchange}
use Rattle.tb_process_steps.specs.Offers.{Offered}
use Rattle.tb_bus.specs.Buses.{Bus, Proc}
use Rattle.tb_bus.specs.Exchanges.{Setting, kind_name, kind_command, plain_on, lane_if, lane_of, received_on, exchange_for, kind_of, terms_seen, bench_after}
use Rattle.tb_bus.specs.Effects.{Nothing, PutsNote, Effect, changed, effect_of, own_effect, speaking, setting_of, creation, may_create, taking, takes_note}
use Rattle.tb_bus.specs.Steps.{Move, Own, Handshake, Finish, Halt, Step, apply, label_of, finish_reason, halt_reason}
use Rattle.tb_bus.specs.Traces.{IsLegal, after}
use Rattle.tb_bus.specs.Waiting.{IsProcInShape, IsBusInShape}
use Rattle.tb_bus.proofs.ExchangeLemmas.{exchange-is}
use Rattle.tb_bus.proofs.LevelLemmas.{offer-shallow}
use Rattle.tb_bus.proofs.SentLemmas.{AreSent, IsSpeakInShape, IsOwnInShape, IsActionInShape, action-in-shape}
use Rattle.tb_bus.proofs.ReachedLemmas.{IsReadyFor, IsMoveOf, step-made}
use Rattle.tb_iface.specs.Handing.{to_tool, to_all, puts_as}

-- one lane

-- changes of the output queue
abbrev pub Becomes : LabelKind → List Term → Lane → Lane → Type 0
Becomes seen terms old new = (new.outs ≡ old.outs) ⊎ (((command : List ℕ) × (new.outs ≡ old.outs ++ Start command ∷ [])) ⊎ (new.outs ≡ old.outs ++ puts_as seen terms old))

-- on each lane
abbrev pub AddsTo : LabelKind → List Term → BenchState → BenchState → Type 0
AddsTo seen terms bench new = (lane : ℕ) → Becomes seen terms (lane_at lane bench) (lane_at lane new)

same-adds : (seen : LabelKind) (terms : List Term) (bench : BenchState) → AddsTo seen terms bench bench
same-adds seen terms bench lane = inl refl

on_lane-adds : (seen : LabelKind) (terms : List Term) (change : Lane → Lane) (at : ℕ) (bench : BenchState) → Becomes seen terms (lane_at at bench) (change (lane_at at bench)) → AddsTo seen terms bench (on_lane change at bench)
on_lane-adds seen terms change at bench h lane = by (with_lane-or at lane (change (lane_at at bench)) bench)
  where
    by : (lane_at lane (on_lane change at bench) ≡ lane_at lane bench) ⊎ ((lane_at lane (on_lane change at bench) ≡ change (lane_at at bench)) × (lane - 1 ≡ at - 1)) → Becomes seen terms (lane_at lane bench) (lane_at lane (on_lane change at bench))
    by (inl e) = inl (ap (λ (l : Lane). l.outs) e)
    by (inr e) =
        let same : lane_at at bench ≡ lane_at lane bench = ap (λ (n : ℕ). slice_index_or bench.lanes n unused) (sym e.1) in
        subst (Becomes seen terms (lane_at lane bench)) (sym e.0) (subst (λ (old : Lane). Becomes seen terms old (change (lane_at at bench))) same h)

-- the tool that a step names

found-tool : (may : ℕ → BenchState → Bool) (bench : BenchState) (named : Term) (terms : List Term) (lane : ℕ) → lane_of may bench (named ∷ terms) ≡ Some lane → has_tool named (lane_at lane bench) ≡ true
found-tool may bench named terms lane e = by (find_tool named bench) refl e
  where
    here : (at : ℕ) (b : Bool) → find_tool named bench ≡ Some at → (if b then Some at else None) ≡ Some lane → has_tool named (lane_at lane bench) ≡ true
    here at true f g =
        let first = MatchOption-at_some (NoLane (has_tool named) bench) (IsFirstLane (has_tool named) bench) at f (first_lane-lowest (has_tool named) bench) in
        let same : at ≡ lane = cc in
        subst (λ (n : ℕ). has_tool named (lane_at n bench) ≡ true) same first.1
    here at false f g = cc

    by : (found : Option ℕ) → find_tool named bench ≡ found → option_and_then (lane_if may bench) found ≡ Some lane → has_tool named (lane_at lane bench) ≡ true
    by None f g = cc
    by (Some at) f g = here at (may at bench) f g

plain-tool : (may : ℕ → BenchState → Bool) (bench : BenchState) (named : Term) (terms : List Term) (exchange : Exchange) → option_map plain_on (lane_of may bench (named ∷ terms)) ≡ Some exchange → has_tool named (lane_at exchange.lane bench) ≡ true
plain-tool may bench named terms exchange e = by (lane_of may bench (named ∷ terms)) refl e
  where
    by : (found : Option ℕ) → lane_of may bench (named ∷ terms) ≡ found → option_map plain_on found ≡ Some exchange → has_tool named (lane_at exchange.lane bench) ≡ true
    by None f g = cc
    by (Some at) f g =
        let same : ◌≡◌ {A = Exchange} (plain_on at) exchange = cc in
        found-tool may bench named terms exchange.lane (f ∙ ap (λ (x : Exchange). Some x.lane) same)

received-tool : (bench : BenchState) (named : Term) (terms : List Term) (exchange : Exchange) → option_and_then (received_on terms bench) (lane_of is_live_at bench (named ∷ terms)) ≡ Some exchange → has_tool named (lane_at exchange.lane bench) ≡ true
received-tool bench named terms exchange e = by (lane_of is_live_at bench (named ∷ terms)) refl e
  where
    here : (at : ℕ) (found : Option ℕ) → lane_of is_live_at bench (named ∷ terms) ≡ Some at → option_map (λ place. let x : Exchange = record { lane = at; event = place; binds = [] } in x) found ≡ Some exchange → has_tool named (lane_at exchange.lane bench) ≡ true
    here at None f g = cc
    here at (Some place) f g =
        let same : ◌≡◌ {A = Exchange} (record { lane = at; event = place; binds = [] }) exchange = cc in
        found-tool is_live_at bench named terms exchange.lane (f ∙ ap (λ (x : Exchange). Some x.lane) same)

    by : (found : Option ℕ) → lane_of is_live_at bench (named ∷ terms) ≡ found → option_and_then (received_on terms bench) found ≡ Some exchange → has_tool named (lane_at exchange.lane bench) ≡ true
    by None f g = cc
    by (Some at) f g = here at (oldest_received terms at bench) f g

-- so it queues its line there
to_tool-there : (word : List ℕ) (after : List Out) (named : Term) (parts : List Term) (lane : Lane) → has_tool named lane ≡ true → tool_line word parts ∷ after ≡ to_tool word after (named ∷ parts) lane
to_tool-there word after named parts lane e = ap (λ (b : Bool). let outs : List Out = if b then tool_line word parts ∷ after else [] in outs) (sym e)

-- exchanges

-- the terms of a step are its tool and one more
two-terms : (P : List Term → Type 0) → ((named term : Term) → P (named ∷ term ∷ [])) → (terms : List Term) → AreSent 2 terms → P terms
two-terms P h [] sent = let many = sent.many in absurd (omega arith)
two-terms P h (named ∷ []) sent = let many = sent.many in absurd (omega arith)
two-terms P h (named ∷ term ∷ []) sent = h named term
two-terms P h (named ∷ term ∷ other ∷ terms) sent = let many = sent.many in absurd (omega arith)

-- an exchange with these terms adds so
abbrev ExchangeAdds : Setting → Exchange → (List Term → ToolAction) → List Term → Type 0
ExchangeAdds setting exchange does terms =
    exchange_for setting (does terms) ≡ Some exchange → AddsTo (kind_of (does terms)) (terms_seen setting (does terms) exchange) setting.bench (bench_after setting (does terms) exchange)

acknowledged-outs : (place : ℕ) (lane : Lane) (its : Option Tool) (named : Term) (parts : List Term) → of_tool (λ (it : Tool). is_same_term named (term_of it)) its ≡ true → slice_get (received_of its) place ≡ Some parts →
    (with_acknowledged_of place lane its).outs ≡ lane.outs ++ tool_line (codes "rec-ack-event") parts ∷ []
acknowledged-outs place lane None named parts has e = cc
acknowledged-outs place lane (Some it) named parts has e = ap (λ (ts : List Term). lane.outs ++ tool_line (codes "rec-ack-event") ts ∷ []) (get_or_from_slice_get it.received place parts [] e)

acknowledging-adds : (setting : Setting) (terms : List Term) (exchange : Exchange) → exchange_for setting (tool.Acknowledge terms) ≡ Some exchange → AddsTo kind.SndAckEvent terms setting.bench (bench_after setting (tool.Acknowledge terms) exchange)
acknowledging-adds setting [] exchange e = cc
acknowledging-adds setting (named ∷ terms) exchange e =
    let bench = setting.bench in
    let lane = lane_at exchange.lane bench in
    let has : has_tool named lane ≡ true = received-tool bench named terms exchange e in
    let found = exchange-is setting (tool.Acknowledge (named ∷ terms)) exchange e in
    let outs : (with_acknowledged exchange.event lane).outs ≡ lane.outs ++ tool_line (codes "rec-ack-event") terms ∷ [] = acknowledged-outs exchange.event lane lane.tool named terms has found.is.there in
    on_lane-adds kind.SndAckEvent (named ∷ terms) (with_acknowledged exchange.event) exchange.lane bench
    (inr (inr (outs ∙ ap (λ (more : List Out). lane.outs ++ more) (to_tool-there (codes "rec-ack-event") [] named terms lane has))))

eval-adds : (setting : Setting) (exchange : Exchange) (named term : Term) → ExchangeAdds setting exchange tool.Eval (named ∷ term ∷ [])
eval-adds setting exchange named term e =
    let lane = lane_at exchange.lane setting.bench in
    let has : has_tool named lane ≡ true = plain-tool can_eval setting.bench named (term ∷ []) exchange e in
    on_lane-adds kind.SndEval (named ∷ term ∷ []) (with_question term) exchange.lane setting.bench
    (inr (inr (ap (λ (more : List Out). lane.outs ++ more) (to_tool-there (codes "rec-eval") [] named (term ∷ []) lane has))))

do-adds : (setting : Setting) (exchange : Exchange) (named term : Term) → ExchangeAdds setting exchange tool.Do (named ∷ term ∷ [])
do-adds setting exchange named term e =
    let lane = lane_at exchange.lane setting.bench in
    let has : has_tool named lane ≡ true = plain-tool can_eval setting.bench named (term ∷ []) exchange e in
    on_lane-adds kind.SndDo (named ∷ term ∷ []) (with_out (tool_line (codes "rec-do") (term ∷ []))) exchange.lane setting.bench
    (inr (inr (ap (λ (more : List Out). lane.outs ++ more) (to_tool-there (codes "rec-do") [] named (term ∷ []) lane has))))

terminate-adds : (setting : Setting) (exchange : Exchange) (named term : Term) → ExchangeAdds setting exchange tool.Terminate (named ∷ term ∷ [])
terminate-adds setting exchange named term e =
    let lane = lane_at exchange.lane setting.bench in
    let has : has_tool named lane ≡ true = plain-tool is_live_at setting.bench named (term ∷ []) exchange e in
    on_lane-adds kind.SndTerminate (named ∷ term ∷ []) (λ (old : Lane). without_tool (ended_with (last_line term) old)) exchange.lane setting.bench
    (inr (inr (ap (λ (more : List Out). lane.outs ++ more) (to_tool-there (codes "rec-terminate") (End ∷ []) named (term ∷ []) lane has))))

exchange-adds : (setting : Setting) (does : ToolAction) (exchange : Exchange) → IsSpeakInShape does → exchange_for setting does ≡ Some exchange →
    AddsTo (kind_of does) (terms_seen setting does exchange) setting.bench (bench_after setting does exchange)
exchange-adds setting (tool.Execute which slot) exchange sent e =
    let command = unwrap_or (kind_command setting which) [] in
    let change = λ (old : Lane). with_tool (new_tool (kind_name setting which) setting.bench.next_tool stage.Live) (started command old) in
    on_lane-adds kind.Execute (terms_seen setting (tool.Execute which slot) exchange) change exchange.lane setting.bench (inr (inl (command, refl)))
exchange-adds setting (tool.Connect which slot) exchange sent e = on_lane-adds kind.RecConnect (terms_seen setting (tool.Connect which slot) exchange) with_live_tool exchange.lane setting.bench (inl refl)
exchange-adds setting (tool.DisconnectAny which slot) exchange sent e = on_lane-adds kind.RecDisconnect (terms_seen setting (tool.DisconnectAny which slot) exchange) without_tool exchange.lane setting.bench (inl refl)
exchange-adds setting (tool.Disconnect terms) exchange sent e = on_lane-adds kind.RecDisconnect terms without_tool exchange.lane setting.bench (inl refl)
exchange-adds setting (tool.Eval terms) exchange sent e = two-terms (ExchangeAdds setting exchange tool.Eval) (eval-adds setting exchange) terms sent e
exchange-adds setting (tool.TakeValue terms patterns) exchange sent e = on_lane-adds kind.RecValue (terms_seen setting (tool.TakeValue terms patterns) exchange) without_answer exchange.lane setting.bench (inl refl)
exchange-adds setting (tool.Do terms) exchange sent e = two-terms (ExchangeAdds setting exchange tool.Do) (do-adds setting exchange) terms sent e
exchange-adds setting (tool.TakeEvent terms patterns) exchange sent e = on_lane-adds kind.RecEvent (terms_seen setting (tool.TakeEvent terms patterns) exchange) (with_received exchange.event) exchange.lane setting.bench (inl refl)
exchange-adds setting (tool.Acknowledge terms) exchange sent e = acknowledging-adds setting terms exchange e
exchange-adds setting (tool.Terminate terms) exchange sent e = two-terms (ExchangeAdds setting exchange tool.Terminate) (terminate-adds setting exchange) terms sent e

-- shutting down

map-or : {A : Type 0} (f : A → A) (xs : List A) (at : ℕ) (d : A) → f d ≡ d → slice_index_or (map f xs) at d ≡ f (slice_index_or xs at d)
map-or f [] at d e = sym e
map-or f (x ∷ xs) zero d e = refl
map-or f (x ∷ xs) (suc at) d e = map-or f xs at d e

dismissed-by : (reason : Term) (lane : Lane) (b : Bool) → (let new : Lane = if b then ended_with (last_line reason) lane else lane in new.outs) ≡ lane.outs ++ (if b then last_line reason ∷ End ∷ [] else [])
dismissed-by reason lane true = refl
dismissed-by reason lane false = sym (append-nil lane.outs)

-- each lane that is up and hasn't ended gets the last line and its end
down-outs : (reason : Term) (bench : BenchState) (lane : ℕ) → outs_at lane (gone_down reason bench) ≡ outs_at lane bench ++ to_all (reason ∷ []) (lane_at lane bench)
down-outs reason bench lane =
    ap (λ (l : Lane). l.outs) (map-or (dismissed (last_line reason)) bench.lanes (lane - 1) unused refl)
    ∙ dismissed-by reason (lane_at lane bench) (is_open (lane_at lane bench))

-- effects

-- what an effect makes of the lanes
abbrev Adds : Bus → Effect → Type 0
Adds bus effect = (number : ℕ) → AddsTo effect.kind effect.shown bus.bench (changed effect.change number bus).bench

abbrev IfAdds : Bus → Option Effect → Type 0
IfAdds bus found = IfSome found (Adds bus)

if-adds : (bus : Bus) (b : Bool) (effect : Effect) → Adds bus effect → IfAdds bus (if b then Some effect else None)
if-adds bus true effect h = h
if-adds bus false effect h = tt

unless-adds : (bus : Bus) (b : Bool) (effect : Effect) → Adds bus effect → IfAdds bus (if b then None else Some effect)
unless-adds bus true effect h = tt
unless-adds bus false effect h = h

map-adds : {A : Type 0} (bus : Bus) (f : A → Effect) (found : Option A) → ((x : A) → found ≡ Some x → Adds bus (f x)) → IfAdds bus (option_map f found)
map-adds bus f None each = tt
map-adds bus f (Some x) each = each x refl

own-adds : (bus : Bus) (proc : Proc) (does : OwnAction) → IsOwnInShape does → IfAdds bus (own_effect bus proc does)
own-adds bus proc own.Tau sent = λ number lane. inl refl
own-adds bus proc (own.Set values binds) sent = λ number lane. inl refl
own-adds bus proc (own.Print text) sent = λ number lane. inl refl
own-adds bus proc (own.Notify terms) sent =
    if-adds bus (list_all (λ (other : Proc). takes_note terms other.inbox) bus.procs) (record { kind = kind.SndNote; shown = terms; binds = []; change = PutsNote terms }) (λ number lane. inl refl)
own-adds bus proc (own.TakeNote patterns) sent = map-adds bus (taking proc.inbox) (oldest_match patterns proc.inbox) (λ found e number lane. inl refl)
own-adds bus proc (own.NoNote patterns) sent =
    unless-adds bus (is_some (oldest_match patterns proc.inbox)) (record { kind = kind.NoNote; shown = []; binds = []; change = Nothing }) (λ number lane. inl refl)
own-adds bus proc (own.Subscribe patterns) sent = λ number lane. inl refl
own-adds bus proc (own.Unsubscribe patterns) sent = λ number lane. inl refl
own-adds bus proc (own.Create process actuals slot) sent =
    if-adds bus (may_create bus.program.bodies (length bus.procs) bus.next_number proc.body process actuals slot) (creation bus.next_number process actuals slot) (λ number lane. inl refl)
own-adds bus proc (own.Speak does) sent =
    let setting = setting_of bus proc in
    map-adds bus (speaking setting does) (exchange_for setting does) (λ exchange e number. exchange-adds setting does exchange sent e)
own-adds bus proc (own.Shutdown reason) sent = λ number lane. inr (inr (down-outs reason bus.bench lane))

effect-adds : (bus : Bus) (proc : Proc) (does : Action) → IsActionInShape does → IfAdds bus (effect_of bus proc does)
effect-adds bus proc (action.Own does) sent = own-adds bus proc does sent
effect-adds bus proc (action.Send terms) sent = tt
effect-adds bus proc (action.Receive patterns) sent = tt

-- steps

ready-in-shape : (bus : Bus) (proc : Proc) (offered : Offered) (does : Action) → IsBusInShape bus → IsReadyFor bus proc offered does → IsActionInShape does
ready-in-shape bus proc offered does shape ready =
    let its = All-contains IsProcInShape bus.procs proc shape.procs ready.0.0 in
    action-in-shape bus.program.bodies proc.body bus.now offered does (offer-shallow proc.term proc.store offered its.store ready.0.1) ready.1

move-adds : (bus : Bus) (move : Move) → IsBusInShape bus → IsMoveOf bus move → AddsTo (label_of move).kind (label_of move).terms bus.bench (apply bus move).bench
move-adds bus (Own proc offered effect) shape is =
    let adds : IfAdds bus (Some effect) = subst (IfAdds bus) is.2 (effect-adds bus proc is.0 (ready-in-shape bus proc offered is.0 shape is.1)) in
    adds proc.number
move-adds bus (Handshake sender sent receiver received terms binds) shape is = λ lane. inl refl
move-adds bus Finish shape is = λ lane. inr (inr (down-outs finish_reason bus.bench lane))
move-adds bus Halt shape is = λ lane. inr (inr (down-outs halt_reason bus.bench lane))

-- A step leaves the output queue of a lane as it is, or adds a command to its end, or the items of such a step.
pub step-adds : (bus : Bus) (label : Label) → IsBusInShape bus → IsLegal bus (Did label) (after bus (Did label)) → AddsTo label.kind label.terms bus.bench (after bus (Did label)).bench
step-adds bus label shape legal =
    let made = step-made bus (record { label = label; bus = after bus (Did label) }) legal in
    subst (λ (s : Step). AddsTo s.label.kind s.label.terms bus.bench s.bus.bench) (sym made.2) (move-adds bus made.0 shape made.1)
