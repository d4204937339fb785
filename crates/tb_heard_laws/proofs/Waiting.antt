-- Each answer, event, and name that waits with a tool was given by a lane, and the bus took it.
use Rattle.std.proofs.Common.{◌≡◌, ℕ, zero, suc, ◌-◌, ◌⊎◌, inl, inr, List, [], ◌∷◌, ◌++◌, map, length, replicate, remove, slice_index_or, Bool, true, false, Option, Some, None, IfSome, option_map, is_some, unwrap_or, codes, if◌then◌else◌, Contains, refl, ap, sym, subst, arith}
use Rattle.std.specs.List.{All, list_all}
use Rattle.std.proofs.lemmas.List.Elements.{All-nil, All-push, All-weaker, All-map, All-append, All-replicate, Contains-append_left, Contains-append_right}
use Rattle.tb_terms.specs.declared.term.Term.{Term}
use Rattle.tb_notes.specs.Inboxes.{oldest_match}
use Rattle.tb_log.specs.Shapes.{IsToolLineInShape, IsInputInShape, lane_count}
use Rattle.tb_log.specs.declared.entry.Entry.{Entry}
use Rattle.tb_log.specs.declared.entry.Entry.TheVariants.{Did, Quiet, Fed, Gave}
use Rattle.tb_log.specs.declared.entry.Input.{Input}
use Rattle.tb_log.specs.declared.entry.Input.TheVariants as input
use Rattle.tb_log.specs.declared.entry.Label.{Label}
use Rattle.tb_log.specs.declared.entry.LabelKind.TheVariants as kind
use Rattle.tb_log.specs.declared.entry.Out.{Out}
use Rattle.tb_log.specs.declared.entry.Reply.{Reply}
use Rattle.tb_log.specs.declared.entry.Reply.TheVariants.{Took, Dropped}
use Rattle.tb_log.specs.declared.entry.ToolLine.{ToolLine}
use Rattle.tb_log.specs.declared.entry.ToolLine.TheVariants.{Value, Event, Connect, Disconnect, Bad}
use Rattle.tb_log.specs.declared.entry.Why.{Why}
use Rattle.tb_log.specs.declared.entry.Why.TheVariants as why
use Rattle.tb_tools.specs.declared.stage.Stage.{Stage}
use Rattle.tb_tools.specs.declared.stage.Stage.TheVariants.{Waiting, Live, Leaving}
use Rattle.tb_tools.specs.declared.stage.Eval.TheVariants.{Closed, Asked, Answered}
use Rattle.tb_tools.specs.Acts.{answer_of, event_at, with_live_tool, with_question, without_answer, with_received, with_acknowledged_of, with_acknowledged, asked, told, terminated, tool_line, last_line, ended_with, dismissed, gone_down, without_out, handed_out}
use Rattle.tb_tools.specs.Inputs as lanes
use Rattle.tb_tools.specs.Inputs.{departed_by, departed, closed, lost, answered, with_event, with_line, line_by, dropped}
use Rattle.tb_tools.specs.Lanes.{Tool, Lane, BenchState, unused, lane_at, on_lane, is_open, new_tool, started, with_tool, without_tool, with_out, opening}
use Rattle.tb_tools.proofs.Staying.{with_lane-or}
use Rattle.tb_bus.specs.Buses.{Bus, Proc}
use Rattle.tb_bus.specs.Effects.{Nothing, PutsNote, Effect, changed, effect_of, own_effect, speaking, setting_of, creation, may_create, taking, takes_note}
use Rattle.tb_bus.specs.Exchanges.{Setting, kind_name, kind_command, behind, exchange_for, with_told, bench_after}
use Rattle.tb_bus.specs.Steps.{Move, Own, Handshake, Finish, Halt, Step, apply, finish_reason, halt_reason}
use Rattle.tb_bus.specs.Traces.{Answer, IsLegal, after, took, fed, declares}
use Rattle.tb_bus.specs.declared.action.Action.{Action}
use Rattle.tb_bus.specs.declared.action.Action.TheVariants as action
use Rattle.tb_bus.specs.declared.action.OwnAction.{OwnAction}
use Rattle.tb_bus.specs.declared.action.OwnAction.TheVariants as own
use Rattle.tb_bus.specs.declared.action.ToolAction.{ToolAction}
use Rattle.tb_bus.specs.declared.action.ToolAction.TheVariants as tool
use Rattle.tb_bus.specs.declared.exchange.Exchange.{Exchange}
use Rattle.tb_bus.proofs.LaneShapes.{all-or, all-remove}
use Rattle.tb_bus.proofs.ReachedLemmas.{IsMoveOf, step-made}

-- a lane gave the line, which is in shape, and the bus took it
pub record IsGiven (log : List Entry) (line : ToolLine) : Type 0 where
  pub lane : ℕ
  pub there : Contains log (Fed (input.Line lane line) Took)
  pub shape : IsToolLineInShape line

pub record ToolGiven (log : List Entry) (it : Tool) : Type 0 where
  pub answer : (value : Term) → answer_of it.eval ≡ Some value → IsGiven log (Value value)
  pub events : All (λ (terms : List Term). IsGiven log (Event terms)) it.events
  pub name : it.stage ≡ Waiting → IsGiven log (Connect it.name)

abbrev pub LaneGiven : List Entry → Lane → Type 0
LaneGiven log lane = IfSome lane.tool (ToolGiven log)

abbrev pub BenchGiven : List Entry → BenchState → Type 0
BenchGiven log bench = (lane : ℕ) → LaneGiven log (lane_at lane bench)

-- a longer log

given-further : (log more : List Entry) (line : ToolLine) → IsGiven log line → IsGiven (log ++ more) line
given-further log more line h = record { lane = h.lane; there = Contains-append_left log more (Fed (input.Line h.lane line) Took) h.there; shape = h.shape }

tool-further : (log more : List Entry) (it : Tool) → ToolGiven log it → ToolGiven (log ++ more) it
tool-further log more it h = record {
  answer = λ value e. given-further log more (Value value) (h.answer value e);
  events = All-weaker (λ (terms : List Term). IsGiven log (Event terms)) (λ (terms : List Term). IsGiven (log ++ more) (Event terms)) (λ terms g. given-further log more (Event terms) g) it.events h.events;
  name = λ e. given-further log more (Connect it.name) (h.name e);
}

some-further : (log more : List Entry) (o : Option Tool) → IfSome o (ToolGiven log) → IfSome o (ToolGiven (log ++ more))
some-further log more None h = tt
some-further log more (Some it) h = tool-further log more it h

pub bench-further : (log more : List Entry) (bench : BenchState) → BenchGiven log bench → BenchGiven (log ++ more) bench
bench-further log more bench h lane = some-further log more (lane_at lane bench).tool (h lane)

live-no : {A : Type 0} → ◌≡◌ {A = Stage} Live Waiting → A
live-no e = absurd cc

leaving-no : {A : Type 0} → ◌≡◌ {A = Stage} Leaving Waiting → A
leaving-no e = absurd cc

module _ (log : List Entry) where
  -- tools

  answers-none : {A : Type 0} (value : Term) → ◌≡◌ {A = Option Term} None (Some value) → A
  answers-none value e = absurd cc

  live-given : (it : Tool) → ToolGiven log it → ToolGiven log (record it { stage = Live })
  live-given it h = record { answer = h.answer; events = h.events; name = λ e. live-no e }

  leaving-given : (it : Tool) → ToolGiven log it → ToolGiven log (record it { stage = Leaving })
  leaving-given it h = record { answer = h.answer; events = h.events; name = λ e. leaving-no e }

  asked-given : (it : Tool) → ToolGiven log it → ToolGiven log (record it { eval = Asked })
  asked-given it h = record { answer = λ value e. answers-none value e; events = h.events; name = h.name }

  closed-given : (it : Tool) → ToolGiven log it → ToolGiven log (record it { eval = Closed })
  closed-given it h = record { answer = λ value e. answers-none value e; events = h.events; name = h.name }

  received-given : (place : ℕ) (it : Tool) → ToolGiven log it → ToolGiven log (record it { events = remove it.events place; received = it.received ++ event_at place it.events ∷ [] })
  received-given place it h = record { answer = h.answer; events = all-remove (λ (terms : List Term). IsGiven log (Event terms)) it.events place h.events; name = h.name }

  acknowledged-given : (place : ℕ) (it : Tool) → ToolGiven log it → ToolGiven log (record it { received = remove it.received place })
  acknowledged-given place it h = record { answer = h.answer; events = h.events; name = h.name }

  new-given : (name : List ℕ) (number : ℕ) → ToolGiven log (new_tool name number Live)
  new-given name number = record { answer = λ value e. answers-none value e; events = All-nil (λ (terms : List Term). IsGiven log (Event terms)); name = λ e. live-no e }

  waiting-given : (name : List ℕ) (number : ℕ) → IsGiven log (Connect name) → ToolGiven log (new_tool name number Waiting)
  waiting-given name number h = record { answer = λ value e. answers-none value e; events = All-nil (λ (terms : List Term). IsGiven log (Event terms)); name = λ e. h }

  answered-given : (value : Term) → IsGiven log (Value value) → (it : Tool) → ToolGiven log it → ToolGiven log (record it { eval = Answered value })
  answered-given value g it h = record {
    answer = λ other e. (let same : value ≡ other = (let t : ◌≡◌ {A = Option Term} (Some value) (Some other) = e in cc) in subst (λ (v : Term). IsGiven log (Value v)) same g);
    events = h.events;
    name = h.name;
  }

  event-given : (terms : List Term) → IsGiven log (Event terms) → (it : Tool) → ToolGiven log it → ToolGiven log (record it { events = it.events ++ terms ∷ [] })
  event-given terms g it h = record { answer = h.answer; events = All-push (λ (terms : List Term). IsGiven log (Event terms)) it.events terms h.events g; name = h.name }

  mapped-given : (change : Tool → Tool) (o : Option Tool) → ((it : Tool) → ToolGiven log it → ToolGiven log (change it)) → IfSome o (ToolGiven log) → IfSome (option_map change o) (ToolGiven log)
  mapped-given change None each h = tt
  mapped-given change (Some it) each h = each it h

  -- lanes

  departed-by : (it : Tool) (stage : Stage) → ToolGiven log it → IfSome (departed_by it stage) (ToolGiven log)
  departed-by it Waiting h = tt
  departed-by it Live h = leaving-given it h
  departed-by it Leaving h = h

  departed-given : (o : Option Tool) → IfSome o (ToolGiven log) → IfSome (departed o) (ToolGiven log)
  departed-given None h = tt
  departed-given (Some it) h = departed-by it it.stage h

  acked-given : (place : ℕ) (lane : Lane) (found : Option Tool) → lane.tool ≡ found → LaneGiven log lane → LaneGiven log (with_acknowledged_of place lane found)
  acked-given place lane None e h = h
  acked-given place lane (Some it) e h =
      let g : ToolGiven log it = subst (λ (o : Option Tool). IfSome o (ToolGiven log)) e h in
      acknowledged-given place it g

  dismissed-by : (line : Out) (lane : Lane) (b : Bool) → LaneGiven log lane → LaneGiven log (if b then ended_with line lane else lane)
  dismissed-by line lane true h = h
  dismissed-by line lane false h = h

  -- benches

  on_lane-given : (change : Lane → Lane) (at : ℕ) (bench : BenchState) → (LaneGiven log (lane_at at bench) → LaneGiven log (change (lane_at at bench))) → BenchGiven log bench → BenchGiven log (on_lane change at bench)
  on_lane-given change at bench each h lane = by (with_lane-or at lane (change (lane_at at bench)) bench)
    where
      by : (lane_at lane (on_lane change at bench) ≡ lane_at lane bench) ⊎ ((lane_at lane (on_lane change at bench) ≡ change (lane_at at bench)) × (lane - 1 ≡ at - 1)) → LaneGiven log (lane_at lane (on_lane change at bench))
      by (inl e) = subst (LaneGiven log) (sym e) (h lane)
      by (inr e) = subst (LaneGiven log) (sym e.0) (each (h at))

  while-given : (up : Bool) (change : Lane → Lane) (at : ℕ) (bench : BenchState) → BenchGiven log (on_lane change at bench) → BenchGiven log bench →
      BenchGiven log (let a : lanes.Answer = if up then record { reply = Took; bench = on_lane change at bench } else record { reply = Dropped why.NotLive; bench = bench } in a.bench)
  while-given true change at bench g h = g
  while-given false change at bench g h = h

  pub handed-given : (at : ℕ) (bench : BenchState) → BenchGiven log bench → BenchGiven log (handed_out at bench)
  handed-given at bench h = on_lane-given without_out at bench (λ k. k) h

  map-or : {A : Type 0} (f : A → A) (xs : List A) (at : ℕ) (d : A) → f d ≡ d → slice_index_or (map f xs) at d ≡ f (slice_index_or xs at d)
  map-or f [] at d e = sym e
  map-or f (x ∷ xs) zero d e = refl
  map-or f (x ∷ xs) (suc at) d e = map-or f xs at d e

  down-given : (reason : Term) (bench : BenchState) → BenchGiven log bench → BenchGiven log (gone_down reason bench)
  down-given reason bench h lane =
      subst (LaneGiven log) (sym (map-or (dismissed (last_line reason)) bench.lanes (lane - 1) unused refl)) (dismissed-by (last_line reason) (lane_at lane bench) (is_open (lane_at lane bench)) (h lane))

  -- exchanges

  told-given : (change : Term → ℕ → BenchState → BenchState) (terms : List Term) (at : ℕ) (bench : BenchState) → ((term : Term) → BenchGiven log (change term at bench)) → BenchGiven log bench → BenchGiven log (with_told change terms at bench)
  told-given change [] at bench each h = h
  told-given change (term ∷ terms) at bench each h = each term

  exchange-given : (setting : Setting) (does : ToolAction) (exchange : Exchange) → BenchGiven log setting.bench → BenchGiven log (bench_after setting does exchange)
  exchange-given setting (tool.Execute which slot) exchange h =
      let change = λ (old : Lane). with_tool (new_tool (kind_name setting which) setting.bench.next_tool Live) (started (unwrap_or (kind_command setting which) []) old) in
      on_lane-given change exchange.lane setting.bench (λ k. new-given (kind_name setting which) setting.bench.next_tool) h
  exchange-given setting (tool.Connect which slot) exchange h = on_lane-given with_live_tool exchange.lane setting.bench (mapped-given (λ it. record it { stage = Live }) (lane_at exchange.lane setting.bench).tool live-given) h
  exchange-given setting (tool.DisconnectAny which slot) exchange h = on_lane-given without_tool exchange.lane setting.bench (λ k. tt) h
  exchange-given setting (tool.Disconnect terms) exchange h = on_lane-given without_tool exchange.lane setting.bench (λ k. tt) h
  exchange-given setting (tool.Eval terms) exchange h =
      told-given asked (behind terms) exchange.lane setting.bench
      (λ term. on_lane-given (with_question term) exchange.lane setting.bench (mapped-given (λ it. record it { eval = Asked }) (lane_at exchange.lane setting.bench).tool asked-given) h) h
  exchange-given setting (tool.TakeValue terms patterns) exchange h =
      on_lane-given without_answer exchange.lane setting.bench (mapped-given (λ it. record it { eval = Closed }) (lane_at exchange.lane setting.bench).tool closed-given) h
  exchange-given setting (tool.Do terms) exchange h =
      told-given told (behind terms) exchange.lane setting.bench (λ term. on_lane-given (with_out (tool_line (codes "rec-do") (term ∷ []))) exchange.lane setting.bench (λ k. k) h) h
  exchange-given setting (tool.TakeEvent terms patterns) exchange h =
      on_lane-given (with_received exchange.event) exchange.lane setting.bench
      (mapped-given (λ it. record it { events = remove it.events exchange.event; received = it.received ++ event_at exchange.event it.events ∷ [] }) (lane_at exchange.lane setting.bench).tool (received-given exchange.event)) h
  exchange-given setting (tool.Acknowledge terms) exchange h =
      on_lane-given (with_acknowledged exchange.event) exchange.lane setting.bench (acked-given exchange.event (lane_at exchange.lane setting.bench) (lane_at exchange.lane setting.bench).tool refl) h
  exchange-given setting (tool.Terminate terms) exchange h =
      told-given terminated (behind terms) exchange.lane setting.bench (λ term. on_lane-given (λ (old : Lane). without_tool (ended_with (last_line term) old)) exchange.lane setting.bench (λ k. tt) h) h

  -- steps

  abbrev IfGiven : Bus → Option Effect → Type 0
  IfGiven bus found = IfSome found (λ (effect : Effect). (number : ℕ) → BenchGiven log (changed effect.change number bus).bench)

  if-given : (bus : Bus) (b : Bool) (effect : Effect) → ((number : ℕ) → BenchGiven log (changed effect.change number bus).bench) → IfGiven bus (if b then Some effect else None)
  if-given bus true effect h = h
  if-given bus false effect h = tt

  unless-given : (bus : Bus) (b : Bool) (effect : Effect) → ((number : ℕ) → BenchGiven log (changed effect.change number bus).bench) → IfGiven bus (if b then None else Some effect)
  unless-given bus true effect h = tt
  unless-given bus false effect h = h

  map-given : {A : Type 0} (bus : Bus) (f : A → Effect) (found : Option A) → ((x : A) → (number : ℕ) → BenchGiven log (changed (f x).change number bus).bench) → IfGiven bus (option_map f found)
  map-given bus f None each = tt
  map-given bus f (Some x) each = each x

  own-given : (bus : Bus) (proc : Proc) (does : OwnAction) → BenchGiven log bus.bench → IfGiven bus (own_effect bus proc does)
  own-given bus proc own.Tau h = λ number. h
  own-given bus proc (own.Set values binds) h = λ number. h
  own-given bus proc (own.Print text) h = λ number. h
  own-given bus proc (own.Notify terms) h =
      if-given bus (list_all (λ (other : Proc). takes_note terms other.inbox) bus.procs) (record { kind = kind.SndNote; shown = terms; binds = []; change = PutsNote terms }) (λ number. h)
  own-given bus proc (own.TakeNote patterns) h = map-given bus (taking proc.inbox) (oldest_match patterns proc.inbox) (λ found number. h)
  own-given bus proc (own.NoNote patterns) h = unless-given bus (is_some (oldest_match patterns proc.inbox)) (record { kind = kind.NoNote; shown = []; binds = []; change = Nothing }) (λ number. h)
  own-given bus proc (own.Subscribe patterns) h = λ number. h
  own-given bus proc (own.Unsubscribe patterns) h = λ number. h
  own-given bus proc (own.Create process actuals slot) h =
      if-given bus (may_create bus.program.bodies (length bus.procs) bus.next_number proc.body process actuals slot) (creation bus.next_number process actuals slot) (λ number. h)
  own-given bus proc (own.Speak does) h =
      let setting = setting_of bus proc in
      map-given bus (speaking setting does) (exchange_for setting does) (λ exchange number. exchange-given setting does exchange h)
  own-given bus proc (own.Shutdown reason) h = λ number. down-given reason bus.bench h

  effect-given : (bus : Bus) (proc : Proc) (does : Action) → BenchGiven log bus.bench → IfGiven bus (effect_of bus proc does)
  effect-given bus proc (action.Own does) h = own-given bus proc does h
  effect-given bus proc (action.Send terms) h = tt
  effect-given bus proc (action.Receive patterns) h = tt

  move-given : (bus : Bus) (move : Move) → BenchGiven log bus.bench → IsMoveOf bus move → BenchGiven log (apply bus move).bench
  move-given bus (Own proc offered effect) h is =
      let all : IfGiven bus (Some effect) = subst (IfGiven bus) is.2 (effect-given bus proc is.0 h) in
      all proc.number
  move-given bus (Handshake sender sent receiver received terms binds) h is = h
  move-given bus Finish h is = down-given finish_reason bus.bench h
  move-given bus Halt h is = down-given halt_reason bus.bench h

  pub step-given : (bus : Bus) (label : Label) → BenchGiven log bus.bench → IsLegal bus (Did label) (after bus (Did label)) → BenchGiven log (after bus (Did label)).bench
  step-given bus label h legal =
      let made = step-made bus (record { label = label; bus = after bus (Did label) }) legal in
      subst (λ (s : Step). BenchGiven log s.bus.bench) (sym made.2) (move-given bus made.0 h made.1)

-- inputs

just-given : (log : List Entry) (lane : ℕ) (line : ToolLine) → IsToolLineInShape line → IsGiven (log ++ Fed (input.Line lane line) Took ∷ []) line
just-given log lane line shape = record {
  lane = lane;
  there = Contains-append_right log (Fed (input.Line lane line) Took ∷ []) (Fed (input.Line lane line) Took) (0, omega arith, refl);
  shape = shape;
}

line-taken : (log : List Entry) (line : ToolLine) (lane : ℕ) (bench : BenchState) → IsToolLineInShape line → BenchGiven log bench → BenchGiven (log ++ Fed (input.Line lane line) Took ∷ []) (with_line line lane bench)
line-taken log (Value value) lane bench shape h =
    let more = log ++ Fed (input.Line lane (Value value)) Took ∷ [] in
    let further = bench-further log (Fed (input.Line lane (Value value)) Took ∷ []) bench h in
    on_lane-given more (answered value) lane bench
    (mapped-given more (λ it. record it { eval = Answered value }) (lane_at lane bench).tool (answered-given more value (just-given log lane (Value value) shape))) further
line-taken log (Event terms) lane bench shape h =
    let more = log ++ Fed (input.Line lane (Event terms)) Took ∷ [] in
    let further = bench-further log (Fed (input.Line lane (Event terms)) Took ∷ []) bench h in
    on_lane-given more (with_event terms) lane bench
    (mapped-given more (λ it. record it { events = it.events ++ terms ∷ [] }) (lane_at lane bench).tool (event-given more terms (just-given log lane (Event terms) shape))) further
line-taken log (Connect name) lane bench shape h =
    let more = log ++ Fed (input.Line lane (Connect name)) Took ∷ [] in
    let further = bench-further log (Fed (input.Line lane (Connect name)) Took ∷ []) bench h in
    on_lane-given more (with_tool (new_tool name bench.next_tool Waiting)) lane bench (λ k. waiting-given more name bench.next_tool (just-given log lane (Connect name) shape)) further
line-taken log Disconnect lane bench shape h =
    let more = log ++ Fed (input.Line lane Disconnect) Took ∷ [] in
    let further = bench-further log (Fed (input.Line lane Disconnect) Took ∷ []) bench h in
    on_lane-given more closed lane bench (departed-given more (lane_at lane bench).tool) further
line-taken log Bad lane bench shape h = bench-further log (Fed (input.Line lane Bad) Took ∷ []) bench h

line-given : (log : List Entry) (found : Option Why) (line : ToolLine) (lane : ℕ) (bench : BenchState) → IsToolLineInShape line → BenchGiven log bench →
    BenchGiven (log ++ Fed (input.Line lane line) (line_by found line lane bench).reply ∷ []) (line_by found line lane bench).bench
line-given log None line lane bench shape h = line-taken log line lane bench shape h
line-given log (Some found) line lane bench shape h = bench-further log (Fed (input.Line lane line) (Dropped found) ∷ []) bench h

took-given : (log : List Entry) (bus : Bus) (it : Input) → IsInputInShape it → BenchGiven log bus.bench → BenchGiven (log ++ Fed it (took bus it).reply ∷ []) (took bus it).bus.bench
took-given log bus input.Tick shape h = bench-further log (Fed input.Tick Took ∷ []) bus.bench h
took-given log bus input.NoTicks shape h = bench-further log (Fed input.NoTicks Took ∷ []) bus.bench h
took-given log bus (input.Line lane line) shape h = line-given log (dropped (declares bus.program.tools line) line (lane_at lane bus.bench)) line lane bus.bench shape.1 h
took-given log bus (input.Gone lane) shape h =
    let entry = Fed (input.Gone lane) (took bus (input.Gone lane)).reply ∷ [] in
    let further = bench-further log entry bus.bench h in
    while-given (log ++ entry) (lane_at lane bus.bench).up lost lane bus.bench (on_lane-given (log ++ entry) lost lane bus.bench (departed-given (log ++ entry) (lane_at lane bus.bench).tool) further) further
took-given log bus (input.Cut lane) shape h =
    let entry = Fed (input.Cut lane) (took bus (input.Cut lane)).reply ∷ [] in
    let further = bench-further log entry bus.bench h in
    while-given (log ++ entry) (lane_at lane bus.bench).up closed lane bus.bench (on_lane-given (log ++ entry) closed lane bus.bench (departed-given (log ++ entry) (lane_at lane bus.bench).tool) further) further

fed-given : (log : List Entry) (bus : Bus) (it : Input) (down : Bool) → IsInputInShape it → BenchGiven log bus.bench →
    (let a : Answer = if down then record { reply = Dropped why.Down; bus = bus } else took bus it in BenchGiven (log ++ Fed it a.reply ∷ []) a.bus.bench)
fed-given log bus it true shape h = bench-further log (Fed it (Dropped why.Down) ∷ []) bus.bench h
fed-given log bus it false shape h = took-given log bus it shape h

pub entry-given : (log : List Entry) (bus : Bus) (entry : Entry) → BenchGiven log bus.bench → IsLegal bus entry (after bus entry) → BenchGiven (log ++ entry ∷ []) (after bus entry).bench
entry-given log bus (Did label) h legal = bench-further log (Did label ∷ []) (after bus (Did label)).bench (step-given log bus label h legal)
entry-given log bus Quiet h legal = bench-further log (Quiet ∷ []) bus.bench h
entry-given log bus (Fed it reply) h legal =
    let same : reply ≡ (fed bus it).reply = ap (λ (a : Answer). a.reply) legal.1 in
    subst (λ (r : Reply). BenchGiven (log ++ Fed it r ∷ []) (fed bus it).bus.bench) (sym same) (fed-given log bus it bus.down legal.0 h)
entry-given log bus (Gave lane out) h legal = bench-further log (Gave lane out ∷ []) (handed_out lane bus.bench) (handed-given log lane bus.bench h)

pub opening-given : (commands : List (List ℕ)) → BenchGiven [] (opening commands)
opening-given commands lane =
    let Q = LaneGiven [] in
    let first = λ (command : List ℕ). started command unused in
    let none : Q unused = tt in
    all-or Q (opening commands).lanes (lane - 1) unused
    (All-append Q (map first commands) (replicate (lane_count - length commands) unused)
    (All-map Q first commands (λ k d l. tt))
    (All-replicate Q (lane_count - length commands) unused none))
    none
