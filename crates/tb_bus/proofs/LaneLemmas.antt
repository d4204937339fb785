-- How many lanes there are stays, and the lane of what is handed out first is one of them.
use Rattle.std.proofs.Common.{◌≡◌, ℕ, ◌+◌, ◌-◌, ◌≤◌, List, [], ◌∷◌, ◌++◌, map, replicate, length, length-append, refl, ap, ◌∙◌, subst, arith, Option, Some, None, MatchOption, Bool, true, false, if◌then◌else◌, option_map, is_some}
use Rattle.std.specs.List.{list_all}
use Rattle.std.proofs.lemmas.List.{length-map, length-set, length-replicate}
use Rattle.tb_terms.specs.declared.term.Term.{Term}
use Rattle.tb_notes.specs.Inboxes.{oldest_match}
use Rattle.tb_log.specs.Shapes.{lane_count, IsLane}
use Rattle.tb_log.specs.declared.entry.ToolLine.{ToolLine}
use Rattle.tb_log.specs.declared.entry.ToolLine.TheVariants as tool_line
use Rattle.tb_log.specs.declared.entry.Input.{Input}
use Rattle.tb_log.specs.declared.entry.Input.TheVariants.{Tick, NoTicks, Line, Gone, Cut}
use Rattle.tb_log.specs.declared.entry.Entry.{Entry}
use Rattle.tb_log.specs.declared.entry.Entry.TheVariants.{Did, Quiet, Fed, Gave}
use Rattle.tb_log.specs.declared.entry.Why.{Why}
use Rattle.tb_log.specs.declared.entry.Why.TheVariants as why
use Rattle.tb_log.specs.declared.entry.Reply.TheVariants.{Took, Dropped}
use Rattle.tb_log.specs.declared.entry.LabelKind.TheVariants as kind
use Rattle.tb_tools.specs.Lanes.{Lane, BenchState, lane_at, on_lane, started, unused}
use Rattle.tb_tools.specs.Acts.{asked, told, terminated}
use Rattle.tb_tools.specs.Finding.{first_out, has_out}
use Rattle.tb_tools.specs.First.{NoLane, IsFirstLane}
use Rattle.tb_tools.specs.Inputs.{line_by, dropped, with_line, while_up, lost, closed}
use Rattle.tb_tools.specs.Inputs as lanes
use Rattle.tb_tools.proofs.Lowest.{first_lane-lowest}
use Rattle.tb_bus.specs.declared.origin.Origin.{Origin}
use Rattle.tb_bus.specs.Reached.{Reaches}
use Rattle.tb_bus.specs.Buses.{Bus, Proc, start}
use Rattle.tb_bus.specs.Exchanges.{Setting, exchange_for, bench_after, with_told, behind}
use Rattle.tb_bus.specs.Effects.{Nothing, PutsNote, Effect, changed, effect_of, own_effect, speaking, setting_of, creation, may_create, taking, takes_note}
use Rattle.tb_bus.specs.Steps.{Move, Own, Handshake, Finish, Halt, Step, apply}
use Rattle.tb_bus.specs.Traces.{Answer, IsLegal, IsTrace, after, replay, took, declares}
use Rattle.tb_bus.specs.declared.action.Action.{Action}
use Rattle.tb_bus.specs.declared.action.Action.TheVariants as action
use Rattle.tb_bus.specs.declared.action.OwnAction.{OwnAction}
use Rattle.tb_bus.specs.declared.action.OwnAction.TheVariants as own
use Rattle.tb_bus.specs.declared.action.ToolAction.{ToolAction}
use Rattle.tb_bus.specs.declared.action.ToolAction.TheVariants as tool
use Rattle.tb_bus.specs.declared.exchange.Exchange.{Exchange}
use Rattle.tb_bus.proofs.ReachedLemmas.{IsMoveOf, step-made}

-- a change of one lane
on_lane-lanes : (change : Lane → Lane) (lane : ℕ) (bench : BenchState) → length (on_lane change lane bench).lanes ≡ length bench.lanes
on_lane-lanes change lane bench = length-set bench.lanes (lane - 1) _

told-lanes : (change : Term → ℕ → BenchState → BenchState) → ((term : Term) (lane : ℕ) (bench : BenchState) → length (change term lane bench).lanes ≡ length bench.lanes) →
    (terms : List Term) (lane : ℕ) (bench : BenchState) → length (with_told change terms lane bench).lanes ≡ length bench.lanes
told-lanes change each [] lane bench = refl
told-lanes change each (term ∷ terms) lane bench = each term lane bench

bench-lanes : (setting : Setting) (does : ToolAction) (exchange : Exchange) → length (bench_after setting does exchange).lanes ≡ length setting.bench.lanes
bench-lanes setting (tool.Execute kind slot) exchange = search on_lane-lanes
bench-lanes setting (tool.Connect kind slot) exchange = search on_lane-lanes
bench-lanes setting (tool.DisconnectAny kind slot) exchange = search on_lane-lanes
bench-lanes setting (tool.Disconnect terms) exchange = search on_lane-lanes
bench-lanes setting (tool.Eval terms) exchange = told-lanes asked (λ term lane bench. search on_lane-lanes) (behind terms) exchange.lane setting.bench
bench-lanes setting (tool.TakeValue terms patterns) exchange = search on_lane-lanes
bench-lanes setting (tool.Do terms) exchange = told-lanes told (λ term lane bench. search on_lane-lanes) (behind terms) exchange.lane setting.bench
bench-lanes setting (tool.TakeEvent terms patterns) exchange = search on_lane-lanes
bench-lanes setting (tool.Acknowledge terms) exchange = search on_lane-lanes
bench-lanes setting (tool.Terminate terms) exchange = told-lanes terminated (λ term lane bench. search on_lane-lanes) (behind terms) exchange.lane setting.bench

-- a change keeps the lanes of this bus
abbrev KeepsLanes : Bus → Effect → Type 0
KeepsLanes bus effect = (number : ℕ) → length (changed effect.change number bus).bench.lanes ≡ length bus.bench.lanes

abbrev IfKeeps : Bus → Option Effect → Type 0
IfKeeps bus None = Unit {0}
IfKeeps bus (Some effect) = KeepsLanes bus effect

if-keeps : (bus : Bus) (b : Bool) (effect : Option Effect) → IfKeeps bus effect → IfKeeps bus (if b then effect else None)
if-keeps bus true effect h = h
if-keeps bus false effect h = tt

unless-keeps : (bus : Bus) (b : Bool) (effect : Option Effect) → IfKeeps bus effect → IfKeeps bus (if b then None else effect)
unless-keeps bus true effect h = tt
unless-keeps bus false effect h = h

map-keeps : {A : Type 0} (bus : Bus) (f : A → Effect) (found : Option A) → ((x : A) → KeepsLanes bus (f x)) → IfKeeps bus (option_map f found)
map-keeps bus f None each = tt
map-keeps bus f (Some x) each = each x

own-keeps : (bus : Bus) (proc : Proc) (own : OwnAction) → IfKeeps bus (own_effect bus proc own)
own-keeps bus proc own.Tau = λ number. refl
own-keeps bus proc (own.Set values binds) = λ number. refl
own-keeps bus proc (own.Print text) = λ number. refl
own-keeps bus proc (own.Notify terms) =
    let effect : Effect = record { kind = kind.SndNote; shown = terms; binds = []; change = PutsNote terms } in
    let keeps : KeepsLanes bus effect = λ number. refl in
    if-keeps bus (list_all (λ (other : Proc). takes_note terms other.inbox) bus.procs) (Some effect) keeps
own-keeps bus proc (own.TakeNote patterns) = map-keeps bus (taking proc.inbox) (oldest_match patterns proc.inbox) (λ found number. refl)
own-keeps bus proc (own.NoNote patterns) =
    let effect : Effect = record { kind = kind.NoNote; shown = []; binds = []; change = Nothing } in
    let keeps : KeepsLanes bus effect = λ number. refl in
    unless-keeps bus (is_some (oldest_match patterns proc.inbox)) (Some effect) keeps
own-keeps bus proc (own.Subscribe patterns) = λ number. refl
own-keeps bus proc (own.Unsubscribe patterns) = λ number. refl
own-keeps bus proc (own.Create process actuals slot) =
    let effect : Effect = creation bus.next_number process actuals slot in
    let keeps : KeepsLanes bus effect = λ number. refl in
    if-keeps bus (may_create bus.program.bodies (length bus.procs) bus.next_number proc.body process actuals slot) (Some effect) keeps
own-keeps bus proc (own.Speak does) =
    map-keeps bus (speaking (setting_of bus proc) does) (exchange_for (setting_of bus proc) does) (λ exchange number. bench-lanes (setting_of bus proc) does exchange)
own-keeps bus proc (own.Shutdown reason) = λ number. search length-map

effect-keeps : (bus : Bus) (proc : Proc) (does : Action) → IfKeeps bus (effect_of bus proc does)
effect-keeps bus proc (action.Own own) = own-keeps bus proc own
effect-keeps bus proc (action.Send terms) = tt
effect-keeps bus proc (action.Receive patterns) = tt

move-keeps : (bus : Bus) (move : Move) → IsMoveOf bus move → length (apply bus move).bench.lanes ≡ length bus.bench.lanes
move-keeps bus (Own proc offered effect) h =
    let keeps : IfKeeps bus (Some effect) = subst (IfKeeps bus) h.2 (effect-keeps bus proc h.0) in
    keeps proc.number
move-keeps bus (Handshake sender sent receiver received terms binds) h = refl
move-keeps bus Finish h = search length-map
move-keeps bus Halt h = search length-map

up-by : (b : Bool) (change : Lane → Lane) (lane : ℕ) (bench : BenchState) →
    (let a : lanes.Answer = if b then record { reply = Took; bench = on_lane change lane bench } else record { reply = Dropped why.NotLive; bench = bench } in length a.bench.lanes) ≡ length bench.lanes
up-by true change lane bench = on_lane-lanes change lane bench
up-by false change lane bench = refl

line-keeps : (line : ToolLine) (lane : ℕ) (bench : BenchState) → length (with_line line lane bench).lanes ≡ length bench.lanes
line-keeps (tool_line.Value value) lane bench = search on_lane-lanes
line-keeps (tool_line.Event terms) lane bench = search on_lane-lanes
line-keeps (tool_line.Connect name) lane bench = search on_lane-lanes
line-keeps tool_line.Disconnect lane bench = search on_lane-lanes
line-keeps tool_line.Bad lane bench = refl

line_by-keeps : (why : Option Why) (line : ToolLine) (lane : ℕ) (bench : BenchState) → length (line_by why line lane bench).bench.lanes ≡ length bench.lanes
line_by-keeps None line lane bench = line-keeps line lane bench
line_by-keeps (Some why) line lane bench = refl

took-keeps : (bus : Bus) (input : Input) → length (took bus input).bus.bench.lanes ≡ length bus.bench.lanes
took-keeps bus Tick = refl
took-keeps bus NoTicks = refl
took-keeps bus (Line lane line) = line_by-keeps (dropped (declares bus.program.tools line) line (lane_at lane bus.bench)) line lane bus.bench
took-keeps bus (Gone lane) = up-by (lane_at lane bus.bench).up lost lane bus.bench
took-keeps bus (Cut lane) = up-by (lane_at lane bus.bench).up closed lane bus.bench

fed-by : (bus : Bus) (input : Input) (down : Bool) → (let a : Answer = if down then record { reply = Dropped why.Down; bus = bus } else took bus input in length a.bus.bench.lanes) ≡ length bus.bench.lanes
fed-by bus input true = refl
fed-by bus input false = took-keeps bus input

-- A legal entry keeps the lanes.
pub legal-lanes : (bus : Bus) (entry : Entry) → IsLegal bus entry (after bus entry) → length (after bus entry).bench.lanes ≡ length bus.bench.lanes
legal-lanes bus (Did label) h =
    let made = step-made bus (record { label = label; bus = after bus (Did label) }) h in
    ap (λ (s : Step). length s.bus.bench.lanes) made.2 ∙ move-keeps bus made.0 made.1
legal-lanes bus Quiet h = refl
legal-lanes bus (Fed input reply) h = fed-by bus input bus.down
legal-lanes bus (Gave lane out) h = search on_lane-lanes

first-by : (test : Lane → Bool) (bench : BenchState) (found : Option ℕ) (lane : ℕ) → found ≡ Some lane → length bench.lanes ≡ 16 → MatchOption found (NoLane test bench) (IsFirstLane test bench) → IsLane lane
first-by test bench None lane e long h = cc
first-by test bench (Some other) lane e long h =
    let same : other ≡ lane = cc in
    subst IsLane same (h.0.0, subst (λ n. other ≤ n) long h.0.1)

-- What is to be handed out first stands on a lane that is there.
pub first_out-lane : (bench : BenchState) (lane : ℕ) → length bench.lanes ≡ 16 → first_out bench ≡ Some lane → IsLane lane
first_out-lane bench lane long e = first-by has_out bench (first_out bench) lane e long (first_lane-lowest has_out bench)

replay-lanes : (bus : Bus) (log : List Entry) → IsTrace bus log → length (replay bus log).bench.lanes ≡ length bus.bench.lanes
replay-lanes bus [] h = refl
replay-lanes bus (entry ∷ log) h = replay-lanes (after bus entry) log h.1 ∙ legal-lanes bus entry h.0

start-lanes : (origin : Origin) → length origin.connects ≤ 16 → length (start origin).bench.lanes ≡ 16
start-lanes origin few =
    let commands = map (λ (command : List ℕ). started command unused) origin.connects in
    let rest = replicate (lane_count - length origin.connects) unused in
    let both : length (commands ++ rest) ≡ length commands + length rest = length-append commands rest in
    let first : length commands ≡ length origin.connects = length-map origin.connects (λ (command : List ℕ). started command unused) in
    let others : length rest ≡ lane_count - length origin.connects = length-replicate (lane_count - length origin.connects) unused in
    omega (arith, both, first, others)

pub reached-lanes : (origin : Origin) (bus : Bus) → length origin.connects ≤ 16 → Reaches origin bus → length bus.bench.lanes ≡ 16
reached-lanes origin bus few r =
    ap (λ (b : Bus). length b.bench.lanes) r.2 ∙ replay-lanes (start origin) r.0 r.1 ∙ start-lanes origin few
