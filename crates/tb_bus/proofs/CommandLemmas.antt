-- The commands that stand on the lanes of a bus that a program reaches are those of its origin.
use Rattle.std.proofs.Common.{◌≡◌, ℕ, zero, suc, ◌-◌, ◌≤◌, Bool, true, false, ◌&&◌, List, [], ◌∷◌, ◌++◌, map, length, replicate, slice_get, Option, Some, None, IfSome, is_some, option_map, if◌then◌else◌, unwrap_or, Contains, refl, ap, sym, ◌∙◌, subst, arith, codes}
use Rattle.std.specs.List.{All, AllByRecursion, filter_map, cons_option, list_all}
use Rattle.std.proofs.lemmas.Option.{same_Some}
use Rattle.std.proofs.lemmas.List.Elements.{All-nil, All-cons, All-head, All-append, All-push, All-map, All-set, All-drop, All-replicate, All-weaker, All-contains, All-contains_itself, Contains-append_left, Contains-append_right}
use Rattle.tb_terms.specs.declared.term.Term.{Term}
use Rattle.tb_body.specs.declared.program.Program.{Program}
use Rattle.tb_body.specs.declared.program.Tool.{Tool as ToolKind}
use Rattle.tb_notes.specs.Inboxes.{oldest_match}
use Rattle.tb_log.specs.Shapes.{lane_count}
use Rattle.tb_log.specs.declared.entry.LabelKind.TheVariants as kind
use Rattle.tb_log.specs.declared.entry.Out.{Out}
use Rattle.tb_log.specs.declared.entry.Out.TheVariants.{Start, End}
use Rattle.tb_log.specs.declared.entry.ToolLine.{ToolLine}
use Rattle.tb_log.specs.declared.entry.ToolLine.TheVariants as put
use Rattle.tb_log.specs.declared.entry.Input.{Input}
use Rattle.tb_log.specs.declared.entry.Input.TheVariants.{Tick, NoTicks, Gone, Cut}
use Rattle.tb_log.specs.declared.entry.Input.TheVariants as input
use Rattle.tb_log.specs.declared.entry.Reply.TheVariants.{Took, Dropped}
use Rattle.tb_log.specs.declared.entry.Why.{Why}
use Rattle.tb_log.specs.declared.entry.Why.TheVariants as why
use Rattle.tb_log.specs.declared.entry.Entry.{Entry}
use Rattle.tb_log.specs.declared.entry.Entry.TheVariants.{Did, Quiet, Fed, Gave}
use Rattle.tb_tools.specs.declared.stage.Stage.TheVariants as stage
use Rattle.tb_tools.specs.Lanes.{Tool, Lane, BenchState, unused, lane_at, tool_at, on_lane, with_tool, without_tool, with_out, is_empty, is_open, started, new_tool, opening}
use Rattle.tb_tools.specs.Acts.{tool_line, acknowledgement, with_live_tool, with_question, asked, without_answer, told, with_received, with_acknowledged_of, with_acknowledged, last_line, ended_with, terminated, dismissed, gone_down, without_out, handed_out}
use Rattle.tb_tools.specs.Inputs.{closed, lost, while_up, answered, with_event, with_line, dropped, line_by, put_line}
use Rattle.tb_tools.specs.Inputs as lanes
use Rattle.tb_bus.specs.declared.origin.Origin.{Origin}
use Rattle.tb_bus.specs.declared.action.Action.{Action}
use Rattle.tb_bus.specs.declared.action.Action.TheVariants as action
use Rattle.tb_bus.specs.declared.action.OwnAction.{OwnAction}
use Rattle.tb_bus.specs.declared.action.OwnAction.TheVariants as own
use Rattle.tb_bus.specs.declared.action.ToolAction.{ToolAction}
use Rattle.tb_bus.specs.declared.action.ToolAction.TheVariants as tool
use Rattle.tb_bus.specs.declared.exchange.Exchange.{Exchange}
use Rattle.tb_bus.specs.Buses.{Bus, Proc, start}
use Rattle.tb_bus.specs.Commands.{commands_of, command_size, largest_command, IsNamed, AreNamed}
use Rattle.tb_bus.specs.Exchanges.{Setting, kind_name, kind_command, command_of, exchange_for, bench_after, with_told, behind}
use Rattle.tb_bus.specs.Effects.{Nothing, PutsNote, Effect, changed, effect_of, own_effect, speaking, setting_of, creation, may_create, taking, takes_note}
use Rattle.tb_bus.specs.Steps.{Move, Own, Handshake, Finish, Halt, Step, apply, finish_reason, halt_reason}
use Rattle.tb_bus.specs.Traces.{Answer, IsLegal, IsTrace, after, replay, took, declares}
use Rattle.tb_bus.specs.Reached.{Reaches}
use Rattle.tb_bus.proofs.LevelLemmas.{greatest-from}
use Rattle.tb_bus.proofs.LaneShapes.{all-or}
use Rattle.tb_bus.proofs.OrderLemmas.{All-one, contains-further}
use Rattle.tb_bus.proofs.ExchangeLemmas.{HasCommand, exchange-is}
use Rattle.tb_bus.proofs.TraceLemmas.{apply-program, fed-program}
use Rattle.tb_bus.proofs.ReachedLemmas.{IsMoveOf, step-made}

-- the commands of an origin

at-first : {A : Type 0} (x : A) (xs : List A) → Contains (x ∷ xs) x
at-first x xs = (0, omega arith, refl)

behind-option : {A : Type 0} (found : Option A) (xs : List A) (y : A) → Contains xs y → Contains (cons_option found xs) y
behind-option None xs y h = h
behind-option (Some x) xs y h = contains-further x y xs h

kind-named : (tools : List ToolKind) (at : ℕ) (kind : ToolKind) (command : List ℕ) → slice_get tools at ≡ Some kind → kind.command ≡ Some command →
    Contains (filter_map (λ (it : ToolKind). it.command) tools) command
kind-named [] at kind command e f = cc
kind-named (first ∷ tools) zero kind command e f =
    let rest = filter_map (λ (it : ToolKind). it.command) tools in
    let its : first.command ≡ Some command = ap (λ (it : ToolKind). it.command) (same_Some first kind e) ∙ f in
    subst (λ (found : Option (List ℕ)). Contains (cons_option found rest) command) (sym its) (at-first command rest)
kind-named (first ∷ tools) (suc at) kind command e f =
    behind-option first.command (filter_map (λ (it : ToolKind). it.command) tools) command (kind-named tools at kind command e f)

sizes-by : (most : ℕ) (commands : List (List ℕ)) → AllByRecursion (λ n. n ≤ most) (map command_size commands) → All (λ command. command_size command ≤ most) commands
sizes-by most [] h = All-nil (λ command. command_size command ≤ most)
sizes-by most (command ∷ commands) h = All-cons (λ command. command_size command ≤ most) command commands h.0 (sizes-by most commands h.1)

-- each is no larger than the largest
pub named-size : (origin : Origin) (command : List ℕ) → Contains (commands_of origin) command → command_size command ≤ largest_command origin
named-size origin command h =
    let most = largest_command origin in
    All-contains (λ command. command_size command ≤ most) (commands_of origin) command
    (sizes-by most (commands_of origin) (greatest-from 0 most (map command_size (commands_of origin)) (omega arith)).1) h

-- lanes

abbrev IsLaneNamed : Origin → Lane → Type 0
IsLaneNamed origin lane = All (IsNamed origin) lane.outs

lane-named : (origin : Origin) (lane : ℕ) (bench : BenchState) → AreNamed origin bench → IsLaneNamed origin (lane_at lane bench)
lane-named origin lane bench h = all-or (IsLaneNamed origin) bench.lanes (lane - 1) unused h (All-nil (IsNamed origin))

on_lane-named : (origin : Origin) (change : Lane → Lane) (lane : ℕ) (bench : BenchState) → AreNamed origin bench → IsLaneNamed origin (change (lane_at lane bench)) → AreNamed origin (on_lane change lane bench)
on_lane-named origin change lane bench h k = All-set (IsLaneNamed origin) bench.lanes (lane - 1) (change (lane_at lane bench)) k h

line-named : (origin : Origin) (lane : Lane) (word : List ℕ) (parts : List Term) → IsLaneNamed origin lane → All (IsNamed origin) (lane.outs ++ tool_line word parts ∷ [])
line-named origin lane word parts h = All-push (IsNamed origin) lane.outs (tool_line word parts) h tt

ended-named : (origin : Origin) (reason : Term) (lane : Lane) → IsLaneNamed origin lane → IsLaneNamed origin (ended_with (last_line reason) lane)
ended-named origin reason lane h =
    All-append (IsNamed origin) lane.outs (last_line reason ∷ End ∷ []) h
    (All-cons (IsNamed origin) (last_line reason) (End ∷ []) tt (All-one (IsNamed origin) End tt))

acknowledged-named : (origin : Origin) (place : ℕ) (lane : Lane) (its : Option Tool) → IsLaneNamed origin lane → IsLaneNamed origin (with_acknowledged_of place lane its)
acknowledged-named origin place lane None h = h
acknowledged-named origin place lane (Some its) h = All-push (IsNamed origin) lane.outs (acknowledgement place its) h tt

told-named : (origin : Origin) (change : Term → ℕ → BenchState → BenchState) → ((term : Term) (lane : ℕ) (bench : BenchState) → AreNamed origin bench → AreNamed origin (change term lane bench)) →
    (terms : List Term) (lane : ℕ) (bench : BenchState) → AreNamed origin bench → AreNamed origin (with_told change terms lane bench)
told-named origin change each [] lane bench h = h
told-named origin change each (term ∷ terms) lane bench h = each term lane bench h

-- the command of a kind of the program is the origin's
command-named : (origin : Origin) (setting : Setting) (at : ℕ) → setting.kinds ≡ origin.program.tools → HasCommand setting at → Contains (commands_of origin) (unwrap_or (kind_command setting at) [])
command-named origin setting at kinds has =
    let there : slice_get origin.program.tools at ≡ Some has.kind = ap (λ (ks : List ToolKind). slice_get ks at) (sym kinds) ∙ has.there in
    let its : unwrap_or (kind_command setting at) [] ≡ has.command = ap (λ (k : Option ToolKind). unwrap_or (command_of k) []) has.there ∙ ap (λ (c : Option (List ℕ)). unwrap_or c []) has.is in
    let those = filter_map (λ (it : ToolKind). it.command) origin.program.tools in
    subst (Contains (commands_of origin)) (sym its)
    (Contains-append_right origin.connects those has.command (kind-named origin.program.tools at has.kind has.command there has.is))

bench-named : (origin : Origin) (setting : Setting) (does : ToolAction) (exchange : Exchange) → setting.kinds ≡ origin.program.tools → exchange_for setting does ≡ Some exchange → AreNamed origin setting.bench →
    AreNamed origin (bench_after setting does exchange)
bench-named origin setting (tool.Execute kind slot) exchange kinds e h =
    let bench = setting.bench in
    let command = unwrap_or (kind_command setting kind) [] in
    let found = exchange-is setting (tool.Execute kind slot) exchange e in
    let named = command-named origin setting kind kinds found.is.0 in
    on_lane-named origin (λ old. with_tool (new_tool (kind_name setting kind) bench.next_tool stage.Live) (started command old)) exchange.lane bench h
    (All-push (IsNamed origin) (lane_at exchange.lane bench).outs (Start command) (lane-named origin exchange.lane bench h) named)
bench-named origin setting (tool.Connect kind slot) exchange kinds e h = on_lane-named origin with_live_tool exchange.lane setting.bench h (lane-named origin exchange.lane setting.bench h)
bench-named origin setting (tool.DisconnectAny kind slot) exchange kinds e h = on_lane-named origin without_tool exchange.lane setting.bench h (lane-named origin exchange.lane setting.bench h)
bench-named origin setting (tool.Disconnect terms) exchange kinds e h = on_lane-named origin without_tool exchange.lane setting.bench h (lane-named origin exchange.lane setting.bench h)
bench-named origin setting (tool.Eval terms) exchange kinds e h =
    told-named origin asked (λ term lane bench k. on_lane-named origin (with_question term) lane bench k (line-named origin (lane_at lane bench) (codes "rec-eval") (term ∷ []) (lane-named origin lane bench k)))
    (behind terms) exchange.lane setting.bench h
bench-named origin setting (tool.TakeValue terms patterns) exchange kinds e h = on_lane-named origin without_answer exchange.lane setting.bench h (lane-named origin exchange.lane setting.bench h)
bench-named origin setting (tool.Do terms) exchange kinds e h =
    told-named origin told (λ term lane bench k. on_lane-named origin (with_out (tool_line (codes "rec-do") (term ∷ []))) lane bench k (line-named origin (lane_at lane bench) (codes "rec-do") (term ∷ []) (lane-named origin lane bench k)))
    (behind terms) exchange.lane setting.bench h
bench-named origin setting (tool.TakeEvent terms patterns) exchange kinds e h = on_lane-named origin (with_received exchange.event) exchange.lane setting.bench h (lane-named origin exchange.lane setting.bench h)
bench-named origin setting (tool.Acknowledge terms) exchange kinds e h =
    let lane = exchange.lane in
    let bench = setting.bench in
    on_lane-named origin (with_acknowledged exchange.event) lane bench h (acknowledged-named origin exchange.event (lane_at lane bench) (tool_at lane bench) (lane-named origin lane bench h))
bench-named origin setting (tool.Terminate terms) exchange kinds e h =
    told-named origin terminated
    (λ term lane bench k. on_lane-named origin (λ lane. without_tool (ended_with (last_line term) lane)) lane bench k (ended-named origin term (lane_at lane bench) (lane-named origin lane bench k)))
    (behind terms) exchange.lane setting.bench h

dismissed-by : (origin : Origin) (reason : Term) (lane : Lane) (b : Bool) → IsLaneNamed origin lane → IsLaneNamed origin (if b then ended_with (last_line reason) lane else lane)
dismissed-by origin reason lane true h = ended-named origin reason lane h
dismissed-by origin reason lane false h = h

gone_down-named : (origin : Origin) (reason : Term) (bench : BenchState) → AreNamed origin bench → AreNamed origin (gone_down reason bench)
gone_down-named origin reason bench h =
    All-map (IsLaneNamed origin) (dismissed (last_line reason)) bench.lanes
    (All-weaker (IsLaneNamed origin) (λ lane. IsLaneNamed origin (dismissed (last_line reason) lane)) (λ lane l. dismissed-by origin reason lane (is_open lane) l) bench.lanes h)

handed_out-named : (origin : Origin) (lane : ℕ) (bench : BenchState) → AreNamed origin bench → AreNamed origin (handed_out lane bench)
handed_out-named origin lane bench h = on_lane-named origin without_out lane bench h (All-drop (IsNamed origin) 1 (lane_at lane bench).outs (lane-named origin lane bench h))

-- inputs

flushed-by : (origin : Origin) (lane : Lane) (b : Bool) → IsLaneNamed origin lane → All (IsNamed origin) (let new : Lane = if b then lane else record lane { ended = true; outs = End ∷ [] } in new.outs)
flushed-by origin lane true h = h
flushed-by origin lane false h = All-one (IsNamed origin) End tt

closed-named : (origin : Origin) (lane : Lane) → IsLaneNamed origin lane → IsLaneNamed origin (closed lane)
closed-named origin lane h = flushed-by origin lane (lane.ended && is_empty lane.outs) h

up-named : (origin : Origin) (b : Bool) (new bench : BenchState) → AreNamed origin bench → AreNamed origin new →
    AreNamed origin (let answer : lanes.Answer = if b then record { reply = Took; bench = new } else record { reply = Dropped why.NotLive; bench = bench } in answer.bench)
up-named origin true new bench h k = k
up-named origin false new bench h k = h

lost-named : (origin : Origin) (lane : Lane) → IsLaneNamed origin lane → IsLaneNamed origin (lost lane)
lost-named origin lane h = closed-named origin lane h

while_up-named : (origin : Origin) (change : Lane → Lane) (lane : ℕ) (bench : BenchState) → ((old : Lane) → IsLaneNamed origin old → IsLaneNamed origin (change old)) → AreNamed origin bench →
    AreNamed origin (while_up change lane bench).bench
while_up-named origin change lane bench k h =
    up-named origin (lane_at lane bench).up (on_lane change lane bench) bench h (on_lane-named origin change lane bench h (k (lane_at lane bench) (lane-named origin lane bench h)))

with_line-named : (origin : Origin) (line : ToolLine) (lane : ℕ) (bench : BenchState) → AreNamed origin bench → AreNamed origin (with_line line lane bench)
with_line-named origin (put.Value value) lane bench h = on_lane-named origin (answered value) lane bench h (lane-named origin lane bench h)
with_line-named origin (put.Event terms) lane bench h = on_lane-named origin (with_event terms) lane bench h (lane-named origin lane bench h)
with_line-named origin (put.Connect name) lane bench h = on_lane-named origin (with_tool (new_tool name bench.next_tool stage.Waiting)) lane bench h (lane-named origin lane bench h)
with_line-named origin put.Disconnect lane bench h = on_lane-named origin closed lane bench h (closed-named origin (lane_at lane bench) (lane-named origin lane bench h))
with_line-named origin put.Bad lane bench h = h

line_by-named : (origin : Origin) (found : Option Why) (line : ToolLine) (lane : ℕ) (bench : BenchState) → AreNamed origin bench → AreNamed origin (line_by found line lane bench).bench
line_by-named origin None line lane bench h = with_line-named origin line lane bench h
line_by-named origin (Some found) line lane bench h = h

took-named : (origin : Origin) (bus : Bus) (it : Input) → AreNamed origin bus.bench → AreNamed origin (took bus it).bus.bench
took-named origin bus Tick h = h
took-named origin bus NoTicks h = h
took-named origin bus (input.Line lane line) h = line_by-named origin (dropped (declares bus.program.tools line) line (lane_at lane bus.bench)) line lane bus.bench h
took-named origin bus (Gone lane) h = while_up-named origin lost lane bus.bench (lost-named origin) h
took-named origin bus (Cut lane) h = while_up-named origin closed lane bus.bench (closed-named origin) h

fed-by : (origin : Origin) (bus : Bus) (it : Input) (down : Bool) → AreNamed origin bus.bench → AreNamed origin (let a : Answer = if down then record { reply = Dropped why.Down; bus = bus } else took bus it in a.bus.bench)
fed-by origin bus it true h = h
fed-by origin bus it false h = took-named origin bus it h

-- steps

-- what an effect changes leaves the commands those of the origin
abbrev KeepsNamed : Origin → Bus → Effect → Type 0
KeepsNamed origin bus effect = (number : ℕ) → AreNamed origin bus.bench → AreNamed origin (changed effect.change number bus).bench

abbrev IfKeeps : Origin → Bus → Option Effect → Type 0
IfKeeps origin bus found = IfSome found (KeepsNamed origin bus)

if-keeps : (origin : Origin) (bus : Bus) (b : Bool) (effect : Effect) → KeepsNamed origin bus effect → IfKeeps origin bus (if b then Some effect else None)
if-keeps origin bus true effect h = h
if-keeps origin bus false effect h = tt

unless-keeps : (origin : Origin) (bus : Bus) (b : Bool) (effect : Effect) → KeepsNamed origin bus effect → IfKeeps origin bus (if b then None else Some effect)
unless-keeps origin bus true effect h = tt
unless-keeps origin bus false effect h = h

map-keeps : {A : Type 0} (origin : Origin) (bus : Bus) (f : A → Effect) (found : Option A) → ((x : A) → found ≡ Some x → KeepsNamed origin bus (f x)) → IfKeeps origin bus (option_map f found)
map-keeps origin bus f None each = tt
map-keeps origin bus f (Some x) each = each x refl

own-keeps : (origin : Origin) (bus : Bus) (proc : Proc) (does : OwnAction) → bus.program ≡ origin.program → IfKeeps origin bus (own_effect bus proc does)
own-keeps origin bus proc own.Tau same = λ number h. h
own-keeps origin bus proc (own.Set values binds) same = λ number h. h
own-keeps origin bus proc (own.Print text) same = λ number h. h
own-keeps origin bus proc (own.Notify terms) same =
    if-keeps origin bus (list_all (λ (other : Proc). takes_note terms other.inbox) bus.procs) (record { kind = kind.SndNote; shown = terms; binds = []; change = PutsNote terms }) (λ number h. h)
own-keeps origin bus proc (own.TakeNote patterns) same = map-keeps origin bus (taking proc.inbox) (oldest_match patterns proc.inbox) (λ found e number h. h)
own-keeps origin bus proc (own.NoNote patterns) same =
    unless-keeps origin bus (is_some (oldest_match patterns proc.inbox)) (record { kind = kind.NoNote; shown = []; binds = []; change = Nothing }) (λ number h. h)
own-keeps origin bus proc (own.Subscribe patterns) same = λ number h. h
own-keeps origin bus proc (own.Unsubscribe patterns) same = λ number h. h
own-keeps origin bus proc (own.Create process actuals slot) same =
    if-keeps origin bus (may_create bus.program.bodies (length bus.procs) bus.next_number proc.body process actuals slot) (creation bus.next_number process actuals slot) (λ number h. h)
own-keeps origin bus proc (own.Speak does) same =
    let setting = setting_of bus proc in
    map-keeps origin bus (speaking setting does) (exchange_for setting does) (λ exchange e number h. bench-named origin setting does exchange (ap (λ (p : Program). p.tools) same) e h)
own-keeps origin bus proc (own.Shutdown reason) same = λ number h. gone_down-named origin reason bus.bench h

effect-keeps : (origin : Origin) (bus : Bus) (proc : Proc) (does : Action) → bus.program ≡ origin.program → IfKeeps origin bus (effect_of bus proc does)
effect-keeps origin bus proc (action.Own does) same = own-keeps origin bus proc does same
effect-keeps origin bus proc (action.Send terms) same = tt
effect-keeps origin bus proc (action.Receive patterns) same = tt

move-named : (origin : Origin) (bus : Bus) (move : Move) → IsMoveOf bus move → bus.program ≡ origin.program → AreNamed origin bus.bench → AreNamed origin (apply bus move).bench
move-named origin bus (Own proc offered effect) is same h =
    let keeps : IfKeeps origin bus (Some effect) = subst (IfKeeps origin bus) is.2 (effect-keeps origin bus proc is.0 same) in
    keeps proc.number h
move-named origin bus (Handshake sender sent receiver received terms binds) is same h = h
move-named origin bus Finish is same h = gone_down-named origin finish_reason bus.bench h
move-named origin bus Halt is same h = gone_down-named origin halt_reason bus.bench h

-- traces

-- a bus has the program of an origin, and each command that stands on its lanes is the origin's
record IsOf (origin : Origin) (bus : Bus) : Type 0 where
  program : bus.program ≡ origin.program
  named : AreNamed origin bus.bench

after-of : (origin : Origin) (bus : Bus) (entry : Entry) → IsLegal bus entry (after bus entry) → IsOf origin bus → IsOf origin (after bus entry)
after-of origin bus (Did label) legal h =
    let made = step-made bus (record { label = label; bus = after bus (Did label) }) legal in
    let next : IsOf origin (apply bus made.0) = record { program = apply-program bus made.0 ∙ h.program; named = move-named origin bus made.0 made.1 h.program h.named } in
    subst (IsOf origin) (sym (ap (λ (s : Step). s.bus) made.2)) next
after-of origin bus Quiet legal h = h
after-of origin bus (Fed it reply) legal h = record { program = fed-program bus it ∙ h.program; named = fed-by origin bus it bus.down h.named }
after-of origin bus (Gave lane out) legal h = record { program = h.program; named = handed_out-named origin lane bus.bench h.named }

replay-of : (origin : Origin) (bus : Bus) (log : List Entry) → IsTrace bus log → IsOf origin bus → IsOf origin (replay bus log)
replay-of origin bus [] trace h = h
replay-of origin bus (entry ∷ log) trace h = replay-of origin (after bus entry) log trace.1 (after-of origin bus entry trace.0 h)

opening-named : (origin : Origin) → AreNamed origin (opening origin.connects)
opening-named origin =
    let first = λ (command : List ℕ). started command unused in
    let those = filter_map (λ (it : ToolKind). it.command) origin.program.tools in
    All-append (IsLaneNamed origin) (map first origin.connects) (replicate (lane_count - length origin.connects) unused)
    (All-map (IsLaneNamed origin) first origin.connects
    (All-weaker (Contains origin.connects) (λ command. IsLaneNamed origin (first command))
    (λ command c. All-one (IsNamed origin) (Start command) (Contains-append_left origin.connects those command c))
    origin.connects (All-contains_itself origin.connects)))
    (All-replicate (IsLaneNamed origin) (lane_count - length origin.connects) unused (All-nil (IsNamed origin)))

-- Each command that stands on a lane of a bus that a program reaches is one of the origin's.
pub reached-named : (origin : Origin) (bus : Bus) → Reaches origin bus → AreNamed origin bus.bench
reached-named origin bus r =
    let opens : IsOf origin (start origin) = record { program = refl; named = opening-named origin } in
    let led = replay-of origin (start origin) r.0 r.1 opens in
    subst (λ (b : Bus). AreNamed origin b.bench) (sym r.2) led.named

-- So is each that is to be handed out next.
pub next_out-named : (origin : Origin) (lane : ℕ) (bench : BenchState) (out : Out) → AreNamed origin bench → slice_get (lane_at lane bench).outs 0 ≡ Some out → IsNamed origin out
next_out-named origin lane bench out h e = by (lane_at lane bench).outs (lane-named origin lane bench h) e
  where
    by : (outs : List Out) → All (IsNamed origin) outs → slice_get outs 0 ≡ Some out → IsNamed origin out
    by [] k f = cc
    by (first ∷ outs) k f = subst (IsNamed origin) (same_Some first out f) (All-head (IsNamed origin) first outs k)
