-- A step or an input gives a number to at most one tool.
use Rattle.std.proofs.Common.{◌≡◌, ◌≤◌, ◌+◌, ℕ, List, [], ◌∷◌, length, refl, ap, arith, Option, Some, None, Bool, true, false, if◌then◌else◌, is_some, option_map}
use Rattle.std.specs.List.{list_all}
use Rattle.tb_terms.specs.declared.term.Term.{Term}
use Rattle.tb_notes.specs.Inboxes.{oldest_match}
use Rattle.tb_notes.specs.declared.queue.Found.{Found}
use Rattle.tb_process_steps.specs.Offers.{Offered}
use Rattle.tb_log.specs.declared.entry.Entry.{Entry}
use Rattle.tb_log.specs.declared.entry.Input.{Input}
use Rattle.tb_log.specs.declared.entry.Input.TheVariants.{Tick, NoTicks, Line, Gone, Cut}
use Rattle.tb_log.specs.declared.entry.LabelKind.TheVariants as kind
use Rattle.tb_log.specs.declared.entry.Reply.TheVariants.{Took, Dropped}
use Rattle.tb_log.specs.declared.entry.ToolLine.{ToolLine}
use Rattle.tb_log.specs.declared.entry.ToolLine.TheVariants.{Value, Event, Connect, Disconnect, Bad}
use Rattle.tb_log.specs.declared.entry.Why.{Why}
use Rattle.tb_log.specs.declared.entry.Why.TheVariants.{NotLive, Down}
use Rattle.tb_tools.specs.Lanes.{BenchState, Lane, lane_at, on_lane}
use Rattle.tb_tools.specs.Acts.{asked, told, terminated}
use Rattle.tb_tools.specs.Inputs.{dropped, line_by, with_line, lost, closed}
use Rattle.tb_tools.specs.Inputs as lanes
use Rattle.tb_bus.specs.Buses.{Bus, Proc}
use Rattle.tb_bus.specs.Effects.{Nothing, PutsNote, Effect, creation, may_create, effect_of, own_effect, setting_of, speaking, takes_note, taking}
use Rattle.tb_bus.specs.Exchanges.{Setting, bench_after, behind, exchange_for, with_told}
use Rattle.tb_bus.specs.Steps.{apply}
use Rattle.tb_bus.specs.Traces.{Answer, declares, fed, took}
use Rattle.tb_search.specs.Candidates.{Row}
use Rattle.tb_search.specs.Views.{move_by, move_of, own_move, proc_at, offer_of, ready_at}
use Rattle.tb_bus.specs.declared.action.Action.{Action}
use Rattle.tb_bus.specs.declared.action.Action.TheVariants as action
use Rattle.tb_bus.specs.declared.action.OwnAction.{OwnAction}
use Rattle.tb_bus.specs.declared.action.OwnAction.TheVariants as own
use Rattle.tb_bus.specs.declared.action.ToolAction.{ToolAction}
use Rattle.tb_bus.specs.declared.action.ToolAction.TheVariants as speak
use Rattle.tb_search.specs.declared.candidate.Candidate.{Candidate}
use Rattle.tb_search.specs.declared.candidate.Candidate.TheVariants as candidate
use Rattle.tb_bus.specs.declared.exchange.Exchange.{Exchange}

-- what a tool is told gives no number
told-tools : (change : Term → ℕ → BenchState → BenchState) (terms : List Term) (lane : ℕ) (bench : BenchState) → ((term : Term) → (change term lane bench).next_tool ≡ bench.next_tool) → (with_told change terms lane bench).next_tool ≤ bench.next_tool + 1
told-tools change [] lane bench same = omega arith
told-tools change (term ∷ terms) lane bench same = let e = same term in omega arith

-- an exchange gives one at most
after-tools : (setting : Setting) (does : ToolAction) (exchange : Exchange) → (bench_after setting does exchange).next_tool ≤ setting.bench.next_tool + 1
after-tools setting (speak.Execute tool slot) exchange = omega arith
after-tools setting (speak.Connect tool slot) exchange = omega arith
after-tools setting (speak.DisconnectAny tool slot) exchange = omega arith
after-tools setting (speak.Disconnect terms) exchange = omega arith
after-tools setting (speak.Eval terms) exchange = told-tools asked (behind terms) exchange.lane setting.bench (λ term. refl)
after-tools setting (speak.TakeValue terms patterns) exchange = omega arith
after-tools setting (speak.Do terms) exchange = told-tools told (behind terms) exchange.lane setting.bench (λ term. refl)
after-tools setting (speak.TakeEvent terms patterns) exchange = omega arith
after-tools setting (speak.Acknowledge terms) exchange = omega arith
after-tools setting (speak.Terminate terms) exchange = told-tools terminated (behind terms) exchange.lane setting.bench (λ term. refl)

-- the number of the next tool, once a process has gone on with this effect
abbrev next_with : Bus → Proc → Offered → Option Effect → ℕ
next_with bus proc offered effect = (apply bus (own_move proc offered effect)).bench.next_tool

-- where it may happen and where it may not
may-tools : (bus : Bus) (proc : Proc) (offered : Offered) (may : Bool) (effect : Effect) → next_with bus proc offered (Some effect) ≤ bus.bench.next_tool + 1 →
    next_with bus proc offered (if may then Some effect else None) ≤ bus.bench.next_tool + 1
may-tools bus proc offered true effect h = h
may-tools bus proc offered false effect h = omega arith

not-tools : (bus : Bus) (proc : Proc) (offered : Offered) (may : Bool) (effect : Effect) → next_with bus proc offered (Some effect) ≤ bus.bench.next_tool + 1 →
    next_with bus proc offered (if may then None else Some effect) ≤ bus.bench.next_tool + 1
not-tools bus proc offered true effect h = omega arith
not-tools bus proc offered false effect h = h

taken-tools : (bus : Bus) (proc : Proc) (offered : Offered) (found : Option Found) → next_with bus proc offered (option_map (taking proc.inbox) found) ≤ bus.bench.next_tool + 1
taken-tools bus proc offered None = omega arith
taken-tools bus proc offered (Some found) = omega arith

spoken-tools : (bus : Bus) (proc : Proc) (offered : Offered) (does : ToolAction) (exchange : Option Exchange) →
    next_with bus proc offered (option_map (speaking (setting_of bus proc) does) exchange) ≤ bus.bench.next_tool + 1
spoken-tools bus proc offered does None = omega arith
spoken-tools bus proc offered does (Some exchange) = after-tools (setting_of bus proc) does exchange

own-tools : (bus : Bus) (proc : Proc) (offered : Offered) (does : OwnAction) → next_with bus proc offered (own_effect bus proc does) ≤ bus.bench.next_tool + 1
own-tools bus proc offered own.Tau = omega arith
own-tools bus proc offered (own.Set values binds) = omega arith
own-tools bus proc offered (own.Print text) = omega arith
own-tools bus proc offered (own.Notify terms) =
    may-tools bus proc offered (list_all (λ (other : Proc). takes_note terms other.inbox) bus.procs) (record { kind = kind.SndNote; shown = terms; binds = []; change = PutsNote terms }) (omega arith)
own-tools bus proc offered (own.TakeNote patterns) = taken-tools bus proc offered (oldest_match patterns proc.inbox)
own-tools bus proc offered (own.NoNote patterns) =
    not-tools bus proc offered (is_some (oldest_match patterns proc.inbox)) (record { kind = kind.NoNote; shown = []; binds = []; change = Nothing }) (omega arith)
own-tools bus proc offered (own.Subscribe patterns) = omega arith
own-tools bus proc offered (own.Unsubscribe patterns) = omega arith
own-tools bus proc offered (own.Create process actuals slot) =
    may-tools bus proc offered (may_create bus.program.bodies (length bus.procs) bus.next_number proc.body process actuals slot) (creation bus.next_number process actuals slot) (omega arith)
own-tools bus proc offered (own.Speak does) = spoken-tools bus proc offered does (exchange_for (setting_of bus proc) does)
own-tools bus proc offered (own.Shutdown reason) = omega arith

effect-tools : (bus : Bus) (proc : Proc) (offered : Offered) (does : Action) → next_with bus proc offered (effect_of bus proc does) ≤ bus.bench.next_tool + 1
effect-tools bus proc offered (action.Own does) = own-tools bus proc offered does
effect-tools bus proc offered (action.Send terms) = omega arith
effect-tools bus proc offered (action.Receive patterns) = omega arith

by-tools : (bus : Bus) (rows : List Row) (at index : ℕ) → (apply bus (move_by bus rows at index)).bench.next_tool ≤ bus.bench.next_tool + 1
by-tools bus rows at index = effect-tools bus (proc_at bus.procs at) (offer_of bus.procs rows at index) (ready_at rows at index).action

-- the move of a candidate gives one at most
pub move-tools : (bus : Bus) (rows : List Row) (found : Candidate) → (apply bus (move_of bus rows found)).bench.next_tool ≤ bus.bench.next_tool + 1
move-tools bus rows (candidate.Own at index found) = by-tools bus rows at index
move-tools bus rows (candidate.Handshake at index partner) = omega arith
move-tools bus rows candidate.Finish = omega arith
move-tools bus rows candidate.Halt = omega arith

-- a line from a tool gives at most one tool a number
line-tools : (line : ToolLine) (lane : ℕ) (bench : BenchState) → (with_line line lane bench).next_tool ≤ bench.next_tool + 1
line-tools (Value value) lane bench = omega arith
line-tools (Event terms) lane bench = omega arith
line-tools (Connect name) lane bench = omega arith
line-tools Disconnect lane bench = omega arith
line-tools Bad lane bench = omega arith

put-tools : (why : Option Why) (line : ToolLine) (lane : ℕ) (bench : BenchState) → (line_by why line lane bench).bench.next_tool ≤ bench.next_tool + 1
put-tools None line lane bench = line-tools line lane bench
put-tools (Some why) line lane bench = omega arith

-- what else comes on a lane gives none
up-tools : (change : Lane → Lane) (lane : ℕ) (bench : BenchState) (up : Bool) →
    (let a : lanes.Answer = if up then record { reply = Took; bench = on_lane change lane bench } else record { reply = Dropped NotLive; bench = bench } in a.bench.next_tool) ≤ bench.next_tool + 1
up-tools change lane bench true = omega arith
up-tools change lane bench false = omega arith

fed-by : (bus : Bus) (input : Input) (down : Bool) → (let a : Answer = if down then record { reply = Dropped Down; bus = bus } else took bus input in a.bus.bench.next_tool) ≤ bus.bench.next_tool + 1
fed-by bus input true = omega arith
fed-by bus Tick false = omega arith
fed-by bus NoTicks false = omega arith
fed-by bus (Line lane line) false = put-tools (dropped (declares bus.program.tools line) line (lane_at lane bus.bench)) line lane bus.bench
fed-by bus (Gone lane) false = up-tools lost lane bus.bench (lane_at lane bus.bench).up
fed-by bus (Cut lane) false = up-tools closed lane bus.bench (lane_at lane bus.bench).up

-- an entry for each tool that comes by an input,
pub fed-tools : (bus new : Bus) (input : Input) (entry : Entry) → new ≡ (fed bus input).bus → new.bench.next_tool ≤ bus.bench.next_tool + length (entry ∷ [])
fed-tools bus new input entry e =
    let same : new.bench.next_tool ≡ (fed bus input).bus.bench.next_tool = ap (λ (b : Bus). b.bench.next_tool) e in
    let most = fed-by bus input bus.down in
    omega arith

-- or by a step
pub one-tools : (bus new : Bus) (rows : List Row) (found : Candidate) (entry : Entry) → new ≡ apply bus (move_of bus rows found) → new.bench.next_tool ≤ bus.bench.next_tool + length (entry ∷ [])
one-tools bus new rows found entry e =
    let same : new.bench.next_tool ≡ (apply bus (move_of bus rows found)).bench.next_tool = ap (λ (b : Bus). b.bench.next_tool) e in
    let most = move-tools bus rows found in
    omega arith

-- nothing else gives one
pub still-tools : (bus new : Bus) (entries : List Entry) → new.bench.next_tool ≡ bus.bench.next_tool → new.bench.next_tool ≤ bus.bench.next_tool + length entries
still-tools bus new entries e = omega (arith, e)
