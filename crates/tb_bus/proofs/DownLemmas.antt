-- What an input that is dropped leaves, and which steps take a bus down.
use Rattle.std.proofs.Common.{◌≡◌, ℕ, [], refl, ap, sym, ◌∙◌, subst, Option, Some, None, Bool, true, false, is_some, if◌then◌else◌, length, option_map}
use Rattle.std.specs.List.{list_all}
use Rattle.tb_notes.specs.Inboxes.{oldest_match}
use Rattle.tb_log.specs.declared.entry.LabelKind.TheVariants as kind
use Rattle.tb_log.specs.declared.entry.Label.{Label}
use Rattle.tb_log.specs.declared.entry.Input.{Input}
use Rattle.tb_log.specs.declared.entry.Input.TheVariants.{Tick, NoTicks, Line, Gone, Cut}
use Rattle.tb_log.specs.declared.entry.Reply.TheVariants.{Took, Dropped}
use Rattle.tb_log.specs.declared.entry.Why.{Why}
use Rattle.tb_log.specs.declared.entry.Why.TheVariants as why
use Rattle.tb_log.specs.declared.entry.ToolLine.{ToolLine}
use Rattle.tb_log.specs.declared.entry.Entry.{Entry}
use Rattle.tb_log.specs.declared.entry.Entry.TheVariants.{Did, Quiet, Fed, Gave}
use Rattle.tb_tools.specs.Lanes.{Lane, lane_at, on_lane}
use Rattle.tb_tools.specs.Inputs.{line_by, dropped, lost, closed}
use Rattle.tb_bus.specs.Buses.{Bus, Proc}
use Rattle.tb_bus.specs.Exchanges.{exchange_for}
use Rattle.tb_bus.specs.Effects.{Effect, Nothing, PutsNote, changed, creation, may_create, taking, takes_note, own_effect, effect_of, speaking, setting_of}
use Rattle.tb_bus.specs.Steps.{Move, Own, Handshake, Finish, Halt, Step, step_of, apply, label_of}
use Rattle.tb_bus.specs.Traces.{Answer, IsLegal, fed, took, on_bench, declares}
use Rattle.tb_bus.specs.Ends.{TakesDown}
use Rattle.tb_bus.specs.declared.action.Action.{Action}
use Rattle.tb_bus.specs.declared.action.Action.TheVariants as action
use Rattle.tb_bus.specs.declared.action.OwnAction.{OwnAction}
use Rattle.tb_bus.specs.declared.action.OwnAction.TheVariants as own
use Rattle.tb_bus.proofs.ReachedLemmas.{IsMoveOf, step-made}

-- an answer leaves the bus where it says that the input was dropped
abbrev Leaves : Bus → Answer → Type 0
Leaves bus answer = (reason : Why) → answer.reply ≡ Dropped reason → answer.bus ≡ bus

took-leaves : (bus other : Bus) → Leaves bus (record { reply = Took; bus = other })
took-leaves bus other reason e = absurd cc

lane-leaves : (bus : Bus) (b : Bool) (change : Lane → Lane) (lane : ℕ) →
    Leaves bus (on_bench bus (if b then record { reply = Took; bench = on_lane change lane bus.bench } else record { reply = Dropped why.NotLive; bench = bus.bench }))
lane-leaves bus true change lane reason e = absurd cc
lane-leaves bus false change lane reason e = refl

line-leaves : (bus : Bus) (found : Option Why) (line : ToolLine) (lane : ℕ) → Leaves bus (on_bench bus (line_by found line lane bus.bench))
line-leaves bus None line lane reason e = absurd cc
line-leaves bus (Some found) line lane reason e = refl

up-leaves : (bus : Bus) (input : Input) → Leaves bus (took bus input)
up-leaves bus Tick reason e = absurd cc
up-leaves bus NoTicks reason e = absurd cc
up-leaves bus (Line lane line) reason e = line-leaves bus (dropped (declares bus.program.tools line) line (lane_at lane bus.bench)) line lane reason e
up-leaves bus (Gone lane) reason e = lane-leaves bus (lane_at lane bus.bench).up lost lane reason e
up-leaves bus (Cut lane) reason e = lane-leaves bus (lane_at lane bus.bench).up closed lane reason e

fed-by : (bus : Bus) (input : Input) (down : Bool) → Leaves bus (if down then record { reply = Dropped why.Down; bus = bus } else took bus input)
fed-by bus input true reason e = refl
fed-by bus input false reason e = up-leaves bus input reason e

-- An input that is dropped leaves the bus as it was.
pub dropped-leaves : (bus : Bus) (input : Input) (reason : Why) → (fed bus input).reply ≡ Dropped reason → (fed bus input).bus ≡ bus
dropped-leaves bus input reason e = fed-by bus input bus.down reason e

-- an effect takes a bus down only by a step of such a kind
abbrev GoesDownBy : Bus → Effect → Type 0
GoesDownBy bus effect = (number : ℕ) → bus.down ≡ false → (changed effect.change number bus).down ≡ true → TakesDown effect.kind

abbrev IfGoesDown : Bus → Option Effect → Type 0
IfGoesDown bus None = Unit {0}
IfGoesDown bus (Some effect) = GoesDownBy bus effect

if-down : (bus : Bus) (b : Bool) (effect : Option Effect) → IfGoesDown bus effect → IfGoesDown bus (if b then effect else None)
if-down bus true effect h = h
if-down bus false effect h = tt

unless-down : (bus : Bus) (b : Bool) (effect : Option Effect) → IfGoesDown bus effect → IfGoesDown bus (if b then None else effect)
unless-down bus true effect h = tt
unless-down bus false effect h = h

both : {A : Type 0} (down : Bool) → down ≡ false → down ≡ true → A
both true e f = absurd cc
both false e f = absurd cc

map-down : {A : Type 0} (bus : Bus) (f : A → Effect) (found : Option A) → ((x : A) → GoesDownBy bus (f x)) → IfGoesDown bus (option_map f found)
map-down bus f None each = tt
map-down bus f (Some x) each = each x

own-down : (bus : Bus) (proc : Proc) (own : OwnAction) → IfGoesDown bus (own_effect bus proc own)
own-down bus proc own.Tau = λ number up down. both bus.down up down
own-down bus proc (own.Set values binds) = λ number up down. both bus.down up down
own-down bus proc (own.Print text) = λ number up down. both bus.down up down
own-down bus proc (own.Notify terms) =
    let effect : Effect = record { kind = kind.SndNote; shown = terms; binds = []; change = PutsNote terms } in
    let goes : GoesDownBy bus effect = λ number up down. both bus.down up down in
    if-down bus (list_all (λ (other : Proc). takes_note terms other.inbox) bus.procs) (Some effect) goes
own-down bus proc (own.TakeNote patterns) = map-down bus (taking proc.inbox) (oldest_match patterns proc.inbox) (λ found number up down. both bus.down up down)
own-down bus proc (own.NoNote patterns) =
    let effect : Effect = record { kind = kind.NoNote; shown = []; binds = []; change = Nothing } in
    let goes : GoesDownBy bus effect = λ number up down. both bus.down up down in
    unless-down bus (is_some (oldest_match patterns proc.inbox)) (Some effect) goes
own-down bus proc (own.Subscribe patterns) = λ number up down. both bus.down up down
own-down bus proc (own.Unsubscribe patterns) = λ number up down. both bus.down up down
own-down bus proc (own.Create process actuals slot) =
    let effect : Effect = creation bus.next_number process actuals slot in
    let goes : GoesDownBy bus effect = λ number up down. both bus.down up down in
    if-down bus (may_create bus.program.bodies (length bus.procs) bus.next_number proc.body process actuals slot) (Some effect) goes
own-down bus proc (own.Speak does) =
    map-down bus (speaking (setting_of bus proc) does) (exchange_for (setting_of bus proc) does) (λ exchange number up down. both bus.down up down)
own-down bus proc (own.Shutdown reason) = λ number up down. tt

effect-down : (bus : Bus) (proc : Proc) (does : Action) → IfGoesDown bus (effect_of bus proc does)
effect-down bus proc (action.Own own) = own-down bus proc own
effect-down bus proc (action.Send terms) = tt
effect-down bus proc (action.Receive patterns) = tt

move-down : (bus : Bus) (move : Move) → IsMoveOf bus move → bus.down ≡ false → (apply bus move).down ≡ true → TakesDown (label_of move).kind
move-down bus (Own proc offered effect) h up down =
    let goes : IfGoesDown bus (Some effect) = subst (IfGoesDown bus) h.2 (effect-down bus proc h.0) in
    goes proc.number up down
move-down bus (Handshake sender sent receiver received terms binds) h up down = both bus.down up down
move-down bus Finish h up down = tt
move-down bus Halt h up down = tt

made-down : (bus : Bus) (step : Step) (move : Move) → IsMoveOf bus move → step ≡ step_of bus move → bus.down ≡ false → step.bus.down ≡ true → TakesDown step.label.kind
made-down bus step move h e up down =
    let after : (apply bus move).down ≡ true = ap (λ (s : Step). s.bus.down) (sym e) ∙ down in
    subst TakesDown (ap (λ (s : Step). s.label.kind) (sym e)) (move-down bus move h up after)

took-up : (bus : Bus) (input : Input) → (took bus input).bus.down ≡ bus.down
took-up bus Tick = refl
took-up bus NoTicks = refl
took-up bus (Line lane line) = refl
took-up bus (Gone lane) = refl
took-up bus (Cut lane) = refl

fed-up-by : (bus : Bus) (input : Input) (down : Bool) → (let a : Answer = if down then record { reply = Dropped why.Down; bus = bus } else took bus input in a.bus.down) ≡ bus.down
fed-up-by bus input true = refl
fed-up-by bus input false = took-up bus input

-- the entry is one of a step that takes a bus down
abbrev IsEnd : Entry → Type 0
IsEnd (Did label) = TakesDown label.kind
IsEnd Quiet = ⊥
IsEnd (Fed input reply) = ⊥
IsEnd (Gave lane out) = ⊥

-- Only such a step does.
legal-down : (bus next : Bus) (entry : Entry) → IsLegal bus entry next → bus.down ≡ false → next.down ≡ true → IsEnd entry
legal-down bus next (Did label) h up down =
    let made = step-made bus (record { label = label; bus = next }) h in
    made-down bus (record { label = label; bus = next }) made.0 made.1 made.2 up down
legal-down bus next Quiet h up down = both bus.down up (ap (λ (b : Bus). b.down) (sym h.2) ∙ down)
legal-down bus next (Fed input reply) h up down =
    let same : next.down ≡ bus.down = ap (λ (a : Answer). a.bus.down) h.1 ∙ fed-up-by bus input bus.down in
    both bus.down up (sym same ∙ down)
legal-down bus next (Gave lane out) h up down = both bus.down up (ap (λ (b : Bus). b.down) (sym h.2) ∙ down)

is-end : (entry : Entry) → IsEnd entry → (label : Label) × (entry ≡ Did label) × TakesDown label.kind
is-end (Did label) h = (label, refl, h)
is-end Quiet h = absurd h
is-end (Fed input reply) h = absurd h
is-end (Gave lane out) h = absurd h

pub down-is : (bus next : Bus) (entry : Entry) → IsLegal bus entry next → bus.down ≡ false → next.down ≡ true → (label : Label) × (entry ≡ Did label) × TakesDown label.kind
down-is bus next entry h up down = is-end entry (legal-down bus next entry h up down)
