-- What follows from the fields of a core about its bus, and the entry that each call logs.
use Rattle.std.proofs.Common.{◌≡◌, ◌≤◌, ◌+◌, ℕ, List, [], ◌∷◌, ◌++◌, length, refl, ap, sym, ◌∙◌, subst, arith, Some, Bool, true, false, not, nat_le, if◌then◌else◌, length-append}
use Rattle.tb_process_steps.specs.WalkerViews.{View}
use Rattle.std.proofs.lemmas.Bool.{and_parts, leb-true}
use Rattle.tb_log.specs.Limits.{entry_size, has_room, log_size, most_size}
use Rattle.tb_log.specs.Logs.{LogState}
use Rattle.tb_log.specs.declared.entry.Entry.{Entry}
use Rattle.tb_log.specs.declared.entry.Entry.TheVariants.{Fed}
use Rattle.tb_log.specs.declared.entry.Input.{Input}
use Rattle.tb_log.specs.declared.entry.Input.TheVariants.{Tick, NoTicks, Line, Gone, Cut}
use Rattle.tb_log.specs.declared.entry.Reply.TheVariants.{Dropped}
use Rattle.tb_log.specs.declared.entry.Why.TheVariants.{Down}
use Rattle.tb_bus.specs.declared.origin.Origin.{Origin}
use Rattle.tb_bus.specs.Buses.{Bus, start}
use Rattle.tb_bus.specs.Effects.{Change, Nothing, PutsNote, TakesNote, Subscribes, Unsubscribes, Creates, SetsBench, GoesDown, changed}
use Rattle.tb_bus.specs.Steps.{Move, Own, Handshake, Finish, Halt, apply, steps}
use Rattle.tb_bus.specs.Traces.{IsTrace, Answer, fed, replay, took}
use Rattle.tb_bus.proofs.TraceLemmas.{replay-append, trace-append}
use Rattle.tb_core.specs.declared.bus.LiveBus.{LiveBus}
use Rattle.tb_core.specs.Helpers.LiveBuses.{bus_of, IsSound, StandsAs, Represents}
use Rattle.tb_core.specs.Cores.{CoreState, Call, HandIn, MakeStep, bus_now, ends_quiet, is_full, lacks_room, step_entry, would_log, Logs, Stays}

-- what contracts see of a core with these fields
abbrev pub seen : Origin → LogState → Bool → CoreState
seen origin log stopped = record { origin = origin; log = log.entries; stopped = stopped; spare = log.spare }

-- its bus is that of its fields
pub bus-seen : (bus : Bus) (origin : Origin) (log : LogState) (stopped : Bool) (core : CoreState) → bus ≡ replay (start origin) log.entries → seen origin log stopped ≡ core → bus_now core ≡ bus
unfolding bus_now
bus-seen bus origin log stopped core is e = ap (λ (c : CoreState). replay (start c.origin) c.log) (sym e) ∙ sym is

-- what a step would log goes by its bus
pub would-on : (core : CoreState) (bus : Bus) → bus_now core ≡ bus → would_log core MakeStep ≡ step_entry bus.down (ends_quiet core.log) (steps bus)
would-on core bus e = ap (λ (b : Bus). step_entry b.down (ends_quiet core.log) (steps b)) e

-- and what an input would log
pub fed-on : (core : CoreState) (bus : Bus) (input : Input) → bus_now core ≡ bus → would_log core (HandIn input) ≡ Some (Fed input (fed bus input).reply)
fed-on core bus input e = ap (λ (b : Bus). Some (Fed input (fed b input).reply)) e

-- its log has room for what its fields' log has room for
pub room-seen : (origin : Origin) (log : LogState) (stopped : Bool) (core : CoreState) (entry : Entry) → seen origin log stopped ≡ core → log.limit ≡ origin.limit →
    has_room core.origin.limit core.log entry ≡ has_room log.limit log.entries entry
room-seen origin log stopped core entry view limit =
    ap (λ (c : CoreState). has_room c.origin.limit c.log entry) (sym view) ∙ ap (λ (n : ℕ). has_room n log.entries entry) (sym limit)

-- so it is full where that has no room for what the call would log
pub full-seen : (origin : Origin) (log : LogState) (stopped : Bool) (core : CoreState) (call : Call) (entry : Entry) (room : Bool) → seen origin log stopped ≡ core → log.limit ≡ origin.limit →
    would_log core call ≡ Some entry → has_room log.limit log.entries entry ≡ room → is_full core call ≡ not room
full-seen origin log stopped core call entry room view limit would e = ap (lacks_room core) would ∙ ap not (room-seen origin log stopped core entry view limit ∙ e)

-- with room it is shorter than its limit
pub room-long : (limit : ℕ) (log : List Entry) (entry : Entry) → has_room limit log entry ≡ true → length log + 1 ≤ limit
room-long limit log entry room = leb-true (length log + 1) limit (and_parts (nat_le (length log + 1) limit) (nat_le (log_size log + entry_size entry) most_size) room).0

-- a log to which nothing was added has room for the same
pub room-kept : (old new : LogState) (one other : Entry) → new.limit ≡ old.limit → new.entries ≡ old.entries → other ≡ one → has_room old.limit old.entries one ≡ true → has_room new.limit new.entries other ≡ true
room-kept old new one other limit entries same room =
    ap (λ (n : ℕ). has_room n new.entries other) limit ∙ ap (λ (es : List Entry). has_room old.limit es other) entries ∙ ap (has_room old.limit old.entries) same ∙ room

-- A core goes on by these entries.
pub logs-on : (bus : Bus) (origin other : Origin) (log more : LogState) (entries : List Entry) (stopped : Bool) (core : CoreState) → bus ≡ replay (start origin) log.entries → seen origin log stopped ≡ core →
    more.entries ≡ log.entries ++ entries → log.spare ≤ more.spare + length entries → other ≡ origin → IsTrace bus entries → Logs core (seen other more stopped) entries
logs-on bus origin other log more entries stopped core is view grown spare same trace = record {
  origin = same ∙ ap (λ (c : CoreState). c.origin) view;
  log = grown ∙ ap (λ (c : CoreState). c.log ++ entries) view;
  stopped = ap (λ (c : CoreState). c.stopped) view;
  trace = subst (λ (b : Bus). IsTrace b entries) (sym (bus-seen bus origin log stopped core is view)) trace;
  spare = subst (λ (c : CoreState). c.spare ≤ more.spare + length entries) view spare;
}

-- A core stays as it is, but for its spare memory.
pub stays-on : (origin other : Origin) (log more : LogState) (stopped : Bool) (core : CoreState) → seen origin log stopped ≡ core → more.entries ≡ log.entries → log.spare ≤ more.spare → other ≡ origin → Stays core (seen other more stopped)
stays-on origin other log more stopped core view kept spare same = record {
  origin = same ∙ ap (λ (c : CoreState). c.origin) view;
  log = kept ∙ ap (λ (c : CoreState). c.log) view;
  stopped = ap (λ (c : CoreState). c.stopped) view;
  spare = subst (λ (c : CoreState). c.spare ≤ more.spare) view spare;
}

-- a core goes on: its fields stand for the bus to which the longer log leads
pub represents-on : {W P T : Type 0} (view : View P W T) (old new : LiveBus W P T) (log more : LogState) (entries : List Entry) →
    Represents view old log → IsSound view new → new.origin ≡ old.origin → more.limit ≡ log.limit → more.entries ≡ log.entries ++ entries → bus_of view new ≡ replay (bus_of view old) entries → IsTrace (bus_of view old) entries →
    (bus_of view new).now ≤ (bus_of view old).now + length entries → (bus_of view new).next_number ≤ (bus_of view old).next_number + length entries →
    (bus_of view new).bench.next_tool ≤ (bus_of view old).bench.next_tool + length entries → length log.entries + length entries ≤ log.limit → Represents view new more
represents-on view old new log more entries stands sound same kept grown leads trace much many came room =
    let long : length more.entries ≡ length log.entries + length entries = ap length grown ∙ length-append log.entries entries in
    let ticks = stands.ticks in
    let next = stands.next in
    let tools = stands.tools in
    record {
      sound = sound;
      bus_is = leads ∙ ap (λ b. replay b entries) stands.bus_is ∙ sym (replay-append (start old.origin) log.entries entries)
          ∙ ap (λ o. replay (start o) (log.entries ++ entries)) (sym same) ∙ ap (replay (start new.origin)) (sym grown);
      trace = subst (IsTrace (start new.origin)) (sym grown)
          (subst (λ (o : Origin). IsTrace (start o) (log.entries ++ entries)) (sym same)
          (trace-append (start old.origin) log.entries entries stands.trace (subst (λ (b : Bus). IsTrace b entries) stands.bus_is trace)));
      limit = kept ∙ stands.limit ∙ ap (λ (o : Origin). o.limit) (sym same);
      within = subst (λ (n : ℕ). length more.entries ≤ n) (sym kept) (omega arith);
      few = subst (λ (o : Origin). o.limit ≤ 4000000) (sym same) stands.few;
      ticks = omega arith;
      next = omega arith;
      tools = omega arith;
    }

-- a core whose fields stand for the same bus
pub represents-same : {W P T : Type 0} (view : View P W T) (old new : LiveBus W P T) (log : LogState) → Represents view old log → StandsAs view old new → Represents view new log
represents-same view old new log stands same =
    let ticks = stands.ticks in
    let now : new.ticks ≡ old.ticks = ap (λ (b : Bus). b.now) same.bus in
    let next = stands.next in
    let number : new.marks.next_number ≡ old.marks.next_number = ap (λ (b : Bus). b.next_number) same.bus in
    let tools = stands.tools in
    let tool : new.bench.next_tool ≡ old.bench.next_tool = ap (λ (b : Bus). b.bench.next_tool) same.bus in
    record {
      sound = same.sound;
      bus_is = same.bus ∙ stands.bus_is ∙ ap (λ o. replay (start o) log.entries) (sym same.origin);
      trace = subst (λ (o : Origin). IsTrace (start o) log.entries) (sym same.origin) stands.trace;
      limit = stands.limit ∙ ap (λ (o : Origin). o.limit) (sym same.origin);
      within = stands.within;
      few = subst (λ (o : Origin). o.limit ≤ 4000000) (sym same.origin) stands.few;
      ticks = omega arith;
      next = omega arith;
      tools = omega arith;
    }

-- no move is a tick
changed-now : (bus : Bus) (number : ℕ) (change : Change) → (changed change number bus).now ≡ bus.now
changed-now bus number Nothing = refl
changed-now bus number (PutsNote terms) = refl
changed-now bus number (TakesNote place) = refl
changed-now bus number (Subscribes patterns) = refl
changed-now bus number (Unsubscribes patterns) = refl
changed-now bus number (Creates process actuals) = refl
changed-now bus number (SetsBench bench) = refl
changed-now bus number (GoesDown reason) = refl

pub apply-now : (bus : Bus) (move : Move) → (apply bus move).now ≡ bus.now
apply-now bus (Own proc offered effect) = changed-now bus proc.number effect.change
apply-now bus (Handshake sender sent receiver received terms binds) = refl
apply-now bus Finish = refl
apply-now bus Halt = refl

-- and an input is one at most
fed-by : (bus : Bus) (input : Input) (down : Bool) → (let a : Answer = if down then record { reply = Dropped Down; bus = bus } else took bus input in a.bus.now) ≤ bus.now + 1
fed-by bus input true = omega arith
fed-by bus Tick false = omega arith
fed-by bus NoTicks false = omega arith
fed-by bus (Line lane line) false = omega arith
fed-by bus (Gone lane) false = omega arith
fed-by bus (Cut lane) false = omega arith

pub fed-within : (bus new : Bus) (input : Input) (entry : Entry) → new ≡ (fed bus input).bus → new.now ≤ bus.now + length (entry ∷ [])
fed-within bus new input entry e =
    let same : new.now ≡ (fed bus input).bus.now = ap (λ (b : Bus). b.now) e in
    let most = fed-by bus input bus.down in
    omega arith

-- a move takes one number at most
changed-next : (bus : Bus) (number : ℕ) (change : Change) → (changed change number bus).next_number ≤ bus.next_number + 1
changed-next bus number Nothing = omega arith
changed-next bus number (PutsNote terms) = omega arith
changed-next bus number (TakesNote place) = omega arith
changed-next bus number (Subscribes patterns) = omega arith
changed-next bus number (Unsubscribes patterns) = omega arith
changed-next bus number (Creates process actuals) = omega arith
changed-next bus number (SetsBench bench) = omega arith
changed-next bus number (GoesDown reason) = omega arith

pub apply-next : (bus : Bus) (move : Move) → (apply bus move).next_number ≤ bus.next_number + 1
apply-next bus (Own proc offered effect) = changed-next bus proc.number effect.change
apply-next bus (Handshake sender sent receiver received terms binds) = omega arith
apply-next bus Finish = omega arith
apply-next bus Halt = omega arith

-- an input none
next-by : (bus : Bus) (input : Input) (down : Bool) → (let a : Answer = if down then record { reply = Dropped Down; bus = bus } else took bus input in a.bus.next_number) ≡ bus.next_number
next-by bus input true = refl
next-by bus Tick false = refl
next-by bus NoTicks false = refl
next-by bus (Line lane line) false = refl
next-by bus (Gone lane) false = refl
next-by bus (Cut lane) false = refl

pub fed-next : (bus : Bus) (input : Input) → (fed bus input).bus.next_number ≡ bus.next_number
fed-next bus input = next-by bus input bus.down

-- so there are no more ticks than before
pub still-within : (bus : Bus) (new : Bus) (entries : List Entry) → new.now ≡ bus.now → new.now ≤ bus.now + length entries
still-within bus new entries e = omega (arith, e)

pub still-next : (bus : Bus) (new : Bus) (entries : List Entry) → new.next_number ≡ bus.next_number → new.next_number ≤ bus.next_number + length entries
still-next bus new entries e = omega (arith, e)

-- and a number more at most
pub one-next : (bus : Bus) (new : Bus) (move : Move) (entry : Entry) → new ≡ apply bus move → new.next_number ≤ bus.next_number + length (entry ∷ [])
one-next bus new move entry e =
    let same : new.next_number ≡ (apply bus move).next_number = ap (λ (b : Bus). b.next_number) e in
    let most = apply-next bus move in
    omega arith
