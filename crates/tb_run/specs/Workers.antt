-- The effects of each of the four workers of a run: on the entries that its seat has seen, and on the items that its end of the
-- environment gave or took in the call.
use Rattle.std.specs.Prelude.{◌≡◌, ℕ, ◌+◌, ◌-◌, ◌≤◌, ◌<◌, ◌^◌, ◌⊎◌, Bool, true, false, List, [], ◌∷◌, ◌++◌, length, map, count_by, Option, Some, None}
use Rattle.std.specs.List.{AllZip}
use Rattle.tb_edge.specs.Faults.{Rose}
use Rattle.tb_edge.specs.Ends.{InletView, and_given, and_taken, ClockView, and_ticked, has_ended}
use Rattle.tb_edge.specs.declared.given.Given.{Given}
use Rattle.tb_edge.specs.declared.given.Given.TheVariants as given
use Rattle.tb_edge.specs.declared.given.Taken.{Taken}
use Rattle.tb_log.specs.declared.entry.ToolLine.TheVariants as tool
use Rattle.tb_log.specs.declared.entry.Input.{Input}
use Rattle.tb_log.specs.declared.entry.Input.TheVariants as input
use Rattle.tb_log.specs.declared.entry.Reply.{Reply}
use Rattle.tb_log.specs.declared.entry.Reply.TheVariants.{Dropped}
use Rattle.tb_log.specs.declared.entry.Why.TheVariants as why
use Rattle.tb_log.specs.declared.entry.Out.{Out}
use Rattle.tb_log.specs.declared.entry.Entry.{Entry}
use Rattle.tb_log.specs.declared.entry.Entry.TheVariants.{Did, Quiet, Fed, Gave}
use Rattle.tb_log.specs.Lanes.{inputs, given_on, sent, cuts, is_cut_off}
use Rattle.tb_bus.specs.Buses.{Bus, start}
use Rattle.tb_bus.specs.Traces.{replay}
use Rattle.tb_tools.specs.Finding.{next_out}
use Rattle.tb_tool_line.specs.ToolLines.{IsToolLine}
use Rattle.tb_tool_line.specs.Sending.{taken_of}
use Rattle.tb_core.specs.Cores.{HandIn, MakeStep, HandOut}
use Rattle.tb_lock.specs.Seats.{SeatView}
use Rattle.tb_run.specs.declared.ends.WorkEnd.{WorkEnd}
use Rattle.tb_run.specs.declared.ends.WorkEnd.TheVariants as end
use Rattle.tb_run.specs.Dropping.{AreLetIn}
use Rattle.tb_run.specs.Seats.{Adds, Marks, EndsWith, FoundFull}

-- the input for an item of a lane's inlet
abbrev pub IsInputFor : ℕ → Given → Input → Type 0
IsInputFor lane (given.Line bytes) (input.Line at line) = (at ≡ lane) × IsToolLine bytes line
IsInputFor lane given.Long (input.Line at line) = (at ≡ lane) × (line ≡ tool.Bad)
IsInputFor lane given.End (input.Gone at) = at ≡ lane
IsInputFor lane given it = ⊥

-- the inputs are the lines and ends that were given, in order
abbrev pub AreLines : ℕ → List Given → List Input → Type 0
AreLines lane given inputs = AllZip (IsInputFor lane) given inputs

-- the number of last items that weren't delivered or written, by the reason why the worker ended: at most one if the worker was
-- interrupted, none at any other end
abbrev pub MayLack : WorkEnd → ℕ → Type 0
MayLack end.Over count = count ≡ 0
MayLack end.Down count = count ≡ 0
MayLack end.Failed count = count ≡ 0
MayLack end.Stopped count = count ≤ 1
MayLack end.Full count = count ≤ 1
MayLack end.NoMemory count = count ≤ 1

abbrev pub ends_over : WorkEnd → Bool
ends_over end.Over = true
ends_over end.Down = false
ends_over end.Stopped = false
ends_over end.Full = false
ends_over end.Failed = false
ends_over end.NoMemory = false

-- no entry of a worker is an input that was dropped because the bus had shut down; at `Down`, this needn't hold for the last entry
abbrev pub LetIn : WorkEnd → List Entry → Type 0
LetIn end.Over log = AreLetIn log
LetIn end.Down log = (before : List Entry) × (last : Entry) × (log ≡ before ++ last ∷ []) × AreLetIn before
LetIn end.Stopped log = AreLetIn log
LetIn end.Full log = AreLetIn log
LetIn end.Failed log = AreLetIn log
LetIn end.NoMemory log = AreLetIn log

-- whether an inlet reports that it is over
abbrev pub was_over : Option InletView → Bool
was_over None = false
was_over (Some view) = view.over

-- the claims about the end of a reader, by its reason; `last` has the item that the reader read and didn't deliver, if there is one
abbrev pub ReaderEnds : ℕ → List Given → SeatView → SeatView → WorkEnd → Type 0
ReaderEnds lane last old new end.Over = Unit {0}
-- the last entry that the seat has seen is an input of the lane that was dropped because the bus had shut down
ReaderEnds lane last old new end.Down = (it : Input) × (given_on lane it ≡ Some it) × EndsWith new (Fed it (Dropped why.Down))
ReaderEnds lane last old new end.Stopped = Unit {0}
-- the log had no capacity for the input for the item that was read last
ReaderEnds lane last old new end.Full = (it : Given) × (found : Input) × (last ≡ it ∷ []) × IsInputFor lane it found × FoundFull (HandIn found) old new
ReaderEnds lane last old new end.Failed = ⊥
ReaderEnds lane last old new end.NoMemory = Unit {0}

-- The result of `read_lane`: the inputs of the lane are the items that the inlet gave in the call. The last item may be missing if the
-- worker was interrupted.
pub record ReadsLane (lane : ℕ) (old new : SeatView) (gave_old gave_new : Option InletView) (it : WorkEnd) : Type 0 where
  pub more : List Entry
  pub adds : Adds old new more
  pub fed : List Given
  pub last : List Given
  pub told : gave_new ≡ and_given gave_old (fed ++ last) (ends_over it)
  pub lines : AreLines lane fed (inputs more lane)
  pub lacks : MayLack it (length last)
  -- an inlet that was over before gives nothing
  pub none : was_over gave_old ≡ true → fed ++ last ≡ []
  pub let_in : LetIn it more
  pub marks : Marks old new it
  pub ends : ReaderEnds lane last old new it

-- the count of failures rose by at least this number, or is at its last value
abbrev pub CountsTo : ℕ → ℕ → ℕ → Type 0
CountsTo old new count = (old + count ≤ new) ⊎ (new ≡ 2 ^ 64 - 1)

-- the entry of a `cut` of this lane
abbrev pub is_cut : ℕ → Entry → Bool
is_cut lane (Did label) = false
is_cut lane Quiet = false
is_cut lane (Fed it reply) = cuts lane it
is_cut lane (Gave at out) = false

-- the number of `cut` inputs of this lane
abbrev pub cut_count : ℕ → List Entry → ℕ
cut_count lane log = count_by (is_cut lane) log

-- a count of failures before and after some calls, for which `count` `cut` inputs were delivered
pub record Counts (old new count : ℕ) : Type 0 where
  pub cuts : CountsTo old new count
  pub never_falls : old ≤ new
  pub fits : old < 2 ^ 64 → new < 2 ^ 64

-- the bus after the entries that a seat has seen
abbrev pub bus_of : SeatView → Bus
bus_of seat = replay (start seat.origin) seat.seen

-- the claims about the end of a writer, by its reason; `last` has the item that the outlet failed to take and that isn't cut off, if there
-- is one
abbrev pub WriterEnds : ℕ → List Out → SeatView → SeatView → WorkEnd → Type 0
WriterEnds lane last old new end.Over = ⊥
-- the bus has shut down, and no item is queued on the lane
WriterEnds lane last old new end.Down = (next_out lane (bus_of new).bench ≡ None) × ((bus_of new).down ≡ true)
WriterEnds lane last old new end.Stopped = Unit {0}
-- the log had no capacity for the call that takes the next queued item, or for the `cut` of the last item
WriterEnds lane last old new end.Full = ((last ≡ []) × FoundFull (HandOut lane) old new) ⊎ ((out : Out) × (last ≡ out ∷ []) × FoundFull (HandIn (input.Cut lane)) old new)
WriterEnds lane last old new end.Failed = ⊥
WriterEnds lane last old new end.NoMemory = Unit {0}

-- The result of `write_lane`: the outlet took the items that were sent on the lane and aren't cut off. The last item may be missing if the
-- worker was interrupted and the outlet failed.
pub record WritesLane (lane : ℕ) (old new : SeatView) (took_old took_new : Option (List Taken)) (faults_old faults_new : ℕ) (it : WorkEnd) : Type 0 where
  pub more : List Entry
  pub adds : Adds old new more
  pub put : List Out
  pub last : List Out
  pub handed : sent more lane ≡ put ++ last
  pub told : took_new ≡ and_taken took_old (map taken_of put)
  pub starts : is_cut_off more lane ≡ false
  pub lacks : MayLack it (length last)
  -- if an item is missing, the outlet's count of failures rose
  pub rose : (last ≡ []) ⊎ Rose faults_old faults_new
  pub counts : Counts faults_old faults_new (cut_count lane more)
  pub marks : Marks old new it
  pub ends : WriterEnds lane last old new it

-- all entries are ticks, with any replies
abbrev pub AreTicks : List Entry → Type 0
AreTicks [] = Unit {0}
AreTicks (Fed input.Tick reply ∷ log) = AreTicks log
AreTicks (entry ∷ log) = ⊥

-- the only entry is the end of ticks, with any reply
abbrev pub IsNoTicks : List Entry → Type 0
IsNoTicks tail = (reply : Reply) × (tail ≡ Fed input.NoTicks reply ∷ [])

-- The progress of a tick worker.
pub record TickerCame : Type 0 where
  -- its seat before and after
  pub old : SeatView
  pub new : SeatView
  -- the clock's count of failures before and after
  pub faults_old : ℕ
  pub faults_new : ℕ
  -- the number of ticks that were delivered
  pub count : ℕ
  -- the number of last ticks that the clock gave and that weren't delivered
  pub last : ℕ
  -- the entries after the ticks
  pub tail : List Entry
  -- whether the clock has ended
  pub ended : Bool

-- the claims about the end of a tick worker with this progress, by its reason; `Enough` states which number of ticks is enough
abbrev pub TickerEnds : (ℕ → Type 0) → TickerCame → WorkEnd → Type 0
-- the worker delivered the end of ticks: the clock has ended, or the number of ticks is enough
TickerEnds Enough came end.Over = IsNoTicks came.tail × ((came.ended ≡ true) ⊎ Enough came.count)
-- the worker delivered the end of ticks: the clock failed
TickerEnds Enough came end.Failed = IsNoTicks came.tail × Rose came.faults_old came.faults_new
-- the last entry that the seat has seen is a tick that was dropped because the bus had shut down
TickerEnds Enough came end.Down = (came.tail ≡ []) × EndsWith came.new (Fed input.Tick (Dropped why.Down))
-- the log had no capacity for a tick; or it had no capacity for the end of ticks, and ticks had a reason to end
TickerEnds Enough came end.Full =
    (came.tail ≡ [])
    × (((came.last ≡ 1) × FoundFull (HandIn input.Tick) came.old came.new)
    ⊎ ((came.last ≡ 0) × ((came.ended ≡ true) ⊎ (Rose came.faults_old came.faults_new ⊎ Enough came.count)) × FoundFull (HandIn input.NoTicks) came.old came.new))
TickerEnds Enough came end.Stopped = came.tail ≡ []
TickerEnds Enough came end.NoMemory = came.tail ≡ []

-- At `Over` and `Down`, the clock's count of failures is unchanged. At `Failed`, it rose. So after a failure that raised the count, a tick
-- worker ends as `Failed`, unless a call is rejected.
abbrev pub ClockFaults : ℕ → ℕ → WorkEnd → Type 0
ClockFaults faults_old faults_new end.Over = faults_new ≡ faults_old
ClockFaults faults_old faults_new end.Down = faults_new ≡ faults_old
ClockFaults faults_old faults_new end.Failed = Rose faults_old faults_new
ClockFaults faults_old faults_new end.Stopped = Unit {0}
ClockFaults faults_old faults_new end.Full = Unit {0}
ClockFaults faults_old faults_new end.NoMemory = Unit {0}

-- The result of `tick_worker`: the ticks are the ticks that the clock gave in the call, possibly followed by the end of ticks. The last
-- tick may be missing if the worker was interrupted.
pub record TicksBus (Enough : ℕ → Type 0) (most : ℕ) (old new : SeatView) (told_old told_new : Option ClockView) (faults_old faults_new : ℕ) (it : WorkEnd) : Type 0 where
  pub first : List Entry
  pub tail : List Entry
  pub adds : Adds old new (first ++ tail)
  pub ticks : AreTicks first
  pub let_in : LetIn it first
  pub last : ℕ
  pub ended : Bool
  pub told : told_new ≡ and_ticked told_old (length first + last) ended
  pub within : length first + last ≤ most
  pub lacks : MayLack it last
  -- if the clock has ended, all its ticks were delivered
  pub whole : ended ≡ true → last ≡ 0
  -- a clock that had ended before gives nothing
  pub none : has_ended told_old → length first + last ≡ 0
  pub marks : Marks old new it
  pub never_falls : faults_old ≤ faults_new
  pub faults : ClockFaults faults_old faults_new it
  pub ends : TickerEnds Enough (record { old = old; new = new; faults_old = faults_old; faults_new = faults_new; count = length first; last = last; tail = tail; ended = ended }) it

-- the claims about the end of a step worker, by its reason
abbrev pub StepperEnds : SeatView → SeatView → WorkEnd → Type 0
StepperEnds old new end.Over = ⊥
StepperEnds old new end.Down = (bus_of new).down ≡ true
StepperEnds old new end.Stopped = Unit {0}
StepperEnds old new end.Full = FoundFull MakeStep old new
StepperEnds old new end.Failed = ⊥
StepperEnds old new end.NoMemory = Unit {0}

-- the result of `step_worker`
pub record StepsBus (old new : SeatView) (it : WorkEnd) : Type 0 where
  pub more : List Entry
  pub adds : Adds old new more
  pub marks : Marks old new it
  pub ends : StepperEnds old new it
