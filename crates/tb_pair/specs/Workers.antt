-- What each of the two workers of a pipe has done once it ends, by what its seat has seen, and by the pieces that its end of the pipe
-- sent or received in the call.
use Rattle.std.specs.Prelude.{◌≡◌, ◌⊎◌, Bool, true, false, List, [], ◌∷◌, ◌++◌, None}
use Rattle.tb_terms.specs.declared.term.Term.{Term}
use Rattle.tb_log.specs.declared.entry.Input.{Input}
use Rattle.tb_log.specs.declared.entry.Reply.{Reply}
use Rattle.tb_log.specs.declared.entry.Reply.TheVariants.{Dropped}
use Rattle.tb_log.specs.declared.entry.Why.TheVariants as why
use Rattle.tb_log.specs.declared.entry.Entry.{Entry}
use Rattle.tb_log.specs.declared.entry.Entry.TheVariants.{Fed}
use Rattle.tb_log.specs.Lanes.{inputs}
use Rattle.tb_tools.specs.Finding.{next_out}
use Rattle.tb_core.specs.Cores.{Call, HandIn, HandOut}
use Rattle.tb_lock.specs.Seats.{SeatView}
use Rattle.tb_run.specs.declared.ends.WorkEnd.{WorkEnd}
use Rattle.tb_run.specs.declared.ends.WorkEnd.TheVariants as end
use Rattle.tb_run.specs.Dropping.{HasDropped}
use Rattle.tb_run.specs.Outcomes.{is_of}
use Rattle.tb_run.specs.Seats.{Adds, Marks, FoundFull}
use Rattle.tb_run.specs.Workers.{bus_of, cut_count}
use Rattle.tb_pair.specs.declared.piece.Piece.{Piece}
use Rattle.tb_pair.specs.Pieces.{pieces}
use Rattle.tb_pair.specs.Piping.{does, events, connect, disconnect, event_of, lines_of}

-- an end by a refused call, or because memory ran out
abbrev pub IsEarly : WorkEnd → Type 0
IsEarly end.Over = ⊥
IsEarly end.Down = ⊥
IsEarly end.Stopped = Unit {0}
IsEarly end.Full = Unit {0}
IsEarly end.Failed = ⊥
IsEarly end.NoMemory = Unit {0}

-- why a worker of a pipe may end so; `Refused` says for which call the log had no capacity
abbrev pub PipeEnds : Type 0 → SeatView → WorkEnd → Type 0
PipeEnds Refused new end.Over = ⊥
-- the bus has shut down, and nothing is left in the queue
PipeEnds Refused new end.Down = (next_out 1 (bus_of new).bench ≡ None) × ((bus_of new).down ≡ true)
PipeEnds Refused new end.Stopped = Unit {0}
PipeEnds Refused new end.Full = Refused
PipeEnds Refused new end.Failed = ⊥
PipeEnds Refused new end.NoMemory = Unit {0}

-- The seat adds these entries. At some place after them, the log has no capacity for this call. `mid` is the seat after these entries.
pub record FullAfter (call : Call) (old new : SeatView) (more : List Entry) : Type 0 where
  pub mid : SeatView
  pub adds : Adds old mid more
  pub full : FoundFull call mid new

-- The log has no capacity for the connect request. This request is missing.
abbrev pub ConnectFull : SeatView → SeatView → List Input → Type 0
ConnectFull old new given = (given ≡ []) × FoundFull (HandIn connect) old new

-- The log has no capacity for the next queued item, at some place after all entries of the writer, so also after its connect request.
abbrev pub ItemFull : SeatView → SeatView → List Entry → List Input → Type 0
ItemFull old new more given = (given ≡ connect ∷ []) × FullAfter (HandOut 1) old new more

-- The writer finds the log full for the next queued item, or for the connect request.
abbrev pub WriterFull : SeatView → SeatView → List Entry → List Input → Type 0
WriterFull old new more given = ItemFull old new more given ⊎ ConnectFull old new given

-- The log has no capacity for the next queued item, at some place after all entries of the reader, so also after its connect request. These
-- entries have an input for each received piece.
abbrev pub DropFull : SeatView → SeatView → List Entry → List Input → List Term → List Term → Bool → Type 0
DropFull old new more given told lost last = (lost ≡ []) × (given ≡ connect ∷ lines_of told last) × FullAfter (HandOut 1) old new more

-- The log has no capacity for the event of the term that the reader receives last, at some place after all entries of the reader. None of
-- its inputs is dropped because the bus has shut down.
abbrev pub EventFull : SeatView → SeatView → List Entry → List Input → List Term → List Term → Bool → Type 0
EventFull old new more given told lost last = (t : Term) × (lost ≡ t ∷ []) × (last ≡ false) × (given ≡ connect ∷ lines_of told false) × (HasDropped (is_of 1) more → ⊥) × FullAfter (HandIn (event_of t)) old new more

-- The reader receives the last piece, and the log has no capacity for the disconnect request, at some place after all entries of the
-- reader. None of its inputs is dropped because the bus has shut down.
abbrev pub LeaveFull : SeatView → SeatView → List Entry → List Input → List Term → List Term → Bool → Type 0
LeaveFull old new more given told lost last = (last ≡ true) × (lost ≡ []) × (given ≡ connect ∷ lines_of told false) × (HasDropped (is_of 1) more → ⊥) × FullAfter (HandIn disconnect) old new more

-- The reader finds the log full for the next queued item, or for one of its inputs.
abbrev pub ReaderFull : SeatView → SeatView → List Entry → List Input → List Term → List Term → Bool → Type 0
ReaderFull old new more given told lost last = DropFull old new more given told lost last ⊎ (ConnectFull old new given ⊎ (EventFull old new more given told lost last ⊎ LeaveFull old new more given told lost last))

-- A worker of a pipe that adds these entries: their inputs of lane 1 are these, and none reports that an item couldn't be written.
pub record Goes (old new : SeatView) (more : List Entry) (given : List Input) : Type 0 where
  pub adds : Adds old new more
  pub given_are : inputs more 1 ≡ given
  pub cuts : cut_count 1 more ≡ 0

-- The connect request is the first of these entries.
abbrev pub NamesFirst : List Entry → Type 0
NamesFirst more = (more ≡ []) ⊎ ((reply : Reply) × (rest : List Entry) × (more ≡ Fed connect reply ∷ rest))

-- After an input of lane 1 that was dropped because the bus had shut down, no other input of this lane comes.
abbrev pub StopsWhereDropped : List Entry → Type 0
StopsWhereDropped log = (before : List Entry) (it : Input) (after : List Entry) → is_of 1 it ≡ true → log ≡ before ++ Fed it (Dropped why.Down) ∷ after → inputs after 1 ≡ []

-- `pipe_writer`: its end has sent a prefix of the terms of the tool's `rec-do` lines. If it has sent that nothing more comes, the prefix
-- is the whole.
pub record WritesPipe (old new : SeatView) (sent_old sent_new : List Piece) (it : WorkEnd) : Type 0 where
  pub more : List Entry
  pub given : List Input
  pub goes : Goes old new more given
  -- the tool connects, and sends nothing else
  pub names : (given ≡ connect ∷ []) ⊎ ((given ≡ []) × IsEarly it)
  pub first : NamesFirst more
  pub front : List Term
  pub rest : List Term
  pub last : Bool
  pub told : does more ≡ front ++ rest
  pub sent : sent_new ≡ sent_old ++ pieces front last
  pub whole : last ≡ true → rest ≡ []
  pub marks : Marks old new it
  pub ends : PipeEnds (WriterFull old new more given) new it

-- no term was received and not delivered, or one: then no piece was received after it
abbrev pub LacksOne : List Term → Bool → Type 0
LacksOne lost last = (lost ≡ []) ⊎ ((t : Term) × (lost ≡ t ∷ []) × (last ≡ false))

-- What was received and not delivered. If the bus has shut down: no term, and the tool has left if the last piece was received. At an
-- early end: one term at most.
abbrev pub MayLack : WorkEnd → List Term → Bool → Bool → Type 0
MayLack end.Over lost last leaves = ⊥
MayLack end.Down lost last leaves = (lost ≡ []) × (last ≡ leaves)
MayLack end.Stopped lost last leaves = LacksOne lost last
MayLack end.Full lost last leaves = LacksOne lost last
MayLack end.Failed lost last leaves = ⊥
MayLack end.NoMemory lost last leaves = LacksOne lost last

-- a worker that ends because its bus has shut down has read to the end: the tool has left, or an input of its lane was dropped because
-- the bus had shut down
abbrev pub WhyDown : WorkEnd → Bool → List Entry → Type 0
WhyDown end.Over leaves more = ⊥
WhyDown end.Down leaves more = (leaves ≡ true) ⊎ HasDropped (is_of 1) more
WhyDown end.Stopped leaves more = Unit {0}
WhyDown end.Full leaves more = Unit {0}
WhyDown end.Failed leaves more = ⊥
WhyDown end.NoMemory leaves more = Unit {0}

-- `pipe_reader`: the events of its seat are the terms that its end received, except the last at an early end. The tool leaves only if its
-- end received that nothing more comes.
pub record ReadsPipe (old new : SeatView) (got_old got_new : List Piece) (it : WorkEnd) : Type 0 where
  pub more : List Entry
  pub given : List Input
  pub goes : Goes old new more given
  pub told : List Term
  pub lost : List Term
  pub last : Bool
  pub leaves : Bool
  -- the tool connects, then sends these events, then perhaps leaves
  pub names : (given ≡ connect ∷ lines_of told leaves) ⊎ ((given ≡ []) × (told ++ lost ≡ []) × (last ≡ false) × (leaves ≡ false) × IsEarly it)
  pub first : NamesFirst more
  pub once : StopsWhereDropped more
  pub events_are : events more ≡ told
  pub got : got_new ≡ got_old ++ pieces (told ++ lost) last
  pub said : leaves ≡ true → (last ≡ true) × (lost ≡ [])
  pub lacks : MayLack it lost last leaves
  pub why : WhyDown it leaves more
  pub marks : Marks old new it
  pub ends : PipeEnds (ReaderFull old new more given told lost last) new it
