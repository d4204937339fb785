-- What the reader of a pipe has done so far.
use Rattle.std.specs.Prelude.{◌≡◌, ◌⊎◌, Bool, true, false, List, [], ◌∷◌, ◌++◌, Option, MatchOption}
use Rattle.tb_terms.specs.declared.term.Term.{Term}
use Rattle.tb_log.specs.declared.entry.Input.{Input}
use Rattle.tb_log.specs.declared.entry.Out.{Out}
use Rattle.tb_log.specs.declared.entry.Entry.{Entry}
use Rattle.tb_log.specs.declared.entry.Entry.TheVariants.{Gave}
use Rattle.tb_core.specs.Cores.{HandIn, HandOut}
use Rattle.tb_lock.specs.Seats.{SeatView}
use Rattle.tb_run.specs.declared.ends.WorkEnd.{WorkEnd}
use Rattle.tb_run.specs.declared.ends.WorkEnd.TheVariants as end
use Rattle.tb_run.specs.Dropping.{HasDropped}
use Rattle.tb_run.specs.Outcomes.{is_of}
use Rattle.tb_run.specs.Seats.{Adds, FoundFull, SameMarks}
use Rattle.tb_pair.specs.declared.piece.Piece.{Piece}
use Rattle.tb_pair.specs.declared.piece.Piece.TheVariants.{Told, Last}
use Rattle.tb_pair.specs.declared.reader.Taken.{Taken}
use Rattle.tb_pair.specs.declared.reader.Taken.TheVariants as taken
use Rattle.tb_pair.specs.Pieces.{pieces}
use Rattle.tb_pair.specs.Piping.{event_of, disconnect, lines_of}
use Rattle.tb_pair.specs.Workers.{Goes, IsEarly, StopsWhereDropped}
use Rattle.tb_pair.specs.Helpers.Settling.{EndsAs}

-- the line for a piece
abbrev pub line_of : Piece → Input
line_of (Told t) = event_of t
line_of Last = disconnect

abbrev pub says_last : Piece → Bool
says_last (Told t) = false
says_last Last = true

-- A reader that goes on: it has delivered all received terms. It reads on until it has received that nothing more comes, or an input was
-- dropped because the bus had shut down.
pub record ReadsOn (old new : SeatView) (got_old got_new : List Piece) (reads reads' : Bool) : Type 0 where
  pub more : List Entry
  pub told : List Term
  pub leaves : Bool
  pub goes : Goes old new more (lines_of told leaves)
  pub got : got_new ≡ got_old ++ pieces told leaves
  pub still : reads' ≡ true → leaves ≡ false
  pub stays : reads' ≡ true → reads ≡ true
  pub over : reads ≡ false → (told ≡ []) × (leaves ≡ false)
  pub why : reads' ≡ false → (reads ≡ false) ⊎ ((leaves ≡ true) ⊎ HasDropped (is_of 1) more)
  pub let_in : reads' ≡ true → HasDropped (is_of 1) more → ⊥
  pub once : StopsWhereDropped more
  pub marks : SameMarks old new

-- the effect of the next queued item, if it is dropped
abbrev pub TakesOut : SeatView → SeatView → Taken → Type 0
TakesOut old new taken.Some = (out : Out) × Adds old new (Gave 1 out ∷ []) × SameMarks old new
TakesOut old new taken.Nothing = Adds old new [] × SameMarks old new
TakesOut old new taken.Closed = EndsAs (FoundFull (HandOut 1) old new) old new end.Down
TakesOut old new (taken.Ends it) = EndsAs (FoundFull (HandOut 1) old new) old new it × IsEarly it

-- the term that was received last and not delivered: none if the worker came to its end
abbrev pub MayLose : WorkEnd → Bool → List Piece → Type 0
MayLose end.Over reads lost = ⊥
MayLose end.Down reads lost = (lost ≡ []) × (reads ≡ false)
MayLose end.Stopped reads lost = (lost ≡ []) ⊎ ((piece : Piece) × (lost ≡ piece ∷ []) × (reads ≡ true))
MayLose end.Full reads lost = (lost ≡ []) ⊎ ((piece : Piece) × (lost ≡ piece ∷ []) × (reads ≡ true))
MayLose end.Failed reads lost = ⊥
MayLose end.NoMemory reads lost = (lost ≡ []) ⊎ ((piece : Piece) × (lost ≡ piece ∷ []) × (reads ≡ true))

-- for which call the log had no capacity: the one that delivers the piece that was received last, or the one that takes an item
abbrev pub PieceFull : SeatView → SeatView → List Piece → Type 0
PieceFull old new [] = FoundFull (HandOut 1) old new
PieceFull old new (piece ∷ pieces) = FoundFull (HandIn (line_of piece)) old new

pub record EndsReading (old new : SeatView) (got_old got_new : List Piece) (reads : Bool) (it : WorkEnd) : Type 0 where
  pub lost : List Piece
  pub got : got_new ≡ got_old ++ lost
  pub may : MayLose it reads lost
  pub ends : EndsAs (PieceFull old new lost) old new it

-- a reader that went on, and then ended
pub record ReadTo (old new : SeatView) (got_old got_new : List Piece) (reads : Bool) (it : WorkEnd) : Type 0 where
  pub mid : SeatView
  pub got_mid : List Piece
  pub reads' : Bool
  pub on : ReadsOn old mid got_old got_mid reads reads'
  pub ends : EndsReading mid new got_mid got_new reads' it

-- a reader that may have delivered something
abbrev pub Feeds : SeatView → SeatView → List Piece → List Piece → Bool → Bool → Option WorkEnd → Type 0
Feeds old new got_old got_new reads reads' answer = MatchOption answer (ReadsOn old new got_old got_new reads reads') (EndsReading old new got_old got_new reads)
