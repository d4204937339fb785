-- What the writer of a pipe has done so far.
use Rattle.std.specs.Prelude.{◌≡◌, ◌⊎◌, Bool, true, false, List, [], ◌∷◌, ◌++◌, MatchOption}
use Rattle.tb_terms.specs.declared.term.Term.{Term}
use Rattle.tb_log.specs.declared.entry.Input.{Input}
use Rattle.tb_log.specs.declared.entry.Out.{Out}
use Rattle.tb_log.specs.declared.entry.Entry.{Entry}
use Rattle.tb_core.specs.Cores.{HandOut}
use Rattle.tb_lock.specs.Seats.{SeatView}
use Rattle.tb_run.specs.declared.ends.WorkEnd.{WorkEnd}
use Rattle.tb_run.specs.Seats.{FoundFull, Marks, SameMarks}
use Rattle.tb_pair.specs.declared.piece.Piece.{Piece}
use Rattle.tb_pair.specs.declared.piece.Piece.TheVariants.{Told}
use Rattle.tb_pair.specs.Pieces.{pieces}
use Rattle.tb_pair.specs.Piping.{told_by, does, connect}
use Rattle.tb_pair.specs.Workers.{IsEarly, NamesFirst, PipeEnds, WriterFull, Goes}
use Rattle.tb_pair.specs.Helpers.Pipes.{GoesIn}
use Rattle.tb_pair.specs.Helpers.Settling.{EndsAs}

-- A writer that goes on: it has sent the terms of the tool's `rec-do` lines. If the pipe was shut, it stays shut, and the writer has sent
-- nothing more since.
pub record WritesOn (old new : SeatView) (sent_old sent_new : List Piece) (flows flows' : Bool) : Type 0 where
  pub more : List Entry
  pub goes : Goes old new more []
  pub front : List Term
  pub rest : List Term
  pub told : does more ≡ front ++ rest
  pub sent : sent_new ≡ sent_old ++ pieces front false
  pub whole : flows' ≡ true → rest ≡ []
  pub shut : flows ≡ false → front ≡ []
  pub stays : flows' ≡ true → flows ≡ true
  pub marks : SameMarks old new

-- the effect of a sent item
abbrev pub PassesOn : Out → Bool → Bool → List Piece → List Piece → Type 0
PassesOn out flows flows' sent_old sent_new = MatchOption (told_by out) ((flows' ≡ flows) × (sent_new ≡ sent_old)) (λ t. GoesIn flows flows' sent_old sent_new (Told t))

-- a writer that ends so has sent nothing more
pub record EndsWriting (old new : SeatView) (sent_old sent_new : List Piece) (flows flows' : Bool) (it : WorkEnd) : Type 0 where
  pub ends : EndsAs (FoundFull (HandOut 1) old new) old new it
  pub sent : sent_new ≡ sent_old
  pub same : flows' ≡ flows

-- a writer that went on, and then ended
pub record Wrote (old new : SeatView) (sent_old sent_new : List Piece) (flows flows' : Bool) (it : WorkEnd) : Type 0 where
  pub mid : SeatView
  pub on : WritesOn old mid sent_old sent_new flows flows'
  pub ends : EndsAs (FoundFull (HandOut 1) mid new) mid new it

-- a writer before it sends that nothing more comes
pub record Written (old new : SeatView) (sent_old sent_new : List Piece) (flows : Bool) (it : WorkEnd) : Type 0 where
  pub more : List Entry
  pub given : List Input
  pub goes : Goes old new more given
  pub names : (given ≡ connect ∷ []) ⊎ ((given ≡ []) × IsEarly it)
  pub first : NamesFirst more
  pub front : List Term
  pub rest : List Term
  pub told : does more ≡ front ++ rest
  pub sent : sent_new ≡ sent_old ++ pieces front false
  pub whole : flows ≡ true → rest ≡ []
  pub marks : Marks old new it
  pub ends : PipeEnds (WriterFull old new more given) new it
