-- The effect of putting a piece into the pipe.
use Rattle.std.specs.Prelude.{◌≡◌, Bool, true, List, [], ◌∷◌, ◌++◌, MatchBool}
use Rattle.rtrb.specs.Ring.{sent}
use Rattle.tb_pair.specs.declared.piece.Piece.{Piece}
use Rattle.tb_pair.specs.declared.pipe.PipeIn.{PipeIn}

-- It went in, or the pipe is shut from now on. A pipe that was shut stays so.
abbrev pub GoesIn : Bool → Bool → List Piece → List Piece → Piece → Type 0
GoesIn flows flows' sent_old sent_new piece = MatchBool flows' ((flows ≡ true) × (sent_new ≡ sent_old ++ piece ∷ [])) (sent_new ≡ sent_old)

abbrev pub Puts : PipeIn → PipeIn → Piece → Type 0
Puts old new piece = GoesIn old.flows new.flows (sent old.end) (sent new.end) piece
