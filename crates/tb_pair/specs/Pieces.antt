-- The pieces of a pipe: terms, and then perhaps the last piece, that nothing more comes.
use Rattle.std.specs.Prelude.{Bool, true, false, List, [], ◌∷◌}
use Rattle.tb_terms.specs.declared.term.Term.{Term}
use Rattle.tb_pair.specs.declared.piece.Piece.{Piece}
use Rattle.tb_pair.specs.declared.piece.Piece.TheVariants.{Told, Last}

-- these terms, and then the last piece if `true`
abbrev pub pieces : List Term → Bool → List Piece
pieces [] false = []
pieces [] true = Last ∷ []
pieces (t ∷ ts) last = Told t ∷ pieces ts last
