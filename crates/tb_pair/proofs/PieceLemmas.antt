-- What goes through a pipe comes out in order.
use Rattle.std.proofs.Common.{◌≡◌, List, [], ◌∷◌, ◌++◌, Bool, true, false, refl, ap, ◌∙◌}
use Rattle.tb_terms.specs.declared.term.Term.{Term}
use Rattle.tb_pair.specs.declared.piece.Piece.{Piece}
use Rattle.tb_pair.specs.declared.piece.Piece.TheVariants.{Told}
use Rattle.tb_pair.specs.Pieces.{pieces}

pub pieces-append : (front back : List Term) (last : Bool) → pieces front false ++ pieces back last ≡ pieces (front ++ back) last
pieces-append [] back last = refl
pieces-append (t ∷ ts) back last = ap (λ (ps : List Piece). Told t ∷ ps) (pieces-append ts back last)

-- If pieces are a prefix of pieces, their terms are a prefix of the terms. After the piece that says that nothing more comes, there is none.
pub record StandFirst (one other : List Term) (ends others_end : Bool) : Type 0 where
  pub more : List Term
  pub is : other ≡ one ++ more
  pub whole : ends ≡ true → more ≡ []
  pub said : ends ≡ true → others_end ≡ true

pub stand_first : (one other : List Term) (ends others_end : Bool) (rest : List Piece) → pieces one ends ++ rest ≡ pieces other others_end → StandFirst one other ends others_end
stand_first [] other false others_end rest e = record { more = other; is = refl; whole = λ h. absurd cc; said = λ h. absurd cc }
stand_first [] [] true true rest e = record { more = []; is = refl; whole = λ h. refl; said = λ h. refl }
stand_first [] [] true false rest e = absurd cc
stand_first [] (u ∷ us) true others_end rest e = absurd cc
stand_first (t ∷ ts) [] ends true rest e = absurd cc
stand_first (t ∷ ts) [] ends false rest e = absurd cc
stand_first (t ∷ ts) (u ∷ us) ends others_end rest e =
    let head : u ≡ t = cc in
    let tail : pieces ts ends ++ rest ≡ pieces us others_end = cc in
    let s = stand_first ts us ends others_end rest tail in
    record {
      more = s.more;
      is = ap (λ (x : Term). x ∷ us) head ∙ ap (λ (xs : List Term). t ∷ xs) s.is;
      whole = s.whole;
      said = s.said;
    }
