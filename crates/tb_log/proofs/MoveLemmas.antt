-- Terms that move from the end of one list to the end of another, and are then reversed.
use Rattle.std.proofs.Common.{◌≡◌, ℕ, List, [], ◌∷◌, ◌++◌, length, take, drop, reverse, ap, sym, ◌∙◌}
use Rattle.std.proofs.lemmas.List.{append_assoc, drop_at, reverse-append, reverse-reverse, take_at}

-- one more term moves
pub poured_on : {X : Type 0} (into after left all : List X) (x : X) → all ≡ left ++ x ∷ [] → after ≡ into ++ x ∷ [] → after ++ reverse left ≡ into ++ reverse all
poured_on into after left all x was put =
    ap (λ xs. xs ++ reverse left) put ∙ append_assoc into (x ∷ []) (reverse left) ∙ ap (λ xs. into ++ xs) (sym (ap reverse was ∙ reverse-append left (x ∷ [])))

-- after the reversal, the terms are in their original order
pub turned_back : {X : Type 0} (old more poured turned : List X) (from : ℕ) → from ≡ length old → poured ≡ old ++ reverse more → turned ≡ take from poured ++ reverse (drop from poured) → turned ≡ old ++ more
turned_back old more poured turned from long is turn =
    turn ∙ ap (λ xs. take from xs ++ reverse (drop from xs)) is
    ∙ ap (λ xs. xs ++ reverse (drop from (old ++ reverse more))) (take_at old (reverse more) from (sym long))
    ∙ ap (λ xs. old ++ reverse xs) (drop_at old (reverse more) from (sym long)) ∙ ap (λ xs. old ++ xs) (reverse-reverse more)
