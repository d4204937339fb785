-- One more pattern's text, joined to those before it; and the type of a list.
use Rattle.std.proofs.Common.{◌≡◌, ℕ, zero, suc, ◌+◌, ◌<◌, List, [], ◌∷◌, ◌++◌, map, length, get_or, take, refl, ap, sym, ◌∙◌, arith, append_assoc, add-one}
use Rattle.std.proofs.Math.Seq.{take-suc}
use Rattle.std.proofs.lemmas.List.{map-append}
use Rattle.tb_terms.specs.Texts.{joined}
use Rattle.tb_terms.specs.Helpers.Prefixes.{comma_before}
use Rattle.tb_terms.specs.declared.pattern.Pattern.{Pattern}
use Rattle.tb_iface.specs.PatternTexts.{pattern_text}

-- after texts of which there is one at least
joined-push : (x : List ℕ) (xs : List (List ℕ)) (y : List ℕ) → joined (x ∷ xs ++ y ∷ []) ≡ joined (x ∷ xs) ++ (44 ∷ y)
joined-push x [] y = refl
joined-push x (z ∷ zs) y = ap (λ t. x ++ (44 ∷ t)) (joined-push z zs y) ∙ sym (append_assoc x (44 ∷ joined (z ∷ zs)) (44 ∷ y))

joined-turn : (ps : List Pattern) (i : ℕ) (d : Pattern) → i < length ps → joined (map pattern_text (take (suc i) ps)) ≡ joined (map pattern_text (take i ps)) ++ (comma_before i ++ pattern_text (get_or ps i d))
joined-turn [] i d h = absurd (omega arith)
joined-turn (p ∷ ps) zero d h = refl
joined-turn (p ∷ ps) (suc i) d h =
    let below : i < length ps = omega arith in
    ap (λ us. joined (pattern_text p ∷ map pattern_text us)) (take-suc ps i d below)
    ∙ ap (λ us. joined (pattern_text p ∷ us)) (map-append pattern_text (take i ps) (get_or ps i d ∷ []))
    ∙ joined-push (pattern_text p) (map pattern_text (take i ps)) (pattern_text (get_or ps i d))

-- the step of a loop that writes texts, each after its comma
pub joined-more : (a b e f : List ℕ) (ps : List Pattern) (i : ℕ) (p : Pattern) → b ≡ a ++ joined (map pattern_text (take i ps)) → e ≡ b ++ comma_before i → f ≡ e ++ pattern_text p → i < length ps → p ≡ get_or ps i p → f ≡ a ++ joined (map pattern_text (take (i + 1) ps))
joined-more a b e f ps i p hb he hf below at =
    let parts = joined (map pattern_text (take i ps)) in
    let turn : joined (map pattern_text (take (suc i) ps)) ≡ parts ++ (comma_before i ++ pattern_text p) =
    joined-turn ps i p below ∙ ap (λ u. parts ++ (comma_before i ++ pattern_text u)) (sym at) in
    rw (add-one, turn, hf, he, hb) (append_assoc (a ++ parts) (comma_before i) (pattern_text p) ∙ append_assoc a parts (comma_before i ++ pattern_text p))
