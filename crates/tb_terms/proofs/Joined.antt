-- One more text, joined to the texts before it, and the prefix that a failed write keeps.
use Rattle.std.proofs.Common.{◌≡◌, ℕ, zero, suc, ◌+◌, ◌<◌, List, [], ◌∷◌, ◌++◌, map, length, get_or, take, refl, ap, sym, ◌∙◌, arith, append_assoc, add-one, rules}
use Rattle.std.proofs.Math.Seq.{take-suc}
use Rattle.std.proofs.lemmas.List.{map-append}
use Rattle.tb_terms.specs.Texts.{term_text, joined}
use Rattle.tb_terms.specs.Helpers.Prefixes.{comma_before}
use Rattle.tb_terms.specs.declared.term.Term.{Term}

-- after at least one text
joined-push : (x : List ℕ) (xs : List (List ℕ)) (y : List ℕ) → joined (x ∷ xs ++ y ∷ []) ≡ joined (x ∷ xs) ++ (44 ∷ y)
joined-push x [] y = refl
joined-push x (z ∷ zs) y = ap (λ t. x ++ (44 ∷ t)) (joined-push z zs y) ∙ sym (append_assoc x (44 ∷ joined (z ∷ zs)) (44 ∷ y))

pub joined-turn : (ts : List Term) (i : ℕ) (d : Term) → i < length ts → joined (map term_text (take (suc i) ts)) ≡ joined (map term_text (take i ts)) ++ (comma_before i ++ term_text (get_or ts i d))
joined-turn [] i d h = absurd (omega arith)
joined-turn (t ∷ ts) zero d h = refl
joined-turn (t ∷ ts) (suc i) d h =
    let below : i < length ts = omega arith in
    ap (λ us. joined (term_text t ∷ map term_text us)) (take-suc ts i d below)
    ∙ ap (λ us. joined (term_text t ∷ us)) (map-append term_text (take i ts) (get_or ts i d ∷ []))
    ∙ joined-push (term_text t) (map term_text (take i ts)) (term_text (get_or ts i d))

-- the step of a loop that writes texts, each after its comma
pub joined-more : (a b e f : List ℕ) (ts : List Term) (i : ℕ) (t : Term) → b ≡ a ++ joined (map term_text (take i ts)) → e ≡ b ++ comma_before i → f ≡ e ++ term_text t → i < length ts → t ≡ get_or ts i t → f ≡ a ++ joined (map term_text (take (i + 1) ts))
joined-more a b e f ts i t hb he hf below at =
    let parts = joined (map term_text (take i ts)) in
    let turn : joined (map term_text (take (suc i) ts)) ≡ parts ++ (comma_before i ++ term_text t) =
    joined-turn ts i t below ∙ ap (λ u. parts ++ (comma_before i ++ term_text u)) (sym at) in
    rw (add-one, turn, hf, he, hb) (append_assoc (a ++ parts) (comma_before i) (term_text t) ∙ append_assoc a parts (comma_before i ++ term_text t))

-- bytes that keep a longer prefix keep a shorter one
kept_longer : (a more c : List ℕ) → take (length (a ++ more)) c ≡ a ++ more → take (length a) c ≡ a
kept_longer [] more c h = search rules
kept_longer (x ∷ a) more [] h = cc
kept_longer (x ∷ a) more (y ∷ c) h =
    let heads : y ≡ x = cc in
    let tails : take (length (a ++ more)) c ≡ a ++ more = cc in
    let rest : take (length a) c ≡ a = kept_longer a more c tails in
    cc

pub kept_through : (a more b c : List ℕ) → b ≡ a ++ more → take (length b) c ≡ b → take (length a) c ≡ a
kept_through a more b c e h = kept_longer a more c (rw e at h)
