-- The steps of loops that add elements, with or without commas between them.
use Rattle.std.proofs.Common.{◌≡◌, ℕ, zero, suc, ◌+◌, ◌<◌, List, [], ◌∷◌, ◌++◌, map, length, get_or, take, refl, ap, sym, ◌∙◌, arith, append_assoc, add-one}
use Rattle.std.proofs.Math.Seq.{take-suc}
use Rattle.std.proofs.lemmas.List.{map-append}
use Rattle.tb_lex.specs.declared.kind.TokenKind.{TokenKind}
use Rattle.tb_lex.specs.declared.kind.TokenKind.TheVariants.{Symbol as Sign}
use Rattle.tb_lex.specs.declared.symbol.Symbol.TheVariants.{Comma}
use Rattle.tb_syntax.specs.Helpers.Canonical.{parted, comma_before}

parted-push : (x : List TokenKind) (xs : List (List TokenKind)) (y : List TokenKind) → parted (x ∷ xs ++ y ∷ []) ≡ parted (x ∷ xs) ++ (Sign Comma ∷ y)
parted-push x [] y = refl
parted-push x (z ∷ zs) y = ap (λ t. x ++ (Sign Comma ∷ t)) (parted-push z zs y) ∙ sym (append_assoc x (Sign Comma ∷ parted (z ∷ zs)) (Sign Comma ∷ y))

parted-turn : {A : Type 0} (f : A → List TokenKind) (xs : List A) (i : ℕ) (d : A) → i < length xs → parted (map f (take (suc i) xs)) ≡ parted (map f (take i xs)) ++ (comma_before i ++ f (get_or xs i d))
parted-turn f [] i d h = absurd (omega arith)
parted-turn f (x ∷ xs) zero d h = refl
parted-turn f (x ∷ xs) (suc i) d h =
    let below : i < length xs = omega arith in
    ap (λ ys. parted (f x ∷ map f ys)) (take-suc xs i d below)
    ∙ ap (λ ys. parted (f x ∷ ys)) (map-append f (take i xs) (get_or xs i d ∷ []))
    ∙ parted-push (f x) (map f (take i xs)) (f (get_or xs i d))

-- the step of a loop that adds elements with commas between them
pub parted-more : {A : Type 0} (f : A → List TokenKind) (a b e g : List TokenKind) (xs : List A) (i : ℕ) (x : A) → b ≡ a ++ parted (map f (take i xs)) → e ≡ b ++ comma_before i → g ≡ e ++ f x → i < length xs → x ≡ get_or xs i x → g ≡ a ++ parted (map f (take (i + 1) xs))
parted-more f a b e g xs i x hb he hg below at =
    let parts = parted (map f (take i xs)) in
    let turn : parted (map f (take (suc i) xs)) ≡ parts ++ (comma_before i ++ f x) =
    parted-turn f xs i x below ∙ ap (λ u. parts ++ (comma_before i ++ f u)) (sym at) in
    rw (add-one, turn, hg, he, hb) (append_assoc (a ++ parts) (comma_before i) (f x) ∙ append_assoc a parts (comma_before i ++ f x))
