-- The size and the depth of a term are those of its tokens.
use Rattle.std.proofs.Common.{◌≡◌, ℕ, ℤ, ◌+◌, ◌-◌, List, [], ◌∷◌, ◌++◌, map, length, sum, max, fold, refl, ap, sym, ◌∙◌, append_assoc, append-nil, arith}
use Rattle.std.specs.List.{flat_map, AllByRecursion}
use Rattle.std.proofs.lemmas.List.Sums.{sum_by-append, sum_by-cons}
use Rattle.tb_terms.specs.declared.term.Term.{Term}
use Rattle.tb_terms.specs.declared.term.Term.TheVariants as term
use Rattle.tb_terms.specs.Sizes.{term_size, size_step, term_levels, levels_step, greatest}
use Rattle.tb_terms.proofs.Induction.{term_induction, fold-Int, fold-Str, fold-Appl, fold-List}
use Rattle.tb_read.specs.declared.token.Token.{Token}
use Rattle.tb_read.specs.declared.token.Token.TheVariants as token
use Rattle.tb_read.specs.Tokens.{tokens_of, with_commas, after_comma}
use Rattle.tb_read.specs.Helpers.Limits.{tokens_size, token_size, tokens_levels}
use Rattle.tb_read.proofs.Terms.{tokens-Int, tokens-Str, tokens-Appl, tokens-List}

abbrev Sized : Term → Type 0
Sized t = tokens_size (tokens_of t) ≡ term_size t

size-further : (ts : List Term) → AllByRecursion Sized ts → tokens_size (flat_map after_comma (map tokens_of ts)) ≡ sum (map term_size ts)
size-further [] all = refl
size-further (t ∷ ts) all =
    let rest = flat_map after_comma (map tokens_of ts) in
    let cut : tokens_size ((token.Comma ∷ tokens_of t) ++ rest) ≡ tokens_size (token.Comma ∷ tokens_of t) + tokens_size rest = sum_by-append token_size (token.Comma ∷ tokens_of t) rest in
    let head : tokens_size (token.Comma ∷ tokens_of t) ≡ 0 + tokens_size (tokens_of t) = sum_by-cons token_size token.Comma (tokens_of t) in
    let whole : sum (term_size t ∷ map term_size ts) ≡ term_size t + sum (map term_size ts) = sum_by-cons (λ x. x) (term_size t) (map term_size ts) in
    let here : tokens_size (tokens_of t) ≡ term_size t = all.0 in
    let others : tokens_size rest ≡ sum (map term_size ts) = size-further ts all.1 in
    omega arith

size-Appl : (n : List ℕ) (ts : List Term) → AllByRecursion Sized ts → Sized (term.Appl n ts)
size-Appl n [] all =
    let e : tokens_size (tokens_of (term.Appl n [])) ≡ 0 + (1 + length n) = ap tokens_size (tokens-Appl n []) in
    let made : term_size (term.Appl n []) ≡ 1 + length n + 0 = fold-Appl ℕ size_step n [] in
    omega arith
size-Appl n (t ∷ ts) all =
    let rest = flat_map after_comma (map tokens_of ts) in
    let inner = tokens_of t ++ rest in
    let e : tokens_size (tokens_of (term.Appl n (t ∷ ts))) ≡ tokens_size ((token.Name n ∷ token.LeftParen ∷ inner) ++ (token.RightParen ∷ [])) = ap tokens_size (tokens-Appl n (t ∷ ts)) in
    let cut : tokens_size ((token.Name n ∷ token.LeftParen ∷ inner) ++ (token.RightParen ∷ [])) ≡ tokens_size (token.Name n ∷ token.LeftParen ∷ inner) + 0 = sum_by-append token_size (token.Name n ∷ token.LeftParen ∷ inner) (token.RightParen ∷ []) in
    let head : tokens_size (token.Name n ∷ token.LeftParen ∷ inner) ≡ (1 + length n) + tokens_size (token.LeftParen ∷ inner) = sum_by-cons token_size (token.Name n) (token.LeftParen ∷ inner) in
    let paren : tokens_size (token.LeftParen ∷ inner) ≡ 0 + tokens_size inner = sum_by-cons token_size token.LeftParen inner in
    let parts : tokens_size inner ≡ tokens_size (tokens_of t) + tokens_size rest = sum_by-append token_size (tokens_of t) rest in
    let here : tokens_size (tokens_of t) ≡ term_size t = all.0 in
    let others : tokens_size rest ≡ sum (map term_size ts) = size-further ts all.1 in
    let whole : sum (term_size t ∷ map term_size ts) ≡ term_size t + sum (map term_size ts) = sum_by-cons (λ x. x) (term_size t) (map term_size ts) in
    let made : term_size (term.Appl n (t ∷ ts)) ≡ 1 + length n + sum (term_size t ∷ map term_size ts) = fold-Appl ℕ size_step n (t ∷ ts) in
    omega arith

size-List : (ts : List Term) → AllByRecursion Sized ts → Sized (term.List ts)
size-List [] all = ap tokens_size (tokens-List []) ∙ sym (fold-List ℕ size_step [])
size-List (t ∷ ts) all =
    let rest = flat_map after_comma (map tokens_of ts) in
    let inner = tokens_of t ++ rest in
    let e : tokens_size (tokens_of (term.List (t ∷ ts))) ≡ tokens_size ((token.LeftBracket ∷ inner) ++ (token.RightBracket ∷ [])) = ap tokens_size (tokens-List (t ∷ ts)) in
    let cut : tokens_size ((token.LeftBracket ∷ inner) ++ (token.RightBracket ∷ [])) ≡ tokens_size (token.LeftBracket ∷ inner) + 0 = sum_by-append token_size (token.LeftBracket ∷ inner) (token.RightBracket ∷ []) in
    let head : tokens_size (token.LeftBracket ∷ inner) ≡ 1 + tokens_size inner = sum_by-cons token_size token.LeftBracket inner in
    let parts : tokens_size inner ≡ tokens_size (tokens_of t) + tokens_size rest = sum_by-append token_size (tokens_of t) rest in
    let here : tokens_size (tokens_of t) ≡ term_size t = all.0 in
    let others : tokens_size rest ≡ sum (map term_size ts) = size-further ts all.1 in
    let whole : sum (term_size t ∷ map term_size ts) ≡ term_size t + sum (map term_size ts) = sum_by-cons (λ x. x) (term_size t) (map term_size ts) in
    let made : term_size (term.List (t ∷ ts)) ≡ 1 + sum (term_size t ∷ map term_size ts) = fold-List ℕ size_step (t ∷ ts) in
    omega arith

pub tokens_size-tokens_of : (t : Term) → Sized t
tokens_size-tokens_of = term_induction Sized leaf-Int leaf-Str size-Appl size-List where
  leaf-Int : (n : ℤ) → Sized (term.Int n)
  leaf-Int n = ap tokens_size (tokens-Int n) ∙ sym (fold-Int ℕ size_step n)

  leaf-Str : (s : List ℕ) → Sized (term.Str s)
  leaf-Str s =
      let e : tokens_size (tokens_of (term.Str s)) ≡ 0 + (1 + length s) = ap tokens_size (tokens-Str s) in
      let made : term_size (term.Str s) ≡ 1 + length s = fold-Str ℕ size_step s in
      omega arith

-- the greatest of numbers, from a first number on
greatest-from : (a : ℕ) (xs : List ℕ) → fold max a xs ≡ max a (greatest xs)
greatest-from a [] = omega arith
greatest-from a (x ∷ xs) =
    let l : fold max (max a x) xs ≡ max (max a x) (greatest xs) = greatest-from (max a x) xs in
    let r : fold max (max 0 x) xs ≡ max (max 0 x) (greatest xs) = greatest-from (max 0 x) xs in
    omega arith

greatest-cons : (x : ℕ) (xs : List ℕ) → greatest (x ∷ xs) ≡ max x (greatest xs)
greatest-cons x xs =
    let r : fold max (max 0 x) xs ≡ max (max 0 x) (greatest xs) = greatest-from (max 0 x) xs in
    omega arith

-- the tokens of the term have its depth, within any number of open brackets
abbrev Levelled : Term → Type 0
Levelled t = (nested : ℕ) (ks : List Token) → tokens_levels nested (tokens_of t ++ ks) ≡ max (nested + term_levels t) (tokens_levels nested ks)

-- the deepest level of terms within this number of open brackets
deepest : ℕ → List Term → ℕ
deepest nested [] = 0
deepest nested (t ∷ ts) = max (nested + term_levels t) (deepest nested ts)

level-further : (ts : List Term) → AllByRecursion Levelled ts → (nested : ℕ) (ks : List Token) → tokens_levels nested (flat_map after_comma (map tokens_of ts) ++ ks) ≡ max (deepest nested ts) (tokens_levels nested ks)
unfolding deepest
level-further [] all nested ks = omega arith
level-further (t ∷ ts) all nested ks =
    let rest = flat_map after_comma (map tokens_of ts) in
    let regrouped : tokens_levels nested ((tokens_of t ++ rest) ++ ks) ≡ tokens_levels nested (tokens_of t ++ (rest ++ ks)) = ap (tokens_levels nested) (append_assoc (tokens_of t) rest ks) in
    let here : tokens_levels nested (tokens_of t ++ (rest ++ ks)) ≡ max (nested + term_levels t) (tokens_levels nested (rest ++ ks)) = all.0 nested (rest ++ ks) in
    let others : tokens_levels nested (rest ++ ks) ≡ max (deepest nested ts) (tokens_levels nested ks) = level-further ts all.1 nested ks in
    omega arith

level-parts : (t : Term) (ts : List Term) → AllByRecursion Levelled (t ∷ ts) → (nested : ℕ) (ks : List Token) → tokens_levels nested (with_commas (map tokens_of (t ∷ ts)) ++ ks) ≡ max (deepest nested (t ∷ ts)) (tokens_levels nested ks)
unfolding deepest
level-parts t ts all nested ks =
    let rest = flat_map after_comma (map tokens_of ts) in
    let regrouped : tokens_levels nested ((tokens_of t ++ rest) ++ ks) ≡ tokens_levels nested (tokens_of t ++ (rest ++ ks)) = ap (tokens_levels nested) (append_assoc (tokens_of t) rest ks) in
    let here : tokens_levels nested (tokens_of t ++ (rest ++ ks)) ≡ max (nested + term_levels t) (tokens_levels nested (rest ++ ks)) = all.0 nested (rest ++ ks) in
    let others : tokens_levels nested (rest ++ ks) ≡ max (deepest nested ts) (tokens_levels nested ks) = level-further ts all.1 nested ks in
    omega arith

-- one level more for the node around the terms
deepest-within : (ts : List Term) (nested : ℕ) → max (nested + 1) (deepest (nested + 1) ts) ≡ nested + (1 + greatest (map term_levels ts))
unfolding deepest
deepest-within [] nested = omega arith
deepest-within (t ∷ ts) nested =
    let rest : max (nested + 1) (deepest (nested + 1) ts) ≡ nested + (1 + greatest (map term_levels ts)) = deepest-within ts nested in
    let prefix : greatest (term_levels t ∷ map term_levels ts) ≡ max (term_levels t) (greatest (map term_levels ts)) = greatest-cons (term_levels t) (map term_levels ts) in
    omega arith

level-Appl : (n : List ℕ) (ts : List Term) → AllByRecursion Levelled ts → Levelled (term.Appl n ts)
level-Appl n [] all nested ks =
    let e : tokens_levels nested (tokens_of (term.Appl n []) ++ ks) ≡ max (nested + 1) (tokens_levels nested ks) = ap (λ l. tokens_levels nested (l ++ ks)) (tokens-Appl n []) in
    let made : term_levels (term.Appl n []) ≡ 1 = fold-Appl ℕ levels_step n [] in
    omega arith
level-Appl n (t ∷ ts) all nested ks =
    let inner = with_commas (map tokens_of (t ∷ ts)) in
    let e : tokens_levels nested (tokens_of (term.Appl n (t ∷ ts)) ++ ks) ≡ max (nested + 1) (max 0 (tokens_levels (nested + 1) ((inner ++ (token.RightParen ∷ [])) ++ ks))) = ap (λ l. tokens_levels nested (l ++ ks)) (tokens-Appl n (t ∷ ts)) in
    let regrouped : tokens_levels (nested + 1) ((inner ++ (token.RightParen ∷ [])) ++ ks) ≡ tokens_levels (nested + 1) (inner ++ (token.RightParen ∷ ks)) = ap (tokens_levels (nested + 1)) (append_assoc inner (token.RightParen ∷ []) ks) in
    let parts : tokens_levels (nested + 1) (inner ++ (token.RightParen ∷ ks)) ≡ max (deepest (nested + 1) (t ∷ ts)) (tokens_levels (nested + 1) (token.RightParen ∷ ks)) = level-parts t ts all (nested + 1) (token.RightParen ∷ ks) in
    let back : nested + 1 - 1 ≡ nested = omega arith in
    let closes : tokens_levels (nested + 1) (token.RightParen ∷ ks) ≡ max 0 (tokens_levels nested ks) = ap (λ m. max 0 (tokens_levels m ks)) back in
    let made : term_levels (term.Appl n (t ∷ ts)) ≡ 1 + greatest (map term_levels (t ∷ ts)) = fold-Appl ℕ levels_step n (t ∷ ts) in
    let depth : max (nested + 1) (deepest (nested + 1) (t ∷ ts)) ≡ nested + (1 + greatest (map term_levels (t ∷ ts))) = deepest-within (t ∷ ts) nested in
    omega arith

level-List : (ts : List Term) → AllByRecursion Levelled ts → Levelled (term.List ts)
level-List [] all nested ks =
    let back : nested + 1 - 1 ≡ nested = omega arith in
    let e : tokens_levels nested (tokens_of (term.List []) ++ ks) ≡ max (nested + 1) (max 0 (tokens_levels (nested + 1 - 1) ks)) = ap (λ l. tokens_levels nested (l ++ ks)) (tokens-List []) in
    let closes : tokens_levels (nested + 1 - 1) ks ≡ tokens_levels nested ks = ap (λ m. tokens_levels m ks) back in
    let made : term_levels (term.List []) ≡ 1 = fold-List ℕ levels_step [] in
    omega arith
level-List (t ∷ ts) all nested ks =
    let inner = with_commas (map tokens_of (t ∷ ts)) in
    let e : tokens_levels nested (tokens_of (term.List (t ∷ ts)) ++ ks) ≡ max (nested + 1) (tokens_levels (nested + 1) ((inner ++ (token.RightBracket ∷ [])) ++ ks)) = ap (λ l. tokens_levels nested (l ++ ks)) (tokens-List (t ∷ ts)) in
    let regrouped : tokens_levels (nested + 1) ((inner ++ (token.RightBracket ∷ [])) ++ ks) ≡ tokens_levels (nested + 1) (inner ++ (token.RightBracket ∷ ks)) = ap (tokens_levels (nested + 1)) (append_assoc inner (token.RightBracket ∷ []) ks) in
    let parts : tokens_levels (nested + 1) (inner ++ (token.RightBracket ∷ ks)) ≡ max (deepest (nested + 1) (t ∷ ts)) (tokens_levels (nested + 1) (token.RightBracket ∷ ks)) = level-parts t ts all (nested + 1) (token.RightBracket ∷ ks) in
    let back : nested + 1 - 1 ≡ nested = omega arith in
    let closes : tokens_levels (nested + 1) (token.RightBracket ∷ ks) ≡ max 0 (tokens_levels nested ks) = ap (λ m. max 0 (tokens_levels m ks)) back in
    let made : term_levels (term.List (t ∷ ts)) ≡ 1 + greatest (map term_levels (t ∷ ts)) = fold-List ℕ levels_step (t ∷ ts) in
    let depth : max (nested + 1) (deepest (nested + 1) (t ∷ ts)) ≡ nested + (1 + greatest (map term_levels (t ∷ ts))) = deepest-within (t ∷ ts) nested in
    omega arith

levelled : (t : Term) → Levelled t
levelled = term_induction Levelled leaf-Int leaf-Str level-Appl level-List where
  leaf-Int : (n : ℤ) → Levelled (term.Int n)
  leaf-Int n nested ks =
      let e : tokens_levels nested (tokens_of (term.Int n) ++ ks) ≡ max (nested + 1) (tokens_levels nested ks) = ap (λ l. tokens_levels nested (l ++ ks)) (tokens-Int n) in
      let made : term_levels (term.Int n) ≡ 1 = fold-Int ℕ levels_step n in
      omega arith

  leaf-Str : (s : List ℕ) → Levelled (term.Str s)
  leaf-Str s nested ks =
      let e : tokens_levels nested (tokens_of (term.Str s) ++ ks) ≡ max (nested + 1) (tokens_levels nested ks) = ap (λ l. tokens_levels nested (l ++ ks)) (tokens-Str s) in
      let made : term_levels (term.Str s) ≡ 1 = fold-Str ℕ levels_step s in
      omega arith

pub tokens_levels-tokens_of : (t : Term) → tokens_levels 0 (tokens_of t) ≡ term_levels t
tokens_levels-tokens_of t =
    let e : tokens_levels 0 (tokens_of t ++ []) ≡ max (0 + term_levels t) (tokens_levels 0 []) = levelled t 0 [] in
    let n : tokens_levels 0 (tokens_of t ++ []) ≡ tokens_levels 0 (tokens_of t) = ap (tokens_levels 0) (append-nil (tokens_of t)) in
    omega arith
