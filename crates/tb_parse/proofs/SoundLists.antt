-- The tokens that are read as a list, with commas, in parentheses, or one after another, spell it.
use Rattle.std.proofs.Common.{ℕ, zero, suc, ◌+◌, List, [], ◌∷◌, ◌++◌, length, sym, subst, append-nil}
use Rattle.tb_lex.specs.declared.kind.TokenKind.{TokenKind}
use Rattle.tb_lex.specs.declared.symbol.Symbol.TheVariants.{LeftParen, RightParen, Comma}
use Rattle.tb_syntax.specs.Spelling.{Parted, InParens}
use Rattle.tb_parse.specs.Helpers.Parsing.{Parser, parted, in_parens, expect, is_sign, after, mapped}
use Rattle.tb_parse.proofs.Fits.{Fits, found, stops, opens, behind, mapping, with_sign, expect_sign}

-- a parser whose results are spelled by the tokens that it reads
abbrev pub Sound : {A : Type 0} → (ℕ → A → List TokenKind → Type 0) → Parser A → Type 0
Sound S item = (at : ℕ) (ks : List TokenKind) → Fits (S at) at ks (item at ks)

pub nothing_more : {A : Type 0} (S : A → List TokenKind → Type 0) (x : A) (xs : List TokenKind) → S x xs → S x (xs ++ [])
nothing_more S x xs s = subst (λ ys. S x ys) (sym (append-nil xs)) s

pub parted_sound : {A : Type 0} (S : ℕ → A → List TokenKind → Type 0) (item : Parser A) → Sound S item → (room : ℕ) → Sound (Parted S) (parted item room)
unfolding parted
parted_sound S item h zero at ks = let least = opens (h at []) in stops (least.0, least.1 ∷ [], Parted.last least.2)
parted_sound S item h (suc room) at ks = behind _ (h at ks) (λ x xs rest s.
    with_sign Comma (λ next ks. mapped (λ ys. x ∷ ys) (parted item room next ks))
    (λ rest. mapping _ (parted_sound S item h room (at + length xs + 1) rest) (λ ys zs t. Parted.more s t))
    (found (nothing_more (λ ys zs. Parted S at ys zs) (x ∷ []) xs (Parted.last s))))

pub in_parens_sound : {A : Type 0} (S : ℕ → A → List TokenKind → Type 0) (item : Parser A) → Sound S item → (room : ℕ) → Sound (InParens S) (in_parens item room)
unfolding in_parens
in_parens_sound S item h room at ks =
    with_sign LeftParen (λ next ks. after (parted item room next ks) (expect (is_sign RightParen)))
    (λ rest. behind _ (parted_sound S item h room (at + 1) rest) (λ xs zs rest t. expect_sign RightParen xs (InParens.some t)))
    (found (InParens.none at))
