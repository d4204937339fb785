-- Balanced parentheses, and the tokens that are a process in a pair of parentheses.
use Rattle.std.specs.Prelude.{◌≡◌, ℕ, ◌+◌, ◌<◌, ◌≤◌, Bool, true, false, List, length, take}
use Rattle.std.specs.List.{count_by}
use Rattle.tb_lex.specs.declared.kind.TokenKind.{TokenKind}
use Rattle.tb_lex.specs.declared.kind.TokenKind.TheVariants.{Symbol as Sign}
use Rattle.tb_lex.specs.declared.symbol.Symbol.TheVariants.{LeftParen, RightParen}
use Rattle.tb_syntax.specs.declared.level.Level.TheVariants as level
use Rattle.tb_syntax.specs.declared.proc.Proc.{Proc}
use Rattle.tb_syntax.specs.Spelling.{SpellsProc, in_parens}

abbrev pub is_left_paren : TokenKind → Bool
is_left_paren (Sign LeftParen) = true
is_left_paren _ = false

abbrev pub is_right_paren : TokenKind → Bool
is_right_paren (Sign RightParen) = true
is_right_paren _ = false

abbrev pub left_parens : List TokenKind → ℕ
left_parens kinds = count_by is_left_paren kinds

abbrev pub right_parens : List TokenKind → ℕ
right_parens kinds = count_by is_right_paren kinds

-- As many parentheses close as open, and no prefix of the tokens closes more than it opens.
pub record IsBalanced (kinds : List TokenKind) : Type 0 where
  pub all_close : right_parens kinds ≡ left_parens kinds
  pub none_early : (count : ℕ) → right_parens (take count kinds) ≤ left_parens (take count kinds)

-- As many parentheses close as open, and each prefix that is neither empty nor whole closes fewer than it opens. So a parenthesis
-- at the first token closes at the last.
pub record IsEnclosed (kinds : List TokenKind) : Type 0 where
  pub all_close : right_parens kinds ≡ left_parens kinds
  pub open_between : (count : ℕ) → 0 < count → count < length kinds → right_parens (take count kinds) < left_parens (take count kinds)

-- The tokens, which begin at this position, are a parenthesis, tokens that spell the process, and the parenthesis that closes the
-- first.
pub record StandsInParens (position : ℕ) (p : Proc) (kinds : List TokenKind) : Type 0 where
  pub inner : List TokenKind
  pub is : kinds ≡ in_parens inner
  pub spells : SpellsProc level.Proc (position + 1) p inner
  pub is_balanced : IsBalanced inner
  pub is_enclosed : IsEnclosed kinds
