-- The printed text of a script: its tokens spell the script, except for token positions.
use Rattle.std.specs.Prelude.{◌≡◌, ℕ, List}
use Rattle.tb_lex.specs.Tokens.{Lexes}
use Rattle.tb_lex.specs.declared.kind.TokenKind.{TokenKind}
use Rattle.tb_lex.specs.declared.token.Token.{Token}
use Rattle.tb_syntax.specs.declared.script.Script.{Script}
use Rattle.tb_syntax.specs.Spelling.{Spells, kinds_of}
use Rattle.tb_syntax.specs.Positions.{without_positions}

-- some tokens spell the script
abbrev pub IsSpelt : Script → Type 0
IsSpelt script = (kinds : List TokenKind) × Spells script kinds

-- the tokens spell the script, except for token positions
pub record SpellsButPositions (script : Script) (kinds : List TokenKind) : Type 0 where
  pub other : Script
  pub is_same : without_positions other ≡ without_positions script
  pub spells : Spells other kinds

pub record IsPrintOf (script : Script) (text : List ℕ) : Type 0 where
  pub tokens : List Token
  pub lexes : Lexes text tokens
  pub spells : SpellsButPositions script (kinds_of tokens)
