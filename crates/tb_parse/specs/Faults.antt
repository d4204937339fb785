-- The tokens that are a script within the limits, and the error of all others. Brackets are checked first, then the grammar, then
-- heights.
use Rattle.std.specs.Prelude.{◌≡◌, ℕ, ◌+◌, ◌<◌, ◌≤◌, List, ◌++◌, length, take, Some, None, ◌⊎◌}
use Rattle.tb_lex.specs.declared.kind.TokenKind.{TokenKind}
use Rattle.tb_syntax.specs.declared.script.Script.{Script}
use Rattle.tb_syntax.specs.Limits.{most_open, open_brackets, IsTooDeep, first_too_high}
use Rattle.tb_syntax.specs.Spelling.{Spells}
use Rattle.tb_parse.specs.declared.fault.ParseFault.{ParseFault}
use Rattle.tb_parse.specs.declared.fault.ParseFault.TheVariants as fault

-- after each token, the number of open brackets is within the limit
abbrev pub NoneTooDeep : List TokenKind → Type 0
NoneTooDeep kinds = (position : ℕ) → position < length kinds → open_brackets (take (position + 1) kinds) ≤ most_open

-- the tokens spell the script, which is within the limits
pub record IsScriptOf (kinds : List TokenKind) (script : Script) : Type 0 where
  pub shallow : NoneTooDeep kinds
  pub spells : Spells script kinds
  pub low : first_too_high script.procs ≡ None

-- the tokens spell no script
abbrev pub IsUnspelt : List TokenKind → Type 0
IsUnspelt kinds = (script : Script) → Spells script kinds → ⊥

-- the spelling of some script begins with the tokens, even if that script isn't within the limits
abbrev pub Begins : List TokenKind → Type 0
Begins prefix = (more : List TokenKind) × (script : Script) × Spells script (prefix ++ more)

-- the tokens before the position begin the spelling of some script. With the token at the position, if there is one, they begin no
-- spelling.
pub record IsSyntaxFault (kinds : List TokenKind) (position : ℕ) : Type 0 where
  pub shallow : NoneTooDeep kinds
  pub unspelt : IsUnspelt kinds
  pub is_position : position ≤ length kinds
  pub begun : Begins (take position kinds)
  pub stops : position < length kinds → Begins (take (position + 1) kinds) → ⊥

-- the tokens spell a script, and this is the position of its first definition whose body is too high
pub record IsTooHigh (kinds : List TokenKind) (position : ℕ) : Type 0 where
  pub shallow : NoneTooDeep kinds
  pub script : Script
  pub spells : Spells script kinds
  pub first : first_too_high script.procs ≡ Some position

-- `NoMemory` can come at any time.
abbrev pub HasFault : List TokenKind → ParseFault → Type 0
HasFault kinds (fault.TooDeep position) = IsTooDeep kinds position ⊎ IsTooHigh kinds position
HasFault kinds (fault.Syntax position) = IsSyntaxFault kinds position
HasFault kinds fault.NoMemory = Unit {0}
