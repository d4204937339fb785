-- The height of a process body, the number of open brackets, and the first definition or token beyond each limit.
use Rattle.std.specs.Prelude.{ℕ, ◌+◌, ◌-◌, ◌<◌, ◌≤◌, Bool, true, false, nat_lt, List, [], ◌∷◌, length, take, fold, max, find, option_map, unwrap_or, Option, codes, if◌then◌else◌}
use Rattle.tb_lex.specs.declared.kind.TokenKind.{TokenKind}
use Rattle.tb_lex.specs.declared.kind.TokenKind.TheVariants.{Int, Str, Lower, Upper, Symbol as Sign}
use Rattle.tb_lex.specs.declared.symbol.Symbol.{Symbol}
use Rattle.tb_lex.specs.declared.symbol.Symbol.TheVariants as sign
use Rattle.tb_syntax.specs.declared.proc.Proc.{Proc}
use Rattle.tb_syntax.specs.declared.proc.Proc.TheOpen.{Proc-F, Atom, Call, Seq, Alt, Star, Par, Disrupt, If, Let}
use Rattle.tb_syntax.specs.declared.proc.Proc.TheFolds.{fold-Proc}
use Rattle.tb_syntax.specs.declared.script.ProcDef.{ProcDef}
use Rattle.tb_syntax.specs.Words.{is_among}

-- an atom or a call has height 1; each other construct is 1 higher than its highest part
abbrev pub height_step : Proc-F ℕ → ℕ
height_step (Atom atom) = 1
height_step (Call call) = 1
height_step (Seq x y) = 1 + max x y
height_step (Alt x y) = 1 + max x y
height_step (Star x y) = 1 + max x y
height_step (Par x y) = 1 + max x y
height_step (Disrupt x y) = 1 + max x y
height_step (If test x y) = 1 + max x (unwrap_or y 0)
height_step (Let vars x) = 1 + x

abbrev pub height : Proc → ℕ
height = fold-Proc ℕ height_step

-- the greatest height of a process body
abbrev pub most_height : ℕ
most_height = 400

abbrev pub is_too_high : ProcDef → Bool
is_too_high definition = nat_lt most_height (height definition.body)

-- the position of the first definition whose body is too high
abbrev pub first_too_high : List ProcDef → Option ℕ
first_too_high definitions = option_map (λ (definition : ProcDef). definition.token) (find is_too_high definitions)

-- `(`, `[`, `let`, and `if` open a bracket; `)`, `]`, `endlet`, and `fi` close one
abbrev pub opens : TokenKind → Bool
opens (Int number) = false
opens (Str text) = false
opens (Lower name) = is_among (codes "let" ∷ codes "if" ∷ []) name
opens (Upper name) = false
opens (Sign symbol) = is_opening symbol where
  is_opening : Symbol → Bool
  is_opening sign.LeftParen = true
  is_opening sign.LeftBracket = true
  is_opening _ = false

abbrev pub closes : TokenKind → Bool
closes (Int number) = false
closes (Str text) = false
closes (Lower name) = is_among (codes "endlet" ∷ codes "fi" ∷ []) name
closes (Upper name) = false
closes (Sign symbol) = is_closing symbol where
  is_closing : Symbol → Bool
  is_closing sign.RightParen = true
  is_closing sign.RightBracket = true
  is_closing _ = false

-- the number of open brackets after a token; a closing token changes nothing if none is open
abbrev pub open_step : ℕ → TokenKind → ℕ
open_step count kind = if opens kind then count + 1 else (if closes kind then count - 1 else count)

abbrev pub open_brackets : List TokenKind → ℕ
open_brackets kinds = fold open_step 0 kinds

-- the greatest number of open brackets
abbrev pub most_open : ℕ
most_open = 128

-- the position of the first token after which more brackets are open than the limit
pub record IsTooDeep (kinds : List TokenKind) (position : ℕ) : Type 0 where
  pub is_position : position < length kinds
  pub is_over : most_open < open_brackets (take (position + 1) kinds)
  pub none_before : (earlier : ℕ) → earlier < position → open_brackets (take (earlier + 1) kinds) ≤ most_open
