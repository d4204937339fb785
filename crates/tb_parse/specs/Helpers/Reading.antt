-- The tokens before a reader, and the results of functions that read.
use Rattle.std.specs.Prelude.{◌≡◌, ℕ, ◌+◌, List, Bool, Result, Ok, Err, if◌then◌else◌}
use Rattle.tb_lex.specs.declared.kind.TokenKind.{TokenKind}
use Rattle.tb_parse.specs.declared.fault.ParseFault.{ParseFault}
use Rattle.tb_parse.specs.declared.fault.ParseFault.TheVariants as fault
use Rattle.tb_parse.specs.Helpers.Parsing.{Outcome, Found, Stops, Parser, begins, tail}

-- the position of the next token, and the tokens from there
pub record Ahead : Type 0 where
  pub at : ℕ
  pub kinds : List TokenKind

-- the outcome of a parser from there
abbrev pub runs : {A : Type 0} → Parser A → Ahead → Outcome A
runs parser ahead = parser ahead.at ahead.kinds

abbrev pub next : Ahead → Ahead
next ahead = record { at = ahead.at + 1; kinds = tail ahead.kinds }

-- the rest after the first token if this token passes the test; otherwise, all tokens
abbrev pub eaten : (TokenKind → Bool) → Ahead → Ahead
eaten test ahead = if begins test ahead.kinds then next ahead else ahead

-- the error is the position at which the parser stops; `NoMemory` makes no claim
abbrev pub StopsWith : {A : Type 0} → Outcome A → ParseFault → Type 0
StopsWith outcome (fault.Syntax position) = outcome ≡ Stops position
StopsWith outcome (fault.TooDeep position) = ⊥
StopsWith outcome fault.NoMemory = Unit {0}

-- the result is what the parser finds, and the reader is after it; or the error is the position at which the parser stops
abbrev pub Meets : {A : Type 0} → Outcome A → Result A ParseFault → Ahead → Type 0
Meets outcome (Ok x) ahead = outcome ≡ Found x ahead.at ahead.kinds
Meets outcome (Err e) ahead = StopsWith outcome e
