-- The tokens of a term, in the order of its text.
use Rattle.std.specs.Prelude.{ℕ, List, [], ◌∷◌, ◌++◌}
use Rattle.std.specs.List.{flat_map}
use Rattle.tb_terms.specs.declared.term.Term.{Term}
use Rattle.tb_terms.specs.declared.term.Term.TheOpen.{Term-F}
use Rattle.tb_terms.specs.declared.term.Term.TheOpen as layer
use Rattle.tb_terms.specs.declared.term.Term.TheFolds.{fold-Term}
use Rattle.tb_read.specs.declared.token.Token.{Token}
use Rattle.tb_read.specs.declared.token.Token.TheVariants.{Int, Str, Name, LeftParen, RightParen, LeftBracket, RightBracket, Comma}

abbrev pub after_comma : List Token → List Token
after_comma tokens = Comma ∷ tokens

-- the tokens of the parts, joined by commas
abbrev pub with_commas : List (List Token) → List Token
with_commas [] = []
with_commas (part ∷ parts) = part ++ flat_map after_comma parts

-- the tokens of a name with arguments, given the tokens of these: without arguments, the name alone
abbrev pub appl_tokens : List ℕ → List (List Token) → List Token
appl_tokens name [] = Name name ∷ []
appl_tokens name (part ∷ parts) = Name name ∷ LeftParen ∷ with_commas (part ∷ parts) ++ RightParen ∷ []

abbrev pub list_tokens : List (List Token) → List Token
list_tokens parts = LeftBracket ∷ with_commas parts ++ RightBracket ∷ []

-- the tokens of one node, given the tokens of its parts
abbrev pub tokens_step : Term-F (List Token) → List Token
tokens_step (layer.Int number) = Int number ∷ []
tokens_step (layer.Str bytes) = Str bytes ∷ []
tokens_step (layer.Appl name parts) = appl_tokens name parts
tokens_step (layer.List parts) = list_tokens parts

abbrev pub tokens_of : Term → List Token
tokens_of = fold-Term (List Token) tokens_step
