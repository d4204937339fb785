-- The invariants of a token's parts: a number has 64 bits; a string or a name has the form that its type requires.
use Rattle.std.specs.Prelude.{Bool, true}
use Rattle.tb_terms.specs.Names.{is_name, is_ident, is_string}
use Rattle.tb_terms.specs.Proper.{has_64_bits}
use Rattle.tb_lex.specs.declared.kind.TokenKind.{TokenKind}
use Rattle.tb_lex.specs.declared.kind.TokenKind.TheVariants.{Int, Str, Lower, Upper, Symbol as Sign}

abbrev pub is_proper_kind : TokenKind → Bool
is_proper_kind (Int number) = has_64_bits number
is_proper_kind (Str text) = is_string text
is_proper_kind (Lower name) = is_name name
is_proper_kind (Upper name) = is_ident name
is_proper_kind (Sign symbol) = true
