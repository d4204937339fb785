-- The marks of a sequence of atoms, part by part.
use Rattle.std.proofs.Common.{◌≡◌, List, ◌++◌}
use Rattle.std.proofs.lemmas.List.{map-append}
use Rattle.tb_lex.specs.declared.token.Token.{Token}
use Rattle.tb_syntax.specs.declared.proc.AtomDef.{AtomDef}
use Rattle.tb_source_map.specs.Sites.{mark_of_atom, marks_of}

pub marks_append : (tokens : List Token) (xs ys : List AtomDef) → marks_of tokens (xs ++ ys) ≡ marks_of tokens xs ++ marks_of tokens ys
marks_append tokens xs ys = map-append (mark_of_atom tokens) xs ys
