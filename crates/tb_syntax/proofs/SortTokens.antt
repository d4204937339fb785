-- The tokens that are printed for each kind of type.
use Rattle.std.proofs.Common.{◌≡◌, ℕ, List, sym, ap, ◌∙◌, codes}
use Rattle.tb_terms.specs.declared.sort.Sort.{Sort, out-Sort}
use Rattle.tb_terms.specs.declared.sort.Sort.TheVariants as sort
use Rattle.tb_terms.specs.declared.sort.Sort.TheVariants.{rolls-Bool, rolls-Int, rolls-Str, rolls-List, rolls-Any, rolls-Tool}
use Rattle.tb_terms.specs.declared.sort.Sort.TheOpen as layer
use Rattle.tb_terms.specs.declared.sort.Sort.TheFolds.{para-roll-Sort}
use Rattle.tb_lex.specs.declared.kind.TokenKind.{TokenKind}
use Rattle.tb_syntax.specs.Spelling.{word}
use Rattle.tb_syntax.specs.Helpers.Canonical.{sort_tokens, sort_step, list_tokens, is_any}

pub tokens_of_bool : sort_tokens sort.Bool ≡ word (codes "bool")
tokens_of_bool = ap sort_tokens (sym rolls-Bool) ∙ para-roll-Sort (List TokenKind) sort_step layer.Bool

pub tokens_of_int : sort_tokens sort.Int ≡ word (codes "int")
tokens_of_int = ap sort_tokens (sym rolls-Int) ∙ para-roll-Sort (List TokenKind) sort_step layer.Int

pub tokens_of_str : sort_tokens sort.Str ≡ word (codes "str")
tokens_of_str = ap sort_tokens (sym rolls-Str) ∙ para-roll-Sort (List TokenKind) sort_step layer.Str

pub tokens_of_any : sort_tokens sort.Any ≡ word (codes "term")
tokens_of_any = ap sort_tokens (sym rolls-Any) ∙ para-roll-Sort (List TokenKind) sort_step layer.Any

pub tokens_of_tool : (name : List ℕ) → sort_tokens (sort.Tool name) ≡ word name
tokens_of_tool name = ap sort_tokens (sym (rolls-Tool name)) ∙ para-roll-Sort (List TokenKind) sort_step (layer.Tool name)

pub tokens_of_list : (members : Sort) → sort_tokens (sort.List members) ≡ list_tokens (is_any (out-Sort members)) (sort_tokens members)
tokens_of_list members = ap sort_tokens (sym (rolls-List members)) ∙ para-roll-Sort (List TokenKind) sort_step (layer.List members)
