use Rattle.std.proofs.Common.{◌≡◌, ◌+◌, ◌-◌, true, List, length, ℕ, Option, Some, None, cond, ◌∙◌, ap}
use Rattle.tb_terms.specs.Names.{is_string}
use Rattle.tb_lex.proofs.Strings.{is_string_put}
use Rattle.tb_lex.proofs.quote.string_at.Goals as goal

pub unreachable-requires : goal.unreachable-requires
unreachable-requires c =
    let bytes = c.in_ok-put.put.items in
    let is : is_string bytes ≡ true = is_string_put (c.args.total - (length c.in-Some.inner.now + 1)) c.args.total c.in-Some.inner.now (bytes, c.in_ok-put.rest.now) c.in_ok-put.ensures.string in
    let some : cond (is_string bytes) (Some bytes) None ≡ Some bytes = ap (λ v. cond v (Some bytes) None) is in
    let no : ◌≡◌ {A = Option (List ℕ)} None (Some bytes) = c.in-None.ensures ∙ some in
    cc
