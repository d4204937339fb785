use Rattle.std.proofs.Common.{◌≡◌, true, List, ℕ, subst}
use Rattle.std.proofs.lemmas.Bool.{and_from}
use Rattle.std.proofs.lemmas.Str.{is_utf8-from_IsUtf8}
use Rattle.std.specs.Str.{is_utf8}
use Rattle.tb_terms.specs.Names.{is_text}
use Rattle.tb_log.proofs.proper.show_text.Goals as goal

pub returns : goal.returns
returns c =
    let bytes = c.args.text.now in
    let whole : is_utf8 bytes ≡ true = subst (λ (l : List ℕ). is_utf8 l ≡ true) c.as_str-text.ensures.value (is_utf8-from_IsUtf8 c.as_str-text.result.now c.as_str-text.utf8) in
    and_from (is_utf8 bytes) (is_text bytes) whole c.as_str-text.ensures.form
