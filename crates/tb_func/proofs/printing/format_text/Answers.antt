use Rattle.std.proofs.Common.{◌≡◌, true, false, List, ℕ, Option, Some, option_map, vec_items, subst, sym, ap, ◌∙◌}
use Rattle.std.proofs.lemmas.Bool.{and_from}
use Rattle.std.proofs.lemmas.Str.{is_utf8-from_IsUtf8}
use Rattle.std.specs.Str.{is_utf8}
use Rattle.tb_terms.specs.Names.{is_string, is_text}
use Rattle.tb_func.specs.Printing.{printed}
use Rattle.tb_func.proofs.PrintedText.{printed-is_string}
use Rattle.tb_func.proofs.printing.format_text.Goals as goal

pub string_term-requires : goal.string_term-requires
string_term-requires c =
    let text = c.as_str-format.result.now in
    let form : is_text text ≡ true = subst (λ (l : List ℕ). is_text l ≡ true) (sym c.as_str-format.ensures.value) c.as_str-format.ensures.form in
    let valid : is_string text ≡ true = and_from (is_utf8 text) (is_text text) (is_utf8-from_IsUtf8 text c.as_str-format.utf8) form in
    let prints : ◌≡◌ {A = Option (List ℕ)} (printed false c.as_bytes.result.now c.args.args.now) (Some c.in-Some.bytes.items) = sym c.in_ok-bytes.ensures ∙ ap (option_map vec_items) c.in-Some.is in
    printed-is_string text c.args.args.now c.in-Some.bytes.items valid c.show_all_proper.ensures (subst (λ (l : List ℕ). ◌≡◌ {A = Option (List ℕ)} (printed false l c.args.args.now) (Some c.in-Some.bytes.items)) c.as_bytes.ensures.value prints)
