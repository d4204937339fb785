use Rattle.std.proofs.Common.{◌≡◌, true, ap, ◌∙◌, sym, subst}
use Rattle.std.specs.List.{list_all}
use Rattle.tb_lex.specs.Tokens.{Lexes}
use Rattle.tb_syntax.specs.Helpers.TokenText.{tokens_text}
use Rattle.tb_syntax.specs.Helpers.Canonical.{script_tokens}
use Rattle.tb_syntax.specs.Helpers.ProperKinds.{is_proper_kind}
use Rattle.tb_syntax.specs.Printing.{SpellsButPositions}
use Rattle.tb_syntax.proofs.Lexed.{lexed}
use Rattle.tb_syntax.proofs.PrintedScripts.{script_printed}
use Rattle.tb_syntax.proofs.print.print_script.Goals as goal

pub returns : goal.returns
returns c =
    let script = c.args.script.now in
    let kinds = script_tokens script in
    let slice : c.as_slice.result.now ≡ kinds = c.as_slice.ensures ∙ c.in_ok-tokens.ensures in
    let proper : list_all is_proper_kind kinds ≡ true = subst (λ ks. list_all is_proper_kind ks ≡ true) slice c.show_proper.ensures in
    let text : c.in_ok-text.text.items ≡ tokens_text kinds = c.in_ok-text.ensures ∙ ap tokens_text (c.as_slice-2.ensures ∙ c.in_ok-tokens.ensures) in
    let law = script_printed script c.requires.0 c.requires.1 in
    let found = lexed kinds proper in
    record {
      tokens = found.0;
      lexes = subst (λ l. Lexes l found.0) (sym text) found.2;
      spells = subst (SpellsButPositions script) (sym found.1) (record { other = law.0; is_same = law.1; spells = law.2 });
    }
