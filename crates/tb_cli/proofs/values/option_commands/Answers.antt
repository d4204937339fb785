use Rattle.std.proofs.Common.{Bor, refl, ◌≡◌, ◌<◌, ◌++◌, ◌∷◌, [], ◌∙◌, sym, ap, map, take, length, get_or, string_bytes, inr, Some, None, slice_get, option_copied, Option, List, ℕ, arith}
use Rattle.std.proofs.lemmas.List.{take_more}
use Rattle.std.proofs.lemmas.Option.{slice_get_within, get_or_from_slice_get}
use Rattle.tb_cli.specs.Parts.{parts_of, given}
use Rattle.tb_cli.proofs.Fitting.{text-at}
use Rattle.tb_cli.proofs.Scanning.{taken-all}
use Rattle.tb_cli.proofs.values.option_commands.Goals as goal

pub make_text-requires : goal.make_text-requires
make_text-requires c =
    let values = given (Some c.args.option.now.name.now) (parts_of (map string_bytes c.args.words.now)) in
    let at : Some c.in-Some.word.now ≡ slice_get values c.loop-word.place = sym (ap option_copied c.in-Some.is) ∙ c.find_value.ensures in
    text-at c.args.option.now.kind values c.loop-word.place c.in-Some.word.now (inr c.requires.kind) c.requires.fits.fits at

pub loop-word-smaller : goal.loop-word-smaller
loop-word-smaller c =
    let values = given (Some c.args.option.now.name.now) (parts_of (map string_bytes c.args.words.now)) in
    let at : Some c.in-Some.word.now ≡ slice_get values c.loop-word.place = sym (ap option_copied c.in-Some.is) ∙ c.find_value.ensures in
    let within : c.loop-word.place < length values = slice_get_within values c.loop-word.place c.in-Some.word.now (sym at) in
    omega (arith, within)

pub loop-word-preserved : goal.loop-word-preserved
loop-word-preserved c =
    let values = given (Some c.args.option.now.name.now) (parts_of (map string_bytes c.args.words.now)) in
    let place = c.loop-word.place in
    let word = c.in-Some.word.now in
    let at : Some word ≡ slice_get values place = sym (ap option_copied c.in-Some.is) ∙ c.find_value.ensures in
    let within : place < length values = slice_get_within values place word (sym at) in
    let is : get_or values place [] ≡ word = get_or_from_slice_get values place word [] (sym at) in
    let text : c.in_ok-make_text.field-0 ≡ word = c.in_ok-make_text.ensures in
    record {
      commands =
          c.in_ok-push.ensures.ok
          ∙ ap (λ (commands : List (List ℕ)). commands ++ c.in_ok-make_text.field-0 ∷ []) c.loop-word.invariant.commands
          ∙ ap (λ (w : List ℕ). take place values ++ w ∷ []) (text ∙ sym is)
          ∙ sym (take_more values place [] within);
      within = omega (arith, within);
    }

bare : (found : Option (Bor (List ℕ))) → ((word : Bor (List ℕ)) → found ≡ Some word → ⊥) → option_copied found ≡ None
bare None none = refl
bare (Some word) none = absurd (none word refl)

pub returns-clause-is : goal.returns-clause-is
returns-clause-is c =
    let values = given (Some c.args.option.now.name.now) (parts_of (map string_bytes c.args.words.now)) in
    let none : slice_get values c.loop-word.place ≡ None = sym c.find_value.ensures ∙ bare c.find_value.result c.in_default.not-Some in
    c.loop-word.invariant.commands ∙ taken-all values c.loop-word.place none
