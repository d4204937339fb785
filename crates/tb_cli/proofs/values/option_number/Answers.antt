use Rattle.std.proofs.Common.{◌≡◌, ◌-◌, ◌^◌, ◌∙◌, sym, ap, subst, map, min, string_bytes, Some, slice_get, option_copied, List, ℕ, arith}
use Rattle.tb_read.specs.Spelling.{digits_value}
use Rattle.tb_cli.specs.Table.{number_or}
use Rattle.tb_cli.specs.Parts.{parts_of, given}
use Rattle.tb_cli.specs.Helpers.Fitting.{IsIn}
use Rattle.tb_cli.proofs.Fitting.{number-at, number-told}
use Rattle.tb_cli.proofs.values.option_number.Goals as goal

pub overflow_cast-result : goal.overflow_cast-result
overflow_cast-result c =
    let values = given (Some c.args.option.now.name.now) (parts_of (map string_bytes c.args.words.now)) in
    let word = c.in-Some.word.now in
    let at : Some word ≡ slice_get values 0 = sym (ap option_copied c.in-Some.is) ∙ c.find_value.ensures in
    let number = number-at c.args.option.now.kind values word c.requires.kind c.requires.fits.fits at in
    let told : c.digits_value.result ≡ min (digits_value word) (2 ^ 64 - 1) = c.digits_value.ensures ∙ ap (λ (w : List ℕ). min (digits_value w) (2 ^ 64 - 1)) c.as_bytes.ensures.value in
    let same = number-told c.digits_value.result word told number.0 in
    omega (arith, same, number.0)

pub returns-in-Some-clause-is : goal.returns-in-Some-clause-is
returns-in-Some-clause-is c =
    let values = given (Some c.args.option.now.name.now) (parts_of (map string_bytes c.args.words.now)) in
    let word = c.in-Some.word.now in
    let at : Some word ≡ slice_get values 0 = sym (ap option_copied c.in-Some.is) ∙ c.find_value.ensures in
    let number = number-at c.args.option.now.kind values word c.requires.kind c.requires.fits.fits at in
    let told : c.digits_value.result ≡ min (digits_value word) (2 ^ 64 - 1) = c.digits_value.ensures ∙ ap (λ (w : List ℕ). min (digits_value w) (2 ^ 64 - 1)) c.as_bytes.ensures.value in
    number-told c.digits_value.result word told number.0 ∙ ap (number_or c.args.option.now.usual) at

pub returns-in-Some-clause-within : goal.returns-in-Some-clause-within
returns-in-Some-clause-within c =
    let values = given (Some c.args.option.now.name.now) (parts_of (map string_bytes c.args.words.now)) in
    let word = c.in-Some.word.now in
    let at : Some word ≡ slice_get values 0 = sym (ap option_copied c.in-Some.is) ∙ c.find_value.ensures in
    let number = number-at c.args.option.now.kind values word c.requires.kind c.requires.fits.fits at in
    let told : c.digits_value.result ≡ min (digits_value word) (2 ^ 64 - 1) = c.digits_value.ensures ∙ ap (λ (w : List ℕ). min (digits_value w) (2 ^ 64 - 1)) c.as_bytes.ensures.value in
    subst (IsIn c.args.option.now.kind) (sym (number-told c.digits_value.result word told number.0)) number.1
