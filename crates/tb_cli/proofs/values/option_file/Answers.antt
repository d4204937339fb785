use Rattle.std.proofs.Common.{◌≡◌, ◌∙◌, sym, ap, map, string_bytes, inl, Some, slice_get, option_copied}
use Rattle.tb_cli.specs.Parts.{parts_of, given}
use Rattle.tb_cli.proofs.Fitting.{text-at}
use Rattle.tb_cli.proofs.values.option_file.Goals as goal

pub make_text-requires : goal.make_text-requires
make_text-requires c =
    let values = given (Some c.args.option.now.name.now) (parts_of (map string_bytes c.args.words.now)) in
    let at : Some c.in-Some.word.now ≡ slice_get values 0 = sym (ap option_copied c.in-Some.is) ∙ c.find_value.ensures in
    text-at c.args.option.now.kind values 0 c.in-Some.word.now (inl c.requires.kind) c.requires.fits.fits at
