use Rattle.std.proofs.Common.{ℕ, ◌∙◌, ap, map, [], List, Option, string_bytes, option_copied, unwrap_or}
use Rattle.std.proofs.lemmas.Option.{unwrap_or-slice_get}
use Rattle.tb_cli.specs.Parts.{parts_of, given}
use Rattle.tb_cli.proofs.parts.find_or_empty.Goals as goal

pub returns : goal.returns
returns c = c.or_empty.ensures ∙ ap (λ (found : Option (List ℕ)). unwrap_or found []) c.find_value.ensures ∙ unwrap_or-slice_get (given (option_copied c.args.name) (parts_of (map string_bytes c.args.words.now))) c.args.place []
