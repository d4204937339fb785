use Rattle.std.proofs.Common.{◌≡◌}
use Rattle.std.specs.String.{string_bytes}
use Rattle.std.proofs.lemmas.Str.{IsUtf8-string_bytes}
use Rattle.std.proofs.lemmas.Bool.{false≢true}
use Rattle.tb_terms.proofs.TextBytes.{made_of_string, none_of_other}
use Rattle.tb_terms.proofs.text.Text.from_vec.Goals as goal

pub returns-in-Ok : goal.returns-in-Ok
returns-in-Ok c =
    let same : string_bytes c.in-Ok.text ≡ c.args.bytes.items = cc c.in-Ok.ensures.ok in
    made_of_string (string_bytes c.in-Ok.text) c.args.bytes.items same (IsUtf8-string_bytes c.in-Ok.text) cc

pub returns : goal.returns
returns c =
    none_of_other c.args.bytes.items (λ u. absurd (false≢true (c.in-Err.ensures.succeeds u)))
