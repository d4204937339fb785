use Rattle.std.proofs.Common.{ap, sym, ◌∙◌, option_copied}
use Rattle.tb_match.specs.Joining.{bound}
use Rattle.tb_match.proofs.Parts.{agreed_if}
use Rattle.tb_match.proofs.bind.with_bind.Goals as goal

pub returns-in-Some : goal.returns-in-Some
returns-in-Some c =
    agreed_if c.args.binds.now (record { slot = c.args.slot; value = c.args.value.now }) c.in-Some.other.now c.is_same.result
    (ap (bound c.args.slot) (sym c.as_slice.ensures) ∙ sym c.value_of.ensures ∙ ap option_copied c.in-Some.is) c.is_same.ensures
