use Rattle.std.proofs.Common.{◌∙◌, sym}
use Rattle.tb_index.proofs.ActiveLemmas as active
use Rattle.tb_index.proofs.counts.open_up.Goals as goal

pub returns-then-not-has_open-clause-marks : goal.returns-then-not-has_open-clause-marks
returns-then-not-has_open-clause-marks c = active.none-open c.args.counts.now.opened c.args.marks.now (sym c.has_open.ensures ∙ c.if-not-has_open.true)
