use Rattle.std.proofs.Common.{sym, ap, ◌∙◌}
use Rattle.std.specs.Prelude.{is_some}
use Rattle.tb_types.proofs.Naming.{kept_new, kept_again}
use Rattle.tb_types.proofs.names.keep_position.Goals as goal

pub returns-in-None-clause-kept : goal.returns-in-None-clause-kept
returns-in-None-clause-kept c =
    kept_new c.args.name.now c.args.positions.now c.insert.new.self c.args.position c.in_ok-insert.ensures.updates
    (ap is_some (sym c.in_ok-insert.ensures.old ∙ c.in-None.is))

pub returns-in_ok-insert-in-Some-clause-kept : goal.returns-in_ok-insert-in-Some-clause-kept
returns-in_ok-insert-in-Some-clause-kept c =
    kept_again c.args.name.now c.args.positions.now c.insert.new.self c.insert-in-Some.new.self c.args.position c.in-Some.first c.in_ok-insert.ensures.updates c.in_ok-insert-in-Some.ensures.updates
    (sym c.in-Some.is ∙ c.in_ok-insert.ensures.old)
