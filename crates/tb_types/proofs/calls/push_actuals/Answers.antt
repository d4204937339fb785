use Rattle.std.proofs.Common.{ap, ◌∙◌}
use Rattle.tb_types.specs.Calls.{actual_position, actual_expected_sort}
use Rattle.tb_types.specs.ExpectedSorts.{expected_sort_of}
use Rattle.tb_types.specs.Scopes.{visible}
use Rattle.tb_types.proofs.Actuals.{one_actual}
use Rattle.tb_types.proofs.calls.push_actuals.Goals as goal

pub loop-position-preserved : goal.loop-position-preserved
loop-position-preserved c =
    one_actual c.args.names.now.script.now (visible c.args.scope.now) c.args.manner c.args.formals.now c.loop-position.position c.args.actuals.now _ c.loop-position.into c.push_site.new.into
    c.actual_site-site.result.position (expected_sort_of c.actual_site-site.result.expected_sort) c.loop-position-test.true c.index-actuals-position.is
    (c.actual_site-site.ensures.position ∙ ap (actual_position c.args.manner) c.at.ensures)
    (c.actual_site-site.ensures.expected_sort ∙ ap (actual_expected_sort c.args.manner) c.at.ensures)
    c.in_ok-push_site.ensures
    ∙ c.loop-position.invariant
