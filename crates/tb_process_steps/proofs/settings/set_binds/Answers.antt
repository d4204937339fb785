use Rattle.std.proofs.Common.{◌∙◌}
use Rattle.tb_process_steps.proofs.BindLemmas.{rest_taken, rest_completes}
use Rattle.tb_process_steps.proofs.settings.set_binds.Goals as goal

pub loop-binds-preserved : goal.loop-binds-preserved
loop-binds-preserved c =
    let store = c.loop-binds.store in
    let rest = c.loop-binds.binds in
    let bind = c.remove-bind.result in
    let taken = rest_taken store rest bind c.remove-bind.ensures.item c.loop-binds.invariant.taken in
    let completes = rest_completes store rest bind c.remove-bind.ensures.item ∙ c.loop-binds.invariant.completes in
    record {
      taken = rw (c.set.ensures, c.remove-bind.ensures.rest) taken;
      completes = rw (c.set.ensures, c.remove-bind.ensures.rest) completes;
    }
