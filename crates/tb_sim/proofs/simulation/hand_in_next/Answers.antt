use Rattle.std.proofs.Common.{List, IfOk, subst, sym}
use Rattle.tb_log.specs.declared.entry.Input.{Input}
use Rattle.tb_sim.specs.Helpers.Turns.{HandsInNext}
use Rattle.tb_sim.proofs.SimLemmas.{drop-at}
use Rattle.tb_sim.proofs.simulation.hand_in_next.Goals as goal

pub returns-clause-ok : goal.returns-clause-ok
returns-clause-ok g c =
    let so_far = c.args.so_far in
    let next = drop-at c.args.feed.now so_far.inputs c.in_ok-input.input c.in_ok-input.ensures.value in
    subst (λ (left : List Input). IfOk c.hand_in-2.result (HandsInNext left so_far c.args.core.now c.hand_in-2.new.core)) (sym next.1) c.hand_in-2.ensures.ok
