use Rattle.std.proofs.Common.{◌∙◌, subst, arith}
use Rattle.tb_log.specs.declared.entry.Input.TheVariants.{Tick}
use Rattle.tb_core.specs.Cores.{HandIn}
use Rattle.tb_lock.specs.Calls.{Called, IsReply}
use Rattle.tb_lock_tests.proofs.CountLemmas.{hand_grows, called_keeps}
use Rattle.tb_lock_tests.proofs.workers.hand_in_ticks.Goals as goal

pub loop-preserved : goal.loop-preserved
loop-preserved g c =
    let i = c.loop.invariant in
    let keeps = called_keeps (IsReply Tick) (HandIn Tick) c.loop.seat c.hand_in.new.seat c.hand_in.result c.hand_in.ensures in
    let more = hand_grows Tick c.loop.seat c.hand_in.new.seat c.in-Ok.field-0 (subst (Called (IsReply Tick) (HandIn Tick) c.loop.seat c.hand_in.new.seat) c.in-Ok.is c.hand_in.ensures) in
    let all = i.3 in
    (keeps.0 ∙ i.0, keeps.1 ∙ i.1, keeps.2 ∙ i.2, omega arith)
