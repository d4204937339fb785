use Rattle.std.proofs.Common.{arith}
use Rattle.tb_living.proofs.IndexLemmas.{received-more, sent-more}
use Rattle.tb_living.proofs.indexing.fill_marks.Goals as goal

pub loop-ready-preserved : goal.loop-ready-preserved
loop-ready-preserved c =
    let actions = c.args.actions.now in
    let at = c.loop-ready.ready-index in
    let ready = c.ready-item.result in
    let marks = c.loop-ready.marks in
    let pushed = c.push_mark.new.marks in
    record {
      sent = sent-more actions at ready marks.sends.items pushed.sends.items (omega arith) c.ready-item.is c.in_ok-push_mark.ensures.sends c.loop-ready.invariant.sent;
      received = received-more actions at ready marks.receives.items pushed.receives.items (omega arith) c.ready-item.is c.in_ok-push_mark.ensures.receives c.loop-ready.invariant.received;
    }
