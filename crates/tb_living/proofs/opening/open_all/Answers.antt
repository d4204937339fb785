use Rattle.std.proofs.Common.{◌<◌, arith, length}
use Rattle.tb_living.proofs.OpenLemmas.{numbered-ascend, opened-below, opened-next, opened-whole}
use Rattle.tb_living.proofs.opening.open_all.Goals as goal

pub loop-at-preserved : goal.loop-at-preserved
loop-at-preserved g c =
    let program = c.args.program.now in
    let within : c.loop-at.at < length program.roots = let t = c.loop-at-test.true in let e = c.len-at-end.ensures in omega arith in
    opened-next g.W.Walker.view c.args.plans.now program.bodies program.roots c.loop-at.at c.loop-at.all.items c.push.new.self.items c.in_ok-open_root.field-0
    c.loop-at.invariant within c.in_ok-open_root.ensures.number c.in_ok-open_root.ensures.live c.in_ok-open_root.ensures.procs c.in_ok-open_root.ensures.unmarked c.in_ok-push.ensures.items

pub returns-clause-in_order : goal.returns-clause-in_order
returns-clause-in_order g c = numbered-ascend 0 1 c.loop-at.all.items (omega arith) c.loop-at.invariant.numbered

pub returns-clause-below : goal.returns-clause-below
returns-clause-below g c =
    let program = c.args.program.now in
    let most = c.loop-at.auto.at-end in
    let many = c.len-at-end.ensures in
    opened-below g.W.Walker.view c.args.plans.now program.bodies program.roots c.loop-at.at c.loop-at.all.items c.loop-at.invariant (omega arith)

pub returns-clause-procs : goal.returns-clause-procs
returns-clause-procs g c =
    let program = c.args.program.now in
    let past = c.loop-at-test.false in
    let many = c.len-at-end.ensures in
    opened-whole g.W.Walker.view c.args.plans.now program.bodies program.roots c.loop-at.at c.loop-at.all.items c.loop-at.invariant (omega arith)
