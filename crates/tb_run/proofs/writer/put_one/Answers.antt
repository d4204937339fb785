use Rattle.std.proofs.Common.{arith}
use Rattle.tb_run.proofs.WriteLemmas.{puts_by}
use Rattle.tb_run.proofs.writer.put_one.Goals as goal

pub returns-clause-puts : goal.returns-clause-puts
returns-clause-puts g c =
    let put = c.send_out-sent in
    puts_by c.args.lane c.args.out.now c.args.seat.now c.cut_off.new.seat (g.O.Outlet.told c.args.outlet.now) (g.O.Outlet.told put.new.outlet) (g.O.Outlet.faults c.args.outlet.now) (g.O.Outlet.faults put.new.outlet) put.result c.cut_off.result
    put.ensures.ok put.ensures.err put.ensures.rose put.ensures.never_falls put.ensures.fits c.cut_off.ensures.ok c.cut_off.ensures.err

pub returns-clause-room : goal.returns-clause-room
returns-clause-room g c = let r = c.requires.room in let a = c.clear.ensures.capacity in let b = c.send_out-sent.ensures.room in omega arith
