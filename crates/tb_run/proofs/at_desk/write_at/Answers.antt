use Rattle.tb_run.proofs.DeskLemmas.{writer_ended, writes_closed}
use Rattle.tb_run.proofs.at_desk.write_at.Goals as goal

pub returns-in-Some-take_writer : goal.returns-in-Some-take_writer
returns-in-Some-take_writer g c =
    let told = g.O.Outlet.told in
    let faults = g.O.Outlet.faults in
    let lane = c.args.lane in
    let seat = c.args.seat in
    let outlet = c.args.outlet in
    let ended = c.in-Some-take_writer.ended in
    let done = c.closed in
    writes_closed lane seat ended.seat done.result.seat (told outlet) (told ended.outlet) (told done.result.outlet) (faults outlet) (faults ended.outlet) (faults done.result.outlet) ended.end done.result.end
    (writer_ended g.K.Begins.bus g.K.Begins.starts c.args.at ended.seat (told ended.outlet) (faults ended.outlet) (record { seat = seat; lane = lane; told = told outlet; faults = faults outlet }) ended.end c.requires.begun c.in-Some-take_writer.ensures)
    done.ensures.seat done.ensures.end done.ensures.told done.ensures.faults.0 done.ensures.faults.1
