use Rattle.std.proofs.Common.{rules, arith, ◌≡◌, List, length, subst, sym, ap, ◌∙◌}
use Rattle.tb_lock.specs.Seats.{SeatView}
use Rattle.tb_run.specs.declared.worker.Work.{Work}
use Rattle.tb_run.specs.Moving.{works_of}
use Rattle.tb_run.specs.Running.{Fits}
use Rattle.tb_run.proofs.PartLemmas.{works_fit, works_count, parted_count}
use Rattle.tb_run.proofs.working.begin.Goals as goal

pub begin_all-requires-clause-fits : goal.begin_all-requires-clause-fits
begin_all-requires-clause-fits g c =
    let inlets = c.args.lanes.now.inlets in
    let outlets = c.args.lanes.now.outlets in
    let works : c.works_of.new.works.items ≡ works_of 1 inlets.items outlets.items = search rules in
    let bus : c.args.seat.now.bus ≡ c.args.post.now.shared = ap (λ (s : SeatView). s.bus) c.requires.first in
    subst (λ (ws : List (Work g.row.I.Denot g.row.O.Denot)). Fits c.args.post.now.shared c.hand_out-tick_seat.new.seats.items ws) (sym works)
    (subst (λ (ss : List SeatView). let ws : List (Work g.row.I.Denot g.row.O.Denot) = works_of 1 inlets.items outlets.items in Fits c.args.post.now.shared ss ws) (sym c.hand_out-tick_seat.ensures.seats)
    (works_fit g.row.I.Denot g.row.O.Denot c.args.post.now.shared c.args.seat.now inlets.items outlets.items bus (let k = inlets.ok.0 in let n = c.requires.inlets in omega arith) (let k = outlets.ok.0 in let n = c.requires.outlets in omega arith)))

pub begin_all-requires-clause-seats : goal.begin_all-requires-clause-seats
begin_all-requires-clause-seats g c =
    let inlets = c.args.lanes.now.inlets in
    let outlets = c.args.lanes.now.outlets in
    let works : c.works_of.new.works.items ≡ works_of 1 inlets.items outlets.items = search rules in
    let m : length c.works_of.new.works.items ≡ 33 =
    ap length works ∙ works_count inlets.items outlets.items (let k = inlets.ok.0 in let n = c.requires.inlets in omega arith) (let k = outlets.ok.0 in let n = c.requires.outlets in omega arith) in
    let s : length c.hand_out-tick_seat.new.seats.items ≡ 33 = ap length c.hand_out-tick_seat.ensures.seats ∙ parted_count c.args.seat.now in
    let a = c.hand_out-tick_seat.new.seats.ok.0 in
    let b = c.works_of.new.works.ok.0 in
    omega arith

pub begin_all-requires-clause-buffers : goal.begin_all-requires-clause-buffers
begin_all-requires-clause-buffers g c =
    let inlets = c.args.lanes.now.inlets in
    let outlets = c.args.lanes.now.outlets in
    let works : c.works_of.new.works.items ≡ works_of 1 inlets.items outlets.items = search rules in
    let m : length c.works_of.new.works.items ≡ 33 =
    ap length works ∙ works_count inlets.items outlets.items (let k = inlets.ok.0 in let n = c.requires.inlets in omega arith) (let k = outlets.ok.0 in let n = c.requires.outlets in omega arith) in
    let b = c.works_of.new.works.ok.0 in
    let n = c.requires.room in
    let r = c.args.room.for_buffers in
    omega arith

pub begin_all-requires-clause-room : goal.begin_all-requires-clause-room
begin_all-requires-clause-room g c =
    let inlets = c.args.lanes.now.inlets in
    let outlets = c.args.lanes.now.outlets in
    let works : c.works_of.new.works.items ≡ works_of 1 inlets.items outlets.items = search rules in
    let m : length c.works_of.new.works.items ≡ 33 =
    ap length works ∙ works_count inlets.items outlets.items (let k = inlets.ok.0 in let n = c.requires.inlets in omega arith) (let k = outlets.ok.0 in let n = c.requires.outlets in omega arith) in
    let b = c.works_of.new.works.ok.0 in
    let r = c.requires.workers.1 in
    omega arith
