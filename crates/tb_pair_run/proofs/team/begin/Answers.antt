use Rattle.std.proofs.Common.{arith, ◌≡◌, ◌+◌, List, length, subst, sym, ap, ◌∙◌}
use Rattle.std.proofs.lemmas.List.{length-map}
use Rattle.tb_lock.specs.Seats.{SeatView}
use Rattle.tb_run.specs.declared.worker.Work.{Work}
use Rattle.tb_run.specs.declared.worker.Worker.{Worker}
use Rattle.tb_run.specs.Moving.{works_of}
use Rattle.tb_run.specs.Running.{Fits}
use Rattle.tb_run.proofs.PartLemmas.{lanes_count, parted_count_of}
use Rattle.tb_pair_run.specs.Helpers.Parts.{lane_rights}
use Rattle.tb_pair_run.proofs.PartLemmas.{lane_count, workers_fit}
use Rattle.tb_pair_run.proofs.team.begin.Goals as goal

pub begin_all-requires-clause-fits : goal.begin_all-requires-clause-fits
begin_all-requires-clause-fits g c =
    let inlets = c.args.lanes.inlets in
    let outlets = c.args.lanes.outlets in
    let bus : c.args.seat.bus ≡ c.args.post.now.shared = ap (λ (s : SeatView). s.bus) c.requires.first in
    subst (λ (ws : List (Work g.row.I.Denot g.row.O.Denot)). Fits c.args.post.now.shared c.hand_out-pipe_seat.new.seats.items ws) (sym c.works_of.ensures)
    (subst (λ (ss : List SeatView). let ws : List (Work g.row.I.Denot g.row.O.Denot) = works_of 2 inlets.items outlets.items in Fits c.args.post.now.shared ss ws) (sym c.hand_out-pipe_seat.ensures.seats)
    (workers_fit g.row.I.Denot g.row.O.Denot c.args.post.now.shared c.args.seat inlets.items outlets.items bus (let k = inlets.ok.0 in let n = c.requires.inlets in omega arith) (let k = outlets.ok.0 in let n = c.requires.outlets in omega arith)))

pub begin_all-requires-clause-seats : goal.begin_all-requires-clause-seats
begin_all-requires-clause-seats g c =
    let inlets = c.args.lanes.inlets in
    let outlets = c.args.lanes.outlets in
    let i : length inlets.items ≡ 15 = (let k = inlets.ok.0 in let n = c.requires.inlets in omega arith) in
    let o : length outlets.items ≡ 15 = (let k = outlets.ok.0 in let n = c.requires.outlets in omega arith) in
    let m : length c.works_of.new.works.items ≡ length inlets.items + length outlets.items + 1 = ap length c.works_of.ensures ∙ lanes_count 2 inlets.items outlets.items in
    let s : length c.hand_out-pipe_seat.new.seats.items ≡ 31 = ap length c.hand_out-pipe_seat.ensures.seats ∙ (parted_count_of c.args.seat lane_rights ∙ lane_count) in
    let a = c.hand_out-pipe_seat.new.seats.ok.0 in
    let b = c.works_of.new.works.ok.0 in
    omega arith

pub begin_all-requires-clause-buffers : goal.begin_all-requires-clause-buffers
begin_all-requires-clause-buffers g c =
    let inlets = c.args.lanes.inlets in
    let outlets = c.args.lanes.outlets in
    let i : length inlets.items ≡ 15 = (let k = inlets.ok.0 in let n = c.requires.inlets in omega arith) in
    let o : length outlets.items ≡ 15 = (let k = outlets.ok.0 in let n = c.requires.outlets in omega arith) in
    let m : length c.works_of.new.works.items ≡ length inlets.items + length outlets.items + 1 = ap length c.works_of.ensures ∙ lanes_count 2 inlets.items outlets.items in
    let b = c.works_of.new.works.ok.0 in
    let n = c.requires.room in
    let r = c.args.room.for_buffers in
    omega arith

pub begin_all-requires-clause-room : goal.begin_all-requires-clause-room
begin_all-requires-clause-room g c =
    let inlets = c.args.lanes.inlets in
    let outlets = c.args.lanes.outlets in
    let i : length inlets.items ≡ 15 = (let k = inlets.ok.0 in let n = c.requires.inlets in omega arith) in
    let o : length outlets.items ≡ 15 = (let k = outlets.ok.0 in let n = c.requires.outlets in omega arith) in
    let m : length c.works_of.new.works.items ≡ length inlets.items + length outlets.items + 1 = ap length c.works_of.ensures ∙ lanes_count 2 inlets.items outlets.items in
    let b = c.works_of.new.works.ok.0 in
    let r = c.requires.workers.1 in
    omega arith

pub returns-clause-count : goal.returns-clause-count
returns-clause-count g c =
    let inlets = c.args.lanes.inlets in
    let outlets = c.args.lanes.outlets in
    let i : length inlets.items ≡ 15 = (let k = inlets.ok.0 in let n = c.requires.inlets in omega arith) in
    let o : length outlets.items ≡ 15 = (let k = outlets.ok.0 in let n = c.requires.outlets in omega arith) in
    let m : length c.works_of.new.works.items ≡ length inlets.items + length outlets.items + 1 = ap length c.works_of.ensures ∙ lanes_count 2 inlets.items outlets.items in
    let w = ap length c.begin_all.ensures.works in
    let l = length-map c.begin_all.new.workers.items (λ (it : Worker g.row.W.Denot g.row.I.Denot g.row.O.Denot g.row.W-Plan.Denot g.row.W-Taken.Denot). it.work) in
    let a = c.begin_all.new.workers.ok.0 in
    omega (arith, w, l)
