use Rattle.std.proofs.Common.{arith, [], ◌∷◌, append_assoc, ◌≤◌, ◌+◌, ◌++◌, length, map, vec_len, vec_capacity, List, subst, sym, ◌∙◌, ap}
use Rattle.tb_run.specs.declared.worker.Worker.{Worker}
use Rattle.tb_run.specs.declared.worker.Work.{Work}
use Rattle.tb_run.specs.Moving.{inlets_of, outlets_of}
use Rattle.tb_run.proofs.moving.end_all.Goals as goal

pub loop-worker-preserved : goal.loop-worker-preserved
loop-worker-preserved g c =
    let i = c.loop-worker.invariant in
    let e = c.in-Some.ensures.steps.0 in
    let works : List (Worker g.row.W.Denot g.row.I.Denot g.row.O.Denot g.row.W-Plan.Denot g.row.W-Taken.Denot) → List (Work g.row.I.Denot g.row.O.Denot) = map (λ (it : Worker g.row.W.Denot g.row.I.Denot g.row.O.Denot g.row.W-Plan.Denot g.row.W-Taken.Denot). it.work) in
    let l = c.loop-worker in
    let rest = works c.next.new.self.rest.items in (
      (let h = i.0 in let n = ap length e in let a = c.push_reserved.ensures.len in let b = c.push_reserved.ensures.capacity in omega arith),
      (let h = i.1 in let n = ap length e in let a = c.push_reserved-in-loop-worker.ensures.len in let b = c.push_reserved-in-loop-worker.ensures.capacity in omega arith),
      c.move_out.ensures.inlets_room rest (subst (λ (s : List (Worker g.row.W.Denot g.row.I.Denot g.row.O.Denot g.row.W-Plan.Denot g.row.W-Taken.Denot)). vec_len l.lanes.inlets + length (inlets_of (works s)) ≤ vec_capacity l.lanes.inlets) e i.2),
      c.move_out.ensures.outlets_room rest (subst (λ (s : List (Worker g.row.W.Denot g.row.I.Denot g.row.O.Denot g.row.W-Plan.Denot g.row.W-Taken.Denot)). vec_len l.lanes.outlets + length (outlets_of (works s)) ≤ vec_capacity l.lanes.outlets) e i.3),
      ap (λ s. s ++ map (λ (it : Worker g.row.W.Denot g.row.I.Denot g.row.O.Denot g.row.W-Plan.Denot g.row.W-Taken.Denot). it.seat) c.next.new.self.rest.items) c.push_reserved.ensures.items
          ∙ (append_assoc l.ended.seats.items (c.in-Some.worker.seat ∷ []) (map (λ (it : Worker g.row.W.Denot g.row.I.Denot g.row.O.Denot g.row.W-Plan.Denot g.row.W-Taken.Denot). it.seat) c.next.new.self.rest.items) ∙ (ap (λ (s : List (Worker g.row.W.Denot g.row.I.Denot g.row.O.Denot g.row.W-Plan.Denot g.row.W-Taken.Denot)). l.ended.seats.items ++ map (λ (it : Worker g.row.W.Denot g.row.I.Denot g.row.O.Denot g.row.W-Plan.Denot g.row.W-Taken.Denot). it.seat) s) (sym e) ∙ i.4)),
      ap (λ s. s ++ map (λ (it : Worker g.row.W.Denot g.row.I.Denot g.row.O.Denot g.row.W-Plan.Denot g.row.W-Taken.Denot). it.end) c.next.new.self.rest.items) c.push_reserved-in-loop-worker.ensures.items
          ∙ (append_assoc l.ended.ends.items (c.in-Some.worker.end ∷ []) (map (λ (it : Worker g.row.W.Denot g.row.I.Denot g.row.O.Denot g.row.W-Plan.Denot g.row.W-Taken.Denot). it.end) c.next.new.self.rest.items) ∙ (ap (λ (s : List (Worker g.row.W.Denot g.row.I.Denot g.row.O.Denot g.row.W-Plan.Denot g.row.W-Taken.Denot)). l.ended.ends.items ++ map (λ (it : Worker g.row.W.Denot g.row.I.Denot g.row.O.Denot g.row.W-Plan.Denot g.row.W-Taken.Denot). it.end) s) (sym e) ∙ i.5)),
      c.move_out.ensures.inlets rest ∙ (ap (λ (s : List (Worker g.row.W.Denot g.row.I.Denot g.row.O.Denot g.row.W-Plan.Denot g.row.W-Taken.Denot)). l.lanes.inlets.items ++ inlets_of (works s)) (sym e) ∙ i.6),
      c.move_out.ensures.outlets rest ∙ (ap (λ (s : List (Worker g.row.W.Denot g.row.I.Denot g.row.O.Denot g.row.W-Plan.Denot g.row.W-Taken.Denot)). l.lanes.outlets.items ++ outlets_of (works s)) (sym e) ∙ i.7),
    )
