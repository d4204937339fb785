use Rattle.std.proofs.Common.{◌≡◌, ◌∷◌, List, refl, ap, sym, subst, length, arith}
use Rattle.std.specs.List.{All}
use Rattle.tb_run.specs.declared.worker.Worker.{Worker}
use Rattle.tb_run.specs.declared.worker.Work.{Work}
use Rattle.tb_lock.specs.Seats.{SeatView}
use Rattle.tb_run.specs.Jobs.{IsReady}
use Rattle.tb_run.specs.Running.{Fits}
use Rattle.tb_run.proofs.StartLemmas.{all_push, map_push}
use Rattle.tb_run.proofs.starting.begin_all.Goals as goal

pub loop-work-preserved : goal.loop-work-preserved
loop-work-preserved g c =
    let i = c.loop-work.invariant in
    let l = c.loop-work in
    let e = c.in-Some.ensures.steps.0 in
    let s = c.in-Some-next.ensures.items in
    let fits = subst (λ (xs : List (Work g.row.I.Denot g.row.O.Denot)). Fits c.args.post.now.shared (c.in-Some-next.seat ∷ c.next-in-loop-work.new.self.rest.items) xs) e (subst (λ (ss : List SeatView). Fits c.args.post.now.shared ss l.work-iterator.rest.items) s i.0) in
    let new = c.push_reserved.ensures.items in (
      fits.1,
      (let h = i.1 in let b = ap length e in let n = c.push_reserved.ensures.len in let k = c.push_reserved.ensures.capacity in omega arith),
      map_push _ (λ (it : (Worker g.row.W.Denot g.row.I.Denot g.row.O.Denot g.row.W-Plan.Denot g.row.W-Taken.Denot)). it.seat) l.workers.items c.push_reserved.new.self.items l.seats.rest.items c.next-in-loop-work.new.self.rest.items c.args.seats.items new s i.2,
      map_push _ (λ (it : (Worker g.row.W.Denot g.row.I.Denot g.row.O.Denot g.row.W-Plan.Denot g.row.W-Taken.Denot)). it.work) l.workers.items c.push_reserved.new.self.items l.work-iterator.rest.items c.next.new.self.rest.items c.args.works.items new e i.3,
      subst (All (λ (it : (Worker g.row.W.Denot g.row.I.Denot g.row.O.Denot g.row.W-Plan.Denot g.row.W-Taken.Denot)). IsReady it.post.now.shared it.seat it.work)) (sym new) (all_push _ (λ (it : (Worker g.row.W.Denot g.row.I.Denot g.row.O.Denot g.row.W-Plan.Denot g.row.W-Taken.Denot)). IsReady it.post.now.shared it.seat it.work) l.workers.items i.4 (record { own = fits.0.0; right = fits.0.1 })),
      (let a = ap length s in let b = ap length e in let h = i.5 in omega arith),
      (let p = c.in-Some-pop.ensures.cases in let b = ap length e in let h = i.6 in omega arith),
      subst (All (λ (it : (Worker g.row.W.Denot g.row.I.Denot g.row.O.Denot g.row.W-Plan.Denot g.row.W-Taken.Denot)). it.post.now.shared ≡ c.args.post.now.shared)) (sym new) (all_push _ (λ (it : (Worker g.row.W.Denot g.row.I.Denot g.row.O.Denot g.row.W-Plan.Denot g.row.W-Taken.Denot)). it.post.now.shared ≡ c.args.post.now.shared) l.workers.items i.7 refl),
    )
