use Rattle.std.proofs.Common.{rules, ◌≡◌, ◌++◌, ℕ, suc, List, Some, map, drop, length, vec_len, append-nil, subst, sym, ap, ◌∙◌, arith}
use Rattle.std.specs.Prelude.{IfSome, slice_get}
use Rattle.std.specs.List.{All}
use Rattle.atomic_table.specs.Seated.{TableId}
use Rattle.tb_run.specs.declared.worker.Worker.{Worker}
use Rattle.tb_run.specs.declared.helped_job.HelpedJob.{HelpedJob}
use Rattle.tb_run.specs.Jobs.{IsReady}
use Rattle.tb_run.specs.Helpers.Desks.{begun}
use Rattle.tb_run.proofs.StartLemmas.{all_push, map_push}
use Rattle.tb_run.proofs.HelpedLemmas.{all_rest, is_fit, drop_rest, none_left}
use Rattle.tb_run.proofs.helped_job.helped_jobs.Goals as goal

pub loop-worker-init : goal.loop-worker-init
loop-worker-init g c =
    let same : c.into_iter-worker-iterator.result.rest.items ≡ c.args.workers.items = search rules in
    let zero : vec_len c.args.jobs.now ≡ 0 = (let n = ap length c.requires.none in let k = c.args.jobs.now.ok.0 in omega arith) in (
      search rules,
      search rules,
      search rules,
      subst (All (λ (it : (Worker g.row.W.Denot g.row.I.Denot g.row.O.Denot g.row.W-Plan.Denot g.row.W-Taken.Denot)). it.post.now.shared ≡ g.K.Begins.bus)) (sym same) c.requires.posts,
      subst (All (λ (it : (Worker g.row.W.Denot g.row.I.Denot g.row.O.Denot g.row.W-Plan.Denot g.row.W-Taken.Denot)). IsReady it.post.now.shared it.seat it.work)) (sym same) c.requires.ready,
      subst (λ (n : ℕ). drop n g.K.Begins.starts ≡ map (λ (it : (Worker g.row.W.Denot g.row.I.Denot g.row.O.Denot g.row.W-Plan.Denot g.row.W-Taken.Denot)). begun g.O.Outlet.told g.O.Outlet.faults it.seat it.work) c.into_iter-worker-iterator.result.rest.items) (sym zero) (sym c.requires.starts ∙ ap (map (λ (it : (Worker g.row.W.Denot g.row.I.Denot g.row.O.Denot g.row.W-Plan.Denot g.row.W-Taken.Denot)). begun g.O.Outlet.told g.O.Outlet.faults it.seat it.work)) (sym same)),
    )

pub loop-worker-preserved : goal.loop-worker-preserved
loop-worker-preserved g c =
    let i = c.loop-worker.invariant in
    let l = c.loop-worker in
    let e = c.in-Some.ensures.steps.0 in
    let it = c.in-Some.worker in
    let rest = c.next.new.self.rest.items in
    let new = c.push_reserved.ensures.items in
    let posts = subst (All (λ (it : (Worker g.row.W.Denot g.row.I.Denot g.row.O.Denot g.row.W-Plan.Denot g.row.W-Taken.Denot)). it.post.now.shared ≡ g.K.Begins.bus)) e i.3 in
    let ready = subst (All (λ (it : (Worker g.row.W.Denot g.row.I.Denot g.row.O.Denot g.row.W-Plan.Denot g.row.W-Taken.Denot)). IsReady it.post.now.shared it.seat it.work)) e i.4 in
    let starts = i.5 ∙ ap (map (λ (it : (Worker g.row.W.Denot g.row.I.Denot g.row.O.Denot g.row.W-Plan.Denot g.row.W-Taken.Denot)). begun g.O.Outlet.told g.O.Outlet.faults it.seat it.work)) e in
    let fit = is_fit (λ (it : (Worker g.row.W.Denot g.row.I.Denot g.row.O.Denot g.row.W-Plan.Denot g.row.W-Taken.Denot)). it.post.now.shared) g.K.Begins.bus (λ (b : TableId) (it : (Worker g.row.W.Denot g.row.I.Denot g.row.O.Denot g.row.W-Plan.Denot g.row.W-Taken.Denot)). IsReady b it.seat it.work) (λ (it : (Worker g.row.W.Denot g.row.I.Denot g.row.O.Denot g.row.W-Plan.Denot g.row.W-Taken.Denot)). begun g.O.Outlet.told g.O.Outlet.faults it.seat it.work) g.K.Begins.starts it rest (vec_len l.jobs) posts ready starts in
    let more : vec_len c.push_reserved.new.self ≡ suc (vec_len l.jobs) = (let n = c.push_reserved.ensures.len in omega arith) in (
      (let h = i.0 in let b = ap length e in let n = c.push_reserved.ensures.len in let k = c.push_reserved.ensures.capacity in omega arith),
      map_push _ (λ (it : (HelpedJob g.row.K.Denot g.row.W.Denot g.row.I.Denot g.row.O.Denot g.row.W-Plan.Denot g.row.W-Taken.Denot g.K.Begins g.O.Outlet)). it.worker) l.jobs.items c.push_reserved.new.self.items (map (λ (it : (Worker g.row.W.Denot g.row.I.Denot g.row.O.Denot g.row.W-Plan.Denot g.row.W-Taken.Denot)). Some it) l.worker-iterator.rest.items) (map (λ (it : (Worker g.row.W.Denot g.row.I.Denot g.row.O.Denot g.row.W-Plan.Denot g.row.W-Taken.Denot)). Some it) rest) (map (λ (it : (Worker g.row.W.Denot g.row.I.Denot g.row.O.Denot g.row.W-Plan.Denot g.row.W-Taken.Denot)). Some it) c.args.workers.items) new (ap (map (λ (it : (Worker g.row.W.Denot g.row.I.Denot g.row.O.Denot g.row.W-Plan.Denot g.row.W-Taken.Denot)). Some it)) e) i.1,
      subst (All (λ (it : (HelpedJob g.row.K.Denot g.row.W.Denot g.row.I.Denot g.row.O.Denot g.row.W-Plan.Denot g.row.W-Taken.Denot g.K.Begins g.O.Outlet)). IfSome it.worker (λ worker. (worker.post.now.shared ≡ g.K.Begins.bus) × IsReady g.K.Begins.bus worker.seat worker.work × (slice_get g.K.Begins.starts it.at ≡ Some (begun g.O.Outlet.told g.O.Outlet.faults worker.seat worker.work))))) (sym new) (all_push _ (λ (it : (HelpedJob g.row.K.Denot g.row.W.Denot g.row.I.Denot g.row.O.Denot g.row.W-Plan.Denot g.row.W-Taken.Denot g.K.Begins g.O.Outlet)). IfSome it.worker (λ worker. (worker.post.now.shared ≡ g.K.Begins.bus) × IsReady g.K.Begins.bus worker.seat worker.work × (slice_get g.K.Begins.starts it.at ≡ Some (begun g.O.Outlet.told g.O.Outlet.faults worker.seat worker.work)))) l.jobs.items i.2 (fit.0, fit.1, subst (λ (n : ℕ). slice_get g.K.Begins.starts n ≡ Some (begun g.O.Outlet.told g.O.Outlet.faults it.seat it.work)) (sym c.len-at.ensures) fit.2)),
      all_rest (λ (it : (Worker g.row.W.Denot g.row.I.Denot g.row.O.Denot g.row.W-Plan.Denot g.row.W-Taken.Denot)). it.post.now.shared ≡ g.K.Begins.bus) it rest posts,
      all_rest (λ (it : (Worker g.row.W.Denot g.row.I.Denot g.row.O.Denot g.row.W-Plan.Denot g.row.W-Taken.Denot)). IsReady it.post.now.shared it.seat it.work) it rest ready,
      subst (λ (n : ℕ). drop n g.K.Begins.starts ≡ map (λ (it : (Worker g.row.W.Denot g.row.I.Denot g.row.O.Denot g.row.W-Plan.Denot g.row.W-Taken.Denot)). begun g.O.Outlet.told g.O.Outlet.faults it.seat it.work) rest) (sym more) (drop_rest (vec_len l.jobs) g.K.Begins.starts (map (λ (it : (Worker g.row.W.Denot g.row.I.Denot g.row.O.Denot g.row.W-Plan.Denot g.row.W-Taken.Denot)). begun g.O.Outlet.told g.O.Outlet.faults it.seat it.work) rest) (begun g.O.Outlet.told g.O.Outlet.faults it.seat it.work) starts),
    )

pub returns-clause-workers : goal.returns-clause-workers
returns-clause-workers g c =
    let jobs = map (λ (it : (HelpedJob g.row.K.Denot g.row.W.Denot g.row.I.Denot g.row.O.Denot g.row.W-Plan.Denot g.row.W-Taken.Denot g.K.Begins g.O.Outlet)). it.worker) c.loop-worker.jobs.items in
    let none = none_left c.loop-worker.worker-iterator.rest.items (let k = c.loop-worker.worker-iterator.rest.ok.0 in let s = c.in-None.ensures.steps.0 in omega arith) in
    sym (append-nil jobs) ∙ (ap (λ (l : List (Worker g.row.W.Denot g.row.I.Denot g.row.O.Denot g.row.W-Plan.Denot g.row.W-Taken.Denot)). jobs ++ map (λ (it : (Worker g.row.W.Denot g.row.I.Denot g.row.O.Denot g.row.W-Plan.Denot g.row.W-Taken.Denot)). Some it) l) (sym none) ∙ c.loop-worker.invariant.1)
