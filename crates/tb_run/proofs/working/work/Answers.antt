use Rattle.std.proofs.Common.{◌≡◌, ap, sym, ◌∙◌}
use Rattle.tb_run.specs.declared.tick_job.TickJob.{TickJob}
use Rattle.tb_run.specs.Logging.{LogDone}
use Rattle.tb_run.specs.Workers.{TicksBus}
use Rattle.tb_run.proofs.BackLemmas.{match_map, moved}
use Rattle.tb_run.proofs.working.work.Goals as goal

pub returns-clause-worked : goal.returns-clause-worked
returns-clause-worked g c =
    let tick = c.clock-1.given.1 (sym c.beside-failed.ensures.clock) ∙ c.end_ticks-tick_seat.ensures.clock in
    let put = c.out-1.given.1 (sym c.beside-failed.ensures.out) ∙ c.end_log-log_seat.ensures.out in
    let ts = c.end_ticks-tick_seat.ensures.seat in
    let ls = c.end_log-log_seat.ensures.seat in
    match_map c.beside-failed.result.0 _ _ _ _
    (moved _
    (λ s k e. TicksBus (λ count. count ≡ c.args.ticks) c.args.ticks c.args.team.tick_seat s (g.C.Clock.told c.args.clock.now) (g.C.Clock.told k) (g.C.Clock.faults c.args.clock.now) (g.C.Clock.faults k) e)
    (λ l w o f. LogDone c.args.team.log_seat l w (g.S.Sink.taken c.args.out.now) (g.S.Sink.taken o) (g.S.Sink.faults c.args.out.now) (g.S.Sink.faults o) f)
    _ _ _ _ _ _ _ _ _ _ _ _ _ _ ts tick c.end_ticks-tick_seat.ensures.end ls c.end_log-log_seat.ensures.writer put c.end_log-log_seat.ensures.end)
    (λ w n. (
      n.0,
      n.1,
      ts ∙ ap (λ (t : TickJob g.row.W.Denot g.row.C.Denot g.row.W-Plan.Denot g.row.W-Taken.Denot). t.seat) n.2,
      ls ∙ ap (λ t. t.seat) n.3,
      ap g.C.Clock.told tick ∙ ap (λ (t : TickJob g.row.W.Denot g.row.C.Denot g.row.W-Plan.Denot g.row.W-Taken.Denot). g.C.Clock.told t.clock.now) n.2,
      ap g.S.Sink.taken put ∙ ap (λ t. g.S.Sink.taken t.out.now) n.3,
    ))
    c.beside-failed.ensures.worked

pub returns-clause-calm : goal.returns-clause-calm
returns-clause-calm g c =
    let tick = c.clock-1.given.1 (sym c.beside-failed.ensures.clock) ∙ c.end_ticks-tick_seat.ensures.clock in
    let put = c.out-1.given.1 (sym c.beside-failed.ensures.out) ∙ c.end_log-log_seat.ensures.out in
    match_map c.beside-failed.result.0 _ _ _ _ (λ same. same)
    (λ w n. (
      ap g.C.Clock.faults tick ∙ ap (λ (t : TickJob g.row.W.Denot g.row.C.Denot g.row.W-Plan.Denot g.row.W-Taken.Denot). g.C.Clock.faults t.clock.now) n.0,
      ap g.S.Sink.faults put ∙ ap (λ t. g.S.Sink.faults t.out.now) n.1,
    ))
    c.beside-failed.ensures.calm
