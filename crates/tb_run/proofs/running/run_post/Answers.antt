use Rattle.std.proofs.Common.{List, subst, sym, ap, ◌∙◌}
use Rattle.std.specs.Prelude.{IsTrue}
use Rattle.std.specs.List.{list_all}
use Rattle.tb_log.specs.Proper.{is_proper_entry}
use Rattle.tb_log.specs.declared.entry.Entry.{Entry}
use Rattle.tb_lock.specs.Seats.{SeatView}
use Rattle.tb_run.specs.Running.{GoesToRest, IsAfterRest}
use Rattle.tb_run.proofs.CloseLemmas.{may_rest, closed}
use Rattle.tb_run.proofs.running.run_post.Goals as goal

pub close-core-requires-clause-own : goal.close-core-requires-clause-own
close-core-requires-clause-own g c = c.run_workers-why.ensures.come.bus ∙ ap (λ (s : SeatView). s.bus) c.requires.first

pub close-core-requires-clause-rights : goal.close-core-requires-clause-rights
close-core-requires-clause-rights g c = c.run_workers-why.ensures.come.rights

pub close-core-requires-clause-room : goal.close-core-requires-clause-room
close-core-requires-clause-room g c = c.run_workers-why.ensures.come.room

pub put_rest-why-requires : goal.put_rest-why-requires
put_rest-why-requires g c = record {
  held =
      subst (λ (l : List Entry). GoesToRest l c.run_workers-why.result.1 c.run_workers-why.result.0) (sym (c.log.ensures.value ∙ c.close-core.ensures.log))
      (may_rest c.args.ticks _ _ c.run_workers-why.new.seat c.run_workers-why.result.1 c.run_workers-why.result.0 c.run_workers-why.ensures.come.outcome);
}

pub returns-clause-runs : goal.returns-clause-runs
returns-clause-runs g c =
    closed c.a_full_log_is_at_its_limit.ensures.later c.args.ticks _ _ _ _ _ _ _ _ _ c.args.seat c.run_workers-why.new.seat c.run_workers-why.result.1 c.close-core.result c.close-core.ensures c.log.ensures.within (subst (λ (l : List Entry). IsTrue (list_all is_proper_entry l)) c.log.ensures.value c.put_rest-why.ensures.proper)
    c.run_workers-why.result.0 c.put_rest-why.result c.run_workers-why.ensures.come
    (subst (λ (l : List Entry). IsAfterRest l c.run_workers-why.result.1 c.run_workers-why.result.0 c.put_rest-why.result (g.S.Sink.taken c.run_workers-why.new.out) (g.S.Sink.taken c.put_rest-why.new.out) (g.S.Sink.faults c.run_workers-why.new.out) (g.S.Sink.faults c.put_rest-why.new.out)) c.log.ensures.value c.put_rest-why.ensures.rest)
