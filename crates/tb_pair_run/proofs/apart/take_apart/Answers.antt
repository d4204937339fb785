use Rattle.std.proofs.Common.{rules, ◌≡◌, ◌∷◌, sym, ◌∙◌}
use Rattle.tb_pair.specs.declared.job.PairJob.TheVariants.{Writes, Reads}
use Rattle.tb_pair_run.proofs.TeamLemmas.{team_taken}
use Rattle.tb_pair_run.proofs.apart.take_apart.Goals as goal

pub returns-clause-jobs : goal.returns-clause-jobs
returns-clause-jobs g c =
    let one : c.into_iter-jobs.result.rest.items ≡ Writes c.in-Some-Writes.writing ∷ c.next.new.self.rest.items = search rules in
    let two : c.next.new.self.rest.items ≡ Reads c.in-Some-Reads.reading ∷ c.next-2.new.self.rest.items = search rules in
    team_taken c.in-Some-Writes.writing c.in-Some-Reads.reading c.args.jobs.items c.next.new.self.rest.items c.next-2.new.self.rest.items c.take_some.new.jobs.rest.items c.take_some-2.new.jobs.rest.items
    c.take_some.new.workers.items c.take_some-2.new.workers.items (sym c.into_iter-jobs.ensures.rest ∙ one) two c.take_some.ensures.items c.take_some-2.ensures.items
    c.requires.count c.take_some.ensures.count c.take_some-2.ensures.count
