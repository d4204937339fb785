use Rattle.std.proofs.Common.{ℕ, List, [], ◌∷◌, ◌++◌, codes, inl, subst}
use Rattle.tb_edge.specs.Sinks.{Writes}
use Rattle.tb_pair_top.proofs.report.report_fault.Goals as goal

pub returns-in-Ok-clause-reports : goal.returns-in-Ok-clause-reports
returns-in-Ok-clause-reports g c =
    inl (c.status.ensures, subst (λ (words : List ℕ). Writes (g.E.Sink.taken c.args.err.now) (g.E.Sink.taken c.put_line.new.err) (codes "toolbus_pair: " ++ words ++ 10 ∷ [])) c.message.ensures c.in-Ok.ensures.ok)
