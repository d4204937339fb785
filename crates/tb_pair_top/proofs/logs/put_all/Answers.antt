use Rattle.tb_pair_top.specs.Outcomes.{pair_text}
use Rattle.tb_pair_top.proofs.Parts.{put-whole}
use Rattle.tb_pair_top.proofs.logs.put_all.Goals as goal

pub returns-in-Ok : goal.returns-in-Ok
returns-in-Ok g c =
    put-whole c.args.why (pair_text c.args.one.now.entries c.args.other.now.entries) (g.O.Sink.taken c.args.out.now) (g.O.Sink.taken c.put_both.new.out) (g.O.Sink.faults c.args.out.now) (g.O.Sink.faults c.put_both.new.out)
    c.after_run.result c.after_run.ensures c.in-Ok.ensures.ok c.in-Ok.ensures.calm
