use Rattle.tb_chart.proofs.PassLemmas.{passes_execute}
use Rattle.tb_chart.proofs.scene.Scene.execute.Goals as goal

pub returns-in-Some-clause-right : goal.returns-in-Some-clause-right
returns-in-Some-clause-right c =
    passes_execute c.args.label.now c.in-Some.kind c.in-Some-Some.name.now c.args.self.now c.in_ok-kind.field-0 c.add_seat.result c.requires
    c.in-Some-Some.ensures c.in-Some.is c.in_ok-kind.ensures.some
