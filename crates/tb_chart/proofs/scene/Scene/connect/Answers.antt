use Rattle.tb_chart.proofs.PassLemmas.{passes_connect}
use Rattle.tb_chart.proofs.scene.Scene.connect.Goals as goal

pub returns-in-Some-clause-right : goal.returns-in-Some-clause-right
returns-in-Some-clause-right c =
    passes_connect c.args.lane c.in-Some.kind c.args.name.now c.args.self.now c.in_ok-kind.field-0 c.add_seat.result c.in-Some.is
    c.in_ok-kind.ensures.some c.add_seat.ensures.is
