use Rattle.std.proofs.Common.{List, ◌++◌, ap, sym, ◌∙◌}
use Rattle.rtrb.specs.Ring.{sent, received, known_items}
use Rattle.tb_pair.specs.declared.piece.Piece.{Piece}
use Rattle.tb_pair.proofs.PassLemmas.{passes}
use Rattle.tb_pair.proofs.laws.ends_meet.Goals as goal

pub returns-clause-passes : goal.returns-clause-passes
returns-clause-passes c = λ bus others_bus begun done last others_begun others_done others_last writer reader w r can part others_can others_part.
    passes bus others_bus begun done last others_begun others_done others_last (sent c.args.writes.end) (received c.args.reads.end) (known_items c.slots_beside.new.self) writer reader w r
    (ap (λ (got : List Piece). got ++ known_items c.slots_beside.new.self) (sym c.slots_beside.ensures.looked.1) ∙ (c.slots_beside.ensures.fifo ∙ c.slots_beside.ensures.producer.1))
    can part others_can others_part

pub returns-clause-met : goal.returns-clause-met
returns-clause-met c =
    (known_items c.slots_beside.new.self, ap (λ (got : List Piece). got ++ known_items c.slots_beside.new.self) (sym c.slots_beside.ensures.looked.1) ∙ (c.slots_beside.ensures.fifo ∙ c.slots_beside.ensures.producer.1))
