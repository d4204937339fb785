use Rattle.std.proofs.lemmas.Result.{IfOk-weaker}
use Rattle.tb_lens.proofs.Tellings.{tells_point}
use Rattle.tb_lens.proofs.at.tell_point.Goals as goal

pub returns : goal.returns
returns c =
    IfOk-weaker c.message_text.result _ _
    (λ text begins told loaded. tells_point told c.args.name.now text.items c.args.bytes.now c.args.found.now c.requires begins loaded)
    c.message_text.ensures
