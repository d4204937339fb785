use Rattle.std.proofs.Common.{subst}
use Rattle.tb_fault_place.specs.Points.{IsAnswer}
use Rattle.tb_lens.proofs.Tellings.{tells_none}
use Rattle.tb_lens.proofs.at.tell_bytes.Goals as goal

pub returns-in-Ok-None : goal.returns-in-Ok-None
returns-in-Ok-None c = λ told loaded.
    let said = subst (IsAnswer c.args.bytes.now) c.in-Ok-None.field-0-is c.in-Ok-None.ensures in
    tells_none told c.args.name.now c.new.result.items c.args.bytes.now said c.new.ensures.items loaded
