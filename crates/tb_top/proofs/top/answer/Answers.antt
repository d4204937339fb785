use Rattle.std.proofs.Common.{map, string_bytes, Err, ap}
use Rattle.tb_cli.specs.Words.{asked}
use Rattle.tb_top.proofs.Parts.{not-begun}
use Rattle.tb_top.proofs.top.answer.Goals as goal

pub returns-in-Err-NoMemory-clause-outcome : goal.returns-in-Err-NoMemory-clause-outcome
returns-in-Err-NoMemory-clause-outcome g c =
    not-begun (Unit {0}) (asked (map (string_bytes {Z = Rattle.std.proofs.Common.Global}) c.args.words.now.items)) _ (c.in-Err-NoMemory.ensures.memory (ap Err c.in-Err-NoMemory.field-0-is))
