use Rattle.std.proofs.Common.{map, string_bytes, Err, ap}
use Rattle.tb_cli.specs.Words.{asked_pair}
use Rattle.tb_pair_top.proofs.Parts.{comes-by, not-begun}
use Rattle.tb_pair_top.proofs.top.answer.Goals as goal

pub returns-in-Ok-clause-comes : goal.returns-in-Ok-clause-comes
returns-in-Ok-clause-comes g c =
    comes-by (asked_pair (map (string_bytes {Z = Rattle.std.proofs.Common.Global}) c.args.words.now.items)) c.in-Ok.command _ _ c.do_pair.result c.in-Ok.ensures.ok c.do_pair.ensures.comes

pub returns-in-Err-NoMemory-clause-comes : goal.returns-in-Err-NoMemory-clause-comes
returns-in-Err-NoMemory-clause-comes g c =
    not-begun (Unit {0}) (asked_pair (map (string_bytes {Z = Rattle.std.proofs.Common.Global}) c.args.words.now.items)) _ (c.in-Err-NoMemory.ensures.memory (ap Err c.in-Err-NoMemory.field-0-is))
