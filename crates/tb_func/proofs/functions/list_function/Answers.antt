use Rattle.std.proofs.Common.{sym, ap, codes, arith}
use Rattle.std.proofs.lemmas.Slice.Eq.{text_from_reads}
use Rattle.tb_func.specs.Functions.{list_named}
use Rattle.tb_func.proofs.functions.list_function.Goals as goal

pub returns-in-member : goal.returns-in-member
returns-in-member c =
    let text = text_from_reads c.args.name.now (codes "member") (omega arith) (omega arith, (omega arith, (omega arith, (omega arith, (omega arith, (omega arith, tt)))))) in
    sym (ap list_named text)
