use Rattle.std.proofs.Common.{sym, ap, codes, arith}
use Rattle.std.proofs.lemmas.Slice.Eq.{text_from_reads}
use Rattle.tb_func.specs.Functions.{logic_named}
use Rattle.tb_func.proofs.functions.logic_function.Goals as goal

pub returns-in-110 : goal.returns-in-110
returns-in-110 c =
    let text = text_from_reads c.args.name.now (codes "not-equal") (omega arith) (omega arith, (omega arith, (omega arith, (omega arith, (omega arith, (omega arith, (omega arith, (omega arith, (omega arith, tt))))))))) in
    sym (ap logic_named text)
