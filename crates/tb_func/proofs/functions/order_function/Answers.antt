use Rattle.std.proofs.Common.{sym, ap, codes, arith}
use Rattle.std.proofs.lemmas.Slice.Eq.{text_from_reads}
use Rattle.tb_func.specs.Functions.{order_named}
use Rattle.tb_func.proofs.functions.order_function.Goals as goal

pub returns-in-greater : goal.returns-in-greater
returns-in-greater c =
    let text = text_from_reads c.args.name.now (codes "greater") (omega arith) (omega arith, (omega arith, (omega arith, (omega arith, (omega arith, (omega arith, (omega arith, tt))))))) in
    sym (ap order_named text)

pub returns-in-108 : goal.returns-in-108
returns-in-108 c =
    let text = text_from_reads c.args.name.now (codes "less-equal") (omega arith) (omega arith, (omega arith, (omega arith, (omega arith, (omega arith, (omega arith, (omega arith, (omega arith, (omega arith, (omega arith, tt)))))))))) in
    sym (ap order_named text)

pub returns-in-103 : goal.returns-in-103
returns-in-103 c =
    let text = text_from_reads c.args.name.now (codes "greater-equal") (omega arith) (omega arith, (omega arith, (omega arith, (omega arith, (omega arith, (omega arith, (omega arith, (omega arith, (omega arith, (omega arith, (omega arith, (omega arith, (omega arith, tt))))))))))))) in
    sym (ap order_named text)
