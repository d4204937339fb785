use Rattle.std.proofs.Common.{arith, rules}
use Rattle.std.proofs.lemmas.Fmt.{length-decimal-le}
use Rattle.tb_log.proofs.step_line.put_integer.Goals as goal

pub write_digits-start-requires : goal.write_digits-start-requires
write_digits-start-requires c =
    let short = length-decimal-le 19 c.unsigned_abs-2.result (omega arith) (omega arith) (omega arith) in
    (omega arith, search rules)

pub put_byte-requires : goal.put_byte-requires
put_byte-requires c =
    let short = length-decimal-le 19 c.unsigned_abs-2.result (omega arith) (omega arith) (omega arith) in
    let start = c.write_digits-start.ensures.start in
    (omega arith, omega arith)

pub returns-clause-room : goal.returns-clause-room
returns-clause-room c =
    let short = length-decimal-le 19 c.unsigned_abs-2.result (omega arith) (omega arith) (omega arith) in
    let start = c.write_digits-start.ensures.start in
    (omega arith, omega arith)
