use Rattle.std.proofs.Common.{arith}
use Rattle.tb_script.proofs.Existing.{some_program}
use Rattle.tb_script.proofs.Findings.{many_found}
use Rattle.tb_script.proofs.accepting.accept_roots.Goals as goal

pub returns-then-count-gt-MOST_ROOTS : goal.returns-then-count-gt-MOST_ROOTS
returns-then-count-gt-MOST_ROOTS c = λ text read.
    let made = c.requires.expanded.1 in
    many_found text c.args.names.now.script.now read c.requires.proper made.no_cycle made.small c.len-count.result c.len-count.ensures (omega (arith, c.if-count-gt-MOST_ROOTS.true))

pub returns : goal.returns
returns c = λ text read.
    some_program text c.args.names.now.script.now read c.requires.proper c.requires.expanded.0 c.requires.expanded.1 (omega (arith, c.len-count.ensures, c.if-count-gt-MOST_ROOTS.false))
