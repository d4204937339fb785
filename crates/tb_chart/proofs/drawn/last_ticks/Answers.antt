use Rattle.std.proofs.Common.{◌≡◌, ◌+◌, length, get_or, true, false, arith}
use Rattle.std.proofs.lemmas.Grind.{common_steps}
use Rattle.tb_chart.specs.Drawn.{are_ticks}
use Rattle.tb_chart.proofs.DrawnLemmas.{last_apart, last_joins}
use Rattle.tb_chart.proofs.drawn.last_ticks.Goals as goal

pub returns-then-are_ticks-clause-some : goal.returns-then-are_ticks-clause-some
returns-then-are_ticks-clause-some c =
    let last : c.in-Some.index + 1 ≡ length c.args.drawn.now = omega arith in
    let are : are_ticks (get_or c.args.drawn.now c.in-Some.index c.args.line) c.args.line ≡ true = grind (arith, common_steps) in
    record { within = omega (arith, last); joins = last_joins c.args.drawn.now c.args.line c.in-Some.index last are }

pub returns-else-are_ticks-clause-none : goal.returns-else-are_ticks-clause-none
returns-else-are_ticks-clause-none c =
    let last : c.in-Some.index + 1 ≡ length c.args.drawn.now = omega arith in
    let are : are_ticks (get_or c.args.drawn.now c.in-Some.index c.args.line) c.args.line ≡ false = grind (arith, common_steps) in
    last_apart c.args.drawn.now c.args.line c.in-Some.index last are
