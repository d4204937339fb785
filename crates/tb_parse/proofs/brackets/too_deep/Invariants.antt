use Rattle.tb_parse.proofs.Opened.{Counted}
use Rattle.tb_parse.proofs.brackets.too_deep.Given as goal

abbrev pub invariant-loop-position : goal.invariant-loop-position
invariant-loop-position l = Counted l.tokens l.position l.count
