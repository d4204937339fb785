use Rattle.tb_parse.proofs.sorts.+sort.Given as goal

abbrev pub decreases-sort : goal.decreases-sort
decreases-sort l = l.room
