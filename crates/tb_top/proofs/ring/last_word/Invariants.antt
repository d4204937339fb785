use Rattle.std.proofs.Common.{◌≡◌, [], drop, fold}
use Rattle.tb_top.specs.Ring.{word_after}
use Rattle.tb_top.proofs.ring.last_word.Given as goal

abbrev pub invariant-loop-at : goal.invariant-loop-at
invariant-loop-at l = fold word_after l.word (drop l.at l.log.entries) ≡ fold word_after [] l.log.entries
