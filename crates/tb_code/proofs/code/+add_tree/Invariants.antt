use Rattle.std.proofs.Common.{◌+◌, ◌*◌, max}
use Rattle.tb_body.specs.declared.tree.Tree.{size-Tree}
use Rattle.tb_code.proofs.code.+add_tree.Given as goal

abbrev pub decreases-add_tree : goal.decreases-add_tree
decreases-add_tree l = 2 * size-Tree l.tree.now

abbrev pub decreases-add_two : goal.decreases-add_two
decreases-add_two l = 2 * max (size-Tree l.x.now) (size-Tree l.y.now) + 1

abbrev pub decreases-add_until : goal.decreases-add_until
decreases-add_until l = 2 * max (size-Tree l.x.now) (size-Tree l.y.now) + 1
