use Rattle.std.proofs.Common.{arith, get_or, refl}
use Rattle.tb_func.proofs.OutputLemmas.{behind_nothing, in_all-stops}
use Rattle.tb_func.proofs.printing.printed.Goals as goal

pub loop-byte-init : goal.loop-byte-init
loop-byte-init c =
    rw (c.new-printer.ensures.text, c.new-printer.ensures.taken, c.new-printer.ensures.begins) (behind_nothing _)

pub returns-then-not-branch : goal.returns-then-not-branch
returns-then-not-branch c =
    in_all-stops c.loop-byte.printer c.args.format.now c.args.args.now c.loop-byte.byte-index (get_or c.args.format.now c.loop-byte.byte-index 0) _ c.loop-byte.invariant (omega arith) refl (λ rest. rw c.if-not-branch.true at (c.in_ok-take.ensures rest))
