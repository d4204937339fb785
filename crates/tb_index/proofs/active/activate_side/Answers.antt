use Rattle.std.proofs.Common.{List, subst, arith}
use Rattle.std.proofs.lemmas.List.{take_all}
use Rattle.tb_index.specs.declared.mark.Mark.{Mark}
use Rattle.tb_index.specs.Helpers.Sides.{AreHeardOn}
use Rattle.tb_index.proofs.SideLemmas as sides
use Rattle.tb_index.proofs.active.activate_side.Goals as goal

pub loop-mark-init : goal.loop-mark-init
loop-mark-init c = (λ mark e. e, sides.none-heard c.args.side c.args.across.now c.args.but.now c.args.active.now.items)

pub activate_one-requires : goal.activate_one-requires
activate_one-requires c = sides.told-at c.args.side c.args.counts.now.opened c.args.across.now c.args.counts.now.pairs c.args.marks.now c.loop-mark.mark-index _ c.loop-mark-test.true c.requires

pub loop-mark-preserved : goal.loop-mark-preserved
loop-mark-preserved c = (
  λ mark e. c.activate_one.ensures.kept mark (c.loop-mark.invariant.0 mark e),
  sides.more-heard c.args.side c.args.across.now c.args.but.now c.args.marks.now c.loop-mark.mark-index _ c.loop-mark.active.items c.activate_one.new.active.items
      c.loop-mark-test.true c.loop-mark.invariant.1 c.activate_one.ensures.kept c.in_ok-activate_one.ensures.all,
)

pub returns-clause-all : goal.returns-clause-all
returns-clause-all c = subst (λ (marks : List Mark). AreHeardOn c.args.side marks c.args.but.now c.args.across.now c.loop-mark.active.items)
    (take_all c.loop-mark.mark-index c.args.marks.now (omega (arith, c.loop-mark-test.false))) c.loop-mark.invariant.1
