use Rattle.std.proofs.Common.{◌-◌, refl, sym, subst}
use Rattle.tb_living.proofs.OpenLemmas.{IsBeginning, beginning, last-within, last-fits, last-set}
use Rattle.tb_living.proofs.opening.begin_store.Goals as goal

pub loop-actual-init : goal.loop-actual-init
loop-actual-init c = let body = c.args.body.now in beginning body c.in_ok-store.store body.formals c.args.actuals c.in_ok-store.ensures refl c.requires

pub set-requires-clause-in_range : goal.set-requires-clause-in_range
set-requires-clause-in_range c =
    last-within c.args.body.now c.loop-actual.store c.loop-actual.slot c.args.actuals c.loop-actual.actuals c.pop.new.self c.in-Some.actual c.loop-actual.invariant c.in-Some.ensures

pub set-requires-clause-well_sorted : goal.set-requires-clause-well_sorted
set-requires-clause-well_sorted c =
    last-fits c.args.body.now c.loop-actual.store c.loop-actual.slot c.args.actuals c.loop-actual.actuals c.pop.new.self c.in-Some.actual c.loop-actual.invariant c.in-Some.ensures

pub loop-actual-preserved : goal.loop-actual-preserved
loop-actual-preserved c =
    let body = c.args.body.now in
    let slot = c.loop-actual.slot in
    let next = last-set body c.loop-actual.store slot c.args.actuals c.loop-actual.actuals c.pop.new.self c.in-Some.actual c.loop-actual.invariant c.in-Some.ensures in
    subst (λ store. IsBeginning body store (slot - 1) c.args.actuals c.pop.new.self) (sym c.set.ensures) next
