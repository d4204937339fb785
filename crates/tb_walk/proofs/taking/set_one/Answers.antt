use Rattle.std.proofs.Common.{ap, sym, ◌∙◌}
use Rattle.tb_func.specs.Stores.{sort_at}
use Rattle.tb_process_steps.specs.Binds.{with_binds}
use Rattle.tb_walk.proofs.OneBind.{in_range, only, sorted, taken_one}
use Rattle.tb_walk.proofs.taking.set_one.Goals as goal

pub set-requires-clause-in_range : goal.set-requires-clause-in_range
set-requires-clause-in_range c =
    let bind = c.in-Some.bind in
    let is = only c.pop.new.self bind c.args.binds.now c.in-Some.ensures c.requires.one in
    in_range c.args.store.now bind.slot bind.value (taken_one c.args.store.now bind c.args.binds.now is c.requires.taken)

pub set-requires-clause-well_sorted : goal.set-requires-clause-well_sorted
set-requires-clause-well_sorted c =
    let bind = c.in-Some.bind in
    let is = only c.pop.new.self bind c.args.binds.now c.in-Some.ensures c.requires.one in
    sorted (sort_at c.args.store.now bind.slot) bind.value (taken_one c.args.store.now bind c.args.binds.now is c.requires.taken)

pub returns-in-Some : goal.returns-in-Some
returns-in-Some c =
    let is = only c.pop.new.self c.in-Some.bind c.args.binds.now c.in-Some.ensures c.requires.one in
    c.set.ensures ∙ ap (with_binds c.args.store.now) (sym is)
