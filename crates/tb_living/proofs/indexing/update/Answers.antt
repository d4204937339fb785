use Rattle.std.proofs.Common.{◌∙◌, ap, not, true}
use Rattle.tb_search.specs.Indexed.{sent_marks}
use Rattle.tb_living.specs.Indexes.{found_marks}
use Rattle.tb_bus.specs.Exchanges.{setting_by}
use Rattle.tb_living.proofs.IndexLemmas.{keeps-self, keeps-same, keeps-set, keeps-then, keeps-turned, kept-right, looked-right}
use Rattle.tb_living.proofs.RestLemmas.{rested-stale, rested-turned}
use Rattle.tb_living.proofs.indexing.update.Goals as goal

pub returns-in_err-fill_marks-clause-others : goal.returns-in_err-fill_marks-clause-others
returns-in_err-fill_marks-clause-others g c other ne = keeps-self c.args.index.now other

pub returns-in_err-set-clause-right : goal.returns-in_err-set-clause-right
returns-in_err-set-clause-right g c =
    kept-right c.args.index.now c.set.new.self c.args.living.now (keeps-same c.args.index.now c.set.new.self c.in_err-set.ensures.err c.args.living.now.number) c.requires.right

pub returns-in_err-set-clause-others : goal.returns-in_err-set-clause-others
returns-in_err-set-clause-others g c other ne = keeps-same c.args.index.now c.set.new.self c.in_err-set.ensures.err other

pub returns-clause-right : goal.returns-clause-right
returns-clause-right g c =
    looked-right c.args.index.now c.set.new.self c.turn.new.index c.args.living.now c.fill_marks.new.marks c.swap.new.x (not c.in_ok-rest.rest) c.requires.right c.in_ok-set.ensures.ok c.turn.ensures
    (c.in_ok-fill_marks.ensures.sends ∙ ap sent_marks c.as_slice.ensures.value) (c.in_ok-fill_marks.ensures.receives ∙ ap found_marks c.as_slice.ensures.value) c.swap.ensures.x_after

pub returns-in_err-rest-clause-rested : goal.returns-in_err-rest-clause-rested
returns-in_err-rest-clause-rested g c stirred =
    rested-stale (setting_by c.args.program.now.bodies c.args.program.now.tools c.args.bench.now) stirred c.args.index.now c.args.living.now c.requires.stale

pub returns-in_err-rest-clause-others : goal.returns-in_err-rest-clause-others
returns-in_err-rest-clause-others g c other ne = keeps-self c.args.index.now other

pub returns-in_err-fill_marks-clause-rested : goal.returns-in_err-fill_marks-clause-rested
returns-in_err-fill_marks-clause-rested g c stirred =
    rested-stale (setting_by c.args.program.now.bodies c.args.program.now.tools c.args.bench.now) stirred c.args.index.now c.args.living.now c.requires.stale

pub returns-in_err-set-clause-rested : goal.returns-in_err-set-clause-rested
returns-in_err-set-clause-rested g c stirred =
    rested-stale (setting_by c.args.program.now.bodies c.args.program.now.tools c.args.bench.now) stirred c.set.new.self c.args.living.now c.requires.stale

pub returns-clause-rested : goal.returns-clause-rested
returns-clause-rested g c stirred =
    rested-turned (setting_by c.args.program.now.bodies c.args.program.now.tools c.args.bench.now) stirred c.set.new.self c.turn.new.index (record c.args.living.now { marks = c.swap.new.x; fresh = true }) c.in_ok-rest.rest
    c.turn.ensures c.in_ok-rest.ensures

pub returns-clause-others : goal.returns-clause-others
returns-clause-others g c other ne =
    let old = c.args.index.now in
    let living = c.args.living.now in
    let looked = c.fill_marks.new.marks in
    keeps-then old c.set.new.self c.turn.new.index other
    (keeps-set old c.set.new.self living.number looked.sends.items looked.receives.items c.in_ok-set.ensures.ok other ne)
    (keeps-turned c.set.new.self c.turn.new.index living.number _ c.turn.ensures other ne)
