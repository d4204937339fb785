use Rattle.std.proofs.Common.{◌≡◌, ◌++◌, map, sym, subst, OnOk}
use Rattle.tb_process_steps.specs.Processes.{fresh}
use Rattle.tb_code.specs.declared.entry.What.{What}
use Rattle.tb_walk.specs.Helpers.Sights.{looking, seen_by, sighted}
use Rattle.tb_walk.proofs.look.look_entry.Goals as goal

pub returns-in-Atom : goal.returns-in-Atom
returns-in-Atom c =
    let entry = c.args.entry.now in
    subst (λ (w : What). OnOk c.look_ready.result (map (sighted c.args.base.now) c.look_ready.new.found ≡ map (sighted c.args.base.now) c.args.found.now ++ seen_by (fresh c.args.code.now.body.tree) (looking c.args.code.now.body.atoms c.args.clock.now) c.args.base.now entry.position entry.behind w))
    (sym c.in-Atom.is) c.look_ready.ensures

pub returns-in-Timed : goal.returns-in-Timed
returns-in-Timed c =
    let entry = c.args.entry.now in
    subst (λ (w : What). OnOk c.look_timed.result (map (sighted c.args.base.now) c.look_timed.new.found ≡ map (sighted c.args.base.now) c.args.found.now ++ seen_by (fresh c.args.code.now.body.tree) (looking c.args.code.now.body.atoms c.args.clock.now) c.args.base.now entry.position entry.behind w))
    (sym c.in-Timed.is) c.look_timed.ensures

pub returns-in-Gate : goal.returns-in-Gate
returns-in-Gate c =
    let entry = c.args.entry.now in
    subst (λ (w : What). OnOk c.look_gate.result (map (sighted c.args.base.now) c.look_gate.new.found ≡ map (sighted c.args.base.now) c.args.found.now ++ seen_by (fresh c.args.code.now.body.tree) (looking c.args.code.now.body.atoms c.args.clock.now) c.args.base.now entry.position entry.behind w))
    (sym c.in-Gate.is) c.look_gate.ensures
