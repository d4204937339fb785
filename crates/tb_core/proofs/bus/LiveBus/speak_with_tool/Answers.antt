use Rattle.std.proofs.Common.{◌≤◌, ◌∙◌, ap, subst, sym}
use Rattle.tb_tools.specs.Lanes.{BenchState, most_tools}
use Rattle.tb_living.proofs.ReadLemmas.{on-err}
use Rattle.tb_living.proofs.SpokenLemmas.{spoken-lane}
use Rattle.tb_core.specs.declared.bus.LiveBus.{LiveBus}
use Rattle.tb_core.proofs.BenchLemmas.{can-speak, spoken-changed, spoken-done, stands-bench}
use Rattle.tb_core.proofs.SetLemmas.{stands-then}
use Rattle.tb_core.proofs.bus.LiveBus.speak_with_tool.Goals as goal

pub disturb_by-requires-clause-lane : goal.disturb_by-requires-clause-lane
disturb_by-requires-clause-lane g c = spoken-lane c.args.self.now.origin.program.tools c.args.self.now.bench c.args.does c.args.exchange c.requires.can

pub speak-requires-clause-found : goal.speak-requires-clause-found
speak-requires-clause-found g c =
    let old = c.args.self.now in
    let mid = c.disturb_by.new.self in
    let alone = c.disturb_by.ensures.alone in
    can-speak c.args.does c.args.exchange c.as_slice.result.now old.origin.program.tools mid.bench old.bench (c.as_slice.ensures ∙ ap (λ (b : LiveBus _ _ _). b.origin.program.tools) alone) (ap (λ (b : LiveBus _ _ _). b.bench) alone)
    c.requires.can

pub speak-requires-clause-tools : goal.speak-requires-clause-tools
speak-requires-clause-tools g c = subst (λ (b : BenchState). b.next_tool ≤ most_tools) (sym (ap (λ (b : LiveBus _ _ _). b.bench) c.disturb_by.ensures.alone)) c.requires.tools

pub returns-in_err-done-clause-err : goal.returns-in_err-done-clause-err
returns-in_err-done-clause-err g c =
    let view = g.W.Walker.view in
    let old = c.args.self.now in
    let mid = c.disturb_by.new.self in
    let same = c.disturb_by.ensures.same in
    on-err c.from_residual-in_err-done.result (stands-then view old mid (record mid { bench = c.speak.new.bench }) same (stands-bench view mid c.speak.new.bench same.sound c.in_err-done.ensures.err))

pub returns-clause-changed : goal.returns-clause-changed
returns-clause-changed g c at within =
    let old = c.args.self.now in
    let mid = c.disturb_by.new.self in
    spoken-changed g.W.Walker.view old mid c.stir_if.new.self c.disturb_by.ensures.same c.disturb_by.ensures.alone c.speak.new.bench c.in_ok-stirs.stirs c.stir_if.ensures
    at c.args.does c.args.exchange c.as_slice.result.now c.as_slice.ensures c.in_ok-done.ensures.ok c.show_lanes.ensures c.in_ok-stirs.ensures.quiet within

pub returns-clause-done : goal.returns-clause-done
returns-clause-done g c =
    let old = c.args.self.now in
    let mid = c.disturb_by.new.self in
    let alone = c.disturb_by.ensures.alone in
    spoken-done c.args.does c.args.exchange c.as_slice.result.now old.origin.program.tools mid.bench old.bench c.in_ok-done.done (c.as_slice.ensures ∙ ap (λ (b : LiveBus _ _ _). b.origin.program.tools) alone)
    (ap (λ (b : LiveBus _ _ _). b.bench) alone) c.in_ok-done.ensures.done
