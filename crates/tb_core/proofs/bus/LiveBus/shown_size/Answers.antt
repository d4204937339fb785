use Rattle.std.proofs.Common.{◌≡◌, ◌∙◌, ap, arith, min, subst, sym}
use Rattle.std.below.core.specs.declared.int.usize.TheConstants.{MAX}
use Rattle.std.proofs.lemmas.List.{length-map}
use Rattle.tb_log.specs.Limits.{terms_size}
use Rattle.tb_bus.specs.Steps.{label_of}
use Rattle.tb_bus.specs.declared.action.Action.TheVariants as action
use Rattle.tb_search.specs.Candidates.{no_row, row_of, rows_of}
use Rattle.tb_search.specs.Views.{ready_at, IsCandidateIn}
use Rattle.tb_search.specs.declared.living.Ready.{Ready}
use Rattle.tb_living.proofs.ReadLemmas.{map-there, read-there, read-through}
use Rattle.tb_core.specs.Helpers.LiveBuses.{move_in, scene_in}
use Rattle.tb_core.proofs.FreshLemmas.{ready-read}
use Rattle.tb_core.proofs.MakeLemmas.{shown-own}
use Rattle.tb_core.proofs.bus.LiveBus.shown_size.Goals as goal

pub returns-in-Own-action : goal.returns-in-Own-action
returns-in-Own-action g c =
    let view = g.W.Walker.view in
    let bus = c.args.self.now in
    let all = bus.living.items in
    let at = c.in-Own.at in
    let index = c.in-Own.index in
    let own = c.in-Own-action.own in
    let living = c.get.result.now in
    let it = subst (IsCandidateIn (scene_in bus)) c.in-Own.is c.requires.found in
    let many = length-map all row_of in
    let row = map-there row_of all at living no_row (read-there all at living (omega (arith, it.0.0)) (read-through all at _ _ c.get.ensures c.index.ensures)) in
    let ready = ready-read all at index living c.index-in-Own.result.now row it.0.1 c.index-in-Own.ensures in
    let does : (ready_at (rows_of all) at index).action ≡ action.Own own = ap (λ (r : Ready). r.action) (sym ready) ∙ c.in-Own-action.is in
    c.own_size.ensures
    ∙ ap (λ terms. min (terms_size terms) MAX)
    (shown-own view bus at index own c.in-Own.finding c.requires.sound c.requires.fresh it does ∙ ap (λ x. (label_of (move_in view bus x)).terms) (sym c.in-Own.is))
