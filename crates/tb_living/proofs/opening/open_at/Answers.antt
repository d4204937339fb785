use Rattle.std.proofs.Common.{◌∙◌, ap, refl, sym, Some, slice_get}
use Rattle.std.proofs.lemmas.Result.{IfOk-weaker}
use Rattle.tb_living.proofs.ReadLemmas.{read-is}
use Rattle.tb_living.proofs.OpenLemmas.{planned-fits, proc-opened}
use Rattle.tb_living.proofs.opening.open_at.Goals as goal

pub returns-clause-live : goal.returns-clause-live
returns-clause-live g c =
    let view = g.W.Walker.view in
    let plans = c.args.plans.now in
    let it = planned-fits view.body_of c.args.bodies.now plans c.args.process c.args.actuals c.requires.plans c.requires.fits in
    let plan = read-is plans c.as_slice.result.now c.args.process c.index-as_slice-place.result it.plan c.as_slice.ensures it.planned c.index-as_slice-place.is in
    IfOk-weaker c.open_one.result _ _
    (λ living begins now. (c.index-as_slice-place.result, ap (slice_get plans) begins.body ∙ it.planned ∙ ap (λ p. Some p) (sym plan), begins.live now))
    c.open_one.ensures

pub returns-clause-procs : goal.returns-clause-procs
returns-clause-procs g c =
    let view = g.W.Walker.view in
    let plans = c.args.plans.now in
    let bodies = c.args.bodies.now in
    let it = planned-fits view.body_of bodies plans c.args.process c.args.actuals c.requires.plans c.requires.fits in
    let plan = read-is plans c.as_slice.result.now c.args.process c.index-as_slice-place.result it.plan c.as_slice.ensures it.planned c.index-as_slice-place.is in
    let body = read-is bodies bodies c.args.process c.index-bodies-place.result it.body refl it.there c.index-bodies-place.is in
    IfOk-weaker c.open_one.result _ _
    (λ living begins. proc-opened view plans bodies c.index-as_slice-place.result c.index-bodies-place.result c.args.number c.args.process c.args.actuals living
    (it.planned ∙ ap (λ p. Some p) (sym plan)) (it.there ∙ ap (λ b. Some b) (sym body)) (ap view.body_of plan ∙ it.same ∙ sym body) begins)
    c.open_one.ensures
