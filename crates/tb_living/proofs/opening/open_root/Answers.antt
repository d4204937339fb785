use Rattle.std.proofs.Common.{◌≡◌, ◌∙◌, ◌+◌, List, ap, arith, refl, slice_get, sym}
use Rattle.std.proofs.lemmas.Option.{same_Some}
use Rattle.std.proofs.lemmas.Result.{IfOk-weaker}
use Rattle.tb_body.specs.declared.body.Body.{Body}
use Rattle.tb_body.specs.declared.program.Root.{Root}
use Rattle.tb_bus.specs.Buses.{opened_one}
use Rattle.tb_bus.specs.Slots.{fits_formals}
use Rattle.tb_living.proofs.OpenLemmas.{few-roots, read-at, root-fits}
use Rattle.tb_living.proofs.opening.open_root.Goals as goal

pub overflow_cast-at : goal.overflow_cast-at
overflow_cast-at g c =
    let program = c.args.program.now in
    let few = few-roots program.bodies program.roots program.tools program.in_range in
    let within = c.requires.within in
    omega arith

pub overflow_add-at : goal.overflow_add-at
overflow_add-at g c =
    let program = c.args.program.now in
    let few = few-roots program.bodies program.roots program.tools program.in_range in
    let within = c.requires.within in
    omega arith

pub open_at-requires-clause-fits : goal.open_at-requires-clause-fits
open_at-requires-clause-fits g c =
    let program = c.args.program.now in
    let root = c.index-as_slice-at.result in
    let here = read-at program.roots c.as_slice.result.now c.args.at root root c.as_slice.ensures c.requires.within c.index-as_slice-at.is refl in
    ap (λ (bodies : List Body). fits_formals (slice_get bodies root.process) c.in_ok-actuals.actuals) c.as_slice-bodies.ensures
    ∙ ap (fits_formals (slice_get program.bodies root.process)) c.in_ok-actuals.ensures
    ∙ root-fits program.bodies program.roots program.tools c.args.at root program.in_range here

pub returns-clause-procs : goal.returns-clause-procs
returns-clause-procs g c other there =
    let program = c.args.program.now in
    let root = c.index-as_slice-at.result in
    let here = read-at program.roots c.as_slice.result.now c.args.at root root c.as_slice.ensures c.requires.within c.index-as_slice-at.is refl in
    let same : root ≡ other = same_Some root other (sym here ∙ there) in
    let opens =
    ap (λ (bodies : List Body). opened_one (c.args.at + 1) root.process c.in_ok-actuals.actuals (slice_get bodies root.process)) c.as_slice-bodies.ensures
    ∙ ap (λ actuals. opened_one (c.args.at + 1) root.process actuals (slice_get program.bodies root.process)) c.in_ok-actuals.ensures
    ∙ ap (λ (r : Root). opened_one (c.args.at + 1) r.process r.actuals (slice_get program.bodies r.process)) same in
    IfOk-weaker c.open_at.result _ _ (λ living e. e ∙ opens) c.open_at.ensures.procs
