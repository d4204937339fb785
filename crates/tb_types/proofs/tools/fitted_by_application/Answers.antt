use Rattle.std.proofs.Common.{map, ap, sym, ◌∙◌}
use Rattle.std.proofs.lemmas.List.{length-map}
use Rattle.tb_terms.specs.declared.sort.Sort.TheVariants as sorts
use Rattle.tb_types.specs.Exprs.{judged}
use Rattle.tb_types.specs.Fitting.{result_goes_with}
use Rattle.tb_types.specs.Names.{applied}
use Rattle.tb_types.specs.Scopes.{visible}
use Rattle.tb_types.proofs.ToolSorts.{nothing_fits}
use Rattle.tb_types.proofs.tools.fitted_by_application.Goals as goal

pub returns : goal.returns
returns c = λ tool.
    let parts = map (judged (visible c.args.scope.now)) c.args.parts.now in
    nothing_fits c.args.name.now parts tool
    (ap (λ n. result_goes_with (applied c.args.name.now n) (sorts.Tool tool)) (length-map c.args.parts.now (judged (visible c.args.scope.now)))
    ∙ ap (λ f. result_goes_with f (sorts.Tool tool)) (sym c.applied.ensures)
    ∙ c.gives_any.ensures tool ∙ c.if-gives_any.false)
    (sym c.is_one_number.ensures ∙ c.if-is_one_number.false)
