use Rattle.std.proofs.Common.{map, ap, sym, ◌∙◌}
use Rattle.tb_terms.specs.declared.sort.Sort.TheVariants as sorts
use Rattle.tb_syntax.specs.declared.ast.AstKind.{AstKind}
use Rattle.tb_types.specs.Exprs.{judged, judged_kind, appl_fits}
use Rattle.tb_types.specs.Scopes.{visible}
use Rattle.tb_types.proofs.ToolSorts.{appl_tool}
use Rattle.tb_types.proofs.tools.fitted_by_kind.Goals as goal

pub returns-in-Appl : goal.returns-in-Appl
returns-in-Appl c = λ tool.
    let known = visible c.args.scope.now in
    ap (λ (k : AstKind). (judged_kind known k).fits (sorts.Tool tool)) c.in-Appl.is
    ∙ appl_tool known c.in-Appl.name c.in-Appl.parts tool
    ∙ ap (λ parts. appl_fits c.in-Appl.name (map (judged known) parts) (sorts.Tool tool)) (sym c.as_slice.ensures)
    ∙ c.fitted_by_application.ensures tool
