use Rattle.std.proofs.Common.{◌==◌, length, ap, ◌∙◌}
use Rattle.std.specs.Prelude.{not, is_some}
use Rattle.tb_types.specs.Exprs.{fits}
use Rattle.tb_types.specs.Scopes.{visible}
use Rattle.tb_types.proofs.ToolFits.{fits_none, fits_every, fits_named, some_copied}
use Rattle.tb_types.proofs.tools.fits_some_tool.Goals as goal

pub returns-in-Nothing : goal.returns-in-Nothing
returns-in-Nothing c = fits_none (fits (visible c.args.scope.now) c.args.expr.now) c.in-Nothing.ensures c.args.names.now.script.now.tools

pub returns-in-Every : goal.returns-in-Every
returns-in-Every c =
    ap not (c.is_empty.ensures ∙ ap (λ tools. length tools == 0) c.as_slice.ensures)
    ∙ fits_every (fits (visible c.args.scope.now) c.args.expr.now) c.in-Every.ensures c.args.names.now.script.now.tools

pub returns-in-One : goal.returns-in-One
returns-in-One c =
    c.is_some.ensures ∙ some_copied c.tool.result ∙ ap is_some c.tool.ensures
    ∙ fits_named (fits (visible c.args.scope.now) c.args.expr.now) c.in-One.name.now c.in-One.ensures c.args.names.now.script.now.tools
