-- A script whose token positions are all 0. Two scripts are equal except for positions if these versions of them are equal.
use Rattle.std.specs.Prelude.{map}
use Rattle.tb_syntax.specs.declared.ast.Ast.{Ast}
use Rattle.tb_syntax.specs.declared.ast.AstKind.{AstKind}
use Rattle.tb_syntax.specs.declared.ast.AstKind.TheOpen as open_ast
use Rattle.tb_syntax.specs.declared.ast.AstKind.TheVariants as ast
use Rattle.tb_syntax.specs.declared.ast.AstKind.TheFolds.{fold-AstKind}
use Rattle.tb_syntax.specs.declared.proc.ActDef.{ActDef}
use Rattle.tb_syntax.specs.declared.proc.ActDef.TheVariants as act
use Rattle.tb_syntax.specs.declared.proc.AtomDef.{AtomDef}
use Rattle.tb_syntax.specs.declared.proc.Call.{Call}
use Rattle.tb_syntax.specs.declared.proc.Proc.{Proc}
use Rattle.tb_syntax.specs.declared.proc.Proc.TheOpen as open_tree
use Rattle.tb_syntax.specs.declared.proc.Proc.TheVariants as tree
use Rattle.tb_syntax.specs.declared.proc.Proc.TheFolds.{fold-Proc}
use Rattle.tb_syntax.specs.declared.proc.TimeDef.{TimeDef}
use Rattle.tb_syntax.specs.declared.proc.Var.{Var}
use Rattle.tb_syntax.specs.declared.script.Formal.{Formal}
use Rattle.tb_syntax.specs.declared.script.ProcDef.{ProcDef}
use Rattle.tb_syntax.specs.declared.script.Script.{Script}
use Rattle.tb_syntax.specs.declared.script.ToolDef.{ToolDef}

-- each bare definition keeps all parts and sets the positions to 0
abbrev pub bare_kind_step : open_ast.AstKind-F AstKind Ast → AstKind
bare_kind_step (open_ast.Int number) = ast.Int number
bare_kind_step (open_ast.Str text) = ast.Str text
bare_kind_step (open_ast.Appl name parts) = ast.Appl name parts
bare_kind_step (open_ast.Var name) = ast.Var name
bare_kind_step (open_ast.Result name) = ast.Result name
bare_kind_step (open_ast.Hole sort) = ast.Hole sort
bare_kind_step (open_ast.List parts) = ast.List parts

abbrev pub bare_expr_step : open_ast.Ast-F AstKind Ast → Ast
bare_expr_step expr = record { kind = expr.kind; token = 0 }

abbrev pub bare_kind : AstKind → AstKind
bare_kind = fold-AstKind AstKind Ast bare_kind_step bare_expr_step

abbrev pub bare_expr : Ast → Ast
bare_expr expr = record { kind = bare_kind expr.kind; token = 0 }

abbrev pub bare_call : Call → Call
bare_call call = record { name = call.name; actuals = map bare_expr call.actuals; token = 0 }

abbrev pub bare_act : ActDef → ActDef
bare_act (act.Set name value) = act.Set name (bare_expr value)
bare_act (act.Create call variable) = act.Create (bare_call call) (bare_expr variable)
bare_act (act.Named name arguments) = act.Named name (map bare_expr arguments)

abbrev pub bare_time : TimeDef → TimeDef
bare_time time = record { name = time.name; value = bare_expr time.value; token = 0 }

abbrev pub bare_atom : AtomDef → AtomDef
bare_atom atom = record { act = bare_act atom.act; times = map bare_time atom.times; token = 0 }

abbrev pub bare_var : Var → Var
bare_var var = record { name = var.name; sort = var.sort; token = 0; sort_token = 0 }

abbrev pub bare_proc_step : open_tree.Proc-F Proc → Proc
bare_proc_step (open_tree.Atom atom) = tree.Atom (bare_atom atom)
bare_proc_step (open_tree.Call call) = tree.Call (bare_call call)
bare_proc_step (open_tree.Seq x y) = tree.Seq x y
bare_proc_step (open_tree.Alt x y) = tree.Alt x y
bare_proc_step (open_tree.Star x y) = tree.Star x y
bare_proc_step (open_tree.Par x y) = tree.Par x y
bare_proc_step (open_tree.Disrupt x y) = tree.Disrupt x y
bare_proc_step (open_tree.If test x y) = tree.If (bare_expr test) x y
bare_proc_step (open_tree.Let vars x) = tree.Let (map bare_var vars) x

abbrev pub bare_proc : Proc → Proc
bare_proc = fold-Proc Proc bare_proc_step

abbrev pub bare_formal : Formal → Formal
bare_formal formal = record { name = formal.name; sort = formal.sort; result = formal.result; token = 0; sort_token = 0 }

abbrev pub bare_process : ProcDef → ProcDef
bare_process definition =
    record { name = definition.name; formals = map bare_formal definition.formals; body = bare_proc definition.body; token = 0 }

abbrev pub bare_tool : ToolDef → ToolDef
bare_tool definition = record { name = definition.name; command = definition.command; token = 0 }

abbrev pub without_positions : Script → Script
without_positions script =
    record { procs = map bare_process script.procs; tools = map bare_tool script.tools; roots = map bare_call script.roots }
