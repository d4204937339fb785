-- The violations of example scripts, worked out by hand from the conditions.
use Rattle.std.proofs.Common.{◌≡◌, ℕ, List, [], ◌∷◌, codes, refl, ◌∙◌}
use Rattle.std.specs.Prelude.{None}
use Rattle.tb_syntax.specs.declared.ast.Ast.{Ast}
use Rattle.tb_syntax.specs.declared.ast.AstKind.TheVariants as ast
use Rattle.tb_syntax.specs.declared.proc.ActDef.TheVariants as act
use Rattle.tb_syntax.specs.declared.proc.AtomDef.{AtomDef}
use Rattle.tb_syntax.specs.declared.proc.Call.{Call}
use Rattle.tb_syntax.specs.declared.proc.Proc.TheVariants as tree
use Rattle.tb_syntax.specs.declared.script.Formal.{Formal}
use Rattle.tb_syntax.specs.declared.script.ProcDef.{ProcDef}
use Rattle.tb_syntax.specs.declared.script.Script.{Script}
use Rattle.tb_types.specs.declared.violation.Rule.TheVariants as rule
use Rattle.tb_types.specs.Atoms.{atom_faults}
use Rattle.tb_types.specs.Bodies.{proc_faults, script_faults}
use Rattle.tb_types.proofs.JudgedKinds.{faults_of_var}
use Rattle.tb_types.proofs.MisplacedKinds.{misplaced_of_var}
use Rattle.tb_types.proofs.ProcFaults.{faults_of_atom}

abbrev call_at : List ℕ → ℕ → Call
call_at name token = record { name = name; actuals = []; token = token }

abbrev var_at : List ℕ → ℕ → Ast
var_at name token = record { kind = ast.Var name; token = token }

-- toolbus ( R )
abbrev unknown_root : Script
unknown_root = record { procs = []; tools = []; roots = call_at (codes "R") 2 ∷ [] }

-- condition 2 fails at the root's name, and no other fails
unknown_root_breaks : script_faults unknown_root ≡ record { rule = rule.NoProcess; token = 2 } ∷ []
unknown_root_breaks = refl

-- tool int is { }  toolbus ( )
abbrev sort_tool : Script
sort_tool = record { procs = []; tools = record { name = codes "int"; command = None; token = 0 } ∷ []; roots = [] }

-- condition 1 fails at the tool
sort_tool_breaks : script_faults sort_tool ≡ record { rule = rule.Twice; token = 0 } ∷ []
sort_tool_breaks = refl

-- process P is snd-msg ( X )  toolbus ( P )
abbrev sent : AtomDef
sent = record { act = act.Named (codes "snd-msg") (var_at (codes "X") 5 ∷ []); times = []; token = 3 }

abbrev sender : List Formal → ProcDef
sender formals = record { name = codes "P"; formals = formals; body = tree.Atom sent; token = 0 }

abbrev undeclared : Script
undeclared = record { procs = sender [] ∷ []; tools = []; roots = call_at (codes "P") 9 ∷ [] }

sent_breaks : (script : Script) → atom_faults script [] sent ≡ record { rule = rule.Undeclared; token = 5 } ∷ []
sent_breaks script = simp (faults_of_var, misplaced_of_var)

body_breaks : (script : Script) → proc_faults script (tree.Atom sent) [] ≡ record { rule = rule.Undeclared; token = 5 } ∷ []
body_breaks script = faults_of_atom script sent [] ∙ sent_breaks script

-- condition 6 fails at the variable
undeclared_breaks : script_faults undeclared ≡ record { rule = rule.Undeclared; token = 5 } ∷ []
undeclared_breaks = simp (body_breaks undeclared)
