-- The ring's script as a syntax tree. Each construct has the index of its first token.
use Rattle.std.specs.Prelude.{ℕ, ◌+◌, ◌*◌, pos, false, List, [], ◌∷◌, map, Some, codes}
use Rattle.tb_terms.specs.declared.sort.Sort.TheVariants as sort
use Rattle.tb_syntax.specs.declared.ast.Ast.{Ast}
use Rattle.tb_syntax.specs.declared.ast.AstKind.{AstKind}
use Rattle.tb_syntax.specs.declared.ast.AstKind.TheVariants as ast
use Rattle.tb_syntax.specs.declared.proc.ActDef.TheVariants as act
use Rattle.tb_syntax.specs.declared.proc.Call.{Call}
use Rattle.tb_syntax.specs.declared.proc.Proc.{Proc}
use Rattle.tb_syntax.specs.declared.proc.Proc.TheVariants as tree
use Rattle.tb_syntax.specs.declared.proc.Var.{Var}
use Rattle.tb_syntax.specs.declared.script.Formal.{Formal}
use Rattle.tb_syntax.specs.declared.script.ProcDef.{ProcDef}
use Rattle.tb_syntax.specs.declared.script.Script.{Script}
use Rattle.tb_ring_law.specs.Helpers.Pieces.{Link, ring_links}

abbrev pub at : ℕ → AstKind → Ast
at token kind = record { kind = kind; token = token }

abbrev pub number_at : ℕ → ℕ → Ast
number_at token n = at token (ast.Int (pos n))

abbrev pub var_at : ℕ → List ℕ → Ast
var_at token name = at token (ast.Var name)

-- T?
abbrev pub result_at : ℕ → Ast
result_at token = at token (ast.Result (codes "T"))

-- add(T, 1)
abbrev pub add_at : ℕ → Ast
add_at token = at token (ast.Appl (codes "add") (var_at (token + 2) (codes "T") ∷ number_at (token + 4) 1 ∷ []))

-- less(T, messages)
abbrev pub less_at : ℕ → ℕ → Ast
less_at token messages = at token (ast.Appl (codes "less") (var_at (token + 2) (codes "T") ∷ number_at (token + 4) messages ∷ []))

abbrev pub atom_at : ℕ → List ℕ → List Ast → Proc
atom_at token word arguments = tree.Atom (record { act = act.Named word arguments; times = []; token = token })

-- T : int
abbrev pub var_t : ℕ → Var
var_t token = record { name = codes "T"; sort = sort.Int; token = token; sort_token = token + 2 }

abbrev pub int_formal : List ℕ → ℕ → Formal
int_formal name token = record { name = name; sort = sort.Int; result = false; token = token; sort_token = token + 2 }

abbrev pub node_body : Proc
node_body =
    tree.Let (var_t 13 ∷ [])
    (tree.Star
    (tree.Seq
    (atom_at 18 (codes "rec-msg") (var_at 20 (codes "I") ∷ result_at 22 ∷ []))
    (atom_at 26 (codes "snd-msg") (var_at 28 (codes "J") ∷ add_at 30 ∷ [])))
    (atom_at 39 (codes "delta") []))

abbrev pub node_def : ProcDef
node_def = record { name = codes "Node"; formals = int_formal (codes "I") 3 ∷ int_formal (codes "J") 7 ∷ []; body = node_body; token = 0 }

abbrev pub test_part : ℕ → Proc
test_part messages =
    tree.If (less_at 66 messages)
    (atom_at 73 (codes "snd-msg") (number_at 75 2 ∷ add_at 77 ∷ []))
    (Some (atom_at 85 (codes "shutdown") (at 87 (ast.Appl (codes "done") []) ∷ [])))

abbrev pub first_body : ℕ → Proc
first_body messages =
    tree.Let (var_t 45 ∷ [])
    (tree.Seq
    (atom_at 49 (codes "snd-msg") (number_at 51 2 ∷ number_at 53 1 ∷ []))
    (tree.Star
    (tree.Seq (atom_at 57 (codes "rec-msg") (number_at 59 1 ∷ result_at 61 ∷ [])) (test_part messages))
    (atom_at 92 (codes "delta") [])))

abbrev pub first_def : ℕ → ProcDef
first_def messages = record { name = codes "First"; formals = []; body = first_body messages; token = 41 }

abbrev pub first_call : Call
first_call = record { name = codes "First"; actuals = []; token = 96 }

abbrev pub node_call : ℕ → ℕ → ℕ → Call
node_call token process next = record { name = codes "Node"; actuals = number_at (token + 2) process ∷ number_at (token + 4) next ∷ []; token = token }

-- each call has seven tokens with the comma before it; the call of the second process begins at token 98
abbrev pub link_call : Link → Call
link_call link = node_call (7 * link.process + 84) link.process link.next

-- The script of a ring of n processes that send this number of messages.
abbrev pub ring_script : ℕ → ℕ → Script
ring_script n messages = record { procs = node_def ∷ first_def messages ∷ []; tools = []; roots = first_call ∷ map link_call (ring_links n) }
