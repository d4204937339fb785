-- Worked expansions, computed from the definitions alone.
use Rattle.std.proofs.Common.{◌≡◌, ℕ, List, [], ◌∷◌, Some, None, Bool, true, false, codes, pos, rules}
use Rattle.tb_terms.specs.declared.expr.Expr.TheVariants as expr
use Rattle.tb_terms.specs.declared.expr.Func.TheVariants.{Add, First}
use Rattle.tb_terms.specs.declared.sort.Sort.{the_lemmas as sort_lemmas}
use Rattle.tb_terms.specs.declared.sort.Sort.TheVariants as sort
use Rattle.tb_body.specs.declared.act.Act.TheVariants as act
use Rattle.tb_body.specs.declared.tree.Tree.TheVariants as tree
use Rattle.tb_syntax.specs.declared.ast.Ast.{Ast}
use Rattle.tb_syntax.specs.declared.ast.AstKind.{AstKind, the_lemmas as ast_lemmas}
use Rattle.tb_syntax.specs.declared.ast.AstKind.TheVariants as ast
use Rattle.tb_syntax.specs.declared.proc.ActDef.{ActDef}
use Rattle.tb_syntax.specs.declared.proc.ActDef.TheVariants as def
use Rattle.tb_syntax.specs.declared.proc.Proc.{Proc, the_lemmas as proc_lemmas}
use Rattle.tb_syntax.specs.declared.proc.Proc.TheVariants as proc
use Rattle.tb_syntax.specs.declared.script.Formal.{Formal}
use Rattle.tb_syntax.specs.declared.script.ProcDef.{ProcDef}
use Rattle.tb_syntax.specs.declared.script.Script.{Script}
use Rattle.tb_expand.specs.Expansion.{expansion_of}

abbrev of : AstKind → Ast
of kind = record { kind = kind; token = 0 }

abbrev atom : ActDef → Proc
atom what = proc.Atom (record { act = what; times = []; token = 0 })

abbrev a : List ℕ
a = codes "A"

abbrev b : List ℕ
b = codes "B"

abbrev r : List ℕ
r = codes "R"

abbrev x : List ℕ
x = codes "X"

abbrev sum : List ℕ
sum = codes "Sum"

abbrev p : List ℕ
p = codes "P"

abbrev formal : List ℕ → Bool → Formal
formal name result = record { name = name; sort = sort.Int; result = result; token = 0; sort_token = 0 }

-- process Sum(A : int, B : int, R : int?) is R := add(A, B)
abbrev sum_def : ProcDef
sum_def = record {
  name = sum;
  formals = formal a false ∷ formal b false ∷ formal r true ∷ [];
  body = atom (def.Set r (of (ast.Appl (codes "add") (of (ast.Var a) ∷ of (ast.Var b) ∷ []))));
  token = 0;
}

-- process P is let X : int in Sum(2, 3, X?) . printf("%d", X) endlet
abbrev p_def : ProcDef
p_def = record {
  name = p;
  formals = [];
  body = proc.Let (record { name = x; sort = sort.Int; token = 0; sort_token = 0 } ∷ [])
      (proc.Seq
      (proc.Call (record { name = sum; actuals = of (ast.Int (pos 2)) ∷ of (ast.Int (pos 3)) ∷ of (ast.Result x) ∷ []; token = 0 }))
      (atom (def.Named (codes "printf") (of (ast.Str (codes "%d")) ∷ of (ast.Var x) ∷ []))));
  token = 0;
}

abbrev script : Script
script = record { procs = sum_def ∷ p_def ∷ []; tools = []; roots = [] }

-- the called process has slots for its values, and writes to the caller's variable
sums : expansion_of script p_def ≡ record {
  tree = tree.Let (record { slot = 0; start = None } ∷ [])
      (tree.Seq
      (tree.Let (record { slot = 1; start = Some (expr.Int (pos 2)) } ∷ record { slot = 2; start = Some (expr.Int (pos 3)) } ∷ []) (tree.At 1))
      (tree.At 2));
  atoms = record { act = act.Set 0 (expr.Call Add (expr.Var 1 ∷ expr.Var 2 ∷ [])); times = [] }
      ∷ record { act = act.Printf (expr.Str (codes "%d") ∷ expr.Var 0 ∷ []); times = [] } ∷ [];
  sorts = sort.Int ∷ sort.Int ∷ sort.Int ∷ [];
}
sums = search (rules, ast_lemmas, proc_lemmas)

abbrev y : List ℕ
y = codes "Y"

abbrev q : List ℕ
q = codes "Q"

abbrev c : List ℕ
c = codes "C"

abbrev call : List ℕ → List Ast → Proc
call name actuals = proc.Call (record { name = name; actuals = actuals; token = 0 })

abbrev defined : List ℕ → List Formal → Proc → ProcDef
defined name formals body = record { name = name; formals = formals; body = body; token = 0 }

abbrev sets : List ℕ → AstKind → Proc
sets name kind = atom (def.Set name (of kind))

abbrev with_int : List ℕ → Proc → Proc
with_int name body = proc.Let (record { name = name; sort = sort.Int; token = 0; sort_token = 0 } ∷ []) body

-- process P is Q || Q  process Q is let Y : int in Y := 1 endlet
abbrev twice_p : ProcDef
twice_p = defined p [] (proc.Par (call q []) (call q []))

abbrev twice : Script
twice = record { procs = twice_p ∷ defined q [] (with_int y (sets y (ast.Int (pos 1)))) ∷ []; tools = []; roots = [] }

-- each call has variables of its own
twice_expands : expansion_of twice twice_p ≡ record {
  tree = tree.Par
      (tree.Let [] (tree.Let (record { slot = 0; start = None } ∷ []) (tree.At 1)))
      (tree.Let [] (tree.Let (record { slot = 1; start = None } ∷ []) (tree.At 2)));
  atoms = record { act = act.Set 0 (expr.Int (pos 1)); times = [] } ∷ record { act = act.Set 1 (expr.Int (pos 1)); times = [] } ∷ [];
  sorts = sort.Int ∷ sort.Int ∷ [];
}
twice_expands = search (rules, ast_lemmas, proc_lemmas)

-- process P is let X : int in Q(X?) endlet  process Q(R : int?) is C(R?)  process C(R : int?) is R := 7
abbrev deep_p : ProcDef
deep_p = defined p [] (with_int x (call q (of (ast.Result x) ∷ [])))

abbrev deep : Script
deep = record {
  procs = deep_p ∷ defined q (formal r true ∷ []) (call c (of (ast.Result r) ∷ [])) ∷ defined c (formal r true ∷ []) (sets r (ast.Int (pos 7))) ∷ [];
  tools = [];
  roots = [];
}

-- a result parameter is another name of the caller's variable, through all calls
deep_expands : expansion_of deep deep_p ≡ record {
  tree = tree.Let (record { slot = 0; start = None } ∷ []) (tree.Let [] (tree.Let [] (tree.At 1)));
  atoms = record { act = act.Set 0 (expr.Int (pos 7)); times = [] } ∷ [];
  sorts = sort.Int ∷ [];
}
deep_expands = search (rules, ast_lemmas, proc_lemmas)

-- process P(A : int) is let A : int in A := 1 endlet . A := 2
abbrev hides : ProcDef
hides = defined p (formal a false ∷ []) (proc.Seq (with_int a (sets a (ast.Int (pos 1)))) (sets a (ast.Int (pos 2))))

-- the innermost variable of a name hides the others, up to its `endlet`
hides_expands : expansion_of (record { procs = hides ∷ []; tools = []; roots = [] }) hides ≡ record {
  tree = tree.Seq (tree.Let (record { slot = 1; start = None } ∷ []) (tree.At 1)) (tree.At 2);
  atoms = record { act = act.Set 1 (expr.Int (pos 1)); times = [] } ∷ record { act = act.Set 0 (expr.Int (pos 2)); times = [] } ∷ [];
  sorts = sort.Int ∷ sort.Int ∷ [];
}
hides_expands = search (rules, ast_lemmas, proc_lemmas)

-- process M(A : int, R : int?, B : int) is R := add(A, B)
abbrev mixed : ProcDef
mixed = defined (codes "M") (formal a false ∷ formal r true ∷ formal b false ∷ []) (sets r (ast.Appl (codes "add") (of (ast.Var a) ∷ of (ast.Var b) ∷ [])))

-- process N is let A : int in M(1, A?, A) endlet
abbrev calls_mixed : ProcDef
calls_mixed = defined (codes "N") [] (with_int a (call (codes "M") (of (ast.Int (pos 1)) ∷ of (ast.Result a) ∷ of (ast.Var a) ∷ [])))

abbrev mixed_script : Script
mixed_script = record { procs = mixed ∷ calls_mixed ∷ []; tools = []; roots = [] }

-- A result parameter between value parameters takes no slot. The argument A is the caller's variable. In the called process, A is the
-- first parameter.
mixed_expands : expansion_of mixed_script calls_mixed ≡ record {
  tree = tree.Let (record { slot = 0; start = None } ∷ [])
      (tree.Let (record { slot = 1; start = Some (expr.Int (pos 1)) } ∷ record { slot = 2; start = Some (expr.Var 0) } ∷ []) (tree.At 1));
  atoms = record { act = act.Set 0 (expr.Call Add (expr.Var 1 ∷ expr.Var 2 ∷ [])); times = [] } ∷ [];
  sorts = sort.Int ∷ sort.Int ∷ sort.Int ∷ [];
}
mixed_expands = search (rules, ast_lemmas, proc_lemmas)

-- process T is snd-msg(first, first([1]))
abbrev function_names : ProcDef
function_names = defined (codes "T") []
    (atom (def.Named (codes "snd-msg") (of (ast.Appl (codes "first") []) ∷ of (ast.Appl (codes "first") (of (ast.List (of (ast.Int (pos 1)) ∷ [])) ∷ [])) ∷ [])))

-- a function's name without arguments is a term
function_names_expand : expansion_of (record { procs = function_names ∷ []; tools = []; roots = [] }) function_names ≡ record {
  tree = tree.At 1;
  atoms = record { act = act.SndMsg (expr.Appl (codes "first") [] ∷ expr.Call First (expr.List (expr.Int (pos 1) ∷ []) ∷ []) ∷ []); times = [] } ∷ [];
  sorts = [];
}
function_names_expand = search (rules, ast_lemmas, proc_lemmas)

-- tool t is { }  process D(T : t) is rec-disconnect(T?) . rec-disconnect(T)
abbrev leaves : ProcDef
leaves = defined (codes "D") (record { name = codes "T"; sort = sort.Tool (codes "t"); result = false; token = 0; sort_token = 0 } ∷ [])
    (proc.Seq (atom (def.Named (codes "rec-disconnect") (of (ast.Result (codes "T")) ∷ []))) (atom (def.Named (codes "rec-disconnect") (of (ast.Var (codes "T")) ∷ []))))

abbrev with_tools : Script
with_tools = record {
  procs = leaves ∷ [];
  tools = record { name = codes "s"; command = None; token = 0 } ∷ record { name = codes "t"; command = None; token = 0 } ∷ [];
  roots = [];
}

-- any tool of the variable's type, and the tool that is the variable's value
leaves_expand : expansion_of with_tools leaves ≡ record {
  tree = tree.Seq (tree.At 1) (tree.At 2);
  atoms = record { act = act.RecDisconnectAny 1 0; times = [] } ∷ record { act = act.RecDisconnect (expr.Var 0); times = [] } ∷ [];
  sorts = sort.Tool (codes "t") ∷ [];
}
leaves_expand = search (rules, ast_lemmas, proc_lemmas, sort_lemmas)
