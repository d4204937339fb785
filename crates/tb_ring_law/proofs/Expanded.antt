-- The program of the ring, from its processes.
use Rattle.std.proofs.Common.{◌≡◌, ℕ, zero, suc, ◌+◌, ◌*◌, pos, Bool, false, ltb, ◌||◌, List, [], ◌∷◌, ◌++◌, length, map, Some, None, option_map, cond, refl, ap, sym, ◌∙◌, arith, rules, codes}
use Rattle.std.specs.List.{Contains, AllZip}
use Rattle.tb_terms.specs.declared.expr.Expr.{the_lemmas as expr_lemmas}
use Rattle.tb_terms.specs.declared.expr.Expr.TheVariants as expr
use Rattle.tb_terms.specs.declared.expr.Func.TheVariants.{Add, Less}
use Rattle.tb_terms.specs.declared.sort.Sort.{Sort}
use Rattle.tb_terms.specs.declared.sort.Sort.TheVariants as sort
use Rattle.tb_body.specs.declared.act.Act.TheVariants as does
use Rattle.tb_body.specs.declared.tree.Tree.TheVariants as tree
use Rattle.tb_syntax.specs.declared.ast.Ast.{Ast}
use Rattle.tb_syntax.specs.declared.ast.AstKind.{the_lemmas as ast_lemmas}
use Rattle.tb_syntax.specs.declared.ast.AstKind.TheVariants as ast
use Rattle.tb_syntax.specs.declared.proc.ActDef.TheVariants as act
use Rattle.tb_syntax.specs.declared.proc.AtomDef.{AtomDef}
use Rattle.tb_syntax.specs.declared.script.ProcDef.{ProcDef}
use Rattle.tb_syntax.specs.declared.script.Script.{Script}
use Rattle.tb_types.specs.Values.{closed_value}
use Rattle.tb_expand.specs.Scopes.{Scope, declared, formals_seen}
use Rattle.tb_expand.specs.Acts.{atom_of}
use Rattle.tb_expand.specs.Exprs.{expr_of}
use Rattle.tb_expand.specs.Cycles.{called, called_step, Calls, IsCallPath}
use Rattle.tb_expand.specs.Expansion.{Part, Expands, expands, proc_step, expansion_of, is_too_large}
use Rattle.tb_expand.specs.Faults.{HasNoCycle, IsExpansion}
use Rattle.tb_expand.proofs.KindExprs.{expr_of_number, expr_of_appl, expr_of_var, expr_of_result}
use Rattle.tb_script.specs.Programs.{IsRootOf, first_too_large}
use Rattle.tb_ring_law.specs.Helpers.Pieces.{Link, ring_links}
use Rattle.tb_ring_law.specs.Helpers.Trees.{at, number_at, var_at, result_at, add_at, less_at, var_t, node_body, node_def, first_body, first_def, link_call, ring_script}
use Rattle.tb_ring_law.specs.Helpers.Bodies.{worth, plain, setting, one_more, node_tree, node_receives, node_sends, node_atoms, node_sorts, first_tree, first_test, first_begins, first_receives, first_sends, done, first_atoms, int_sorts, link_root, ring_roots}
use Rattle.tb_ring_law.proofs.Programs.{node_code, first_code, ring_bodies, node-levels, first-levels}
use Rattle.tb_ring_law.proofs.Folds.{fold-node, fold-first}

-- what is seen within Node, and within First
abbrev in_node : Scope
in_node = declared 2 (var_t 13 ∷ []) ++ formals_seen 0 node_def.formals

abbrev in_first : Scope
in_first = declared 0 (var_t 45 ∷ []) ++ []

abbrev atom_def : ℕ → List ℕ → List Ast → AtomDef
atom_def token word arguments = record { act = act.Named word arguments; times = []; token = token }

module _ (script : Script) where
  one-more-node : (token : ℕ) → expr_of in_node (add_at token) ≡ one_more 2
  one-more-node token =
      expr_of_appl in_node (codes "add") (var_at (token + 2) (codes "T") ∷ number_at (token + 4) 1 ∷ [])
      ∙ (λ i. expr.Call Add (expr_of_var in_node (codes "T") i ∷ expr_of_number in_node (pos 1) i ∷ []))

  one-more-first : (token : ℕ) → expr_of in_first (add_at token) ≡ one_more 0
  one-more-first token =
      expr_of_appl in_first (codes "add") (var_at (token + 2) (codes "T") ∷ number_at (token + 4) 1 ∷ [])
      ∙ (λ i. expr.Call Add (expr_of_var in_first (codes "T") i ∷ expr_of_number in_first (pos 1) i ∷ []))

  less-messages : (token messages : ℕ) → expr_of in_first (less_at token messages) ≡ first_test messages
  less-messages token messages =
      expr_of_appl in_first (codes "less") (var_at (token + 2) (codes "T") ∷ number_at (token + 4) messages ∷ [])
      ∙ (λ i. expr.Call Less (expr_of_var in_first (codes "T") i ∷ expr_of_number in_first (pos messages) i ∷ []))

  node-receives : atom_of script in_node (atom_def 18 (codes "rec-msg") (var_at 20 (codes "I") ∷ result_at 22 ∷ [])) ≡ plain (does.RecMsg node_receives)
  node-receives = λ i. plain (does.RecMsg (expr_of_var in_node (codes "I") i ∷ expr_of_result in_node (codes "T") i ∷ []))

  node-sends : atom_of script in_node (atom_def 26 (codes "snd-msg") (var_at 28 (codes "J") ∷ add_at 30 ∷ [])) ≡ plain (does.SndMsg node_sends)
  node-sends = λ i. plain (does.SndMsg (expr_of_var in_node (codes "J") i ∷ one-more-node 30 i ∷ []))

  first-begins : atom_of script in_first (atom_def 49 (codes "snd-msg") (number_at 51 2 ∷ number_at 53 1 ∷ [])) ≡ plain (does.SndMsg first_begins)
  first-begins = λ i. plain (does.SndMsg (expr_of_number in_first (pos 2) i ∷ expr_of_number in_first (pos 1) i ∷ []))

  first-receives : atom_of script in_first (atom_def 57 (codes "rec-msg") (number_at 59 1 ∷ result_at 61 ∷ [])) ≡ plain (does.RecMsg first_receives)
  first-receives = λ i. plain (does.RecMsg (expr_of_number in_first (pos 1) i ∷ expr_of_result in_first (codes "T") i ∷ []))

  first-sends : atom_of script in_first (atom_def 73 (codes "snd-msg") (number_at 75 2 ∷ add_at 77 ∷ [])) ≡ plain (does.SndMsg first_sends)
  first-sends = λ i. plain (does.SndMsg (expr_of_number in_first (pos 2) i ∷ one-more-first 77 i ∷ []))

  first-ends : atom_of script in_first (atom_def 85 (codes "shutdown") (at 87 (ast.Appl (codes "done") []) ∷ [])) ≡ plain (does.Shutdown done)
  first-ends = λ i. plain (does.Shutdown (expr_of_appl in_first (codes "done") [] i))

module _ (n messages : ℕ) where
  abbrev script : Script
  script = ring_script n messages

  abbrev with_sorts : List Sort → Part → Part
  with_sorts sorts part = record { tree = part.tree; atoms = part.atoms; sorts = sorts ++ part.sorts }

  node-part : expansion_of script node_def ≡ record { tree = node_tree; atoms = node_atoms; sorts = node_sorts }
  node-part =
      let folded = fold-node Expands (proc_step script (expands script 1)) (var_t 13 ∷ [])
      (atom_def 18 (codes "rec-msg") (var_at 20 (codes "I") ∷ result_at 22 ∷ [])) (atom_def 26 (codes "snd-msg") (var_at 28 (codes "J") ∷ add_at 30 ∷ [])) (atom_def 39 (codes "delta") []) in
      let receives = node-receives script in
      let sends = node-sends script in
      ap (λ (e : Expands). with_sorts (sort.Int ∷ sort.Int ∷ []) (e (formals_seen 0 node_def.formals) 1 2)) folded
      ∙ (λ i. record { tree = node_tree; atoms = receives i ∷ sends i ∷ plain does.Delta ∷ []; sorts = node_sorts })

  first-part : expansion_of script (first_def messages) ≡ record { tree = first_tree messages; atoms = first_atoms; sorts = int_sorts }
  first-part =
      let folded = fold-first Expands (proc_step script (expands script 1)) (var_t 45 ∷ []) (atom_def 49 (codes "snd-msg") (number_at 51 2 ∷ number_at 53 1 ∷ []))
      (atom_def 57 (codes "rec-msg") (number_at 59 1 ∷ result_at 61 ∷ [])) (less_at 66 messages)
      (atom_def 73 (codes "snd-msg") (number_at 75 2 ∷ add_at 77 ∷ [])) (atom_def 85 (codes "shutdown") (at 87 (ast.Appl (codes "done") []) ∷ [])) (atom_def 92 (codes "delta") []) in
      let test = less-messages script 66 messages in
      let begins = first-begins script in
      let receives = first-receives script in
      let sends = first-sends script in
      let ends = first-ends script in
      ap (λ (e : Expands). with_sorts [] (e [] 1 0)) folded
      ∙ (λ i. record {
        tree = tree.Let (setting 0) (tree.Seq (tree.At 1) (tree.Star (tree.Seq (tree.At 2) (tree.If (test i) (tree.At 3) (Some (tree.At 4)))) (tree.At 5)));
        atoms = begins i ∷ receives i ∷ sends i ∷ ends i ∷ plain does.Delta ∷ [];
        sorts = int_sorts;
      })

  node-calls : called node_body ≡ []
  node-calls = fold-node (List (List ℕ)) called_step _ _ _ _

  first-calls : called (first_body messages) ≡ []
  first-calls = fold-first (List (List ℕ)) called_step _ _ _ _ _ _ _

  none-called : (names : List (List ℕ)) (name : List ℕ) → names ≡ [] → Contains names name → ⊥
  none-called names name none (k, within, is) = let short : length names ≡ 0 = ap (λ (ns : List (List ℕ)). length ns) none in omega (arith, short, within)

  nothing-called : (caller name : List ℕ) → Calls script caller name → ⊥
  nothing-called caller name (d, (zero, within, is), named, calls) = none-called (called d.body) name (ap (λ (e : ProcDef). called e.body) (sym is) ∙ node-calls) calls
  nothing-called caller name (d, (suc zero, within, is), named, calls) = none-called (called d.body) name (ap (λ (e : ProcDef). called e.body) (sym is) ∙ first-calls) calls
  nothing-called caller name (d, (suc (suc k), within, is), named, calls) = omega (arith, within)

  no-path : (back caller : List ℕ) (names : List (List ℕ)) → IsCallPath script back caller names → ⊥
  no-path back caller [] path = nothing-called caller back path
  no-path back caller (name ∷ names) path = nothing-called caller name path.0

  pub no-cycle : HasNoCycle script
  no-cycle names cycle = no-path cycle.first cycle.first cycle.others cycle.call_path

  abbrev is_over : ℕ → ℕ → Bool
  is_over atoms levels = ltb 20000 atoms || ltb 1000 levels

  node-small : is_too_large (expansion_of script node_def) ≡ false
  node-small = ap is_too_large node-part ∙ ap (λ (levels : ℕ). is_over 3 levels) node-levels

  first-small : is_too_large (expansion_of script (first_def messages)) ≡ false
  first-small = ap is_too_large first-part ∙ ap (λ (levels : ℕ). is_over 5 levels) (first-levels messages)

  pub all-small : first_too_large script ≡ None
  all-small = λ i. option_map (λ (d : ProcDef). d.name) (cond (node-small i) (Some node_def) (cond (first-small i) (Some (first_def messages)) None))

  node-expands : IsExpansion script node_def node_code
  node-expands = let part = sym node-part in record { tree = ap (λ (p : Part). p.tree) part; atoms = ap (λ (p : Part). p.atoms) part; sorts = ap (λ (p : Part). p.sorts) part; formals = refl }

  first-expands : IsExpansion script (first_def messages) (first_code messages)
  first-expands = let part = sym first-part in record { tree = ap (λ (p : Part). p.tree) part; atoms = ap (λ (p : Part). p.atoms) part; sorts = ap (λ (p : Part). p.sorts) part; formals = refl }

  pub bodies-are : AllZip (IsExpansion script) script.procs (ring_bodies messages)
  bodies-are = (node-expands, (first-expands, tt))

  actual-value : (token i : ℕ) → closed_value (number_at token i) ≡ Some (worth i)
  actual-value token i = search (rules, ast_lemmas, expr_lemmas)

  root-is : (link : Link) → IsRootOf script (link_call link) (link_root link)
  root-is link = record { process = refl; actuals = λ i. sym (actual-value (7 * link.process + 84 + 2) link.process) i ∷ sym (actual-value (7 * link.process + 84 + 4) link.next) i ∷ [] }

  roots-of : (row : List Link) → AllZip (IsRootOf script) (map link_call row) (map link_root row)
  roots-of [] = tt
  roots-of (link ∷ row) = (root-is link, roots-of row)

  pub roots-are : AllZip (IsRootOf script) script.roots (ring_roots n)
  roots-are = (record { process = refl; actuals = refl }, roots-of (ring_links n))
