-- The nine conditions hold of the ring's script.
use Rattle.std.proofs.Common.{◌≡◌, ℕ, ◌+◌, ◌*◌, false, List, [], ◌∷◌, ◌++◌, map, refl, ap, ◌∙◌, subst, rules, codes}
use Rattle.std.specs.List.{flat_map}
use Rattle.tb_terms.specs.declared.term.Term.{the_lemmas as term_lemmas}
use Rattle.tb_terms.specs.declared.expr.Expr.{the_lemmas as expr_lemmas}
use Rattle.tb_terms.specs.declared.sort.Sort.{the_lemmas as sort_lemmas}
use Rattle.tb_terms.specs.declared.sort.Sort.TheVariants as sort
use Rattle.tb_syntax.specs.declared.ast.Ast.{Ast}
use Rattle.tb_syntax.specs.declared.ast.AstKind.{the_lemmas as ast_lemmas}
use Rattle.tb_syntax.specs.declared.ast.AstKind.TheVariants as ast
use Rattle.tb_syntax.specs.declared.proc.ActDef.TheVariants as act
use Rattle.tb_syntax.specs.declared.proc.AtomDef.{AtomDef}
use Rattle.tb_syntax.specs.declared.script.Script.{Script}
use Rattle.tb_types.specs.declared.violation.Violation.{Violation}
use Rattle.tb_types.specs.declared.scope.Known.{Known}
use Rattle.tb_types.specs.declared.positions.Position.TheVariants.{Sent, Received}
use Rattle.tb_types.specs.Atoms.{atom_faults}
use Rattle.tb_types.specs.Bodies.{proc_step, process_faults, root_faults, script_faults}
use Rattle.tb_types.specs.ExpectedSorts.{site_faults, plain, tested, rooted}
use Rattle.tb_types.specs.declared.violation.Rule.TheVariants.{NoTool}
use Rattle.tb_types.specs.Conditions.{IsIn, Proper}
use Rattle.tb_types.specs.Definitions.{formals_faults, vars_faults}
use Rattle.tb_types.specs.Names.{is_unknown_sort}
use Rattle.tb_types.specs.Violation.{noted_if}
use Rattle.tb_types.specs.Scopes.{known_formal}
use Rattle.tb_ring_law.proofs.Folds.{fold-node, fold-first}
use Rattle.tb_ring_law.specs.Helpers.Pieces.{Link, ring_links}
use Rattle.tb_ring_law.specs.Helpers.Trees.{at, number_at, var_at, result_at, add_at, less_at, var_t, node_def, first_def, link_call, ring_script}

-- where nothing is violated, the script is proper
proper-from : (script : Script) → script_faults script ≡ [] → Proper script
proper-from script none condition token fails = subst (λ (vs : List Violation). IsIn (record { rule = condition; token = token }) vs) none fails

number-fine : (script : Script) (known : List Known) (token n : ℕ) → site_faults script known Sent plain (number_at token n) ≡ []
number-fine script known token n = search (rules, ast_lemmas)

number-received : (script : Script) (known : List Known) (token n : ℕ) → site_faults script known Received plain (number_at token n) ≡ []
number-received script known token n = search (rules, ast_lemmas)

number-rooted : (script : Script) (token n : ℕ) → site_faults script [] Sent (rooted sort.Int) (number_at token n) ≡ []
number-rooted script token n = search (rules, ast_lemmas, sort_lemmas, expr_lemmas, term_lemmas)

abbrev int_known : List ℕ → Known
int_known name = record { name = name; sort = sort.Int }

-- within the body of Node
abbrev in_node : List Known
in_node = int_known (codes "T") ∷ int_known (codes "I") ∷ int_known (codes "J") ∷ []

abbrev in_first : List Known
in_first = int_known (codes "T") ∷ []

var-i : (script : Script) → site_faults script in_node Received plain (var_at 20 (codes "I")) ≡ []
var-i script = search (rules, ast_lemmas)

var-j : (script : Script) → site_faults script in_node Sent plain (var_at 28 (codes "J")) ≡ []
var-j script = search (rules, ast_lemmas)

result-t : (script : Script) (token : ℕ) (more : List Known) → site_faults script (int_known (codes "T") ∷ more) Received plain (result_at token) ≡ []
result-t script token more = search (rules, ast_lemmas)

add-t : (script : Script) (token : ℕ) (more : List Known) → site_faults script (int_known (codes "T") ∷ more) Sent plain (add_at token) ≡ []
add-t script token more = search (rules, ast_lemmas, sort_lemmas)

less-t : (script : Script) (token messages : ℕ) (more : List Known) → site_faults script (int_known (codes "T") ∷ more) Sent (tested sort.Bool) (less_at token messages) ≡ []
less-t script token messages more = search (rules, ast_lemmas, sort_lemmas)

done-fine : (script : Script) (known : List Known) (token : ℕ) → site_faults script known Sent plain (at token (ast.Appl (codes "done") [])) ≡ []
done-fine script known token = search (rules, ast_lemmas)

abbrev Found : Type 0
Found = List Known → List Violation

abbrev atom_def : ℕ → List ℕ → List Ast → AtomDef
atom_def token word arguments = record { act = act.Named word arguments; times = []; token = token }

delta-fine : (script : Script) (known : List Known) (token : ℕ) → atom_faults script known (atom_def token (codes "delta") []) ≡ []
delta-fine script known token = refl

-- an atom that sends two values, and one that receives two
two-sent : (script : Script) (known : List Known) (token : ℕ) (x y : Ast) → site_faults script known Sent plain x ≡ [] → site_faults script known Sent plain y ≡ [] → atom_faults script known (atom_def token (codes "snd-msg") (x ∷ y ∷ [])) ≡ []
two-sent script known token x y first second = λ i. ([] ++ (first i ++ (second i ++ []))) ++ []

two-received : (script : Script) (known : List Known) (token : ℕ) (x y : Ast) → site_faults script known Received plain x ≡ [] → site_faults script known Received plain y ≡ [] → atom_faults script known (atom_def token (codes "rec-msg") (x ∷ y ∷ [])) ≡ []
two-received script known token x y first second = λ i. ([] ++ (first i ++ (second i ++ []))) ++ []

shutdown-fine : (script : Script) (known : List Known) (token : ℕ) (x : Ast) → site_faults script known Sent plain x ≡ [] → atom_faults script known (atom_def token (codes "shutdown") (x ∷ [])) ≡ []
shutdown-fine script known token x first = λ i. ([] ++ (first i ++ [])) ++ []

module _ (n messages : ℕ) where
  abbrev script : Script
  script = ring_script n messages

  known-sort : is_unknown_sort [] sort.Int ≡ false
  known-sort = search (rules, sort_lemmas)

  formals-fine : formals_faults [] node_def.formals ≡ []
  formals-fine = λ i. [] ++ (noted_if (known-sort i) NoTool 5 ++ (noted_if (known-sort i) NoTool 9 ++ []))

  vars-fine : (token : ℕ) → vars_faults [] (var_t token ∷ []) ≡ []
  vars-fine token = λ i. [] ++ (noted_if (known-sort i) NoTool (token + 2) ++ [])

  node-fine : process_faults script node_def ≡ []
  node-fine =
      let receives = two-received script in_node 18 (var_at 20 (codes "I")) (result_at 22) (var-i script) (result-t script 22 (int_known (codes "I") ∷ int_known (codes "J") ∷ [])) in
      let sends = two-sent script in_node 26 (var_at 28 (codes "J")) (add_at 30) (var-j script) (add-t script 30 (int_known (codes "I") ∷ int_known (codes "J") ∷ [])) in
      let delta = delta-fine script in_node 39 in
      let folded = fold-node Found (proc_step script) (var_t 13 ∷ []) (atom_def 18 (codes "rec-msg") (var_at 20 (codes "I") ∷ result_at 22 ∷ [])) (atom_def 26 (codes "snd-msg") (var_at 28 (codes "J") ∷ add_at 30 ∷ [])) (atom_def 39 (codes "delta") []) in
      ap (λ (f : Found). formals_faults [] node_def.formals ++ f (map known_formal node_def.formals)) folded
      ∙ (λ i. formals-fine i ++ (vars-fine 13 i ++ ((receives i ++ sends i) ++ delta i)))

  first-fine : process_faults script (first_def messages) ≡ []
  first-fine =
      let begins = two-sent script in_first 49 (number_at 51 2) (number_at 53 1) (number-fine script in_first 51 2) (number-fine script in_first 53 1) in
      let receives = two-received script in_first 57 (number_at 59 1) (result_at 61) (number-received script in_first 59 1) (result-t script 61 []) in
      let sends = two-sent script in_first 73 (number_at 75 2) (add_at 77) (number-fine script in_first 75 2) (add-t script 77 []) in
      let ends = shutdown-fine script in_first 85 (at 87 (ast.Appl (codes "done") [])) (done-fine script in_first 87) in
      let delta = delta-fine script in_first 92 in
      let test = less-t script 66 messages [] in
      let folded = fold-first Found (proc_step script) (var_t 45 ∷ []) (atom_def 49 (codes "snd-msg") (number_at 51 2 ∷ number_at 53 1 ∷ []))
      (atom_def 57 (codes "rec-msg") (number_at 59 1 ∷ result_at 61 ∷ [])) (less_at 66 messages)
      (atom_def 73 (codes "snd-msg") (number_at 75 2 ∷ add_at 77 ∷ [])) (atom_def 85 (codes "shutdown") (at 87 (ast.Appl (codes "done") []) ∷ [])) (atom_def 92 (codes "delta") []) in
      ap (λ (f : Found). [] ++ f []) folded
      ∙ (λ i. [] ++ (vars-fine 45 i ++ (begins i ++ ((receives i ++ (test i ++ sends i ++ ends i)) ++ delta i))))

  call-fine : (link : Link) → root_faults script (link_call link) ≡ []
  call-fine link = λ i. ([] ++ []) ++ (number-rooted script (7 * link.process + 84 + 2) link.process i ++ (number-rooted script (7 * link.process + 84 + 4) link.next i ++ []))

  calls-fine : (row : List Link) → flat_map (root_faults script) (map link_call row) ≡ []
  calls-fine [] = refl
  calls-fine (link ∷ row) = λ i. call-fine link i ++ calls-fine row i

  nothing-breaks : script_faults script ≡ []
  nothing-breaks = λ i. (([] ++ []) ++ (node-fine i ++ (first-fine i ++ []))) ++ ([] ++ calls-fine (ring_links n) i)

-- The nine conditions hold of the ring's script.
pub ring-proper : (n messages : ℕ) → Proper (ring_script n messages)
ring-proper n messages = proper-from (ring_script n messages) (nothing-breaks n messages)
