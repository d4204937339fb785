-- The ring's bodies are in range, and how its processes begin.
use Rattle.std.proofs.Common.{◌≡◌, ℕ, true, Bool, ◌&&◌, ◌==◌, nat_le, List, [], ◌∷◌, Some, length, ap, ◌∙◌, rules}
use Rattle.std.specs.List.{list_all}
use Rattle.tb_terms.specs.declared.expr.Expr.{the_lemmas as expr_lemmas}
use Rattle.tb_body.specs.declared.tree.Tree.{the_lemmas as tree_lemmas}
use Rattle.tb_body.specs.declared.tree.Tree.TheVariants as tree
use Rattle.tb_body.specs.declared.tree.Tree.TheOpen as layer
use Rattle.tb_body.specs.declared.tree.Tree.TheOpen.{Tree-F}
use Rattle.tb_body.specs.declared.tree.Tree.TheFolds.{fold-Tree}
use Rattle.tb_body.specs.declared.body.Body.{Body}
use Rattle.tb_body.specs.Acts.{is_atom_in_body}
use Rattle.tb_body.specs.Exprs.{is_value}
use Rattle.tb_body.specs.InRange.{is_body_in_range, is_tree_in_range, ascends_by_one, tree_step}
use Rattle.tb_body.specs.Trees.{tree_atoms, tree_levels, atoms_step, levels_step}
use Rattle.tb_process_steps.specs.Processes.{Process, fresh, fresh_step}
use Rattle.tb_expand.proofs.TreeFolds.{fold-At, fold-Seq, fold-Star, fold-IfElse, fold-Let}
use Rattle.tb_ring_law.specs.Helpers.Bodies.{setting, first_test, node_tree, node_atoms, node_sorts, first_tree, first_atoms, int_sorts}
use Rattle.tb_ring_law.specs.Helpers.Buses.{node_waits, first_begins_with}

pub node-in_range : is_body_in_range node_tree node_atoms node_sorts 2 ≡ true
unfolding is_body_in_range
node-in_range = search (rules, tree_lemmas, expr_lemmas)

-- a fold over the tree of First
fold-first : (A : Type 0) (step : Tree-F A → A) (messages : ℕ) → fold-Tree A step (first_tree messages)
    ≡ step (layer.Let (setting 0) (step (layer.Seq (step (layer.At 1)) (step (layer.Star (step (layer.Seq (step (layer.At 2)) (step (layer.If (first_test messages) (step (layer.At 3)) (Some (step (layer.At 4))))))) (step (layer.At 5)))))))
fold-first A step messages =
    let tests = tree.If (first_test messages) (tree.At 3) (Some (tree.At 4)) in
    let turn = tree.Seq (tree.At 2) tests in
    let loop = tree.Star turn (tree.At 5) in
    let tested : fold-Tree A step tests ≡ step (layer.If (first_test messages) (step (layer.At 3)) (Some (step (layer.At 4)))) =
    fold-IfElse A step (first_test messages) (tree.At 3) (tree.At 4) ∙ (λ i. step (layer.If (first_test messages) (fold-At A step 3 i) (Some (fold-At A step 4 i)))) in
    let turned : fold-Tree A step turn ≡ step (layer.Seq (step (layer.At 2)) (step (layer.If (first_test messages) (step (layer.At 3)) (Some (step (layer.At 4)))))) =
    fold-Seq A step (tree.At 2) tests ∙ (λ i. step (layer.Seq (fold-At A step 2 i) (tested i))) in
    let looped : fold-Tree A step loop ≡ step (layer.Star (step (layer.Seq (step (layer.At 2)) (step (layer.If (first_test messages) (step (layer.At 3)) (Some (step (layer.At 4))))))) (step (layer.At 5))) =
    fold-Star A step turn (tree.At 5) ∙ (λ i. step (layer.Star (turned i) (fold-At A step 5 i))) in
    let all : fold-Tree A step (tree.Seq (tree.At 1) loop)
    ≡ step (layer.Seq (step (layer.At 1)) (step (layer.Star (step (layer.Seq (step (layer.At 2)) (step (layer.If (first_test messages) (step (layer.At 3)) (Some (step (layer.At 4))))))) (step (layer.At 5))))) =
    fold-Seq A step (tree.At 1) loop ∙ (λ i. step (layer.Seq (fold-At A step 1 i) (looped i))) in
    fold-Let A step (setting 0) (tree.Seq (tree.At 1) loop) ∙ ap (λ (a : A). step (layer.Let (setting 0) a)) all

first-numbers : (messages : ℕ) → tree_atoms (first_tree messages) ≡ 1 ∷ 2 ∷ 3 ∷ 4 ∷ 5 ∷ []
first-numbers messages = fold-first (List ℕ) atoms_step messages

pub first-levels : (messages : ℕ) → tree_levels (first_tree messages) ≡ 6
first-levels messages = fold-first ℕ levels_step messages

test-stands : (messages : ℕ) → is_value 1 (first_test messages) ≡ true
test-stands messages = search (rules, expr_lemmas)

first-tree : (messages : ℕ) → is_tree_in_range 1 (first_tree messages) ≡ true
first-tree messages = fold-first Bool (tree_step 1) messages ∙ ap (λ (b : Bool). true && (true && ((true && ((b && true) && true)) && true))) (test-stands messages)

first-acts : list_all (is_atom_in_body 1) first_atoms ≡ true
first-acts = search (rules, expr_lemmas)

abbrev in_range_by : List ℕ → ℕ → Bool → Bool → Bool
in_range_by numbers levels tree acts =
    ascends_by_one 1 numbers && length numbers == 5
    && nat_le 5 200000 && nat_le levels 1000
    && nat_le 0 1
    && tree && acts

pub first-in_range : (messages : ℕ) → is_body_in_range (first_tree messages) first_atoms int_sorts 0 ≡ true
unfolding is_body_in_range
first-in_range messages = λ i. in_range_by (first-numbers messages i) (first-levels messages i) (first-tree messages i) (first-acts i)

abbrev pub node_code : Body
node_code = record { tree = node_tree; atoms = node_atoms; sorts = node_sorts; formals = 2; in_range = node-in_range }

abbrev pub first_code : ℕ → Body
first_code messages = record { tree = first_tree messages; atoms = first_atoms; sorts = int_sorts; formals = 0; in_range = first-in_range messages }

abbrev pub ring_bodies : ℕ → List Body
ring_bodies messages = node_code ∷ first_code messages ∷ []

pub node-enters : fresh node_tree ≡ node_waits true
node-enters = search (rules, tree_lemmas)

pub first-enters : (messages : ℕ) → fresh (first_tree messages) ≡ first_begins_with messages
first-enters messages = fold-first Process fresh_step messages

pub node-levels : tree_levels node_tree ≡ 4
node-levels = search (rules, tree_lemmas)
