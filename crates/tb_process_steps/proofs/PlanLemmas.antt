-- The trees of a plan: the tree of each node is built of trees of earlier nodes, and added nodes change no tree.
use Rattle.std.proofs.Common.{◌≡◌, ℕ, zero, suc, ◌+◌, ◌<◌, Bool, true, false, ◌&&◌, nat_lt, IsTrue, IfSome, Option, Some, None, List, [], ◌∷◌, ◌++◌, length, slice_get, refl, ap, sym, subst, ◌∙◌, arith, length-append, ◌⊎◌, inl, inr}
use Rattle.std.specs.List.{fold}
use Rattle.std.proofs.Math.ListN.{get_or-append}
use Rattle.std.proofs.Math.Seq.{get_or-append_seam}
use Rattle.std.proofs.lemmas.Bool.{and_parts, ltb-true}
use Rattle.std.proofs.lemmas.List.Sums.{fold-append}
use Rattle.tb_terms.specs.declared.expr.Expr.{Expr}
use Rattle.tb_body.specs.declared.tree.Tree.{Tree}
use Rattle.tb_body.specs.declared.tree.Tree.TheVariants as tree
use Rattle.tb_process_steps.specs.declared.node.Node.{Node}
use Rattle.tb_process_steps.specs.declared.node.Node.TheVariants.{At, Seq, Alt, Star, Par, Disrupt, If, Let}
use Rattle.tb_process_steps.specs.Helpers.Selections.{chosen}
use Rattle.tb_process_steps.specs.Helpers.Plans.{made_at, built, with_node, trees, tree_at, is_behind, AreBehind, HasAdded}

length-fold : (made : List Tree) (nodes : List Node) → length (fold with_node made nodes) ≡ length made + length nodes
length-fold made [] = omega arith
length-fold made (node ∷ nodes) =
    let h : length (fold with_node (with_node made node) nodes) ≡ length (with_node made node) + length nodes = length-fold (with_node made node) nodes in
    let l : length (with_node made node) ≡ length made + 1 = length-append made (built made node ∷ []) in
    omega arith

pub length-trees : (nodes : List Node) → length (trees nodes) ≡ length nodes
unfolding trees
length-trees nodes =
    let z : 0 + length nodes ≡ length nodes = omega arith in
    let h : length (fold with_node [] nodes) ≡ 0 + length nodes = length-fold [] nodes in
    h ∙ z

pub trees-push : (nodes : List Node) (node : Node) → trees (nodes ++ node ∷ []) ≡ trees nodes ++ built (trees nodes) node ∷ []
unfolding trees
trees-push nodes node = fold-append with_node [] nodes (node ∷ [])

pub tree_at-push : (nodes : List Node) (node : Node) (at : ℕ) → at < length nodes → tree_at (nodes ++ node ∷ []) at ≡ tree_at nodes at
tree_at-push nodes node at h =
    let l = length-trees nodes in
    ap (λ (ts : List Tree). made_at ts at) (trees-push nodes node) ∙ get_or-append (trees nodes) (built (trees nodes) node ∷ []) (tree.At 0) at (omega arith)

pub tree_at-pushed : (nodes : List Node) (node : Node) → tree_at (nodes ++ node ∷ []) (length nodes) ≡ built (trees nodes) node
tree_at-pushed nodes node =
    ap (λ (ts : List Tree). made_at ts (length nodes)) (trees-push nodes node)
    ∙ ap (λ (n : ℕ). made_at (trees nodes ++ built (trees nodes) node ∷ []) n) (sym (length-trees nodes))
    ∙ get_or-append_seam (trees nodes) (built (trees nodes) node) [] (tree.At 0)

-- an item of a list with one more item is an item of the list, or the added one
read_pushed : {X P : Type 0} (xs : List X) (x : X) (at : ℕ) (y : X) → slice_get (xs ++ x ∷ []) at ≡ Some y → (slice_get xs at ≡ Some y → P) → (at ≡ length xs → x ≡ y → P) → P
read_pushed [] x zero y e f g = g refl cc
read_pushed [] x (suc at) y e f g = cc
read_pushed (a ∷ xs) x zero y e f g = f e
read_pushed (a ∷ xs) x (suc at) y e f g = read_pushed xs x at y e f (λ h k. g (ap suc h) k)

pub behind-push : (nodes : List Node) (node : Node) → AreBehind nodes → IsTrue (is_behind (length nodes) node) → AreBehind (nodes ++ node ∷ [])
behind-push nodes node all behind at other e =
    read_pushed nodes node at other e (all at other) (λ h k. rw (h, sym k) behind)

pub added : (nodes : List Node) (node : Node) (new : List Node) (at : ℕ) → AreBehind nodes → IsTrue (is_behind (length nodes) node) → new ≡ nodes ++ node ∷ [] → at ≡ length nodes → HasAdded nodes new at (built (trees nodes) node)
added nodes node new at all behind e k =
    let l = length-append nodes (node ∷ []) in
    rw (e, k) (record {
      behind = behind-push nodes node all behind;
      within = omega arith;
      longer = omega arith;
      stays = λ earlier h. tree_at-push nodes node earlier h;
      stands = tree_at-pushed nodes node;
    })

grown : (made : List Tree) (nodes : List Node) (at : ℕ) → at < length made → made_at (fold with_node made nodes) at ≡ made_at made at
grown made [] at h = refl
grown made (node ∷ nodes) at h =
    let l : length (with_node made node) ≡ length made + 1 = length-append made (built made node ∷ []) in
    grown (with_node made node) nodes at (omega arith) ∙ get_or-append made (built made node ∷ []) (tree.At 0) at h

abbrev Agree : List Tree → List Tree → ℕ → Type 0
Agree a b bound = (at : ℕ) → at < bound → made_at a at ≡ made_at b at

both_agree : (f : Tree → Tree → Tree) (a b : List Tree) (bound x y : ℕ) → Agree a b bound → (nat_lt x bound && nat_lt y bound) ≡ true → f (made_at a x) (made_at a y) ≡ f (made_at b x) (made_at b y)
both_agree f a b bound x y agree h =
    let parts = and_parts (nat_lt x bound) (nat_lt y bound) h in
    ap (λ (t : Tree). f t (made_at a y)) (agree x (ltb-true x bound parts.0)) ∙ ap (f (made_at b x)) (agree y (ltb-true y bound parts.1))

built-agree : (a b : List Tree) (bound : ℕ) (node : Node) → Agree a b bound → is_behind bound node ≡ true → built a node ≡ built b node
built-agree a b bound (At atom) agree h = refl
built-agree a b bound (Seq x y) agree h = both_agree (λ s t. tree.Seq s t) a b bound x y agree h
built-agree a b bound (Alt x y) agree h = both_agree (λ s t. tree.Alt s t) a b bound x y agree h
built-agree a b bound (Star x y) agree h = both_agree (λ s t. tree.Star s t) a b bound x y agree h
built-agree a b bound (Par x y) agree h = both_agree (λ s t. tree.Par s t) a b bound x y agree h
built-agree a b bound (Disrupt x y) agree h = both_agree (λ s t. tree.Disrupt s t) a b bound x y agree h
built-agree a b bound (If test x None) agree h = ap (λ (t : Tree). tree.If test t None) (agree x (ltb-true x bound h))
built-agree a b bound (If test x (Some y)) agree h = both_agree (λ s t. tree.If test s (Some t)) a b bound x y agree h
built-agree a b bound (Let settings x) agree h = ap (λ (t : Tree). tree.Let settings t) (agree x (ltb-true x bound h))

stands_behind : (made : List Tree) (nodes : List Node) (at : ℕ) (node : Node) → slice_get nodes at ≡ Some node → is_behind (length made + at) node ≡ true → made_at (fold with_node made nodes) (length made + at) ≡ built (fold with_node made nodes) node
stands_behind made [] at node e h = cc
stands_behind made (first ∷ nodes) zero node e h =
    let same : first ≡ node = cc in
    let l : length (with_node made first) ≡ length made + 1 = length-append made (built made first ∷ []) in
    let z : length made + 0 ≡ length made = omega arith in
    let whole = fold with_node (with_node made first) nodes in
    let found = grown (with_node made first) nodes (length made) (omega arith) ∙ get_or-append_seam made (built made first) [] (tree.At 0) in
    let agree : Agree made whole (length made) = λ at k. sym (grown made (first ∷ nodes) at k) in
    let behind : is_behind (length made) node ≡ true = rw z at h in
    rw z (found ∙ ap (built made) same ∙ built-agree made whole (length made) node agree behind)
stands_behind made (first ∷ nodes) (suc at) node e h =
    let l : length (with_node made first) ≡ length made + 1 = length-append made (built made first ∷ []) in
    let z : length made + suc at ≡ length (with_node made first) + at = omega arith in
    rw z (stands_behind (with_node made first) nodes at node e (rw z at h))

-- the tree of a node, by the trees of its parts
pub tree_at-node : (nodes : List Node) (at : ℕ) (node : Node) → AreBehind nodes → slice_get nodes at ≡ Some node → tree_at nodes at ≡ built (trees nodes) node
unfolding trees
tree_at-node nodes at node all e =
    let z : 0 + at ≡ at = omega arith in
    let behind : is_behind (0 + at) node ≡ true = rw z (all at node e) in
    let h : made_at (fold with_node [] nodes) (0 + at) ≡ built (fold with_node [] nodes) node = stands_behind [] nodes at node e behind in
    rw z at h

-- the parts of a node have smaller indices than the node

pub both_before : (x y at : ℕ) → (nat_lt x at && nat_lt y at) ≡ true → (x < at) × (y < at)
both_before x y at h = let parts = and_parts (nat_lt x at) (nat_lt y at) h in (ltb-true x at parts.0, ltb-true y at parts.1)

pub one_before : (x at : ℕ) → nat_lt x at ≡ true → x < at
one_before x at h = ltb-true x at h

pub if_before : (test : Expr) (x : ℕ) (y : Option ℕ) (at : ℕ) → is_behind at (If test x y) ≡ true → x < at
if_before test x None at h = ltb-true x at h
if_before test x (Some y) at h = (both_before x y at h).0

-- whichever part a test chooses, it has a smaller index than the node
pub chosen_before : (says : Option Bool) (test : Expr) (x : ℕ) (y : Option ℕ) (at : ℕ) → is_behind at (If test x y) ≡ true → IfSome (chosen says x y) (λ part. part < at)
chosen_before (Some true) test x y at h = if_before test x y at h
chosen_before (Some false) test x None at h = tt
chosen_before (Some false) test x (Some y) at h = (both_before x y at h).1
chosen_before None test x y at h = tt

-- a choice, a star or a merge
abbrev pub IsTwoSided : Node → ℕ → ℕ → Type 0
IsTwoSided node x y = (node ≡ Alt x y) ⊎ ((node ≡ Star x y) ⊎ ((node ≡ Par x y) ⊎ (node ≡ Disrupt x y)))

pub sides_before : (node : Node) (x y at : ℕ) → IsTwoSided node x y → is_behind at node ≡ true → (x < at) × (y < at)
sides_before node x y at (inl e) h = both_before x y at (subst (λ (n : Node). is_behind at n ≡ true) e h)
sides_before node x y at (inr (inl e)) h = both_before x y at (subst (λ (n : Node). is_behind at n ≡ true) e h)
sides_before node x y at (inr (inr (inl e))) h = both_before x y at (subst (λ (n : Node). is_behind at n ≡ true) e h)
sides_before node x y at (inr (inr (inr e))) h = both_before x y at (subst (λ (n : Node). is_behind at n ≡ true) e h)
