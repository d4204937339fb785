-- The values that the ring's atoms send, test and receive.
use Rattle.std.proofs.Common.{◌≡◌, ◌≢◌, ℕ, ◌+◌, ◌≤◌, ◌<◌, pos, ℤ, Bool, true, false, List, [], ◌∷◌, map, Option, Some, None, option_map, option_and_then, refl, ap, ◌∙◌, arith, rules, codes, cond}
use Rattle.std.specs.Prelude.{int_lt}
use Rattle.std.proofs.lemmas.Bool.{false_from_ne_true}
use Rattle.tb_terms.specs.declared.term.Term.{Term, the_lemmas as term_lemmas}
use Rattle.tb_terms.specs.declared.term.Term.TheVariants as term
use Rattle.tb_terms.specs.contracts.term.Term as term_row
use Rattle.tb_terms.specs.declared.expr.Expr.{Expr, the_lemmas as expr_lemmas}
use Rattle.tb_terms.specs.declared.expr.Expr.TheFolds.{fold_out-Expr, map-Expr}
use Rattle.tb_terms.specs.declared.expr.Expr.TheOpen.{Expr-F}
use Rattle.tb_terms.specs.declared.expr.Expr.TheVariants.{outs-Call}
use Rattle.tb_terms.specs.declared.expr.Func.{Func}
use Rattle.tb_terms.specs.declared.expr.Expr.TheVariants as expr
use Rattle.tb_terms.specs.declared.expr.Func.TheVariants.{Add, Less}
use Rattle.tb_terms.specs.declared.pattern.Pattern.{Pattern, the_lemmas as pattern_lemmas}
use Rattle.tb_terms.specs.declared.pattern.Pattern.TheVariants as pattern
use Rattle.tb_terms.specs.declared.sort.Sort.{the_lemmas as sort_lemmas}
use Rattle.tb_terms.specs.declared.sort.Sort.TheVariants as sort
use Rattle.tb_terms.specs.Proper.{has_64_bits}
use Rattle.tb_terms.specs.Same.{is_same_term}
use Rattle.tb_terms.specs.Sizes.{is_within_limits, term_size}
use Rattle.tb_terms.specs.Sorts.{has_sort, initial_value}
use Rattle.tb_func.specs.declared.slot.Slot.{Slot}
use Rattle.tb_func.specs.Limits.{limited}
use Rattle.tb_func.specs.Apply.{apply_of}
use Rattle.tb_func.specs.Arguments.{bool_of, int_of, bool_term, of_both}
use Rattle.tb_func.specs.Numbers.{arithmetic, order}
use Rattle.tb_func.specs.Stores.{value_at}
use Rattle.tb_func.specs.Values.{value_of, value_step, all_of}
use Rattle.tb_match.specs.Matches.{match_list, match_term}
use Rattle.tb_process_steps.specs.Atoms.{limited_together, values_together, patterns_of}
use Rattle.tb_process_steps.specs.Settings.{with_settings, tested}
use Rattle.tb_terms.proofs.SameLemmas.{is_same-refl, is_same-sound}
use Rattle.tb_ring_law.specs.Helpers.Buses.{node_store, first_store}
use Rattle.tb_ring_law.specs.Helpers.Bodies.{number, worth, setting, one_more, node_receives, node_sends, first_test, first_begins, first_receives, first_sends, done}

pub number-size : (n : ℕ) → term_size (worth n) ≡ 1
number-size n = search (rules, term_lemmas)

pub begins-zero : initial_value sort.Int ≡ worth 0
begins-zero = search (rules, sort_lemmas)

is-int : (n : ℕ) → has_sort (worth n) sort.Int ≡ true
is-int n = search (rules, sort_lemmas, term_lemmas)

limited-number : (n : ℕ) → limited (worth n) ≡ Some (worth n)
unfolding is_within_limits
limited-number n = search (rules, term_lemmas)

pub node-begins : (i j t : ℕ) → with_settings (node_store i j t) (setting 2) ≡ Some (node_store i j 0)
node-begins i j t = search (rules, begins-zero, is-int)

pub first-begins : (t : ℕ) → with_settings (first_store t) (setting 0) ≡ Some (first_store 0)
first-begins t = search (rules, begins-zero, is-int)

has-64 : (n : ℕ) → n ≤ 1000001 → has_64_bits (pos n) ≡ true
has-64 n most = grind arith

-- the value of a call, by those of its arguments
value-call : (store : List Slot) (func : Func) (parts : List Expr) → value_of store (expr.Call func parts) ≡ option_and_then (apply_of func) (all_of (map (value_of store) parts))
value-call store func parts =
    fold_out-Expr (Option Term) (value_step store) (expr.Call func parts)
    ∙ ap (λ (layer : Expr-F Expr). value_step store (map-Expr Expr (Option Term) (value_of store) layer)) (outs-Call func parts)

value-var : (store : List Slot) (at : ℕ) → value_of store (expr.Var at) ≡ value_at store at
value-var store at = search (rules, expr_lemmas)

value-number : (store : List Slot) (n : ℕ) → value_of store (number n) ≡ Some (worth n)
value-number store n = search (rules, expr_lemmas)

int-of : (n : ℕ) → int_of (worth n) ≡ Some (pos n)
int-of n = search (rules, term_lemmas)

-- a function of two numbers
value-of-two : (store : List Slot) (func : Func) (x y : Expr) (a b : ℕ) → value_of store x ≡ Some (worth a) → value_of store y ≡ Some (worth b) → value_of store (expr.Call func (x ∷ y ∷ [])) ≡ apply_of func (worth a ∷ worth b ∷ [])
value-of-two store func x y a b first second = value-call store func (x ∷ y ∷ []) ∙ (λ i. option_and_then (apply_of func) (all_of (first i ∷ second i ∷ [])))

abbrev sum_of : Option ℤ → Option ℤ → Option Term
sum_of x y = option_and_then limited (option_map term.Int (of_both (arithmetic Add) x y))

added : (n : ℕ) → n ≤ 1000000 → apply_of Add (worth n ∷ worth 1 ∷ []) ≡ Some (worth (n + 1))
added n most =
    (λ i. sum_of (int-of n i) (int-of 1 i))
    ∙ ap (λ (b : Bool). option_and_then limited (option_map term.Int (cond b (Some (pos (n + 1))) None))) (has-64 (n + 1) (omega (arith, most)))
    ∙ limited-number (n + 1)

more-of : (store : List Slot) (at n : ℕ) → n ≤ 1000000 → value_of store (expr.Var at) ≡ Some (worth n) → value_of store (one_more at) ≡ Some (worth (n + 1))
more-of store at n most is = value-of-two store Add (expr.Var at) (number 1) n 1 is (value-number store 1) ∙ added n most

two-numbers : (a b : ℕ) → limited_together (worth a ∷ worth b ∷ []) ≡ Some (worth a ∷ worth b ∷ [])
two-numbers a b = search (rules, number-size)

two-sent : (store : List Slot) (x y : Expr) (a b : ℕ) → value_of store x ≡ Some (worth a) → value_of store y ≡ Some (worth b) → values_together store (x ∷ y ∷ []) ≡ Some (worth a ∷ worth b ∷ [])
two-sent store x y a b first second = (λ i. option_and_then limited_together (all_of (first i ∷ second i ∷ []))) ∙ two-numbers a b

pub node-sent : (i j t : ℕ) → t ≤ 1000000 → values_together (node_store i j t) node_sends ≡ Some (worth j ∷ worth (t + 1) ∷ [])
node-sent i j t most =
    let store = node_store i j t in two-sent store (expr.Var 1) (one_more 2) j (t + 1) (value-var store 1) (more-of store 2 t most (value-var store 2))

pub first-sent : (t : ℕ) → t ≤ 1000000 → values_together (first_store t) first_sends ≡ Some (worth 2 ∷ worth (t + 1) ∷ [])
first-sent t most =
    let store = first_store t in two-sent store (number 2) (one_more 0) 2 (t + 1) (value-number store 2) (more-of store 0 t most (value-var store 0))

pub first-sent-once : (t : ℕ) → values_together (first_store t) first_begins ≡ Some (worth 2 ∷ worth 1 ∷ [])
first-sent-once t = let store = first_store t in two-sent store (number 2) (number 1) 2 1 (value-number store 2) (value-number store 1)

abbrev pub done_term : Term
done_term = term.Appl (codes "done") []

pub done-sent : (t : ℕ) → values_together (first_store t) (done ∷ []) ≡ Some (done_term ∷ [])
unfolding is_within_limits
done-sent t = search (rules, expr_lemmas, term_lemmas)

pub done-size : term_size done_term ≡ 5
done-size = search (rules, term_lemmas)

-- First tests whether there are messages to come

true-limited : limited (bool_term true) ≡ Some (bool_term true)
unfolding is_within_limits
true-limited = search (rules, term_lemmas)

false-limited : limited (bool_term false) ≡ Some (bool_term false)
unfolding is_within_limits
false-limited = search (rules, term_lemmas)

is-true : bool_of (bool_term true) ≡ Some true
is-true = search (rules, term_lemmas)

is-false : bool_of (bool_term false) ≡ Some false
is-false = search (rules, term_lemmas)

abbrev order_of : Option ℤ → Option ℤ → Option Term
order_of x y = option_and_then limited (of_both (λ a b. Some (bool_term (order Less a b))) x y)

compared : (t messages : ℕ) (b : Bool) → int_lt (pos t) (pos messages) ≡ b → limited (bool_term b) ≡ Some (bool_term b) → bool_of (bool_term b) ≡ Some b → tested (first_store t) (first_test messages) ≡ Some b
compared t messages b less limit is =
    let store = first_store t in
    ap (option_and_then bool_of)
    (value-of-two store Less (expr.Var 0) (number messages) t messages (value-var store 0) (value-number store messages)
    ∙ (λ i. order_of (int-of t i) (int-of messages i))
    ∙ ap (λ (c : Bool). limited (bool_term c)) less
    ∙ limit)
    ∙ is

pub test-less : (t messages : ℕ) → t < messages → tested (first_store t) (first_test messages) ≡ Some true
test-less t messages less = compared t messages true (grind arith) true-limited is-true

pub test-done : (t : ℕ) → tested (first_store t) (first_test t) ≡ Some false
test-done t = compared t t false (grind arith) false-limited is-false

-- what is received

abbrev pub wanted : ℕ → ℕ → List Pattern
wanted number slot = pattern.Fixed (worth number) ∷ pattern.Result slot sort.Int ∷ []

pub node-wanted : (i j t : ℕ) → patterns_of (node_store i j t) node_receives ≡ Some (wanted i 2)
node-wanted i j t = search (rules, expr_lemmas)

pub first-wanted : (t : ℕ) → patterns_of (first_store t) first_receives ≡ Some (wanted 1 0)
first-wanted t = search (rules, expr_lemmas)

number-matches : (n : ℕ) → match_term (pattern.Fixed (worth n)) (worth n) ≡ Some []
number-matches n = let same = is_same-refl term_row.the_row.coded (worth n) in search (rules, pattern_lemmas, same)

number-taken : (slot n : ℕ) → match_term (pattern.Result slot sort.Int) (worth n) ≡ Some (record { slot = slot; value = worth n } ∷ [])
number-taken slot n = search (rules, pattern_lemmas, sort_lemmas, term_lemmas)

pub matches : (number slot n : ℕ) → match_list (wanted number slot) (worth number ∷ worth n ∷ []) ≡ Some (record { slot = slot; value = worth n } ∷ [])
matches number slot n = rw (number-matches number) (rw (number-taken slot n) refl)

one-number : (m n : ℕ) → worth m ≡ worth n → m ≡ n
one-number m n e = search (rules, term_lemmas)

apart : (m n : ℕ) → m ≢ n → is_same_term (worth m) (worth n) ≡ false
apart m n differ = false_from_ne_true (is_same_term (worth m) (worth n)) (λ e. differ (one-number m n (is_same-sound term_row.the_row.coded (worth m) (worth n) e)))

number-misses : (m n : ℕ) → m ≢ n → match_term (pattern.Fixed (worth m)) (worth n) ≡ None
number-misses m n differ = let other = apart m n differ in search (rules, pattern_lemmas, other)

pub misses : (number slot other n : ℕ) → number ≢ other → match_list (wanted number slot) (worth other ∷ worth n ∷ []) ≡ None
misses number slot other n differ = rw (number-misses number other differ) refl
