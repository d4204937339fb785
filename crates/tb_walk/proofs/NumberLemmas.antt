-- What numbers give that are found without a term is what their terms give.
use Rattle.std.proofs.Common.{◌≡◌, ℕ, ℤ, Bool, true, false, List, [], ◌∷◌, map, Option, Some, None, option_map, option_and_then, IfSome, codes, refl, ap, sym, ◌∙◌}
use Rattle.tb_terms.specs.declared.term.Term.{Term}
use Rattle.tb_terms.specs.declared.term.Term.TheVariants as term
use Rattle.tb_terms.specs.declared.expr.Expr.{Expr}
use Rattle.tb_terms.specs.declared.expr.Func.{Func}
use Rattle.tb_terms.specs.declared.expr.Func.TheVariants.{Equal, NotEqual, Not, And, Or, Add, Sub, Mul, Div, Mod, Less, LessEqual, Greater, GreaterEqual, Size, First, Next, Join, Member, Index, Msec, Sec, Min, Hour}
use Rattle.tb_terms.specs.Sizes.{size_step, levels_step, is_within_limits}
use Rattle.tb_terms.proofs.Induction.{fold-Int, fold-Appl}
use Rattle.tb_func.specs.declared.slot.Slot.{Slot}
use Rattle.tb_func.specs.Apply.{apply_of, two_given}
use Rattle.tb_func.specs.Arguments.{bool_of, bool_in, bool_term, int_of, int_in, of_both}
use Rattle.tb_func.specs.Limits.{limited}
use Rattle.tb_func.specs.Numbers.{arithmetic, order}
use Rattle.tb_func.specs.Values.{value_of, all_of}
use Rattle.tb_walk.specs.Helpers.Numbers.{numbered, ordered}

-- the terms that are made are within the limits

limited-Int : (n : ℤ) → limited (term.Int n) ≡ Some (term.Int n)
unfolding is_within_limits
limited-Int n = rw (fold-Int ℕ size_step n, fold-Int ℕ levels_step n) refl

limited-bool : (b : Bool) → limited (bool_term b) ≡ Some (bool_term b)
unfolding is_within_limits
limited-bool true = rw (fold-Appl ℕ size_step (codes "true") [], fold-Appl ℕ levels_step (codes "true") []) refl
limited-bool false = rw (fold-Appl ℕ size_step (codes "false") [], fold-Appl ℕ levels_step (codes "false") []) refl

int-of : (n : ℤ) → int_of (term.Int n) ≡ Some n
int-of n = ap int_in (term.outs-Int n)

bool-of : (b : Bool) → bool_of (bool_term b) ≡ Some b
bool-of true = ap bool_in (term.outs-Appl (codes "true") [])
bool-of false = ap bool_in (term.outs-Appl (codes "false") [])

both-ints : {C : Type 0} (f : ℤ → ℤ → Option C) (x y : ℤ) → of_both f (int_of (term.Int x)) (int_of (term.Int y)) ≡ f x y
both-ints f x y = rw (int-of x, int-of y) refl

-- a function of two numbers

given-number : (func : Func) (x y n : ℤ) → numbered func x y ≡ Some n → two_given func (term.Int x) (term.Int y) ≡ Some (term.Int n)
given-number Add x y n e = ap (option_map term.Int) (both-ints (arithmetic Add) x y ∙ e)
given-number Sub x y n e = ap (option_map term.Int) (both-ints (arithmetic Sub) x y ∙ e)
given-number Equal x y n e = (let t : ◌≡◌ {A = Option ℤ} None (Some n) = e in cc)
given-number NotEqual x y n e = (let t : ◌≡◌ {A = Option ℤ} None (Some n) = e in cc)
given-number Not x y n e = (let t : ◌≡◌ {A = Option ℤ} None (Some n) = e in cc)
given-number And x y n e = (let t : ◌≡◌ {A = Option ℤ} None (Some n) = e in cc)
given-number Or x y n e = (let t : ◌≡◌ {A = Option ℤ} None (Some n) = e in cc)
given-number Mul x y n e = (let t : ◌≡◌ {A = Option ℤ} None (Some n) = e in cc)
given-number Div x y n e = (let t : ◌≡◌ {A = Option ℤ} None (Some n) = e in cc)
given-number Mod x y n e = (let t : ◌≡◌ {A = Option ℤ} None (Some n) = e in cc)
given-number Less x y n e = (let t : ◌≡◌ {A = Option ℤ} None (Some n) = e in cc)
given-number LessEqual x y n e = (let t : ◌≡◌ {A = Option ℤ} None (Some n) = e in cc)
given-number Greater x y n e = (let t : ◌≡◌ {A = Option ℤ} None (Some n) = e in cc)
given-number GreaterEqual x y n e = (let t : ◌≡◌ {A = Option ℤ} None (Some n) = e in cc)
given-number Size x y n e = (let t : ◌≡◌ {A = Option ℤ} None (Some n) = e in cc)
given-number First x y n e = (let t : ◌≡◌ {A = Option ℤ} None (Some n) = e in cc)
given-number Next x y n e = (let t : ◌≡◌ {A = Option ℤ} None (Some n) = e in cc)
given-number Join x y n e = (let t : ◌≡◌ {A = Option ℤ} None (Some n) = e in cc)
given-number Member x y n e = (let t : ◌≡◌ {A = Option ℤ} None (Some n) = e in cc)
given-number Index x y n e = (let t : ◌≡◌ {A = Option ℤ} None (Some n) = e in cc)
given-number Msec x y n e = (let t : ◌≡◌ {A = Option ℤ} None (Some n) = e in cc)
given-number Sec x y n e = (let t : ◌≡◌ {A = Option ℤ} None (Some n) = e in cc)
given-number Min x y n e = (let t : ◌≡◌ {A = Option ℤ} None (Some n) = e in cc)
given-number Hour x y n e = (let t : ◌≡◌ {A = Option ℤ} None (Some n) = e in cc)

order-term : (func : Func) (x y : ℤ) (b : Bool) → ◌≡◌ {A = Option Bool} (Some (order func x y)) (Some b) → of_both (λ x y. Some (bool_term (order func x y))) (int_of (term.Int x)) (int_of (term.Int y)) ≡ Some (bool_term b)
order-term func x y b e = both-ints (λ x y. Some (bool_term (order func x y))) x y ∙ ap (option_map bool_term) e

given-order : (func : Func) (x y : ℤ) (b : Bool) → ordered func x y ≡ Some b → two_given func (term.Int x) (term.Int y) ≡ Some (bool_term b)
given-order Less x y b e = order-term Less x y b e
given-order LessEqual x y b e = order-term LessEqual x y b e
given-order Greater x y b e = order-term Greater x y b e
given-order GreaterEqual x y b e = order-term GreaterEqual x y b e
given-order Equal x y b e = (let t : ◌≡◌ {A = Option Bool} None (Some b) = e in cc)
given-order NotEqual x y b e = (let t : ◌≡◌ {A = Option Bool} None (Some b) = e in cc)
given-order Not x y b e = (let t : ◌≡◌ {A = Option Bool} None (Some b) = e in cc)
given-order And x y b e = (let t : ◌≡◌ {A = Option Bool} None (Some b) = e in cc)
given-order Or x y b e = (let t : ◌≡◌ {A = Option Bool} None (Some b) = e in cc)
given-order Add x y b e = (let t : ◌≡◌ {A = Option Bool} None (Some b) = e in cc)
given-order Sub x y b e = (let t : ◌≡◌ {A = Option Bool} None (Some b) = e in cc)
given-order Mul x y b e = (let t : ◌≡◌ {A = Option Bool} None (Some b) = e in cc)
given-order Div x y b e = (let t : ◌≡◌ {A = Option Bool} None (Some b) = e in cc)
given-order Mod x y b e = (let t : ◌≡◌ {A = Option Bool} None (Some b) = e in cc)
given-order Size x y b e = (let t : ◌≡◌ {A = Option Bool} None (Some b) = e in cc)
given-order First x y b e = (let t : ◌≡◌ {A = Option Bool} None (Some b) = e in cc)
given-order Next x y b e = (let t : ◌≡◌ {A = Option Bool} None (Some b) = e in cc)
given-order Join x y b e = (let t : ◌≡◌ {A = Option Bool} None (Some b) = e in cc)
given-order Member x y b e = (let t : ◌≡◌ {A = Option Bool} None (Some b) = e in cc)
given-order Index x y b e = (let t : ◌≡◌ {A = Option Bool} None (Some b) = e in cc)
given-order Msec x y b e = (let t : ◌≡◌ {A = Option Bool} None (Some b) = e in cc)
given-order Sec x y b e = (let t : ◌≡◌ {A = Option Bool} None (Some b) = e in cc)
given-order Min x y b e = (let t : ◌≡◌ {A = Option Bool} None (Some b) = e in cc)
given-order Hour x y b e = (let t : ◌≡◌ {A = Option Bool} None (Some b) = e in cc)

module _ (store : List Slot) (func : Func) (first second : Expr) (x y : ℤ) (a : value_of store first ≡ Some (term.Int x)) (b : value_of store second ≡ Some (term.Int y)) where
  applied : option_and_then (apply_of func) (all_of (map (value_of store) (first ∷ second ∷ []))) ≡ option_and_then limited (two_given func (term.Int x) (term.Int y))
  applied = rw (a, b) refl

  call-number : (n : ℤ) → numbered func x y ≡ Some n → option_and_then (apply_of func) (all_of (map (value_of store) (first ∷ second ∷ []))) ≡ Some (term.Int n)
  call-number n e = applied ∙ ap (option_and_then limited) (given-number func x y n e) ∙ limited-Int n

  call-order : (says : Bool) → ordered func x y ≡ Some says → option_and_then bool_of (option_and_then (apply_of func) (all_of (map (value_of store) (first ∷ second ∷ [])))) ≡ Some says
  call-order says e = ap (option_and_then bool_of) (applied ∙ ap (option_and_then limited) (given-order func x y says e) ∙ limited-bool says) ∙ bool-of says

  abbrev call : Option Term
  call = option_and_then (apply_of func) (all_of (map (value_of store) (first ∷ second ∷ [])))

  pub call-numbers : (result : Option ℤ) → result ≡ numbered func x y → IfSome result (λ n. call ≡ Some (term.Int n))
  call-numbers None e = tt
  call-numbers (Some n) e = call-number n (sym e)

  pub call-orders : (result : Option Bool) → result ≡ ordered func x y → IfSome result (λ says. option_and_then bool_of call ≡ Some says)
  call-orders None e = tt
  call-orders (Some says) e = call-order says (sym e)
