-- The value of each function for its arguments, or none.
use Rattle.std.specs.Prelude.{◌-◌, ℤ, pos, negsuc, Bool, false, not, ◌&&◌, ◌||◌, ◌==◌, List, [], ◌∷◌, ◌++◌, length, Option, Some, None, option_map, option_and_then, slice_get, if◌then◌else◌}
use Rattle.std.specs.List.{list_any}
use Rattle.tb_terms.specs.declared.term.Term.{Term}
use Rattle.tb_terms.specs.declared.term.Term.TheVariants as term
use Rattle.tb_terms.specs.declared.expr.Func.{Func}
use Rattle.tb_terms.specs.declared.expr.Func.TheVariants.{Equal, NotEqual, Not, And, Or, Add, Sub, Mul, Div, Mod, Less, LessEqual, Greater, GreaterEqual, Size, First, Next, Join, Member, Index, Msec, Sec, Min, Hour}
use Rattle.tb_func.specs.Arguments.{bool_of, int_of, list_of, bool_term, of_both}
use Rattle.tb_func.specs.Limits.{limited}
use Rattle.tb_func.specs.Numbers.{ranged, arithmetic, order, time}
use Rattle.tb_terms.specs.Same.{is_same_term}

abbrev pub first_of : List Term → Option Term
first_of [] = None
first_of (t ∷ ts) = Some t

abbrev pub rest_of : List Term → Option Term
rest_of [] = None
rest_of (t ∷ ts) = Some (term.List ts)

abbrev pub joined : List Term → List Term → Term
joined prefix back = term.List (prefix ++ back)

-- the member at this position, counted from 1, or none
abbrev pub member_at : List Term → ℤ → Option Term
member_at terms (pos n) = if n == 0 then None else slice_get terms (n - 1)
member_at terms (negsuc n) = None

abbrev pub negated : Term → Option Term
negated a = option_map (λ x. bool_term (not x)) (bool_of a)

abbrev pub logic : Func → Bool → Bool → Bool
logic And x y = x && y
logic Or x y = x || y
logic func x y = false

abbrev pub truths : Func → Term → Term → Option Term
truths func a b = of_both (λ x y. Some (bool_term (logic func x y))) (bool_of a) (bool_of b)

abbrev pub numbers : Func → Term → Term → Option Term
numbers func a b = option_map term.Int (of_both (arithmetic func) (int_of a) (int_of b))

abbrev pub orders : Func → Term → Term → Option Term
orders func a b = of_both (λ x y. Some (bool_term (order func x y))) (int_of a) (int_of b)

abbrev pub timed : Func → Term → Option Term
timed func a = option_map term.Int (option_and_then (time func) (int_of a))

abbrev pub number_of : List Term → Option Term
number_of terms = option_map term.Int (ranged (pos (length terms)))

abbrev pub members_test : Term → List Term → Term
members_test a terms = bool_term (list_any (λ t. is_same_term t a) terms)

abbrev pub one_given : Func → Term → Option Term
one_given Not a = negated a
one_given Size a = option_and_then number_of (list_of a)
one_given First a = option_and_then first_of (list_of a)
one_given Next a = option_and_then rest_of (list_of a)
one_given Msec a = timed Msec a
one_given Sec a = timed Sec a
one_given Min a = timed Min a
one_given Hour a = timed Hour a
one_given func a = None

abbrev pub two_given : Func → Term → Term → Option Term
two_given Equal a b = Some (bool_term (is_same_term a b))
two_given NotEqual a b = Some (bool_term (not (is_same_term a b)))
two_given And a b = truths And a b
two_given Or a b = truths Or a b
two_given Add a b = numbers Add a b
two_given Sub a b = numbers Sub a b
two_given Mul a b = numbers Mul a b
two_given Div a b = numbers Div a b
two_given Mod a b = numbers Mod a b
two_given Less a b = orders Less a b
two_given LessEqual a b = orders LessEqual a b
two_given Greater a b = orders Greater a b
two_given GreaterEqual a b = orders GreaterEqual a b
two_given Join a b = of_both (λ xs ys. Some (joined xs ys)) (list_of a) (list_of b)
two_given Member a b = option_map (members_test a) (list_of b)
two_given Index a b = of_both member_at (list_of a) (int_of b)
two_given func a b = None

-- the value for these arguments, or none if there is none, as for another number of arguments than the function takes
abbrev pub given : Func → List Term → Option Term
given func [] = None
given func (a ∷ []) = one_given func a
given func (a ∷ b ∷ []) = two_given func a b
given func (a ∷ b ∷ c ∷ terms) = None

-- the value for these arguments, or none if there is no value or if it is over a limit of terms
abbrev pub apply_of : Func → List Term → Option Term
apply_of func terms = option_and_then limited (given func terms)
