-- If a function has a value, its arguments and the value fit its signature.
use Rattle.std.proofs.Common.{◌≡◌, ℤ, Bool, true, false, not, ◌||◌, List, [], ◌∷◌, ◌++◌, Option, Some, None, option_map, option_and_then, IsTrue, IfSome, codes, length, pos, refl, ap, ◌∙◌, if◌then◌else◌}
use Rattle.std.specs.List.{list_all, list_any}
use Rattle.std.proofs.lemmas.Bool.{and_from}
use Rattle.tb_terms.specs.declared.term.Term.{Term, Term-F, out-Term}
use Rattle.tb_terms.specs.declared.term.Term.TheOpen as layer
use Rattle.tb_terms.specs.declared.term.Term.TheVariants as term
use Rattle.tb_terms.specs.declared.sort.Sort.{Sort, Sort-F, map-Sort, fold-Sort, fold_out-Sort}
use Rattle.tb_terms.specs.declared.sort.Sort.TheVariants as sort
use Rattle.tb_terms.specs.declared.expr.Func.{Func}
use Rattle.tb_terms.specs.declared.expr.Func.TheVariants.{Equal, NotEqual, Not, And, Or, Add, Sub, Mul, Div, Mod, Less, LessEqual, Greater, GreaterEqual, Size, First, Next, Join, Member, Index, Msec, Sec, Min, Hour}
use Rattle.tb_terms.specs.Same.{is_same_term}
use Rattle.tb_terms.specs.Sizes.{is_within_limits}
use Rattle.tb_terms.specs.Sorts.{term_test, sort_step, is_word, is_int, is_list_of}
use Rattle.tb_func.specs.declared.shape.Shape.{Shape}
use Rattle.tb_func.specs.declared.shape.Shape.TheVariants as shape
use Rattle.tb_func.specs.declared.shape.Signature.{Signature}
use Rattle.tb_func.specs.Apply.{apply_of, given, one_given, two_given, negated, truths, logic, numbers, orders, timed, number_of, first_of, rest_of, joined, member_at, members_test}
use Rattle.tb_func.specs.Arguments.{bool_of, int_of, int_in, list_of, list_in, bool_term, of_both}
use Rattle.tb_func.specs.Fitting.{fits, AreFit}
use Rattle.tb_func.specs.Functions.{signature_of, one, two}
use Rattle.tb_func.specs.Limits.{limited}
use Rattle.tb_func.specs.Numbers.{ranged, arithmetic, order, time}

-- the tests of the types of shapes

abbrev Test : Type 0
Test = Term → Bool

abbrev opened : Sort-F Sort → Test
opened w = sort_step (map-Sort Sort Test (fold-Sort Test sort_step) w)

abbrev is_bool : Term-F Term → Bool
is_bool x = is_word (codes "true") x || is_word (codes "false") x

test-Bool : (t : Term) → fits shape.Bool t ≡ is_bool (out-Term t)
test-Bool t = ap (λ (g : Test). g t) (fold_out-Sort Test sort_step sort.Bool ∙ ap opened sort.outs-Bool)

test-Int : (t : Term) → fits shape.Int t ≡ is_int (out-Term t)
test-Int t = ap (λ (g : Test). g t) (fold_out-Sort Test sort_step sort.Int ∙ ap opened sort.outs-Int)

test-Any : (t : Term) → fits shape.Any t ≡ true
test-Any t = ap (λ (g : Test). g t) (fold_out-Sort Test sort_step sort.Any ∙ ap opened sort.outs-Any)

test-List : (t : Term) → fits shape.List t ≡ is_list_of (term_test sort.Any) (out-Term t)
test-List t = ap (λ (g : Test). g t) (fold_out-Sort Test sort_step (sort.List sort.Any) ∙ ap opened (sort.outs-List sort.Any))

each-Any : (ts : List Term) → list_all (term_test sort.Any) ts ≡ true
each-Any [] = refl
each-Any (t ∷ ts) = and_from (term_test sort.Any t) (list_all (term_test sort.Any) ts) (test-Any t) (each-Any ts)

-- the made terms fit

bool-fits : (b : Bool) → fits shape.Bool (bool_term b) ≡ true
bool-fits true = test-Bool (bool_term true) ∙ ap is_bool (term.outs-Appl (codes "true") [])
bool-fits false = test-Bool (bool_term false) ∙ ap is_bool (term.outs-Appl (codes "false") [])

int-fits : (n : ℤ) → fits shape.Int (term.Int n) ≡ true
int-fits n = test-Int (term.Int n) ∙ ap is_int (term.outs-Int n)

list-fits : (ts : List Term) → fits shape.List (term.List ts) ≡ true
list-fits ts = test-List (term.List ts) ∙ ap (is_list_of (term_test sort.Any)) (term.outs-List ts) ∙ each-Any ts

-- an argument has the required shape, or there is no value

bool_case : (F : Type 0) (P : Option Bool → Type 0) (x y : Bool) → ((x || y) ≡ true → F) → P None → ((b : Bool) → F → P (Some b)) → P (if x then Some true else (if y then Some false else None))
bool_case F P true y k none some = some true (k refl)
bool_case F P false true k none some = some false (k refl)
bool_case F P false false k none some = none

by_bool : (t : Term) (P : Option Bool → Type 0) → P None → ((b : Bool) → fits shape.Bool t ≡ true → P (Some b)) → P (bool_of t)
by_bool t P = bool_case (fits shape.Bool t ≡ true) P (is_word (codes "true") (out-Term t)) (is_word (codes "false") (out-Term t)) (λ h. test-Bool t ∙ h)

int_case : (F : Type 0) (P : Option ℤ → Type 0) (x : Term-F Term) → (is_int x ≡ true → F) → P None → ((n : ℤ) → F → P (Some n)) → P (int_in x)
int_case F P (layer.Int n) k none some = some n (k refl)
int_case F P (layer.Str s) k none some = none
int_case F P (layer.Appl name ts) k none some = none
int_case F P (layer.List ts) k none some = none

by_int : (t : Term) (P : Option ℤ → Type 0) → P None → ((n : ℤ) → fits shape.Int t ≡ true → P (Some n)) → P (int_of t)
by_int t P = int_case (fits shape.Int t ≡ true) P (out-Term t) (λ h. test-Int t ∙ h)

list_case : (F : Type 0) (P : Option (List Term) → Type 0) (x : Term-F Term) → (is_list_of (term_test sort.Any) x ≡ true → F) → P None → ((ts : List Term) → F → P (Some ts)) → P (list_in x)
list_case F P (layer.Int n) k none some = none
list_case F P (layer.Str s) k none some = none
list_case F P (layer.Appl name ts) k none some = none
list_case F P (layer.List ts) k none some = some ts (k (each-Any ts))

by_list : (t : Term) (P : Option (List Term) → Type 0) → P None → ((ts : List Term) → fits shape.List t ≡ true → P (Some ts)) → P (list_of t)
by_list t P = list_case (fits shape.List t ≡ true) P (out-Term t) (λ h. test-List t ∙ h)

-- the arguments and the value that fit a signature

abbrev Fitting : Signature → List Term → Option Term → Type 0
Fitting signature ts found = IfSome found (λ v. AreFit signature ts × IsTrue (fits signature.result v))

one-fits : (first result : Shape) (a : Term) (found : Option Term) → fits first a ≡ true → IfSome found (λ v. IsTrue (fits result v)) → Fitting (one first result) (a ∷ []) found
one-fits first result a None h k = tt
one-fits first result a (Some v) h k = ((h, tt), k)

two-fits : (first second result : Shape) (a b : Term) (found : Option Term) → fits first a ≡ true → fits second b ≡ true → IfSome found (λ v. IsTrue (fits result v)) → Fitting (two first second result) (a ∷ b ∷ []) found
two-fits first second result a b None h k l = tt
two-fits first second result a b (Some v) h k l = ((h, (k, tt)), l)

each-int : (found : Option ℤ) → IfSome (option_map term.Int found) (λ v. IsTrue (fits shape.Int v))
each-int None = tt
each-int (Some n) = int-fits n

each-term : (found : Option Term) → IfSome found (λ v. IsTrue (fits shape.Any v))
each-term None = tt
each-term (Some t) = test-Any t

each-rest : (ts : List Term) → IfSome (rest_of ts) (λ v. IsTrue (fits shape.List v))
each-rest [] = tt
each-rest (t ∷ ts) = list-fits ts

-- functions of one argument

not-fits : (a : Term) → Fitting (signature_of Not) (a ∷ []) (negated a)
not-fits a = by_bool a (λ o. Fitting (signature_of Not) (a ∷ []) (option_map (λ x. bool_term (not x)) o)) tt (λ b h. one-fits shape.Bool shape.Bool a (Some (bool_term (not b))) h (bool-fits (not b)))

size-fits : (a : Term) → Fitting (signature_of Size) (a ∷ []) (option_and_then number_of (list_of a))
size-fits a = by_list a (λ o. Fitting (signature_of Size) (a ∷ []) (option_and_then number_of o)) tt (λ ts h. one-fits shape.List shape.Int a (number_of ts) h (each-int (ranged (pos (length ts)))))

first-fits : (a : Term) → Fitting (signature_of First) (a ∷ []) (option_and_then first_of (list_of a))
first-fits a = by_list a (λ o. Fitting (signature_of First) (a ∷ []) (option_and_then first_of o)) tt (λ ts h. one-fits shape.List shape.Any a (first_of ts) h (each-term (first_of ts)))

next-fits : (a : Term) → Fitting (signature_of Next) (a ∷ []) (option_and_then rest_of (list_of a))
next-fits a = by_list a (λ o. Fitting (signature_of Next) (a ∷ []) (option_and_then rest_of o)) tt (λ ts h. one-fits shape.List shape.List a (rest_of ts) h (each-rest ts))

timed-fits : (func : Func) (a : Term) → Fitting (one shape.Int shape.Int) (a ∷ []) (timed func a)
timed-fits func a = by_int a (λ o. Fitting (one shape.Int shape.Int) (a ∷ []) (option_map term.Int (option_and_then (time func) o))) tt (λ n h. one-fits shape.Int shape.Int a (option_map term.Int (time func n)) h (each-int (time func n)))

one_given-fits : (func : Func) (a : Term) → Fitting (signature_of func) (a ∷ []) (one_given func a)
one_given-fits Not a = not-fits a
one_given-fits Size a = size-fits a
one_given-fits First a = first-fits a
one_given-fits Next a = next-fits a
one_given-fits Msec a = timed-fits Msec a
one_given-fits Sec a = timed-fits Sec a
one_given-fits Min a = timed-fits Min a
one_given-fits Hour a = timed-fits Hour a
one_given-fits Equal a = tt
one_given-fits NotEqual a = tt
one_given-fits And a = tt
one_given-fits Or a = tt
one_given-fits Add a = tt
one_given-fits Sub a = tt
one_given-fits Mul a = tt
one_given-fits Div a = tt
one_given-fits Mod a = tt
one_given-fits Less a = tt
one_given-fits LessEqual a = tt
one_given-fits Greater a = tt
one_given-fits GreaterEqual a = tt
one_given-fits Join a = tt
one_given-fits Member a = tt
one_given-fits Index a = tt

-- functions of two arguments

any-fits : (b : Bool) (a c : Term) → Fitting (two shape.Any shape.Any shape.Bool) (a ∷ c ∷ []) (Some (bool_term b))
any-fits b a c = two-fits shape.Any shape.Any shape.Bool a c (Some (bool_term b)) (test-Any a) (test-Any c) (bool-fits b)

truths-fits : (func : Func) (a b : Term) → Fitting (two shape.Bool shape.Bool shape.Bool) (a ∷ b ∷ []) (truths func a b)
truths-fits func a b =
    let fit : Option Term → Type 0 = Fitting (two shape.Bool shape.Bool shape.Bool) (a ∷ b ∷ []) in
    let f : Bool → Bool → Option Term = λ x y. Some (bool_term (logic func x y)) in
    by_bool a (λ o. fit (of_both f o (bool_of b))) tt (λ x h.
    by_bool b (λ o. fit (of_both f (Some x) o)) tt (λ y k.
    two-fits shape.Bool shape.Bool shape.Bool a b (f x y) h k (bool-fits (logic func x y))))

orders-fits : (func : Func) (a b : Term) → Fitting (two shape.Int shape.Int shape.Bool) (a ∷ b ∷ []) (orders func a b)
orders-fits func a b =
    let fit : Option Term → Type 0 = Fitting (two shape.Int shape.Int shape.Bool) (a ∷ b ∷ []) in
    let f : ℤ → ℤ → Option Term = λ x y. Some (bool_term (order func x y)) in
    by_int a (λ o. fit (of_both f o (int_of b))) tt (λ x h.
    by_int b (λ o. fit (of_both f (Some x) o)) tt (λ y k.
    two-fits shape.Int shape.Int shape.Bool a b (f x y) h k (bool-fits (order func x y))))

numbers-fits : (func : Func) (a b : Term) → Fitting (two shape.Int shape.Int shape.Int) (a ∷ b ∷ []) (numbers func a b)
numbers-fits func a b =
    let fit : Option ℤ → Type 0 = λ o. Fitting (two shape.Int shape.Int shape.Int) (a ∷ b ∷ []) (option_map term.Int o) in
    by_int a (λ o. fit (of_both (arithmetic func) o (int_of b))) tt (λ x h.
    by_int b (λ o. fit (of_both (arithmetic func) (Some x) o)) tt (λ y k.
    two-fits shape.Int shape.Int shape.Int a b (option_map term.Int (arithmetic func x y)) h k (each-int (arithmetic func x y))))

join-fits : (a b : Term) → Fitting (signature_of Join) (a ∷ b ∷ []) (two_given Join a b)
join-fits a b =
    let fit : Option Term → Type 0 = Fitting (signature_of Join) (a ∷ b ∷ []) in
    let f : List Term → List Term → Option Term = λ xs ys. Some (joined xs ys) in
    by_list a (λ o. fit (of_both f o (list_of b))) tt (λ xs h.
    by_list b (λ o. fit (of_both f (Some xs) o)) tt (λ ys k.
    two-fits shape.List shape.List shape.List a b (f xs ys) h k (list-fits (xs ++ ys))))

member-fits : (a b : Term) → Fitting (signature_of Member) (a ∷ b ∷ []) (two_given Member a b)
member-fits a b = by_list b (λ o. Fitting (signature_of Member) (a ∷ b ∷ []) (option_map (members_test a) o)) tt (λ ts h.
    two-fits shape.Any shape.List shape.Bool a b (Some (members_test a ts)) (test-Any a) h (bool-fits (list_any (λ t. is_same_term t a) ts)))

index-fits : (a b : Term) → Fitting (signature_of Index) (a ∷ b ∷ []) (two_given Index a b)
index-fits a b =
    let fit : Option Term → Type 0 = Fitting (signature_of Index) (a ∷ b ∷ []) in
    by_list a (λ o. fit (of_both member_at o (int_of b))) tt (λ ts h.
    by_int b (λ o. fit (of_both member_at (Some ts) o)) tt (λ n k.
    two-fits shape.List shape.Int shape.Any a b (member_at ts n) h k (each-term (member_at ts n))))

two_given-fits : (func : Func) (a b : Term) → Fitting (signature_of func) (a ∷ b ∷ []) (two_given func a b)
two_given-fits Equal a b = any-fits (is_same_term a b) a b
two_given-fits NotEqual a b = any-fits (not (is_same_term a b)) a b
two_given-fits And a b = truths-fits And a b
two_given-fits Or a b = truths-fits Or a b
two_given-fits Add a b = numbers-fits Add a b
two_given-fits Sub a b = numbers-fits Sub a b
two_given-fits Mul a b = numbers-fits Mul a b
two_given-fits Div a b = numbers-fits Div a b
two_given-fits Mod a b = numbers-fits Mod a b
two_given-fits Less a b = orders-fits Less a b
two_given-fits LessEqual a b = orders-fits LessEqual a b
two_given-fits Greater a b = orders-fits Greater a b
two_given-fits GreaterEqual a b = orders-fits GreaterEqual a b
two_given-fits Join a b = join-fits a b
two_given-fits Member a b = member-fits a b
two_given-fits Index a b = index-fits a b
two_given-fits Not a b = tt
two_given-fits Size a b = tt
two_given-fits First a b = tt
two_given-fits Next a b = tt
two_given-fits Msec a b = tt
two_given-fits Sec a b = tt
two_given-fits Min a b = tt
two_given-fits Hour a b = tt

given-fits : (func : Func) (ts : List Term) → Fitting (signature_of func) ts (given func ts)
given-fits func [] = tt
given-fits func (a ∷ []) = one_given-fits func a
given-fits func (a ∷ b ∷ []) = two_given-fits func a b
given-fits func (a ∷ b ∷ c ∷ ts) = tt

-- the value that is within the limits

if-fits : (P : Term → Type 0) (b : Bool) (t : Term) → P t → IfSome (if b then Some t else None) P
if-fits P true t h = h
if-fits P false t h = tt

limited-fits : (P : Term → Type 0) (found : Option Term) → IfSome found P → IfSome (option_and_then limited found) P
limited-fits P None h = tt
limited-fits P (Some t) h = if-fits P (is_within_limits t) t h

applied-fits : (func : Func) (ts : List Term) → Fitting (signature_of func) ts (apply_of func ts)
applied-fits func ts = limited-fits (λ v. AreFit (signature_of func) ts × IsTrue (fits (signature_of func).result v)) (given func ts) (given-fits func ts)

first-of : (P Q : Term → Type 0) (found : Option Term) → IfSome found (λ v. P v × Q v) → IfSome found P
first-of P Q None h = tt
first-of P Q (Some v) h = h.0

second-of : (P Q : Term → Type 0) (found : Option Term) → IfSome found (λ v. P v × Q v) → IfSome found Q
second-of P Q None h = tt
second-of P Q (Some v) h = h.1

pub arguments-fit : (func : Func) (ts : List Term) → IfSome (apply_of func ts) (λ v. AreFit (signature_of func) ts)
arguments-fit func ts = first-of (λ v. AreFit (signature_of func) ts) (λ v. IsTrue (fits (signature_of func).result v)) (apply_of func ts) (applied-fits func ts)

pub value-fits : (func : Func) (ts : List Term) → IfSome (apply_of func ts) (λ v. IsTrue (fits (signature_of func).result v))
value-fits func ts = second-of (λ v. AreFit (signature_of func) ts) (λ v. IsTrue (fits (signature_of func).result v)) (apply_of func ts) (applied-fits func ts)
