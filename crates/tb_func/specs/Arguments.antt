-- The arguments of a function, read by their shapes: none if an argument has another shape.
use Rattle.std.specs.Prelude.{ℤ, Bool, true, false, List, [], Option, Some, None, option_and_then, if◌then◌else◌, codes}
use Rattle.tb_terms.specs.declared.term.Term.{Term, out-Term}
use Rattle.tb_terms.specs.declared.term.Term.TheOpen.{Term-F, Int, Str, Appl, List as ListOf}
use Rattle.tb_terms.specs.declared.term.Term.TheVariants as term
use Rattle.tb_terms.specs.Sorts.{is_word}

abbrev pub bool_in : Term-F Term → Option Bool
bool_in layer = if is_word (codes "true") layer then Some true else (if is_word (codes "false") layer then Some false else None)

abbrev pub bool_of : Term → Option Bool
bool_of term = bool_in (out-Term term)

abbrev pub int_in : Term-F Term → Option ℤ
int_in (Int number) = Some number
int_in (Str bytes) = None
int_in (Appl name parts) = None
int_in (ListOf parts) = None

abbrev pub int_of : Term → Option ℤ
int_of term = int_in (out-Term term)

abbrev pub list_in : Term-F Term → Option (List Term)
list_in (Int number) = None
list_in (Str bytes) = None
list_in (Appl name parts) = None
list_in (ListOf parts) = Some parts

abbrev pub list_of : Term → Option (List Term)
list_of term = list_in (out-Term term)

-- the term that represents a truth value
abbrev pub bool_term : Bool → Term
bool_term b = term.Appl (if b then codes "true" else codes "false") []

-- the value of a function of two arguments, or none if one of the arguments is missing
abbrev pub of_both : {A B C : Type 0} → (A → B → Option C) → Option A → Option B → Option C
of_both f a b = option_and_then (λ x. option_and_then (f x) b) a
