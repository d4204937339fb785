-- Which terms have a type, and the initial value of a variable of a type.
use Rattle.std.specs.Prelude.{ℕ, pos, Bool, true, false, ◌||◌, ◌&&◌, List, [], ◌∷◌, codes}
use Rattle.std.specs.List.{list_all}
use Rattle.std.specs.Str.{bytes_eq}
use Rattle.tb_terms.specs.declared.term.Term.{Term, out-Term}
use Rattle.tb_terms.specs.declared.term.Term.TheOpen.{Term-F, Int, Str, Appl, List as ListOf}
use Rattle.tb_terms.specs.declared.term.Term.TheVariants as term
use Rattle.tb_terms.specs.declared.sort.Sort.{Sort, out-Sort}
use Rattle.tb_terms.specs.declared.sort.Sort.TheOpen as sort
use Rattle.tb_terms.specs.declared.sort.Sort.TheFolds.{fold-Sort}

-- this name, without arguments
abbrev pub is_word : List ℕ → Term-F Term → Bool
is_word word (Int number) = false
is_word word (Str bytes) = false
is_word word (Appl name []) = bytes_eq name word
is_word word (Appl name (part ∷ parts)) = false
is_word word (ListOf parts) = false

abbrev pub is_int : Term-F Term → Bool
is_int (Int number) = true
is_int (Str bytes) = false
is_int (Appl name parts) = false
is_int (ListOf parts) = false

abbrev pub is_str : Term-F Term → Bool
is_str (Int number) = false
is_str (Str bytes) = true
is_str (Appl name parts) = false
is_str (ListOf parts) = false

abbrev pub is_list_of : (Term → Bool) → Term-F Term → Bool
is_list_of is_member (Int number) = false
is_list_of is_member (Str bytes) = false
is_list_of is_member (Appl name parts) = false
is_list_of is_member (ListOf parts) = list_all is_member parts

-- the arguments are one number
abbrev pub is_one_int : List Term → Bool
is_one_int [] = false
is_one_int (part ∷ []) = is_int (out-Term part)
is_one_int (part ∷ other ∷ parts) = false

-- a term of this tool: its name with one number
abbrev pub is_tool : List ℕ → Term-F Term → Bool
is_tool tool (Int number) = false
is_tool tool (Str bytes) = false
is_tool tool (Appl name parts) = bytes_eq name tool && is_one_int parts
is_tool tool (ListOf parts) = false

-- the terms of one type, given the test for the type of the members
abbrev pub sort_step : sort.Sort-F (Term → Bool) → Term → Bool
sort_step sort.Bool term = is_word (codes "true") (out-Term term) || is_word (codes "false") (out-Term term)
sort_step sort.Int term = is_int (out-Term term)
sort_step sort.Str term = is_str (out-Term term)
sort_step (sort.List is_member) term = is_list_of is_member (out-Term term)
sort_step sort.Any term = true
sort_step (sort.Tool name) term = is_tool name (out-Term term)

abbrev pub term_test : Sort → Term → Bool
term_test = fold-Sort (Term → Bool) sort_step

-- the term has this type
abbrev pub has_sort : Term → Sort → Bool
has_sort term sort = term_test sort term

abbrev pub initial_of : sort.Sort-F Sort → Term
initial_of sort.Bool = term.Appl (codes "false") []
initial_of sort.Int = term.Int (pos 0)
initial_of sort.Str = term.Str []
initial_of (sort.List members) = term.List []
initial_of sort.Any = term.Appl (codes "none") []
initial_of (sort.Tool name) = term.Appl name (term.Int (pos 0) ∷ [])

abbrev pub initial_value : Sort → Term
initial_value sort = initial_of (out-Sort sort)
