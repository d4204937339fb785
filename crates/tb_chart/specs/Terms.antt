-- Whom the first term of a step names: the process that the step creates, or a tool.
use Rattle.std.specs.Prelude.{ℕ, ℤ, pos, negsuc, ◌==◌, Bool, false, List, [], ◌∷◌, slice_get, Option, Some, None}
use Rattle.std.specs.Str.{bytes_eq}
use Rattle.tb_terms.specs.declared.term.Term.{Term, out-Term}
use Rattle.tb_terms.specs.declared.term.Term.TheOpen.{Term-F, Int, Str, Appl, List as ListOf}
use Rattle.tb_log.specs.declared.entry.Entry.{Entry}
use Rattle.tb_log.specs.declared.entry.Entry.TheVariants.{Did, Quiet, Fed, Gave}

-- an integer is this number
abbrev pub is_natural : ℕ → ℤ → Bool
is_natural number (pos n) = n == number
is_natural number (negsuc n) = false

abbrev pub is_number_in : ℕ → Term-F Term → Bool
is_number_in number (Int n) = is_natural number n
is_number_in number (Str bytes) = false
is_number_in number (Appl name parts) = false
is_number_in number (ListOf parts) = false

-- a term is this number
abbrev pub is_number : ℕ → Term → Bool
is_number number term = is_number_in number (out-Term term)

-- the first of these terms is this number
abbrev pub is_first : ℕ → List Term → Bool
is_first number [] = false
is_first number (term ∷ terms) = is_number number term

-- an entry is a step whose first term is this number
abbrev pub creates : Entry → ℕ → Bool
creates (Did label) number = is_first number label.terms
creates Quiet number = false
creates (Fed input reply) number = false
creates (Gave lane out) number = false

-- the tool with this position among the declarations has this name
abbrev pub is_text : List ℕ → Option (List ℕ) → Bool
is_text name None = false
is_text name (Some found) = bytes_eq found name

abbrev pub is_declared : List (List ℕ) → Option ℕ → List ℕ → Bool
is_declared tools None name = false
is_declared tools (Some kind) name = is_text name (slice_get tools kind)

abbrev pub names_in : List (List ℕ) → Option ℕ → Term-F Term → Bool
names_in tools kind (Int n) = false
names_in tools kind (Str bytes) = false
names_in tools kind (Appl name parts) = is_declared tools kind name
names_in tools kind (ListOf parts) = false

-- a term has the name of this tool
abbrev pub names_tool : List (List ℕ) → Option ℕ → Term → Bool
names_tool tools kind term = names_in tools kind (out-Term term)

abbrev pub first_names : List (List ℕ) → Option ℕ → List Term → Bool
first_names tools kind [] = false
first_names tools kind (term ∷ terms) = names_tool tools kind term

-- an entry is a step whose first term has the name of this tool
abbrev pub speaks_of : List (List ℕ) → Entry → Option ℕ → Bool
speaks_of tools (Did label) kind = first_names tools kind label.terms
speaks_of tools Quiet kind = false
speaks_of tools (Fed input reply) kind = false
speaks_of tools (Gave lane out) kind = false
