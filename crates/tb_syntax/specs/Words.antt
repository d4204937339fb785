-- The reserved words, and the words of types.
use Rattle.std.specs.Prelude.{ℕ, Bool, not, List, [], ◌∷◌, codes}
use Rattle.std.specs.List.{list_any}
use Rattle.std.specs.Str.{bytes_eq}

-- whether a name is one of these words
abbrev pub is_among : List (List ℕ) → List ℕ → Bool
is_among words name = list_any (bytes_eq name) words

-- the words that no term, tool, or type can have as its name
abbrev pub reserved_words : List (List ℕ)
reserved_words =
    codes "process" ∷ codes "is" ∷ codes "tool" ∷ codes "toolbus" ∷ codes "let" ∷ codes "in" ∷ codes "endlet"
    ∷ codes "if" ∷ codes "then" ∷ codes "else" ∷ codes "fi" ∷ []

-- the name of a term, a tool, or a type: any name that isn't reserved
abbrev pub is_free : List ℕ → Bool
is_free name = not (is_among reserved_words name)

-- the names of the types that don't belong to a tool
abbrev pub sort_words : List (List ℕ)
sort_words = codes "bool" ∷ codes "int" ∷ codes "str" ∷ codes "list" ∷ codes "term" ∷ []

abbrev pub is_sort_word : List ℕ → Bool
is_sort_word = is_among sort_words
