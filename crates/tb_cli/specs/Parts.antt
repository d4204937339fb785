-- How arguments are split into parts (of a command, the arguments after the first), and the values of the parts.
use Rattle.std.specs.Prelude.{ℕ, Bool, if◌then◌else◌, List, [], ◌∷◌, Option, Some, None, option_to_list, codes, bytes_eq, nat_eq}
use Rattle.std.specs.List.{starts_with, flat_map}

pub data Part : Type 0 where
  -- an option by its name, with its value, the next argument, if there is one
  AnOption : List ℕ → Option (List ℕ) → Part
  -- any other argument: an operand
  AWord : List ℕ → Part

-- an argument that begins with `--`
abbrev pub is_option : List ℕ → Bool
is_option word = starts_with nat_eq word (codes "--")

-- An option's value is the next argument, whatever it is.
abbrev pub parts_of : List (List ℕ) → List Part
parts_of [] = []
parts_of (word ∷ []) =
    if is_option word then AnOption word None ∷ []
    else AWord word ∷ []
parts_of (word ∷ next ∷ words) =
    if is_option word then AnOption word (Some next) ∷ parts_of words
    else AWord word ∷ parts_of (next ∷ words)

-- the name under which a part gives its value: an operand has none
abbrev pub name_of : Part → Option (List ℕ)
name_of (AnOption name value) = Some name
name_of (AWord word) = None

-- the number of a part's arguments, if its value isn't missing
abbrev pub len_of : Part → ℕ
len_of (AnOption name value) = 2
len_of (AWord word) = 1

-- the value that a part gives under this name: a list of at most one
abbrev pub given_by : Option (List ℕ) → Part → List (List ℕ)
given_by None (AWord word) = word ∷ []
given_by None (AnOption name value) = []
given_by (Some name) (AWord word) = []
given_by (Some name) (AnOption other value) = if bytes_eq other name then option_to_list value else []

-- the values that parts give under this name, in order
abbrev pub given : Option (List ℕ) → List Part → List (List ℕ)
given name parts = flat_map (given_by name) parts

-- the operands, in order
abbrev pub operands_of : List Part → List (List ℕ)
operands_of parts = given None parts
