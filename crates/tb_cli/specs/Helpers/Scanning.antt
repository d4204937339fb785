-- How the reader scans arguments.
use Rattle.std.specs.Prelude.{ℕ, Bool, false, ◌==◌, if◌then◌else◌, List, Option, None, Some}
use Rattle.tb_cli.specs.Parts.{Part, AnOption, AWord, is_option}

-- the part that begins with this argument. `next` is the argument after it, if there is one
abbrev pub part_of : List ℕ → Option (List ℕ) → Part
part_of word next = if is_option word then AnOption word next else AWord word

-- the number of arguments of the part that begins with this argument
abbrev pub part_len : List ℕ → ℕ
part_len word = if is_option word then 2 else 1

-- whether there is a value and it is the sought one: `left` is the number of values to skip
abbrev pub is_found : Option (List ℕ) → ℕ → Bool
is_found None left = false
is_found (Some value) left = left == 0
