-- No arguments have the error `NotBuilt`: every command and each of its options is built.
use Rattle.std.proofs.Common.{◌≡◌, ◌≢◌, ◌+◌, ◌*◌, ◌&&◌, ℕ, Bool, true, false, if◌then◌else◌, nat_le, List, [], ◌∷◌, ◌++◌, length, get_or, slice_get, Option, Some, None, Result, Ok, Err, IfErr, ap, ◌∙◌}
use Rattle.std.specs.Bool.{⊤}
use Rattle.tb_terms.specs.Names.{is_text}
use Rattle.tb_read.specs.Spelling.{is_digits, digits_value}
use Rattle.tb_cli.specs.declared.command.Command.{Command}
use Rattle.tb_cli.specs.declared.pair_command.PairCommand.{PairCommand}
use Rattle.tb_cli.specs.declared.fault.WordFault.{WordFault}
use Rattle.tb_cli.specs.declared.fault.WordFault.TheVariants as fault
use Rattle.tb_cli.specs.declared.table.Kind.{Kind}
use Rattle.tb_cli.specs.declared.table.Kind.TheVariants.{File, Number, Factor}
use Rattle.tb_cli.specs.declared.table.Kind.TheVariants as kind
use Rattle.tb_cli.specs.Parts.{Part, AnOption, AWord, parts_of, name_of, len_of, given, operands_of}
use Rattle.tb_cli.specs.Table.{Setting, Form, Row, option_named, row_named, pair}
use Rattle.tb_cli.specs.Words.{Answer, value_answer, most_times, once_more, setting_kind, operand_kind, checked_value, part_answer, and_then, parts_answer, whole_answer, form_answer, made, made_pair, asked_by, asked}

-- the answer isn't that error, at any place
abbrev IsBuilt : (A : Type 0) → Result A WordFault → Type 0
IsBuilt A answer = (place : ℕ) → answer ≢ Err (fault.NotBuilt place)

-- a value

text-built : (b : Bool) (position : ℕ) → IsBuilt ⊤ (if b then Ok tt else Err (fault.Unknown position))
text-built true position place e = absurd cc
text-built false position place e = absurd cc

number-built : (digits b : Bool) (position : ℕ) → IsBuilt ⊤ (if digits then (if b then Ok tt else Err (fault.Range position)) else Err (fault.Number position))
number-built true true position place e = absurd cc
number-built true false position place e = absurd cc
number-built false b position place e = absurd cc

value-built : (kind : Kind) (first : List ℕ) (position : ℕ) (word : List ℕ) → IsBuilt ⊤ (value_answer kind first position word)
value-built File first position word = text-built (is_text word) position
value-built kind.Command first position word = text-built (is_text word) position
value-built (Number least most) first position word =
    number-built (is_digits word) (nat_le least (digits_value word) && nat_le (digits_value word) most) position
value-built (Factor most) first position word =
    number-built (is_digits word) (nat_le 1 (digits_value word) && nat_le (digits_value first * digits_value word) most) position

-- the kind of a value

operand-built : (found : Option Kind) (position : ℕ) → IsBuilt Kind (operand_kind found position)
operand-built None position place e = absurd cc
operand-built (Some kind) position place e = absurd cc

once-built : (kind : Kind) (position place : ℕ) → once_more kind position ≢ fault.NotBuilt place
once-built kind.Command position place e = absurd cc
once-built File position place e = absurd cc
once-built (Number least most) position place e = absurd cc
once-built (Factor most) position place e = absurd cc

setting-built : (found : Option Setting) (times position : ℕ) → IsBuilt Kind (setting_kind found times position)
setting-built None times position place e = absurd cc
setting-built (Some option) times position place e = by (nat_le (most_times option.kind) times) place e where
  by : (b : Bool) → IsBuilt Kind (if b then Err (once_more option.kind position) else Ok option.kind)
  by true place e = let same : once_more option.kind position ≡ fault.NotBuilt place = cc in once-built option.kind position place same
  by false place e = absurd cc

-- parts

checked-built : (kind : Result Kind WordFault) (first : List ℕ) (position : ℕ) (value : Option (List ℕ)) → IsBuilt Kind kind → IsBuilt ⊤ (checked_value kind first position value)
checked-built (Err f) first position value built place e = let same : f ≡ fault.NotBuilt place = cc in built place (ap Err same)
checked-built (Ok kind) first position None built place e = absurd cc
checked-built (Ok kind) first position (Some value) built place e = value-built kind first position value place e

part-built : (form : Form) (before : List (List ℕ)) (position : ℕ) (part : Part) → IsBuilt ⊤ (part_answer form before position part)
part-built form before position (AWord word) =
    let found = slice_get form.operands (length before) in
    checked-built (operand_kind found position) (get_or before 0 []) position (Some word) (operand-built found position)
part-built form before position (AnOption name value) =
    let found = option_named form.options name in
    checked-built (setting_kind found (length before) position) (get_or before 0 []) (position + 1) value (setting-built found (length before) position)

both-built : (first next : Answer) → IsBuilt ⊤ first → IsBuilt ⊤ next → IsBuilt ⊤ (and_then first next)
both-built (Ok tt) next first_built next_built = next_built
both-built (Err f) next first_built next_built = first_built

parts-built : (form : Form) (before : List Part) (position : ℕ) (parts : List Part) → IsBuilt ⊤ (parts_answer form before position parts)
parts-built form before position [] place e = absurd cc
parts-built form before position (part ∷ parts) place e =
    let first = part-built form (given (name_of part) before) position part in
    let rest = parts-built form (before ++ part ∷ []) (position + len_of part) parts in
    both-built (part_answer form (given (name_of part) before) position part) (parts_answer form (before ++ part ∷ []) (position + len_of part) parts) first rest place e

-- commands

whole-built : (form : Form) (parts : List Part) → IsBuilt ⊤ (whole_answer form parts)
whole-built form parts = by (nat_le (length form.operands) (length (operands_of parts))) where
  by : (b : Bool) → IsBuilt ⊤ (if b then Ok tt else Err fault.Missing)
  by true place e = absurd cc
  by false place e = absurd cc

form-built : (form : Form) (first : ℕ) (parts : List Part) → IsBuilt ⊤ (form_answer form first parts)
form-built form first parts = both-built (parts_answer form [] first parts) (whole_answer form parts) (parts-built form [] first parts) (whole-built form parts)

made-built : (row : Row) (parts : List Part) (answer : Answer) → IsBuilt ⊤ answer → IsBuilt Command (made row parts answer)
made-built row parts (Ok fine) built place e = absurd cc
made-built row parts (Err f) built place e = let same : f ≡ fault.NotBuilt place = cc in built place (ap Err same)

asked_by-built : (row : Option Row) (words : List (List ℕ)) → IsBuilt Command (asked_by row words)
asked_by-built None words place e = absurd cc
asked_by-built (Some row) words place e = made-built row (parts_of words) (form_answer row.form 2 (parts_of words)) (form-built row.form 2 (parts_of words)) place e

-- what all arguments request
pub never_unbuilt : (words : List (List ℕ)) (place : ℕ) → asked words ≡ Err (fault.NotBuilt place) → ⊥
never_unbuilt [] place e = absurd cc
never_unbuilt (word ∷ words) place e = asked_by-built (row_named word) words place e

-- The answer of the reader isn't that error either: if memory doesn't run out, its error is the error of the arguments.
pub read-built : (words : List (List ℕ)) (result : Result Command WordFault) → IfErr result (λ f. f ≢ fault.NoMemory → asked words ≡ Err f) → IsBuilt Command result
read-built words (Ok command) told place e = absurd cc
read-built words (Err f) told place e =
    let same : f ≡ fault.NotBuilt place = cc in
    let other : f ≢ fault.NoMemory = λ none. absurd cc in
    never_unbuilt words place (told other ∙ ap Err same)

-- the arguments of a pair

made_pair-built : (parts : List Part) (answer : Answer) → IsBuilt ⊤ answer → IsBuilt PairCommand (made_pair parts answer)
made_pair-built parts (Ok fine) built place e = absurd cc
made_pair-built parts (Err f) built place e = let same : f ≡ fault.NotBuilt place = cc in built place (ap Err same)

pub pair-read-built : (parts : List Part) (result : Result PairCommand WordFault) → IfErr result (λ f. f ≢ fault.NoMemory → made_pair parts (form_answer pair 1 parts) ≡ Err f) → IsBuilt PairCommand result
pair-read-built parts (Ok command) told place e = absurd cc
pair-read-built parts (Err f) told place e =
    let same : f ≡ fault.NotBuilt place = cc in
    let other : f ≢ fault.NoMemory = λ none. absurd cc in
    made_pair-built parts (form_answer pair 1 parts) (form-built pair 1 parts) place (told other ∙ ap Err same)
