-- The command that the arguments of the command line request, or their error. The arguments of a pair, which have no command, request a
-- pair. Arguments are read from the left, and the first error ends the reading. Positions count from 1.
use Rattle.std.specs.Prelude.{ℕ, ◌+◌, ◌*◌, Bool, ◌&&◌, if◌then◌else◌, List, [], ◌∷◌, ◌++◌, length, get_or, slice_get, Option, Some, None, Result, Ok, Err, ⊤, nat_le}
use Rattle.tb_terms.specs.Names.{is_text}
use Rattle.tb_read.specs.Spelling.{is_digits, digits_value}
use Rattle.tb_cli.specs.declared.command.Command.{Command}
use Rattle.tb_cli.specs.declared.pair_command.PairCommand.{PairCommand}
use Rattle.tb_cli.specs.declared.fault.WordFault.{WordFault}
use Rattle.tb_cli.specs.declared.fault.WordFault.TheVariants as fault
use Rattle.tb_cli.specs.declared.table.Kind.{Kind}
use Rattle.tb_cli.specs.declared.table.Kind.TheVariants.{File, Number, Factor}
use Rattle.tb_cli.specs.declared.table.Kind.TheVariants as kind
use Rattle.tb_cli.specs.Parts.{Part, AnOption, AWord, parts_of, name_of, len_of, given, operands_of}
use Rattle.tb_cli.specs.Table.{Setting, Form, Row, most_connects, option_named, row_named, make, make_pair, pair}

-- `Ok` if arguments have no error, or else the error
abbrev pub Answer : Type 0
Answer = Result ⊤ WordFault

-- the value of an operand or an option

-- A file's name and a command are strings: each byte is one that a string may have. Arguments are well-formed already.
abbrev pub text_answer : ℕ → List ℕ → Answer
text_answer position word = if is_text word then Ok tt else Err (fault.Unknown position)

-- A number is one or more decimal digits and nothing else, and it has a range.
abbrev pub number_answer : Bool → ℕ → List ℕ → Answer
number_answer in_range position word =
    if is_digits word then (if in_range then Ok tt else Err (fault.Range position))
    else Err (fault.Number position)

-- the answer for a value at this position. `first` is the first value given earlier under the same name: a factor is multiplied by it
abbrev pub value_answer : Kind → List ℕ → ℕ → List ℕ → Answer
value_answer File first position word = text_answer position word
value_answer kind.Command first position word = text_answer position word
value_answer (Number least most) first position word =
    number_answer (nat_le least (digits_value word) && nat_le (digits_value word) most) position word
value_answer (Factor most) first position word =
    number_answer (nat_le 1 (digits_value word) && nat_le (digits_value first * digits_value word) most) position word

-- the kind of the value of an option or an operand

-- how many times an option with such a value can be given
abbrev pub most_times : Kind → ℕ
most_times kind.Command = most_connects
most_times File = 1
most_times (Number least most) = 1
most_times (Factor most) = 1

-- the error of an option at this position that was already given as often as it can be
abbrev pub once_more : Kind → ℕ → WordFault
once_more kind.Command position = fault.Range position
once_more File position = fault.Extra position
once_more (Number least most) position = fault.Extra position
once_more (Factor most) position = fault.Extra position

-- the kind of value of an option at this position, which was given `times` times before, or the error of the option
abbrev pub setting_kind : Option Setting → ℕ → ℕ → Result Kind WordFault
setting_kind None times position = Err (fault.Unknown position)
setting_kind (Some option) times position =
    if nat_le (most_times option.kind) times then Err (once_more option.kind position) else Ok option.kind

-- the kind of an operand at this position, or an error if the form has no operand there
abbrev pub operand_kind : Option Kind → ℕ → Result Kind WordFault
operand_kind None position = Err (fault.Extra position)
operand_kind (Some kind) position = Ok kind

-- parts

-- the answer for a value of this kind, or the error of its option or operand. A missing value is reported if the option has no other error
abbrev pub checked_value : Result Kind WordFault → List ℕ → ℕ → Option (List ℕ) → Answer
checked_value (Err f) first position value = Err f
checked_value (Ok kind) first position None = Err fault.Missing
checked_value (Ok kind) first position (Some value) = value_answer kind first position value

-- the answer for the part at this position. `before` has the values that were given earlier under the name of the part
abbrev pub part_answer : Form → List (List ℕ) → ℕ → Part → Answer
part_answer form before position (AWord word) =
    checked_value (operand_kind (slice_get form.operands (length before)) position) (get_or before 0 []) position (Some word)
part_answer form before position (AnOption name value) =
    checked_value (setting_kind (option_named form.options name) (length before) position) (get_or before 0 []) (position + 1) value

-- the error of the first answer, or else the next answer
abbrev pub and_then : Answer → Answer → Answer
and_then (Ok fine) next = next
and_then (Err f) next = Err f

-- the first error of these parts, which begin at this position. `before` has the earlier parts
abbrev pub parts_answer : Form → List Part → ℕ → List Part → Answer
parts_answer form before position [] = Ok tt
parts_answer form before position (part ∷ parts) =
    and_then (part_answer form (given (name_of part) before) position part) (parts_answer form (before ++ part ∷ []) (position + len_of part) parts)

-- the answer at the end of the arguments: an error if an operand is missing
abbrev pub whole_answer : Form → List Part → Answer
whole_answer form parts =
    if nat_le (length form.operands) (length (operands_of parts)) then Ok tt
    else Err fault.Missing

-- the first error of all parts, which begin at position `first`, or else the answer at their end
abbrev pub form_answer : Form → ℕ → List Part → Answer
form_answer form first parts = and_then (parts_answer form [] first parts) (whole_answer form parts)

-- a command: its parts begin after the first argument

-- the command of this row that the parts give, or the error in this answer
abbrev pub made : Row → List Part → Answer → Result Command WordFault
made row parts (Ok fine) = Ok (make row.verb parts)
made row parts (Err f) = Err f

-- the command of this row that the arguments after the first request, or their error
abbrev pub asked_by : Option Row → List (List ℕ) → Result Command WordFault
asked_by None words = Err (fault.Unknown 1)
asked_by (Some row) words = made row (parts_of words) (form_answer row.form 2 (parts_of words))

-- the command that all arguments request, or their error
abbrev pub asked : List (List ℕ) → Result Command WordFault
asked [] = Err fault.NoCommand
asked (word ∷ words) = asked_by (row_named word) words

-- a pair: its parts begin with the first argument

-- the pair that the parts give, or the error in this answer
abbrev pub made_pair : List Part → Answer → Result PairCommand WordFault
made_pair parts (Ok fine) = Ok (make_pair parts)
made_pair parts (Err f) = Err f

-- the pair that all arguments of a pair request, or their error
abbrev pub asked_pair : List (List ℕ) → Result PairCommand WordFault
asked_pair [] = Err fault.NoCommand
asked_pair (word ∷ words) = made_pair (parts_of (word ∷ words)) (form_answer pair 1 (parts_of (word ∷ words)))
