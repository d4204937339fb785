-- The table of commands. Each command has a row, which says how its arguments are read, and one way to make the command of their values.
-- The arguments of a pair have a form of their own, without a command.
use Rattle.std.specs.Prelude.{ℕ, List, [], ◌∷◌, Option, Some, None, find, get_or, slice_get, codes, bytes_eq, length, ◌≤◌, ◌*◌, ⊤}
use Rattle.tb_read.specs.Spelling.{digits_value}
use Rattle.tb_cli.specs.declared.command.Command.{Command}
use Rattle.tb_cli.specs.declared.command.Command.TheVariants as command
use Rattle.tb_cli.specs.declared.pair_command.PairCommand.{PairCommand}
use Rattle.tb_cli.specs.declared.table.Verb.{Verb}
use Rattle.tb_cli.specs.declared.table.Verb.TheVariants as verb
use Rattle.tb_cli.specs.declared.table.Kind.{Kind}
use Rattle.tb_cli.specs.declared.table.Kind.TheVariants.{File, Number, Factor}
use Rattle.tb_cli.specs.declared.table.Kind.TheVariants as kind
use Rattle.tb_cli.specs.Parts.{Part, given, operands_of}

-- an option: its name, the kind of its value, and the default if the value is a number
pub record Setting : Type 0 where
  pub name : List ℕ
  pub kind : Kind
  pub usual : ℕ

-- how arguments are read: the kinds of their operands, and their options
pub record Form : Type 0 where
  pub operands : List Kind
  pub options : List Setting

-- a command: its first argument, and how the arguments after it are read
pub record Row : Type 0 where
  pub verb : Verb
  pub word : List ℕ
  pub form : Form

-- the options

abbrev pub feed : Setting
feed = record { name = codes "--feed"; kind = File; usual = 0 }

abbrev pub connect : Setting
connect = record { name = codes "--connect"; kind = kind.Command; usual = 0 }

abbrev pub steps : Setting
steps = record { name = codes "--steps"; kind = Number 1 4000000; usual = 1000000 }

abbrev pub ticks : Setting
ticks = record { name = codes "--ticks"; kind = Number 0 10000000; usual = 36000 }

abbrev pub events : Setting
events = record { name = codes "--events"; kind = Number 1 4000000; usual = 1000000 }

-- the commands

abbrev pub check : Row
check = record { verb = verb.Check; word = codes "check"; form = record { operands = File ∷ []; options = [] } }

abbrev pub sim : Row
sim = record { verb = verb.Sim; word = codes "sim"; form = record { operands = File ∷ []; options = feed ∷ connect ∷ steps ∷ events ∷ [] } }

abbrev pub run : Row
run = record { verb = verb.Run; word = codes "run"; form = record { operands = File ∷ []; options = connect ∷ ticks ∷ events ∷ [] } }

abbrev pub verify : Row
verify = record { verb = verb.Verify; word = codes "verify"; form = record { operands = File ∷ File ∷ []; options = connect ∷ [] } }

-- the name of a tool is read like the name of a file
abbrev pub iface : Row
iface = record { verb = verb.Iface; word = codes "iface"; form = record { operands = File ∷ File ∷ []; options = [] } }

abbrev pub ring : Row
ring = record { verb = verb.Ring; word = codes "ring"; form = record { operands = Number 2 10000 ∷ Factor 1000000 ∷ []; options = [] } }

-- the arguments of a pair: two scripts, and the limits of `run`
abbrev pub pair : Form
pair = record { operands = File ∷ File ∷ []; options = ticks ∷ events ∷ [] }

abbrev pub table : List Row
table = check ∷ sim ∷ run ∷ verify ∷ iface ∷ ring ∷ []

-- the row of the command with this first argument
abbrev pub row_named : List ℕ → Option Row
row_named word = find (λ (row : Row). bytes_eq row.word word) table

-- the first of these options with this name
abbrev pub option_named : List Setting → List ℕ → Option Setting
option_named options name = find (λ (option : Setting). bytes_eq option.name name) options

-- the values of parts

-- the operand at this place, from 0
abbrev pub operand : ℕ → List Part → List ℕ
operand place parts = get_or (operands_of parts) place []

-- the file that an option gives, if it is given
abbrev pub file_of : Setting → List Part → Option (List ℕ)
file_of option parts = slice_get (given (Some option.name) parts) 0

-- the commands that an option gives, in order
abbrev pub commands_of : Setting → List Part → List (List ℕ)
commands_of option parts = given (Some option.name) parts

-- the number that these digits write, or the default if there are none
abbrev pub number_or : ℕ → Option (List ℕ) → ℕ
number_or usual None = usual
number_or usual (Some digits) = digits_value digits

-- the number that an option gives, or its default
abbrev pub number_of : Setting → List Part → ℕ
number_of option parts = number_or option.usual (slice_get (given (Some option.name) parts) 0)

-- the command that the values of these parts give
abbrev pub make : Verb → List Part → Command
make verb.Check parts = command.Check (operand 0 parts)
make verb.Sim parts = command.Sim (operand 0 parts) (file_of feed parts) (commands_of connect parts) (number_of steps parts) (number_of events parts)
make verb.Run parts = command.Run (operand 0 parts) (commands_of connect parts) (number_of ticks parts) (number_of events parts)
make verb.Verify parts = command.Verify (operand 0 parts) (operand 1 parts) (commands_of connect parts)
make verb.Iface parts = command.Iface (operand 0 parts) (operand 1 parts)
make verb.Ring parts = command.Ring (digits_value (operand 0 parts)) (digits_value (operand 1 parts))

-- the pair that the values of these parts give
abbrev pub make_pair : List Part → PairCommand
make_pair parts = record { first = operand 0 parts; second = operand 1 parts; ticks = number_of ticks parts; events = number_of events parts }

-- the greatest number of commands to connect: one on each lane
abbrev pub most_connects : ℕ
most_connects = 16

-- The numbers of a requested command are in their ranges, and there are no more commands to connect than lanes.
abbrev pub IsWithin : Command → Type 0
IsWithin (command.Check script) = ⊤
IsWithin (command.Sim script file commands step_limit event_limit) = (length commands ≤ most_connects) × ((1 ≤ step_limit) × (step_limit ≤ 4000000)) × ((1 ≤ event_limit) × (event_limit ≤ 4000000))
IsWithin (command.Run script commands tick_limit event_limit) = (length commands ≤ most_connects) × (tick_limit ≤ 10000000) × ((1 ≤ event_limit) × (event_limit ≤ 4000000))
IsWithin (command.Verify script log commands) = length commands ≤ most_connects
IsWithin (command.Iface script tool) = ⊤
IsWithin (command.Ring n k) = ((2 ≤ n) × (n ≤ 10000)) × (1 ≤ k) × (n * k ≤ 1000000)

-- The numbers of a requested pair are in their ranges.
abbrev pub IsPairWithin : PairCommand → Type 0
IsPairWithin asked = (asked.ticks ≤ 10000000) × ((1 ≤ asked.events) × (asked.events ≤ 4000000))
