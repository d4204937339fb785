-- Which tools there are as a log goes on: each has a name, and the numbers go from 1 on in the order in which the tools came.
use Rattle.std.specs.Prelude.{ℕ, ℤ, pos, negsuc, Bool, false, List, [], ◌∷◌, ◌++◌, Option, Some, None, is_some, option_and_then}
use Rattle.std.specs.List.{fold}
use Rattle.tb_terms.specs.declared.term.Term.{Term, out-Term}
use Rattle.tb_terms.specs.declared.term.Term.TheOpen.{Term-F, Int, Str, Appl, List as ListOf}
use Rattle.tb_log.specs.declared.entry.LabelKind.{LabelKind}
use Rattle.tb_log.specs.declared.entry.LabelKind.TheVariants as kind
use Rattle.tb_log.specs.declared.entry.Input.{Input}
use Rattle.tb_log.specs.declared.entry.Input.TheVariants as input
use Rattle.tb_log.specs.declared.entry.ToolLine.{ToolLine}
use Rattle.tb_log.specs.declared.entry.ToolLine.TheVariants as line
use Rattle.tb_log.specs.declared.entry.Reply.TheVariants.{Took, Dropped}
use Rattle.tb_log.specs.declared.entry.Entry.{Entry}
use Rattle.tb_log.specs.declared.entry.Entry.TheVariants.{Did, Quiet, Fed, Gave}
use Rattle.tb_chart.specs.Numbers.{numbered}
use Rattle.tb_chart.specs.Terms.{is_text}

-- the number that an integer is
abbrev pub natural_of : ℤ → Option ℕ
natural_of (pos n) = Some n
natural_of (negsuc n) = None

-- the number that a term is
abbrev pub number_in : Term-F Term → Option ℕ
number_in (Int n) = natural_of n
number_in (Str bytes) = None
number_in (Appl name parts) = None
number_in (ListOf parts) = None

-- the number that the first of these terms is
abbrev pub first_number : List Term → Option ℕ
first_number [] = None
first_number (term ∷ terms) = number_in (out-Term term)

-- `tools` are the names of the tools, by their numbers. A term is that of one of them: `name(number, ..)`, with its name and number.
abbrev pub is_tool_term : List (List ℕ) → Term-F Term → Bool
is_tool_term tools (Int n) = false
is_tool_term tools (Str bytes) = false
is_tool_term tools (Appl name parts) = is_text name (option_and_then (λ number. numbered tools number) (first_number parts))
is_tool_term tools (ListOf parts) = false

-- the first of these terms is that of a tool
abbrev pub first_is_tool : List (List ℕ) → List Term → Bool
first_is_tool tools [] = false
first_is_tool tools (term ∷ terms) = is_tool_term tools (out-Term term)

-- an entry is a step of one of these tools: its first term is that of the tool
abbrev pub has_tool : List (List ℕ) → Entry → Bool
has_tool tools (Did label) = first_is_tool tools label.terms
has_tool tools Quiet = false
has_tool tools (Fed input reply) = false
has_tool tools (Gave lane out) = false

-- the number in a term `name(number, ..)`
abbrev pub number_named : Term-F Term → Option ℕ
number_named (Int n) = None
number_named (Str bytes) = None
number_named (Appl name parts) = first_number parts
number_named (ListOf parts) = None

-- the number of the tool that the first of these terms names
abbrev pub tool_number : List Term → Option ℕ
tool_number [] = None
tool_number (term ∷ terms) = number_named (out-Term term)

-- a tool has the number in the first of these terms
abbrev pub has_number : List (List ℕ) → List Term → Bool
has_number tools terms = is_some (option_and_then (λ number. numbered tools number) (tool_number terms))

-- the name of a term
abbrev pub name_in : Term-F Term → Option (List ℕ)
name_in (Int n) = None
name_in (Str bytes) = None
name_in (Appl name parts) = Some name
name_in (ListOf parts) = None

-- the name of the first of these terms
abbrev pub tool_name : List Term → Option (List ℕ)
tool_name [] = None
tool_name (term ∷ terms) = name_in (out-Term term)

-- one tool more, if there is a name
abbrev pub with_tool : List (List ℕ) → Option (List ℕ) → List (List ℕ)
with_tool tools None = tools
with_tool tools (Some name) = tools ++ name ∷ []

-- Those after a step: an `execute` makes one more. A tool that has left keeps its number.
abbrev pub tools_by : LabelKind → List (List ℕ) → List Term → List (List ℕ)
tools_by kind.Execute tools terms = with_tool tools (tool_name terms)
tools_by _ tools terms = tools

-- those after a line: a connect request makes one more
abbrev pub tools_by_line : List (List ℕ) → ToolLine → List (List ℕ)
tools_by_line tools (line.Value term) = tools
tools_by_line tools (line.Event terms) = tools
tools_by_line tools (line.Connect name) = tools ++ name ∷ []
tools_by_line tools line.Disconnect = tools
tools_by_line tools line.Bad = tools

-- those after an input that the bus took
abbrev pub tools_by_input : List (List ℕ) → Input → List (List ℕ)
tools_by_input tools input.Tick = tools
tools_by_input tools input.NoTicks = tools
tools_by_input tools (input.Line lane line) = tools_by_line tools line
tools_by_input tools (input.Gone lane) = tools
tools_by_input tools (input.Cut lane) = tools

-- those after an entry
abbrev pub tools_after : List (List ℕ) → Entry → List (List ℕ)
tools_after tools (Did label) = tools_by label.kind tools label.terms
tools_after tools Quiet = tools
tools_after tools (Fed input Took) = tools_by_input tools input
tools_after tools (Fed input (Dropped why)) = tools
tools_after tools (Gave lane out) = tools

-- Those after all these entries. At the start there is none: a program of `--connect` has a number only after its connect request.
abbrev pub tools_of : List Entry → List (List ℕ)
tools_of entries = fold tools_after [] entries
