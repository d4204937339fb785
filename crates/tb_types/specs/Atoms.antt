-- The violations of an atom: of its arguments, by the kind of place and the expectation of each, and of its times. There is one case for
-- each atom.
use Rattle.std.specs.Prelude.{ℕ, Bool, true, false, not, ◌||◌, ◌&&◌, nat_lt, List, [], ◌∷◌, ◌++◌, length, Option, Some, None, is_none, unwrap_or}
use Rattle.std.specs.List.{flat_map}
use Rattle.tb_terms.specs.declared.sort.Sort.{Sort}
use Rattle.tb_terms.specs.declared.sort.Sort.TheVariants as sorts
use Rattle.tb_syntax.specs.declared.ast.Ast.{Ast}
use Rattle.tb_syntax.specs.declared.ast.AstKind.{out-AstKind}
use Rattle.tb_syntax.specs.declared.atom_words.AtomWord.{AtomWord}
use Rattle.tb_syntax.specs.declared.atom_words.AtomWord.TheVariants as atom
use Rattle.tb_syntax.specs.declared.proc.ActDef.{ActDef}
use Rattle.tb_syntax.specs.declared.proc.ActDef.TheVariants as act
use Rattle.tb_syntax.specs.declared.proc.AtomDef.{AtomDef}
use Rattle.tb_syntax.specs.declared.proc.TimeDef.{TimeDef}
use Rattle.tb_syntax.specs.declared.script.Script.{Script}
use Rattle.tb_syntax.specs.AtomWords.{atom_word, fewest, takes_more}
use Rattle.tb_types.specs.declared.violation.Violation.{Violation}
use Rattle.tb_types.specs.declared.violation.Rule.TheVariants.{Arity, Undeclared}
use Rattle.tb_types.specs.declared.calls.Manner.TheVariants.{Made}
use Rattle.tb_types.specs.declared.positions.Position.{Position}
use Rattle.tb_types.specs.declared.positions.Position.TheVariants.{Sent, Taken, Noted, Received}
use Rattle.tb_types.specs.declared.scope.Known.{Known}
use Rattle.tb_types.specs.Violation.{noted_if}
use Rattle.tb_types.specs.Calls.{call_faults}
use Rattle.tb_types.specs.ExpectedSorts.{Expectation, plain, of_sort, tested, made, command, started, connected, disconnected, of_tool, name_alone, site_faults}
use Rattle.tb_types.specs.Scopes.{sort_in}

-- the word of an atom. No source parses as an atom with another name; such a name counts as `delta`.
abbrev pub word_of : List ℕ → AtomWord
word_of name = unwrap_or (atom_word name) atom.Delta

abbrev pub is_wrong_count : ℕ → Bool → ℕ → Bool
is_wrong_count fewest_taken takes_any count = nat_lt count fewest_taken || (not takes_any && nat_lt fewest_taken count)

abbrev pub has_wrong_arguments : AtomWord → ℕ → Bool
has_wrong_arguments word count = is_wrong_count (fewest word) (takes_more word) count

-- the kind of place of the first argument: whether result variables and placeholders are allowed
abbrev pub first_position : AtomWord → Position
first_position atom.Delta = Sent
first_position atom.Tau = Sent
first_position atom.Printf = Sent
first_position atom.SndMsg = Sent
first_position atom.RecMsg = Received
first_position atom.SndNote = Sent
first_position atom.RecNote = Received
first_position atom.NoNote = Noted
first_position atom.Subscribe = Noted
first_position atom.Unsubscribe = Noted
first_position atom.Execute = Sent
first_position atom.RecConnect = Taken
first_position atom.RecDisconnect = Taken
first_position atom.SndEval = Sent
first_position atom.RecValue = Sent
first_position atom.SndDo = Sent
first_position atom.RecEvent = Sent
first_position atom.SndAckEvent = Sent
first_position atom.SndTerminate = Sent
first_position atom.Shutdown = Sent

-- the kind of place of the other arguments
abbrev pub other_position : AtomWord → Position
other_position atom.Delta = Sent
other_position atom.Tau = Sent
other_position atom.Printf = Sent
other_position atom.SndMsg = Sent
other_position atom.RecMsg = Received
other_position atom.SndNote = Sent
other_position atom.RecNote = Received
other_position atom.NoNote = Noted
other_position atom.Subscribe = Noted
other_position atom.Unsubscribe = Noted
other_position atom.Execute = Taken
other_position atom.RecConnect = Sent
other_position atom.RecDisconnect = Sent
other_position atom.SndEval = Sent
other_position atom.RecValue = Received
other_position atom.SndDo = Sent
other_position atom.RecEvent = Received
other_position atom.SndAckEvent = Sent
other_position atom.SndTerminate = Sent
other_position atom.Shutdown = Sent

-- the expectation of the first argument
abbrev pub first_expected_sort : AtomWord → Expectation
first_expected_sort atom.Delta = plain
first_expected_sort atom.Tau = plain
first_expected_sort atom.Printf = of_sort sorts.Str
first_expected_sort atom.SndMsg = plain
first_expected_sort atom.RecMsg = plain
first_expected_sort atom.SndNote = plain
first_expected_sort atom.RecNote = plain
first_expected_sort atom.NoNote = plain
first_expected_sort atom.Subscribe = plain
first_expected_sort atom.Unsubscribe = plain
first_expected_sort atom.Execute = command
first_expected_sort atom.RecConnect = connected
first_expected_sort atom.RecDisconnect = disconnected
first_expected_sort atom.SndEval = of_tool
first_expected_sort atom.RecValue = of_tool
first_expected_sort atom.SndDo = of_tool
first_expected_sort atom.RecEvent = of_tool
first_expected_sort atom.SndAckEvent = of_tool
first_expected_sort atom.SndTerminate = of_tool
first_expected_sort atom.Shutdown = plain

-- the expectation of the other arguments
abbrev pub other_expected_sort : AtomWord → Ast → Expectation
other_expected_sort atom.Delta first = plain
other_expected_sort atom.Tau first = plain
other_expected_sort atom.Printf first = plain
other_expected_sort atom.SndMsg first = plain
other_expected_sort atom.RecMsg first = plain
other_expected_sort atom.SndNote first = plain
other_expected_sort atom.RecNote first = plain
other_expected_sort atom.NoNote first = plain
other_expected_sort atom.Subscribe first = plain
other_expected_sort atom.Unsubscribe first = plain
other_expected_sort atom.Execute first = started (name_alone (out-AstKind first.kind))
other_expected_sort atom.RecConnect first = plain
other_expected_sort atom.RecDisconnect first = plain
other_expected_sort atom.SndEval first = plain
other_expected_sort atom.RecValue first = plain
other_expected_sort atom.SndDo first = plain
other_expected_sort atom.RecEvent first = plain
other_expected_sort atom.SndAckEvent first = plain
other_expected_sort atom.SndTerminate first = plain
other_expected_sort atom.Shutdown first = plain

abbrev pub arguments_faults : Script → List Known → AtomWord → List Ast → List Violation
arguments_faults script known word [] = []
arguments_faults script known word (first ∷ others) =
    site_faults script known (first_position word) (first_expected_sort word) first
    ++ flat_map (site_faults script known (other_position word) (other_expected_sort word first)) others

abbrev pub named_faults : Script → List Known → AtomWord → List Ast → ℕ → List Violation
named_faults script known word arguments token =
    noted_if (has_wrong_arguments word (length arguments)) Arity token ++ arguments_faults script known word arguments

abbrev pub assigned_expected_sort : Option Sort → Expectation
assigned_expected_sort None = plain
assigned_expected_sort (Some s) = of_sort s

abbrev pub set_faults : Script → List Known → Option Sort → Ast → ℕ → List Violation
set_faults script known own value token = noted_if (is_none own) Undeclared token ++ site_faults script known Sent (assigned_expected_sort own) value

abbrev pub act_faults : Script → List Known → ActDef → ℕ → List Violation
act_faults script known (act.Set name value) token = set_faults script known (sort_in known name) value token
act_faults script known (act.Create call variable) token = call_faults script known Made call ++ site_faults script known Taken made variable
act_faults script known (act.Named name arguments) token = named_faults script known (word_of name) arguments token

abbrev pub time_faults : Script → List Known → TimeDef → List Violation
time_faults script known time = site_faults script known Sent (tested sorts.Int) time.value

abbrev pub atom_faults : Script → List Known → AtomDef → List Violation
atom_faults script known atom = act_faults script known atom.act atom.token ++ flat_map (time_faults script known) atom.times
