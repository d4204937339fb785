-- The text of a log: one line for each entry, numbered from 1.
use Rattle.std.specs.Prelude.{ℕ, ◌+◌, List, [], ◌∷◌, ◌++◌, codes}
use Rattle.std.specs.Fmt.{decimal}
use Rattle.tb_terms.specs.Texts.{term_text, terms_text, quoted}
use Rattle.tb_terms.specs.declared.term.Term.{Term}
use Rattle.tb_log.specs.declared.entry.Place.{Place}
use Rattle.tb_log.specs.declared.entry.LabelKind.{LabelKind}
use Rattle.tb_log.specs.declared.entry.LabelKind.TheVariants as kind
use Rattle.tb_log.specs.declared.entry.ToolLine.{ToolLine}
use Rattle.tb_log.specs.declared.entry.ToolLine.TheVariants as tool
use Rattle.tb_log.specs.declared.entry.Input.{Input}
use Rattle.tb_log.specs.declared.entry.Input.TheVariants as input
use Rattle.tb_log.specs.declared.entry.Out.{Out}
use Rattle.tb_log.specs.declared.entry.Out.TheVariants as out
use Rattle.tb_log.specs.declared.entry.Reply.{Reply}
use Rattle.tb_log.specs.declared.entry.Reply.TheVariants.{Took, Dropped}
use Rattle.tb_log.specs.declared.entry.Why.{Why}
use Rattle.tb_log.specs.declared.entry.Why.TheVariants as why
use Rattle.tb_log.specs.declared.entry.Entry.{Entry}
use Rattle.tb_log.specs.declared.entry.Entry.TheVariants.{Did, Quiet, Fed, Gave}

-- a space, and the numbers of a process and of one of its atoms, with a point between them
abbrev pub place_words : Place → List ℕ
place_words place = 32 ∷ decimal place.proc ++ 46 ∷ decimal place.atom

-- a space, and the terms joined by commas; nothing if there are no terms
abbrev pub term_words : List Term → List ℕ
term_words [] = []
term_words (term ∷ terms) = 32 ∷ terms_text (term ∷ terms)

-- the first word of a step's line
abbrev pub kind_word : LabelKind → List ℕ
kind_word kind.Msg = codes "msg"
kind_word kind.Set = codes "set"
kind_word kind.Tau = codes "tau"
kind_word kind.Printf = codes "printf"
kind_word kind.SndNote = codes "snd-note"
kind_word kind.RecNote = codes "rec-note"
kind_word kind.NoNote = codes "no-note"
kind_word kind.Subscribe = codes "subscribe"
kind_word kind.Unsubscribe = codes "unsubscribe"
kind_word kind.Create = codes "create"
kind_word kind.Execute = codes "execute"
kind_word kind.RecConnect = codes "rec-connect"
kind_word kind.RecDisconnect = codes "rec-disconnect"
kind_word kind.SndEval = codes "snd-eval"
kind_word kind.RecValue = codes "rec-value"
kind_word kind.SndDo = codes "snd-do"
kind_word kind.RecEvent = codes "rec-event"
kind_word kind.SndAckEvent = codes "snd-ack-event"
kind_word kind.SndTerminate = codes "snd-terminate"
kind_word kind.Shutdown = codes "shutdown"
kind_word kind.Finish = codes "finish"
kind_word kind.Halt = codes "halt"

-- the words of a step by its kind: both places of a message, no place of `finish` and `halt`, the one place of any other step; then
-- the terms
abbrev pub label_words : LabelKind → Place → Place → List Term → List ℕ
label_words kind.Msg from to terms = codes "msg" ++ place_words from ++ place_words to ++ term_words terms
label_words kind.Finish from to terms = codes "finish"
label_words kind.Halt from to terms = codes "halt"
label_words kind from to terms = kind_word kind ++ place_words from ++ term_words terms

-- terms in parentheses, joined by commas; nothing if there are no terms
abbrev pub arguments_text : List Term → List ℕ
arguments_text [] = []
arguments_text (term ∷ terms) = 40 ∷ terms_text (term ∷ terms) ++ 41 ∷ []

-- a line from a tool as text, or a question mark if the line is bad
abbrev pub tool_line_words : ToolLine → List ℕ
tool_line_words (tool.Value term) = codes "snd-value" ++ 40 ∷ term_text term ++ 41 ∷ []
tool_line_words (tool.Event terms) = codes "snd-event" ++ arguments_text terms
tool_line_words (tool.Connect name) = codes "snd-connect" ++ 40 ∷ name ++ 41 ∷ []
tool_line_words tool.Disconnect = codes "snd-disconnect"
tool_line_words tool.Bad = codes "?"

-- the words of an input
abbrev pub input_words : Input → List ℕ
input_words input.Tick = codes "tick"
input_words input.NoTicks = codes "noticks"
input_words (input.Line lane line) = codes "line " ++ decimal lane ++ 32 ∷ tool_line_words line
input_words (input.Gone lane) = codes "gone " ++ decimal lane
input_words (input.Cut lane) = codes "cut " ++ decimal lane

-- the word of the reason why an input was dropped
abbrev pub why_word : Why → List ℕ
why_word why.Unasked = codes "unasked"
why_word why.NotLive = codes "not-live"
why_word why.Named = codes "named"
why_word why.Stranger = codes "stranger"
why_word why.Bad = codes "bad"
why_word why.Down = codes "down"

-- the words of an input with its reply: a dropped input begins with `drop` and the reason
abbrev pub fed_words : Reply → Input → List ℕ
fed_words Took input = input_words input
fed_words (Dropped why) input = codes "drop " ++ why_word why ++ 32 ∷ input_words input

-- the words of an output: the command of a start as a string, a line as its term
abbrev pub out_words : Out → List ℕ
out_words (out.Start command) = codes "start " ++ quoted command
out_words (out.Line term) = term_text term
out_words out.End = codes "end"

-- the words of an entry: its line without the number and the newline
abbrev pub entry_words : Entry → List ℕ
entry_words (Did label) = label_words label.kind label.from label.to label.terms
entry_words Quiet = codes "quiet"
entry_words (Fed input reply) = fed_words reply input
entry_words (Gave lane out) = codes "out " ++ decimal lane ++ 32 ∷ out_words out

-- the line of an entry: its number, a space, its words and a newline
abbrev pub entry_text : ℕ → Entry → List ℕ
entry_text number entry = decimal number ++ 32 ∷ entry_words entry ++ 10 ∷ []

-- the lines of entries, numbered from `number` on
abbrev pub log_text_from : ℕ → List Entry → List ℕ
log_text_from number [] = []
log_text_from number (entry ∷ log) = entry_text number entry ++ log_text_from (number + 1) log

-- the text of a log: its lines, numbered from 1
abbrev pub log_text : List Entry → List ℕ
log_text log = log_text_from 1 log
