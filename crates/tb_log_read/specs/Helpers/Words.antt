-- The entry that the words of a line represent.
use Rattle.std.specs.Prelude.{ℕ, false, List, [], Option, Some, None, codes, if◌then◌else◌}
use Rattle.std.specs.Str.{bytes_eq}
use Rattle.tb_terms.specs.Names.{is_name, is_string}
use Rattle.tb_terms.specs.declared.term.Term.{Term}
use Rattle.tb_terms.specs.declared.term.Term.TheVariants as term
use Rattle.tb_log.specs.Shapes.{nowhere}
use Rattle.tb_log.specs.declared.entry.Place.{Place}
use Rattle.tb_log.specs.declared.entry.LabelKind.{LabelKind}
use Rattle.tb_log.specs.declared.entry.LabelKind.TheVariants as kind
use Rattle.tb_log.specs.declared.entry.ToolLine.{ToolLine}
use Rattle.tb_log.specs.declared.entry.ToolLine.TheVariants as tool
use Rattle.tb_log.specs.declared.entry.Input.{Input}
use Rattle.tb_log.specs.declared.entry.Input.TheVariants as input
use Rattle.tb_log.specs.declared.entry.Out.{Out}
use Rattle.tb_log.specs.declared.entry.Out.TheVariants as out
use Rattle.tb_log.specs.declared.entry.Reply.{Reply}
use Rattle.tb_log.specs.declared.entry.Reply.TheVariants.{Took, Dropped}
use Rattle.tb_log.specs.declared.entry.Why.{Why}
use Rattle.tb_log.specs.declared.entry.Why.TheVariants as why
use Rattle.tb_log.specs.declared.entry.Entry.{Entry}
use Rattle.tb_log.specs.declared.entry.Entry.TheVariants.{Did, Quiet, Fed, Gave}
use Rattle.tb_log_read.specs.Helpers.Cutting.{prefix, behind, without_last}
use Rattle.tb_log_read.specs.Helpers.Numbers.{number8, place_of}
use Rattle.tb_log_read.specs.Helpers.Terms.{term_of, terms_of, label_terms}
use Rattle.tb_log_read.specs.Helpers.Unescaping.{unescaped_from}

-- the kind of step with this word, if the step neither concerns a tool nor shuts down the bus
abbrev pub plain_kind : List ℕ → Option LabelKind
plain_kind word =
    if bytes_eq word (codes "msg") then Some kind.Msg
    else (if bytes_eq word (codes "set") then Some kind.Set
    else (if bytes_eq word (codes "tau") then Some kind.Tau
    else (if bytes_eq word (codes "printf") then Some kind.Printf
    else (if bytes_eq word (codes "snd-note") then Some kind.SndNote
    else (if bytes_eq word (codes "rec-note") then Some kind.RecNote
    else (if bytes_eq word (codes "no-note") then Some kind.NoNote
    else (if bytes_eq word (codes "subscribe") then Some kind.Subscribe
    else (if bytes_eq word (codes "unsubscribe") then Some kind.Unsubscribe
    else (if bytes_eq word (codes "create") then Some kind.Create
    else None)))))))))

-- the kind of step with this word, if the step concerns a tool or shuts down the bus
abbrev pub tool_or_down_kind : List ℕ → Option LabelKind
tool_or_down_kind word =
    if bytes_eq word (codes "execute") then Some kind.Execute
    else (if bytes_eq word (codes "rec-connect") then Some kind.RecConnect
    else (if bytes_eq word (codes "rec-disconnect") then Some kind.RecDisconnect
    else (if bytes_eq word (codes "snd-eval") then Some kind.SndEval
    else (if bytes_eq word (codes "rec-value") then Some kind.RecValue
    else (if bytes_eq word (codes "snd-do") then Some kind.SndDo
    else (if bytes_eq word (codes "rec-event") then Some kind.RecEvent
    else (if bytes_eq word (codes "snd-ack-event") then Some kind.SndAckEvent
    else (if bytes_eq word (codes "snd-terminate") then Some kind.SndTerminate
    else (if bytes_eq word (codes "shutdown") then Some kind.Shutdown
    else (if bytes_eq word (codes "finish") then Some kind.Finish
    else (if bytes_eq word (codes "halt") then Some kind.Halt
    else None)))))))))))

abbrev kind_from : Option LabelKind → List ℕ → Option LabelKind
kind_from (Some k) word = Some k
kind_from None word = tool_or_down_kind word

-- the kind of step with this word
abbrev pub kind_of : List ℕ → Option LabelKind
kind_of word = kind_from (plain_kind word) word

-- the reason for dropping an input, by its word
abbrev pub why_of : List ℕ → Option Why
why_of word =
    if bytes_eq word (codes "unasked") then Some why.Unasked
    else (if bytes_eq word (codes "not-live") then Some why.NotLive
    else (if bytes_eq word (codes "named") then Some why.Named
    else (if bytes_eq word (codes "stranger") then Some why.Stranger
    else (if bytes_eq word (codes "bad") then Some why.Bad
    else (if bytes_eq word (codes "down") then Some why.Down
    else None)))))

abbrev pub labelled : LabelKind → Place → Place → Option (List Term) → Option Entry
labelled kind from to None = None
labelled kind from to (Some terms) = Some (Did (record { kind = kind; from = from; to = to; terms = terms }))

-- a step of this kind, from the bytes after its word
abbrev pub step_of : LabelKind → List ℕ → Option Entry
step_of kind.Msg bytes =
    labelled kind.Msg (place_of (prefix 32 bytes)) (place_of (prefix 32 (behind 32 bytes))) (label_terms (behind 32 (behind 32 bytes)))
step_of kind.Finish bytes = labelled kind.Finish nowhere nowhere (Some [])
step_of kind.Halt bytes = labelled kind.Halt nowhere nowhere (Some [])
step_of kind bytes = labelled kind (place_of (prefix 32 bytes)) nowhere (label_terms (behind 32 bytes))

abbrev pub value_line : Option Term → Option ToolLine
value_line None = None
value_line (Some term) = Some (tool.Value term)

abbrev pub event_line : Option (List Term) → Option ToolLine
event_line None = None
event_line (Some terms) = Some (tool.Event terms)

-- a line from a tool with this name, and with these bytes in its parentheses
abbrev pub named_line : List ℕ → List ℕ → Option ToolLine
named_line name inner =
    if bytes_eq name (codes "snd-value") then value_line (term_of inner)
    else (if bytes_eq name (codes "snd-event") then event_line (terms_of inner)
    else (if bytes_eq name (codes "snd-connect") then (if is_name inner then Some (tool.Connect inner) else None)
    else (if bytes_eq name (codes "snd-disconnect") then Some tool.Disconnect
    else (if bytes_eq name (codes "?") then Some tool.Bad else None))))

abbrev pub tool_line_of : List ℕ → Option ToolLine
tool_line_of bytes = named_line (prefix 40 bytes) (without_last (behind 40 bytes))

abbrev pub line_on : ℕ → Option ToolLine → Option Input
line_on lane None = None
line_on lane (Some line) = Some (input.Line lane line)

-- an input, from its first word and the bytes after it
abbrev pub input_of : List ℕ → List ℕ → Option Input
input_of word rest =
    if bytes_eq word (codes "tick") then Some input.Tick
    else (if bytes_eq word (codes "noticks") then Some input.NoTicks
    else (if bytes_eq word (codes "line") then line_on (number8 (prefix 32 rest)) (tool_line_of (behind 32 rest))
    else (if bytes_eq word (codes "gone") then Some (input.Gone (number8 rest))
    else (if bytes_eq word (codes "cut") then Some (input.Cut (number8 rest)) else None))))

abbrev pub fed_by : Reply → Option Input → Option Entry
fed_by reply None = None
fed_by reply (Some input) = Some (Fed input reply)

abbrev pub dropped_by : Option Why → Option Input → Option Entry
dropped_by None input = None
dropped_by (Some why) input = fed_by (Dropped why) input

-- a dropped input, from the bytes after its first word
abbrev pub drop_of : List ℕ → Option Entry
drop_of bytes =
    let words = behind 32 bytes in dropped_by (why_of (prefix 32 bytes)) (input_of (prefix 32 words) (behind 32 words))

abbrev pub start_of : List ℕ → Option Out
start_of command = if is_string command then Some (out.Start command) else None

abbrev pub line_of : List ℕ → Option (List Term) → Option Out
line_of name None = None
line_of name (Some terms) = if is_name name then Some (out.Line (term.Appl name terms)) else None

-- an output, from its bytes
abbrev pub out_of : List ℕ → Option Out
out_of bytes =
    if bytes_eq (prefix 32 bytes) (codes "start") then start_of (unescaped_from false (without_last (behind 34 bytes)))
    else (if bytes_eq bytes (codes "end") then Some out.End
    else line_of (prefix 40 bytes) (terms_of (without_last (behind 40 bytes))))

abbrev pub gave_on : ℕ → Option Out → Option Entry
gave_on lane None = None
gave_on lane (Some out) = Some (Gave lane out)

abbrev pub gave_of : List ℕ → Option Entry
gave_of bytes = gave_on (number8 (prefix 32 bytes)) (out_of (behind 32 bytes))

-- an entry that isn't a step, from its first word and the bytes after it
abbrev pub other_of : List ℕ → List ℕ → Option Entry
other_of word rest =
    if bytes_eq word (codes "quiet") then Some Quiet
    else (if bytes_eq word (codes "drop") then drop_of rest
    else (if bytes_eq word (codes "out") then gave_of rest else fed_by Took (input_of word rest)))

abbrev pub entry_by : Option LabelKind → List ℕ → List ℕ → Option Entry
entry_by None word rest = other_of word rest
entry_by (Some kind) word rest = step_of kind rest

-- the entry with these words
abbrev pub words_of : List ℕ → Option Entry
words_of bytes = let word = prefix 32 bytes in entry_by (kind_of word) word (behind 32 bytes)
