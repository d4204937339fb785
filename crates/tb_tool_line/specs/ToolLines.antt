-- Which line of a tool some bytes mean.
use Rattle.std.specs.Prelude.{◌≡◌, ℕ, ◌≤◌, nat_le, Bool, ◌&&◌, List, [], ◌∷◌, length, Option, Some, None, ◌⊎◌, codes, if◌then◌else◌}
use Rattle.std.specs.List.{list_all}
use Rattle.std.specs.Str.{bytes_eq}
use Rattle.tb_terms.specs.declared.term.Term.{Term, out-Term}
use Rattle.tb_terms.specs.declared.term.Term.TheOpen.{Term-F}
use Rattle.tb_terms.specs.declared.term.Term.TheOpen as layer
use Rattle.tb_terms.specs.Sizes.{most_term_size, is_within_limits}
use Rattle.tb_log.specs.declared.entry.ToolLine.{ToolLine}
use Rattle.tb_log.specs.declared.entry.ToolLine.TheVariants.{Value, Event, Connect, Disconnect, Bad}
use Rattle.tb_log.specs.Limits.{terms_size}
use Rattle.tb_log.specs.Shapes.{most_tool_name}
use Rattle.tb_read.specs.Spelling.{Reads}

-- Each part of a line is within the limits of a term, and the total size of the parts is within the limit of size. The name around the
-- parts isn't counted.
abbrev pub are_within : List Term → Bool
are_within parts = list_all is_within_limits parts && nat_le (terms_size parts) most_term_size

-- the only part, if there is exactly one
abbrev pub only : List Term → Option Term
only [] = None
only (part ∷ []) = Some part
only (part ∷ other ∷ parts) = None

-- a value: one part, within the limits of a term
abbrev pub value_line : Option Term → ToolLine
value_line None = Bad
value_line (Some part) = if is_within_limits part then Value part else Bad

-- an event: one part or more, within the limits
abbrev pub event_line : List Term → ToolLine
event_line [] = Bad
event_line (part ∷ parts) = if are_within (part ∷ parts) then Event (part ∷ parts) else Bad

-- a connect request, from its one part: a name without parts, of at most as many bytes as the name of a tool can have
abbrev pub name_line : List ℕ → List Term → ToolLine
name_line name [] = if nat_le (length name) most_tool_name then Connect name else Bad
name_line name (part ∷ parts) = Bad

abbrev pub named_line : Term-F Term → ToolLine
named_line (layer.Int number) = Bad
named_line (layer.Str bytes) = Bad
named_line (layer.Appl name parts) = name_line name parts
named_line (layer.List parts) = Bad

-- a connect request: one part, which is a name without parts
abbrev pub connect_line : Option Term → ToolLine
connect_line None = Bad
connect_line (Some part) = named_line (out-Term part)

-- a disconnect request: no part
abbrev pub disconnect_line : List Term → ToolLine
disconnect_line [] = Disconnect
disconnect_line (part ∷ parts) = Bad

-- the line that a name with these parts means
abbrev pub line_by_name : List ℕ → List Term → ToolLine
line_by_name name parts =
    if bytes_eq name (codes "snd-value") then value_line (only parts)
    else (if bytes_eq name (codes "snd-event") then event_line parts
    else (if bytes_eq name (codes "snd-connect") then connect_line (only parts)
    else (if bytes_eq name (codes "snd-disconnect") then disconnect_line parts else Bad)))

abbrev pub line_by_layer : Term-F Term → ToolLine
line_by_layer (layer.Int number) = Bad
line_by_layer (layer.Str bytes) = Bad
line_by_layer (layer.Appl name parts) = line_by_name name parts
line_by_layer (layer.List parts) = Bad

-- the line that a term means
abbrev pub line_of : Term → ToolLine
line_of term = line_by_layer (out-Term term)

-- the most bytes of a line
abbrev pub most_line_bytes : ℕ
most_line_bytes = 65536

-- the bytes are at most as many as a line can have, and parse as this term
abbrev pub Says : List ℕ → Term → Type 0
Says bytes term = (length bytes ≤ most_line_bytes) × Reads bytes term

-- The line that the bytes mean. If the bytes say a term, it is the line that this term means. Otherwise it is a bad line.
abbrev pub IsToolLine : List ℕ → ToolLine → Type 0
IsToolLine bytes line =
    ((term : Term) × Says bytes term × (line ≡ line_of term))
    ⊎ (((term : Term) → Says bytes term → ⊥) × (line ≡ Bad))
