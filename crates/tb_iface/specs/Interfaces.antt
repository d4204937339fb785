-- The interface of a tool, from the program alone: the patterns of the lines that the tool may receive, and of the lines that a process may
-- take from the tool.
use Rattle.std.specs.Prelude.{ℕ, List, [], ◌∷◌, ◌++◌, map, Bool, Option, Some, None, find, fold, slice_get, codes, if◌then◌else◌}
use Rattle.std.specs.List.{flat_map, list_any}
use Rattle.std.specs.Str.{bytes_eq}
use Rattle.tb_terms.specs.Same.{is_same}
use Rattle.tb_terms.specs.declared.expr.Expr.{Expr}
use Rattle.tb_terms.specs.declared.sort.Sort.{Sort}
use Rattle.tb_terms.specs.declared.pattern.Pattern.{Pattern}
use Rattle.tb_terms.specs.declared.pattern.Pattern.TheVariants as pattern
use Rattle.tb_terms.specs.contracts.pattern.Pattern as pattern_row
use Rattle.tb_body.specs.declared.act.Act.{Act}
use Rattle.tb_body.specs.declared.act.Act.TheVariants.{SndEval, RecValue, SndDo, RecEvent, SndAckEvent, SndTerminate, Shutdown, RecConnect}
use Rattle.tb_body.specs.declared.atom.Atom.{Atom}
use Rattle.tb_body.specs.declared.body.Body.{Body}
use Rattle.tb_body.specs.declared.program.Program.{Program}
use Rattle.tb_body.specs.declared.program.Tool.{Tool as ToolKind}
use Rattle.tb_bus.specs.Exchanges.{name_of}
use Rattle.tb_iface.specs.Outlines.{outline, may_be}
use Rattle.tb_iface.specs.declared.answer.Interface.{Interface}

-- a line with this word and parts
abbrev pub line : List ℕ → List Pattern → List Pattern
line word parts = pattern.Appl word parts ∷ []

-- the line with this word and the outlines of these expressions, if the first argument of the atom may be the tool
abbrev pub line_if : List ℕ → List Sort → Expr → List ℕ → List Expr → List Pattern
line_if tool sorts first word parts = if may_be tool (outline sorts first) then line word (map (outline sorts) parts) else []

-- The line that an atom may send to a tool of this name, in a body whose slots have these types.
abbrev pub tells : List ℕ → List Sort → Act → List Pattern
tells tool sorts (SndEval first expr) = line_if tool sorts first (codes "rec-eval") (expr ∷ [])
tells tool sorts (SndDo first expr) = line_if tool sorts first (codes "rec-do") (expr ∷ [])
tells tool sorts (SndAckEvent first exprs) = line_if tool sorts first (codes "rec-ack-event") exprs
tells tool sorts (SndTerminate first expr) = line_if tool sorts first (codes "rec-terminate") (expr ∷ [])
-- every tool receives the reason of a shutdown
tells tool sorts (Shutdown reason) = line (codes "rec-terminate") (outline sorts reason ∷ [])
tells tool sorts _ = []

-- The line that an atom may take from a tool of this name, in a program that declares these tools.
abbrev pub hears : List ToolKind → List ℕ → List Sort → Act → List Pattern
hears kinds tool sorts (RecValue first expr) = line_if tool sorts first (codes "snd-value") (expr ∷ [])
hears kinds tool sorts (RecEvent first exprs) = line_if tool sorts first (codes "snd-event") exprs
hears kinds tool sorts (RecConnect kind slot) =
    if bytes_eq (name_of (slice_get kinds kind)) tool then line (codes "snd-connect") (pattern.Appl tool [] ∷ []) else []
hears kinds tool sorts _ = []

-- the lines of the atoms of all bodies, in the order of the definitions and then of the atoms' numbers
abbrev pub of_atoms : (List Sort → Act → List Pattern) → List Body → List Pattern
of_atoms lines bodies = flat_map (λ (body : Body). flat_map (λ (atom : Atom). lines body.sorts atom.act) body.atoms) bodies

-- the lines if the bus shuts down by itself: `finish` if no process is left, `halt` if no atom can happen and no more ticks come
abbrev pub last_lines : List Pattern
last_lines = line (codes "rec-terminate") (pattern.Appl (codes "finish") [] ∷ []) ++ line (codes "rec-terminate") (pattern.Appl (codes "halt") [] ∷ [])

abbrev pub is_same_pattern : Pattern → Pattern → Bool
is_same_pattern = is_same pattern_row.the_row.coded

-- the patterns with this one at the end, unless they have it already
abbrev pub with_new : List Pattern → Pattern → List Pattern
with_new patterns pattern = if list_any (is_same_pattern pattern) patterns then patterns else patterns ++ pattern ∷ []

-- each pattern once, at its first place
abbrev pub once : List Pattern → List Pattern
once = fold with_new []

-- The patterns of the lines that a tool of this name may receive.
abbrev pub to_of : Program → List ℕ → List Pattern
to_of program tool = once (of_atoms (tells tool) program.bodies ++ last_lines)

-- The patterns of the lines that a process may take from a tool of this name.
abbrev pub from_of : Program → List ℕ → List Pattern
from_of program tool = once (of_atoms (hears program.tools tool) program.bodies)

-- The interface of the tool of this name: none if the program declares no such tool.
abbrev pub interface_by : Program → List ℕ → Option ToolKind → Option Interface
interface_by program tool None = None
interface_by program tool (Some kind) = Some (record { command = kind.command; to = to_of program tool; from = from_of program tool })

abbrev pub interface_of : Program → List ℕ → Option Interface
interface_of program tool = interface_by program tool (find (λ (kind : ToolKind). bytes_eq kind.name tool) program.tools)
