-- How large an entry may be that follows on a bus that a program reaches.
use Rattle.std.proofs.Common.{◌≡◌, ℕ, ◌+◌, ◌≤◌, ◌==◌, ◌&&◌, ◌||◌, nat_le, max, Bool, true, false, List, map, sum, length, Some, refl, ap, ◌∙◌, arith, codes}
use Rattle.std.specs.Str.{bytes_eq}
use Rattle.std.proofs.lemmas.Bool.{and_parts}
use Rattle.std.proofs.lemmas.Slice.Eq.{bytes_eq-Decides}
use Rattle.tb_terms.specs.declared.term.Term.{Term, Term-F, map-Term, out-Term, fold_out-Term}
use Rattle.tb_terms.specs.declared.term.Term.TheOpen as layer
use Rattle.tb_terms.specs.Sizes.{term_size, size_step}
use Rattle.tb_log.specs.Limits.{terms_size, tool_line_size, input_size, out_size, entry_size}
use Rattle.tb_log.specs.Shapes.{has_parts, IsForTool, IsOutInShape, IsToolLineInShape, IsInputInShape}
use Rattle.tb_log.specs.declared.entry.ToolLine.{ToolLine}
use Rattle.tb_log.specs.declared.entry.ToolLine.TheVariants as tool
use Rattle.tb_log.specs.declared.entry.Input.{Input}
use Rattle.tb_log.specs.declared.entry.Input.TheVariants as input
use Rattle.tb_log.specs.declared.entry.Out.{Out}
use Rattle.tb_log.specs.declared.entry.Out.TheVariants as out
use Rattle.tb_log.specs.declared.entry.Entry.{Entry}
use Rattle.tb_log.specs.declared.entry.Entry.TheVariants.{Did, Quiet, Fed, Gave}
use Rattle.tb_tools.specs.Finding.{next_out}
use Rattle.tb_bus.specs.declared.origin.Origin.{Origin}
use Rattle.tb_bus.specs.Buses.{Bus}
use Rattle.tb_bus.specs.Commands.{largest_command, most_entry_size, IsNamed, AreNamed}
use Rattle.tb_bus.specs.Traces.{IsLegal}
use Rattle.tb_bus.specs.Reached.{Reaches}
use Rattle.tb_bus.specs.Waiting.{IsBusInShape}
use Rattle.tb_bus.proofs.LaneShapes.{next_out-in}
use Rattle.tb_bus.proofs.BusShapes.{label-size, reached-in_shape}
use Rattle.tb_bus.proofs.CommandLemmas.{named-size, reached-named, next_out-named}

within-two : (size largest : ℕ) → size ≤ 131072 → size ≤ max 131072 largest
within-two size largest h = omega arith

within-largest : (size largest : ℕ) → size ≤ largest → size ≤ max 131072 largest
within-largest size largest h = omega arith

-- lines for tools

word-length : (name word : List ℕ) (also : Bool) → (bytes_eq name word && also) ≡ true → length name ≡ length word
word-length name word also h = ap length ((bytes_eq-Decides name word).0 (and_parts (bytes_eq name word) also h).0)

short-by : (name : List ℕ) (one two three four : Bool) → (one ≡ true → length name ≤ 13) → (two ≡ true → length name ≤ 13) → (three ≡ true → length name ≤ 13) → (four ≡ true → length name ≤ 13) →
    (one || two || three || four) ≡ true → length name ≤ 13
short-by name true two three four a b c d h = a refl
short-by name false true three four a b c d h = b refl
short-by name false false true four a b c d h = c refl
short-by name false false false true a b c d h = d refl
short-by name false false false false a b c d h = cc

short-word : (name : List ℕ) (count : ℕ) → has_parts name count ≡ true → length name ≤ 13
short-word name count h =
    short-by name (bytes_eq name (codes "rec-eval") && (count == 1)) (bytes_eq name (codes "rec-do") && (count == 1))
    (bytes_eq name (codes "rec-terminate") && (count == 1)) (bytes_eq name (codes "rec-ack-event") && nat_le 1 count)
    (λ e. let long : length name ≡ 8 = word-length name (codes "rec-eval") (count == 1) e in omega arith)
    (λ e. let long : length name ≡ 6 = word-length name (codes "rec-do") (count == 1) e in omega arith)
    (λ e. let long : length name ≡ 13 = word-length name (codes "rec-terminate") (count == 1) e in omega arith)
    (λ e. let long : length name ≡ 13 = word-length name (codes "rec-ack-event") (nat_le 1 count) e in omega arith)
    h

size-of : (term : Term) (w : Term-F Term) → out-Term term ≡ w → term_size term ≡ size_step (map-Term Term ℕ term_size w)
size-of term w e = fold_out-Term ℕ size_step term ∙ ap (λ (v : Term-F Term). size_step (map-Term Term ℕ term_size v)) e

for_tool-size : (term : Term) (w : Term-F Term) → out-Term term ≡ w → IsForTool w → term_size term ≤ 131072
for_tool-size term (layer.Int number) e h = absurd h
for_tool-size term (layer.Str bytes) e h = absurd h
for_tool-size term (layer.List parts) e h = absurd h
for_tool-size term (layer.Appl name parts) e h =
    let size : term_size term ≡ 1 + length name + sum (map term_size parts) = size-of term (layer.Appl name parts) e in
    let short = short-word name (length parts) h.0 in
    let together : sum (map term_size parts) ≤ 65536 = h.1.together in
    omega arith

-- what is to be handed out
out-limited : (origin : Origin) (it : Out) → IsOutInShape it → IsNamed origin it → out_size it ≤ most_entry_size origin
out-limited origin (out.Start command) h named = within-largest (out_size (out.Start command)) (largest_command origin) (named-size origin command named)
out-limited origin (out.Line term) h named = within-two (term_size term) (largest_command origin) (for_tool-size term (out-Term term) refl h)
out-limited origin out.End h named = within-two 0 (largest_command origin) (omega arith)

-- inputs

line-size : (line : ToolLine) → IsToolLineInShape line → tool_line_size line ≤ 131072
line-size (tool.Value term) h = let size = h.size in omega arith
line-size (tool.Event terms) h = let size = h.1.together in omega arith
line-size (tool.Connect name) h = omega arith
line-size tool.Disconnect h = omega arith
line-size tool.Bad h = omega arith

input-size : (it : Input) → IsInputInShape it → input_size it ≤ 131072
input-size input.Tick h = omega arith
input-size input.NoTicks h = omega arith
input-size (input.Line lane line) h = line-size line h.1
input-size (input.Gone lane) h = omega arith
input-size (input.Cut lane) h = omega arith

-- entries

legal-size : (origin : Origin) (bus next : Bus) (entry : Entry) → IsBusInShape bus → AreNamed origin bus.bench → IsLegal bus entry next → entry_size entry ≤ most_entry_size origin
legal-size origin bus next (Did label) h named legal = within-two (terms_size label.terms) (largest_command origin) (label-size bus next label h legal)
legal-size origin bus next Quiet h named legal = within-two 0 (largest_command origin) (omega arith)
legal-size origin bus next (Fed it reply) h named legal = within-two (input_size it) (largest_command origin) (input-size it legal.0)
legal-size origin bus next (Gave lane it) h named legal =
    out-limited origin it (next_out-in lane bus.bench it h.bench legal.1) (next_out-named origin lane bus.bench it named legal.1)

-- Each entry that may follow on a bus that a program reaches is no larger than two terms may be, or than the largest command.
pub entry-limited : (origin : Origin) (bus next : Bus) (entry : Entry) → Reaches origin bus → IsLegal bus entry next → entry_size entry ≤ most_entry_size origin
entry-limited origin bus next entry r legal = legal-size origin bus next entry (reached-in_shape origin bus r) (reached-named origin bus r) legal

-- What is to be handed out next on such a bus is in shape, and a command is one of the origin's.
pub out-in_shape : (origin : Origin) (bus : Bus) (lane : ℕ) (it : Out) → Reaches origin bus → next_out lane bus.bench ≡ Some it → IsOutInShape it
out-in_shape origin bus lane it r e = let shape = reached-in_shape origin bus r in next_out-in lane bus.bench it shape.bench e

pub out-named : (origin : Origin) (bus : Bus) (lane : ℕ) (it : Out) → Reaches origin bus → next_out lane bus.bench ≡ Some it → IsNamed origin it
out-named origin bus lane it r e = next_out-named origin lane bus.bench it (reached-named origin bus r) e
