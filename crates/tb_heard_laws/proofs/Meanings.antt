-- The line that each term of a step means.
use Rattle.std.proofs.Common.{◌≡◌, ℕ, ◌≤◌, nat_le, Bool, true, List, [], ◌∷◌, length, codes, pos, Some, if◌then◌else◌, refl, ap, sym, ◌∙◌, arith}
use Rattle.std.specs.List.{All, list_all}
use Rattle.std.specs.Str.{bytes_eq}
use Rattle.std.proofs.lemmas.Bool.{and_parts, and_from, le-leb}
use Rattle.std.proofs.lemmas.List.Elements.{All-head, All-tail}
use Rattle.std.proofs.lemmas.Slice.Eq.{bytes_eq-Decides}
use Rattle.tb_terms.specs.declared.term.Term.{Term}
use Rattle.tb_terms.specs.declared.term.Term.TheVariants as term
use Rattle.tb_terms.specs.declared.term.Term.TheOpen as layer
use Rattle.tb_terms.specs.declared.sort.Sort.TheVariants.{Tool as ToolSort}
use Rattle.tb_terms.specs.Sizes.{term_size, term_levels, most_term_size, most_term_levels, is_within_limits, IsWithinLimits}
use Rattle.tb_terms.specs.Sorts.{has_sort, is_int, is_tool, is_one_int}
use Rattle.tb_log.specs.Limits.{terms_size}
use Rattle.tb_log.specs.Shapes.{AreParts, most_tool_name}
use Rattle.tb_log.specs.declared.entry.ToolLine.{ToolLine}
use Rattle.tb_log.specs.declared.entry.ToolLine.TheVariants.{Value, Event, Connect, Bad}
use Rattle.tb_tools.specs.Lanes.{tool_term}
use Rattle.tb_tool_line.specs.ToolLines.{are_within, value_line, event_line, name_line, named_line, line_by_layer, line_of}
use Rattle.tb_iface.proofs.OutlineLemmas.{has-tool}

limited : (t : Term) → IsWithinLimits t → is_within_limits t ≡ true
unfolding is_within_limits
limited t h = and_from (nat_le (term_size t) most_term_size) (nat_le (term_levels t) most_term_levels) (le-leb (term_size t) most_term_size h.size) (le-leb (term_levels t) most_term_levels h.levels)

all-limited : (ts : List Term) → All IsWithinLimits ts → list_all is_within_limits ts ≡ true
all-limited [] h = refl
all-limited (t ∷ ts) h = and_from (is_within_limits t) (list_all is_within_limits ts) (limited t (All-head IsWithinLimits t ts h)) (all-limited ts (All-tail IsWithinLimits t ts h))

named : (name : List ℕ) (parts : List Term) → line_of (term.Appl name parts) ≡ line_by_layer (layer.Appl name parts)
named name parts = ap line_by_layer (term.outs-Appl name parts)

pub value-means : (value : Term) → IsWithinLimits value → Value value ≡ line_of (term.Appl (codes "snd-value") (value ∷ []))
value-means value h =
    let is : value_line (Some value) ≡ Value value = ap (λ (b : Bool). let line : ToolLine = if b then Value value else Bad in line) (limited value h) in
    sym (named (codes "snd-value") (value ∷ []) ∙ is)

event-by : (terms : List Term) → 1 ≤ length terms → AreParts terms → event_line terms ≡ Event terms
event-by [] l h = absurd (omega arith)
event-by (t ∷ ts) l h =
    let sizes = le-leb (terms_size (t ∷ ts)) most_term_size h.together in
    let within : are_within (t ∷ ts) ≡ true = and_from (list_all is_within_limits (t ∷ ts)) (nat_le (terms_size (t ∷ ts)) most_term_size) (all-limited (t ∷ ts) h.each) sizes in
    ap (λ (b : Bool). let line : ToolLine = if b then Event (t ∷ ts) else Bad in line) within

pub event-means : (terms : List Term) → 1 ≤ length terms → AreParts terms → Event terms ≡ line_of (term.Appl (codes "snd-event") terms)
event-means terms l h = sym (named (codes "snd-event") terms ∙ event-by terms l h)

pub connect-means : (name : List ℕ) → length name ≤ most_tool_name → Connect name ≡ line_of (term.Appl (codes "snd-connect") (term.Appl name [] ∷ []))
connect-means name l =
    let short : name_line name [] ≡ Connect name = ap (λ (b : Bool). let line : ToolLine = if b then Connect name else Bad in line) (le-leb (length name) most_tool_name l) in
    sym (named (codes "snd-connect") (term.Appl name [] ∷ []) ∙ (ap named_line (term.outs-Appl name []) ∙ short))

-- the term of a tool has the type of that tool alone
pub tool-name : (name tool : List ℕ) (number : ℕ) → has_sort (tool_term name number) (ToolSort tool) ≡ true → name ≡ tool
tool-name name tool number h =
    let open_term = has-tool (tool_term name number) tool ∙ ap (is_tool tool) (term.outs-Appl name (term.Int (pos number) ∷ [])) in
    let both = and_parts (bytes_eq name tool) (is_one_int (term.Int (pos number) ∷ [])) (sym open_term ∙ h) in
    (bytes_eq-Decides name tool).0 both.0

-- and it has this type
pub tool-sort : (name : List ℕ) (number : ℕ) → has_sort (tool_term name number) (ToolSort name) ≡ true
tool-sort name number =
    has-tool (tool_term name number) name ∙ ap (is_tool name) (term.outs-Appl name (term.Int (pos number) ∷ []))
    ∙ and_from (bytes_eq name name) (is_one_int (term.Int (pos number) ∷ [])) ((bytes_eq-Decides name name).1 refl) (ap is_int (term.outs-Int (pos number)))
