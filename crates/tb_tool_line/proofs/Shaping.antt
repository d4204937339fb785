-- The line of a term is in shape, and the term is hardly larger than its parts may be.
use Rattle.std.proofs.Common.{◌≡◌, ◌⊎◌, inl, inr, ℕ, zero, suc, ◌+◌, ◌<◌, ◌≤◌, nat_le, max, Bool, true, false, if◌then◌else◌, List, [], ◌∷◌, length, map, sum, fold, Option, Some, None, codes, refl, ap, sym, ◌∙◌, subst, arith}
use Rattle.std.specs.List.{list_all, All}
use Rattle.std.specs.Str.{bytes_eq}
use Rattle.std.proofs.lemmas.Bool.{leb-true}
use Rattle.std.proofs.lemmas.Slice.Eq.{bytes_eq-Decides}
use Rattle.tb_terms.specs.declared.term.Term.{Term, Term-F, map-Term, fold_out-Term, out-Term}
use Rattle.tb_terms.specs.declared.term.Term.TheOpen as layer
use Rattle.tb_terms.specs.Sizes.{term_size, term_levels, size_step, levels_step, greatest, is_within_limits, IsWithinLimits}
use Rattle.tb_terms.proofs.LimitLemmas.{within-limits}
use Rattle.tb_terms.proofs.SameLemmas.{both-true}
use Rattle.tb_log.specs.declared.entry.ToolLine.{ToolLine}
use Rattle.tb_log.specs.declared.entry.ToolLine.TheVariants.{Value, Event, Connect, Disconnect, Bad}
use Rattle.tb_log.specs.Limits.{terms_size}
use Rattle.tb_log.specs.Shapes.{IsToolLineInShape}
use Rattle.tb_tool_line.specs.ToolLines.{are_within, only, value_line, event_line, name_line, named_line, connect_line, disconnect_line, line_by_name, line_by_layer, line_of}

all-within : (terms : List Term) → list_all is_within_limits terms ≡ true → All IsWithinLimits terms
all-within [] h k d l = absurd (omega arith)
all-within (term ∷ terms) h zero d l = within-limits term (both-true (is_within_limits term) (list_all is_within_limits terms) h).0
all-within (term ∷ terms) h (suc k) d l =
    let m : k < length terms = omega arith in
    all-within terms (both-true (is_within_limits term) (list_all is_within_limits terms) h).1 k d m

-- A line by cases on its tests: what holds of a good line where the tests pass, and of a bad one, holds of it.
value-cases : (P : ToolLine → Type 0) → P Bad → (part : Option Term) → ((term : Term) → part ≡ Some term → is_within_limits term ≡ true → P (Value term)) → P (value_line part)
value-cases P bad None good = bad
value-cases P bad (Some term) good = by (is_within_limits term) refl
  where
    by : (b : Bool) → is_within_limits term ≡ b → P (if b then Value term else Bad)
    by true e = good term refl e
    by false e = bad

event-cases : (P : ToolLine → Type 0) → P Bad → (parts : List Term) → (1 ≤ length parts → are_within parts ≡ true → P (Event parts)) → P (event_line parts)
event-cases P bad [] good = bad
event-cases P bad (part ∷ parts) good = by (are_within (part ∷ parts)) refl
  where
    by : (b : Bool) → are_within (part ∷ parts) ≡ b → P (if b then Event (part ∷ parts) else Bad)
    by true e = good (omega arith) e
    by false e = bad

name_line-cases : (P : ToolLine → Type 0) → P Bad → (name : List ℕ) (parts : List Term) → (parts ≡ [] → length name ≤ 65534 → P (Connect name)) → P (name_line name parts)
name_line-cases P bad name [] good = by (nat_le (length name) 65534) refl
  where
    by : (b : Bool) → nat_le (length name) 65534 ≡ b → P (if b then Connect name else Bad)
    by true e = good refl (leb-true (length name) 65534 e)
    by false e = bad
name_line-cases P bad name (part ∷ parts) good = bad

named-cases : (P : ToolLine → Type 0) → P Bad → (part : Term-F Term) → ((name : List ℕ) → part ≡ layer.Appl name [] → length name ≤ 65534 → P (Connect name)) → P (named_line part)
named-cases P bad (layer.Int number) good = bad
named-cases P bad (layer.Str bytes) good = bad
named-cases P bad (layer.Appl name parts) good = name_line-cases P bad name parts (λ e l. good name (ap (λ (ps : List Term). layer.Appl name ps) e) l)
named-cases P bad (layer.List parts) good = bad

connect-cases : (P : ToolLine → Type 0) → P Bad → (part : Option Term) → ((term : Term) (name : List ℕ) → part ≡ Some term → out-Term term ≡ layer.Appl name [] → length name ≤ 65534 → P (Connect name)) → P (connect_line part)
connect-cases P bad None good = bad
connect-cases P bad (Some term) good = named-cases P bad (out-Term term) (λ name e l. good term name refl e l)

disconnect-cases : (P : ToolLine → Type 0) → P Bad → (parts : List Term) → (parts ≡ [] → P Disconnect) → P (disconnect_line parts)
disconnect-cases P bad [] good = good refl
disconnect-cases P bad (part ∷ parts) good = bad

either : (P : ToolLine → Type 0) (word name : List ℕ) (line other : ToolLine) → (name ≡ word → P line) → P other → P (if bytes_eq name word then line else other)
either P word name line other here there = by (bytes_eq name word) refl
  where
    by : (b : Bool) → bytes_eq name word ≡ b → P (if b then line else other)
    by true e = here ((bytes_eq-Decides name word).0 e)
    by false e = there

name-cases : (P : ToolLine → Type 0) (name : List ℕ) (parts : List Term) → P Bad → (name ≡ codes "snd-value" → P (value_line (only parts))) → (name ≡ codes "snd-event" → P (event_line parts))
    → (name ≡ codes "snd-connect" → P (connect_line (only parts))) → (name ≡ codes "snd-disconnect" → P (disconnect_line parts)) → P (line_by_name name parts)
name-cases P name parts bad value event connect disconnect =
    either P (codes "snd-value") name (value_line (only parts)) _ value
    (either P (codes "snd-event") name (event_line parts) _ event
    (either P (codes "snd-connect") name (connect_line (only parts)) _ connect
    (either P (codes "snd-disconnect") name (disconnect_line parts) Bad disconnect bad)))

-- the line of a term is in shape
layer-in_shape : (l : Term-F Term) → IsToolLineInShape (line_by_layer l)
layer-in_shape (layer.Int number) = tt
layer-in_shape (layer.Str bytes) = tt
layer-in_shape (layer.List parts) = tt
layer-in_shape (layer.Appl name parts) =
    name-cases IsToolLineInShape name parts tt
    (λ e. value-cases IsToolLineInShape tt (only parts) (λ term f h. within-limits term h))
    (λ e. event-cases IsToolLineInShape tt parts (λ l h. let both = both-true (list_all is_within_limits parts) (nat_le (terms_size parts) 65536) h in (l, record { each = all-within parts both.0; together = leb-true (terms_size parts) 65536 both.1 })))
    (λ e. connect-cases IsToolLineInShape tt (only parts) (λ term name f g l. l))
    (λ e. disconnect-cases IsToolLineInShape tt parts (λ f. tt))

pub line_of-in_shape : (term : Term) → IsToolLineInShape (line_of term)
line_of-in_shape term = layer-in_shape (out-Term term)

-- one more node and level than the parts may have
abbrev IsSmall : List ℕ → List Term → Type 0
IsSmall name parts = (1 + length name + sum (map term_size parts) ≤ 65552) × (1 + greatest (map term_levels parts) ≤ 65)

greatest-within : (terms : List Term) (n : ℕ) → n ≤ 64 → list_all is_within_limits terms ≡ true → fold max n (map term_levels terms) ≤ 64
greatest-within [] n l h = l
greatest-within (term ∷ terms) n l h =
    let both = both-true (is_within_limits term) (list_all is_within_limits terms) h in
    let within = within-limits term both.0 in
    greatest-within terms (max n (term_levels term)) (omega (arith, within.levels)) both.1

only-parts : (parts : List Term) (term : Term) → only parts ≡ Some term → parts ≡ term ∷ []
only-parts [] term e = cc
only-parts (part ∷ []) term e = cc
only-parts (part ∷ other ∷ parts) term e = cc

small-one : (name : List ℕ) (parts : List Term) (term : Term) → length name ≤ 14 → only parts ≡ Some term → term_size term ≤ 65536 → term_levels term ≤ 64 → IsSmall name parts
small-one name parts term l e size levels =
    subst (IsSmall name) (sym (only-parts parts term e)) (omega (arith, l, size), omega (arith, levels))

size-of : (term : Term) (name : List ℕ) (parts : List Term) → out-Term term ≡ layer.Appl name parts → term_size term ≡ 1 + length name + sum (map term_size parts)
size-of term name parts e = fold_out-Term ℕ size_step term ∙ ap (λ (l : Term-F Term). size_step (map-Term Term ℕ term_size l)) e

levels-of : (term : Term) (name : List ℕ) (parts : List Term) → out-Term term ≡ layer.Appl name parts → term_levels term ≡ 1 + greatest (map term_levels parts)
levels-of term name parts e = fold_out-Term ℕ levels_step term ∙ ap (λ (l : Term-F Term). levels_step (map-Term Term ℕ term_levels l)) e

name-small : (name : List ℕ) (parts : List Term) → (line_by_name name parts ≡ Bad) ⊎ IsSmall name parts
name-small name parts =
    name-cases (λ line. (line ≡ Bad) ⊎ IsSmall name parts) name parts (inl refl)
    (λ e. let n : length name ≡ 9 = ap length e in value-cases (λ line. (line ≡ Bad) ⊎ IsSmall name parts) (inl refl) (only parts) (λ term f h. let w = within-limits term h in inr (small-one name parts term (omega arith) f w.size w.levels)))
    (λ e. let n : length name ≡ 9 = ap length e in event-cases (λ line. (line ≡ Bad) ⊎ IsSmall name parts) (inl refl) parts (λ l h.
    let both = both-true (list_all is_within_limits parts) (nat_le (terms_size parts) 65536) h in
    let size : terms_size parts ≤ 65536 = leb-true (terms_size parts) 65536 both.1 in
    let levels : greatest (map term_levels parts) ≤ 64 = greatest-within parts 0 (omega arith) both.0 in
    inr (omega arith, omega arith)))
    (λ e. let n : length name ≡ 11 = ap length e in connect-cases (λ line. (line ≡ Bad) ⊎ IsSmall name parts) (inl refl) (only parts) (λ term word f g l.
    let size : term_size term ≤ 65535 = omega (arith, size-of term word [] g, l) in
    let levels : term_levels term ≤ 64 = omega (arith, levels-of term word [] g) in
    inr (small-one name parts term (omega arith) f (omega arith) levels)))
    (λ e. let n : length name ≡ 14 = ap length e in disconnect-cases (λ line. (line ≡ Bad) ⊎ IsSmall name parts) (inl refl) parts (λ f. inr (subst (IsSmall name) (sym f) (omega arith, omega arith))))

-- a term that is a line is hardly larger or deeper than a term may be
pub line_of-small : (term : Term) → (line_of term ≡ Bad) ⊎ ((term_size term ≤ 65552) × (term_levels term ≤ 65))
line_of-small term = by (out-Term term) refl
  where
    by : (l : Term-F Term) → out-Term term ≡ l → (line_of term ≡ Bad) ⊎ ((term_size term ≤ 65552) × (term_levels term ≤ 65))
    by (layer.Int number) e = inl (ap line_by_layer e)
    by (layer.Str bytes) e = inl (ap line_by_layer e)
    by (layer.List parts) e = inl (ap line_by_layer e)
    by (layer.Appl name parts) e =
        elim (name-small name parts) [
          | inl bad ↦ inl (ap line_by_layer e ∙ bad)
          | inr small ↦ inr (omega (arith, size-of term name parts e, small.0), omega (arith, levels-of term name parts e, small.1))
        ]
