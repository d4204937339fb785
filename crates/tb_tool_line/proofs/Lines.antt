-- Bytes are one tool line, and the right one.
use Rattle.std.proofs.Common.{◌≡◌, inl, inr, ℕ, ◌<◌, ◌≤◌, List, length, refl, ap, sym, subst, ◌∙◌, arith}
use Rattle.std.proofs.lemmas.Bool.{cases_lt}
use Rattle.tb_terms.specs.declared.term.Term.{Term}
use Rattle.tb_terms.specs.Sizes.{term_size, term_levels}
use Rattle.tb_log.specs.declared.entry.ToolLine.{ToolLine}
use Rattle.tb_log.specs.declared.entry.ToolLine.TheVariants.{Bad}
use Rattle.tb_log.specs.Shapes.{IsToolLineInShape}
use Rattle.tb_read.specs.declared.fault.TermFault.{TermFault}
use Rattle.tb_read.specs.declared.fault.TermFault.TheVariants as fault
use Rattle.tb_read.specs.Spelling.{Reads}
use Rattle.tb_read.specs.Reading.{HasFaultWithin}
use Rattle.tb_read.proofs.Outcomes.{Passes, Cause, cause, stops_no_term}
use Rattle.tb_read.proofs.Complete.{reads_one}
use Rattle.tb_read.proofs.Ended.{OneOf, has_one}
use Rattle.tb_tool_line.specs.ToolLines.{line_of, IsToolLine}
use Rattle.tb_tool_line.proofs.Shaping.{line_of-in_shape, line_of-small}

pub read-line : (bytes : List ℕ) (term : Term) → length bytes ≤ 65536 → Reads bytes term → IsToolLine bytes (line_of term)
read-line bytes term l r = inl (term, (l, r), refl)

pub long-line : (bytes : List ℕ) → 65536 < length bytes → IsToolLine bytes Bad
long-line bytes l = inr (λ term says. absurd (omega (arith, says.0)), refl)

passed-bad : (term : Term) (f : TermFault) → Passes 65552 65 term f → line_of term ≡ Bad
passed-bad term fault.TooLarge p = elim (line_of-small term) [ inl bad ↦ bad | inr small ↦ let over : 65552 < term_size term = p in absurd (omega (arith, small.0)) ]
passed-bad term fault.TooDeep p = elim (line_of-small term) [ inl bad ↦ bad | inr small ↦ let over : 65 < term_levels term = p.1 in absurd (omega (arith, small.1)) ]
passed-bad term (fault.Syntax position) p = absurd p
passed-bad term (fault.Real position) p = absurd p
passed-bad term (fault.IntRange position) p = absurd p
passed-bad term fault.NoMemory p = absurd p

caused-bad : (bytes : List ℕ) (f : TermFault) → length bytes ≤ 65536 → (f ≡ fault.NoMemory → ⊥) → Cause 65552 65 bytes f → IsToolLine bytes Bad
caused-bad bytes f l nf (inl stop) = inr (λ term says. stops_no_term bytes f term stop says.1, refl)
caused-bad bytes f l nf (inr (inl over)) = inl (over.0, (l, over.1), sym (passed-bad over.0 f over.2))
caused-bad bytes f l nf (inr (inr e)) = absurd (nf e)

-- bytes that have a fault are a bad line
pub faulty-line : (bytes : List ℕ) (f : TermFault) → length bytes ≤ 65536 → (f ≡ fault.NoMemory → ⊥) → HasFaultWithin 65552 65 bytes f → IsToolLine bytes Bad
faulty-line bytes f l nf h = caused-bad bytes f l nf (cause 65552 65 bytes f h)

pub line-in_shape : (bytes : List ℕ) (line : ToolLine) → IsToolLine bytes line → IsToolLineInShape line
line-in_shape bytes line (inl said) = subst IsToolLineInShape (sym said.2) (line_of-in_shape said.0)
line-in_shape bytes line (inr none) = subst IsToolLineInShape (sym none.1) tt

pub lines-same : (bytes : List ℕ) (line other : ToolLine) → IsToolLine bytes line → IsToolLine bytes other → line ≡ other
lines-same bytes line other (inl said) (inl told) = said.2 ∙ ap line_of (reads_one bytes said.0 told.0 said.1.1 told.1.1) ∙ sym told.2
lines-same bytes line other (inl said) (inr none) = absurd (none.0 said.0 said.1)
lines-same bytes line other (inr none) (inl told) = absurd (none.0 told.0 told.1)
lines-same bytes line other (inr none) (inr neither) = none.1 ∙ sym neither.1

abbrev OneLine : List ℕ → Type 0
OneLine bytes = (line : ToolLine) × IsToolLine bytes line

found-line : (bytes : List ℕ) → length bytes ≤ 65536 → OneOf bytes → OneLine bytes
found-line bytes l (inl read) = (line_of read.0, read-line bytes read.0 l read.1)
found-line bytes l (inr fault) = by (cause 65536 64 bytes fault.0 fault.1)
  where
    by : Cause 65536 64 bytes fault.0 → OneLine bytes
    by (inl stop) = (Bad, inr (λ term says. stops_no_term bytes fault.0 term stop says.1, refl))
    by (inr (inl over)) = (line_of over.0, read-line bytes over.0 l over.1)
    by (inr (inr e)) = absurd (fault.2 e)

pub each-line : (bytes : List ℕ) → OneLine bytes
each-line bytes = elim (cases_lt 65536 (length bytes)) [ inl l ↦ (Bad, long-line bytes l) | inr l ↦ found-line bytes l (has_one bytes) ]
