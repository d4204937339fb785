-- Lemmas on the column of an end, where no lifeline is there twice.
use Rattle.std.proofs.Common.{◌≡◌, ◌∙◌, ◌+◌, ◌-◌, ◌<◌, ◌||◌, ℕ, zero, suc, List, length, get_or, Bool, true, false, not, inl, inr, Option, Some, None, AllPairs, IsTrue, refl, sym, ap, subst₂, arith}
use Rattle.std.specs.Prelude.{slice_get, nat_eq, is_some, if◌then◌else◌}
use Rattle.std.specs.Option.{option_eq}
use Rattle.std.proofs.lemmas.Bool.{and_parts, and_from, cases_eq, cases_lt, eq-eqb, eqb-true, false≢true, le-ltb, lt-ltb}
use Rattle.std.proofs.lemmas.Option.{same_Some, slice_get-get_or, slice_get_within}
use Rattle.tb_chart.specs.declared.lines.Lines.{Lines}
use Rattle.tb_chart.specs.declared.lines.ProcessLine.{ProcessLine}
use Rattle.tb_chart.specs.declared.lines.Spot.{Spot}
use Rattle.tb_chart.specs.declared.lines.Spot.TheVariants as spot
use Rattle.tb_chart.specs.declared.row.Seat.{Seat}
use Rattle.tb_chart.specs.declared.row.Who.{Who}
use Rattle.tb_chart.specs.declared.row.Who.TheVariants as who
use Rattle.tb_chart.specs.Lifelines.{IsOnlyColumn, OfTwoProcesses, OfTwoTools, Once, is_known, is_line_of, is_process, is_tool, is_tool_in, notes_count, spot_at, spot_behind}

-- the column of a lifeline
abbrev column_in : Lines → Spot → ℕ
column_in lines (spot.Process index) = index
column_in lines spot.Notes = length lines.processes.items
column_in lines (spot.Tool index) = length lines.processes.items + notes_count lines + index

after_processes : (processes more : ℕ) (notes : Bool) (lines : Lines) → processes ≡ length lines.processes.items → notes ≡ lines.has_notes
    → column_in lines (spot_behind notes more) ≡ processes + more
after_processes processes zero true lines many is = sym many ∙ omega arith
after_processes processes (suc more) true lines many is =
    ap (λ b. length lines.processes.items + (if b then 1 else 0) + more) (sym is) ∙ omega (arith, many)
after_processes processes more false lines many is =
    ap (λ b. length lines.processes.items + (if b then 1 else 0) + more) (sym is) ∙ omega (arith, many)

column_back : (lines : Lines) (column : ℕ) → column_in lines (spot_at lines column) ≡ column
column_back lines column = elim (cases_lt column (length lines.processes.items)) [
  | inl within ↦
      ap (λ b. column_in lines (if b then spot.Process column else spot_behind lines.has_notes (column - length lines.processes.items)))
      (lt-ltb column (length lines.processes.items) within)
  | inr behind ↦
      ap (λ b. column_in lines (if b then spot.Process column else spot_behind lines.has_notes (column - length lines.processes.items)))
      (le-ltb column (length lines.processes.items) behind)
      ∙ after_processes (length lines.processes.items) (column - length lines.processes.items) lines.has_notes lines refl refl
      ∙ omega (arith, behind)
]

-- two elements that aren't of two are one
module _ {X : Type 0} (R : X → X → Type 0) where
  not_before : (xs : List X) (i j : ℕ) (x y : X) → AllPairs R xs → slice_get xs i ≡ Some x → slice_get xs j ≡ Some y → (R x y → ⊥) → (i < j → ⊥)
  not_before xs i j x y apart first second one below =
      let inside : i < length xs = slice_get_within xs i x first in
      let within : j < length xs = slice_get_within xs j y second in
      let is_x : get_or xs i x ≡ x = same_Some (get_or xs i x) x (sym (slice_get-get_or xs i x inside) ∙ first) in
      let is_y : get_or xs j x ≡ y = same_Some (get_or xs j x) y (sym (slice_get-get_or xs j x within) ∙ second) in
      one (subst₂ R is_x is_y (apart i j x below within))

  one_place : (xs : List X) (i j : ℕ) (x y : X) → AllPairs R xs → slice_get xs i ≡ Some x → slice_get xs j ≡ Some y → (R x y → ⊥) → (R y x → ⊥)
      → i ≡ j
  one_place xs i j x y apart first second one back = elim (cases_eq i j) [
    | inl same ↦ same
    | inr differ ↦ elim (cases_lt i j) [
      | inl below ↦ absurd (not_before xs i j x y apart first second one below)
      | inr above ↦ absurd (not_before xs j i y x apart second first back (omega (arith, differ, above)))
    ]
  ]

process_place : (lines : Lines) (number i j : ℕ) (first second : Option ProcessLine) → Once lines → slice_get lines.processes.items i ≡ first
    → slice_get lines.processes.items j ≡ second → is_process number first ≡ true → is_process number second ≡ true → i ≡ j
process_place lines number i j None second once here there is also = absurd (false≢true is)
process_place lines number i j (Some first) None once here there is also = absurd (false≢true also)
process_place lines number i j (Some first) (Some second) once here there is also =
    let one : first.number ≡ second.number = eqb-true first.number number is ∙ sym (eqb-true second.number number also) in
    one_place OfTwoProcesses lines.processes.items i j first second once.processes here there (λ two. two one) (λ two. two (sym one))

-- two lifelines of a tool with a name are of one tool
kind_known : (kind line : Option ℕ) → is_some kind ≡ true → (not (is_some kind) || option_eq nat_eq line kind) ≡ true → line ≡ kind
kind_known None line known is = absurd (false≢true known)
kind_known (Some kind) None known is = absurd (false≢true is)
kind_known (Some kind) (Some line) known is = ap Some (eqb-true line kind is)

kind_one : (kind line : Option ℕ) → line ≡ kind → (not (is_some kind) || option_eq nat_eq line kind) ≡ true
kind_one None line is = refl
kind_one (Some kind) line is = ap (λ it. option_eq nat_eq it (Some kind)) is ∙ eq-eqb kind kind refl

one_tool : (seat first second : Seat) → is_some seat.kind ≡ true → is_tool seat first ≡ true → is_tool seat second ≡ true → is_tool first second ≡ true
one_tool seat first second known is also =
    let one = and_parts (nat_eq first.lane seat.lane) (not (is_some seat.kind) || option_eq nat_eq first.kind seat.kind) is in
    let two = and_parts (nat_eq second.lane seat.lane) (not (is_some seat.kind) || option_eq nat_eq second.kind seat.kind) also in
    let lane : second.lane ≡ first.lane = eqb-true second.lane seat.lane two.0 ∙ sym (eqb-true first.lane seat.lane one.0) in
    let kind : second.kind ≡ first.kind = kind_known seat.kind second.kind known two.1 ∙ sym (kind_known seat.kind first.kind known one.1) in
    and_from (nat_eq second.lane first.lane) (not (is_some first.kind) || option_eq nat_eq second.kind first.kind)
    (eq-eqb second.lane first.lane lane) (kind_one first.kind second.kind kind)

tool_place : (lines : Lines) (seat : Seat) (i j : ℕ) (first second : Option Seat) → Once lines → is_some seat.kind ≡ true
    → slice_get lines.tools.items i ≡ first → slice_get lines.tools.items j ≡ second → is_tool_in seat first ≡ true → is_tool_in seat second ≡ true
    → i ≡ j
tool_place lines seat i j None second once known here there is also = absurd (false≢true is)
tool_place lines seat i j (Some first) None once known here there is also = absurd (false≢true also)
tool_place lines seat i j (Some first) (Some second) once known here there is also =
    one_place OfTwoTools lines.tools.items i j first second once.tools here there
    (λ two. false≢true (sym two.0 ∙ one_tool seat first second known is also))
    (λ two. false≢true (sym two.0 ∙ one_tool seat second first known also is))

one_spot : (lines : Lines) (it : Who) (a b : Spot) → Once lines → is_known it ≡ true → is_line_of lines it a ≡ true → is_line_of lines it b ≡ true → a ≡ b
one_spot lines (who.Process number) (spot.Process i) (spot.Process j) once known is also =
    ap spot.Process (process_place lines number i j (slice_get lines.processes.items i) (slice_get lines.processes.items j) once refl refl is also)
one_spot lines (who.Process number) (spot.Process i) spot.Notes once known is also = absurd (false≢true also)
one_spot lines (who.Process number) (spot.Process i) (spot.Tool j) once known is also = absurd (false≢true also)
one_spot lines (who.Process number) spot.Notes b once known is also = absurd (false≢true is)
one_spot lines (who.Process number) (spot.Tool i) b once known is also = absurd (false≢true is)
one_spot lines (who.Tool seat) (spot.Tool i) (spot.Tool j) once known is also =
    ap spot.Tool (tool_place lines seat i j (slice_get lines.tools.items i) (slice_get lines.tools.items j) once known refl refl is also)
one_spot lines (who.Tool seat) (spot.Tool i) (spot.Process j) once known is also = absurd (false≢true also)
one_spot lines (who.Tool seat) (spot.Tool i) spot.Notes once known is also = absurd (false≢true also)
one_spot lines (who.Tool seat) (spot.Process i) b once known is also = absurd (false≢true is)
one_spot lines (who.Tool seat) spot.Notes b once known is also = absurd (false≢true is)
one_spot lines who.Notes spot.Notes spot.Notes once known is also = refl
one_spot lines who.Notes spot.Notes (spot.Process j) once known is also = absurd (false≢true also)
one_spot lines who.Notes spot.Notes (spot.Tool j) once known is also = absurd (false≢true also)
one_spot lines who.Notes (spot.Process i) b once known is also = absurd (false≢true is)
one_spot lines who.Notes (spot.Tool i) b once known is also = absurd (false≢true is)

-- the column that was found is the only one
pub only_column : (lines : Lines) (it : Who) (found : ℕ) → IsTrue (is_line_of lines it (spot_at lines found)) → Once lines → IsTrue (is_known it)
    → IsOnlyColumn lines it found
only_column lines it found at once known = λ column is.
    sym (column_back lines column)
    ∙ ap (column_in lines) (one_spot lines it (spot_at lines column) (spot_at lines found) once known is at)
    ∙ column_back lines found
