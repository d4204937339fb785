-- Lemmas on the need of lifelines.
use Rattle.std.proofs.Common.{◌≡◌, ◌∙◌, ◌++◌, ◌∷◌, ◌&&◌, [], ℕ, List, Bool, true, Option, Some, None, IsTrue, inl, inr, refl, sym, ap, subst}
use Rattle.std.specs.Prelude.{nat_eq, nat_le}
use Rattle.std.specs.List.{list_any}
use Rattle.std.specs.Option.{option_eq}
use Rattle.std.proofs.lemmas.Bool.{and_from, eq-eqb, le-leb, or_cases}
use Rattle.tb_chart.specs.declared.lines.Lines.{Lines}
use Rattle.tb_chart.specs.declared.row.Row.{Row}
use Rattle.tb_chart.specs.declared.row.Who.{Who}
use Rattle.tb_chart.specs.declared.row.Who.TheVariants as who
use Rattle.tb_chart.specs.Helpers.Additions.{OnlyPlayers, StayNeeded, are_all}
use Rattle.tb_chart.specs.Lifelines.{HasOnly, is_end, is_first, is_needed, is_same}
use Rattle.tb_chart.proofs.ListLemmas.{any_last, any_push, or_left, or_right}

kind_self : (kind : Option ℕ) → option_eq nat_eq kind kind ≡ true
kind_self None = refl
kind_self (Some kind) = eq-eqb kind kind refl

same_self : (it : Who) → is_same it it ≡ true
same_self (who.Process number) = eq-eqb number number refl
same_self (who.Tool seat) = and_from (nat_eq seat.lane seat.lane) (option_eq nat_eq seat.kind seat.kind) (eq-eqb seat.lane seat.lane refl) (kind_self seat.kind)
same_self who.Notes = refl

-- lifelines that pass a test pass one that lets through more
more : (test next : Who → Bool) (lines : Lines) → ((it : Who) → test it ≡ true → next it ≡ true) → HasOnly test lines → HasOnly next lines
more test next lines through only = record {
  processes = λ k d within. through _ (only.processes k d within);
  notes = λ has. through who.Notes (only.notes has);
  tools = λ k d within. through _ (only.tools k d within);
}

needed_more : (all : Bool) (many : ℕ) (rows : List Row) (row : Row) (it : Who) → is_needed all many rows it ≡ true
    → is_needed all many (rows ++ row ∷ []) it ≡ true
needed_more all many rows row it is =
    elim (or_cases (list_any (λ (row : Row). is_end it row.ends) rows) (all && is_first many it) is) [
      | inl at ↦ or_left (list_any (λ (row : Row). is_end it row.ends) (rows ++ row ∷ [])) (all && is_first many it)
          (any_push (λ (row : Row). is_end it row.ends) rows row at)
      | inr first ↦ or_right (list_any (λ (row : Row). is_end it row.ends) (rows ++ row ∷ [])) (all && is_first many it) first
    ]

needed_last : (all : Bool) (many : ℕ) (rows : List Row) (row : Row) (it : Who) → is_end it row.ends ≡ true
    → is_needed all many (rows ++ row ∷ []) it ≡ true
needed_last all many rows row it is =
    or_left (list_any (λ (row : Row). is_end it row.ends) (rows ++ row ∷ [])) (all && is_first many it)
    (any_last (λ (row : Row). is_end it row.ends) rows row is)

all_ends : (test : Who → Bool) (ends : Option (Who × Who)) → ((it : Who) → is_end it ends ≡ true → test it ≡ true) → are_all test ends ≡ true
all_ends test None passes = refl
all_ends test (Some ends) passes =
    and_from (test ends.0) (test ends.1)
    (passes ends.0 (or_left (is_same ends.0 ends.0) (is_same ends.0 ends.1) (same_self ends.0)))
    (passes ends.1 (or_right (is_same ends.1 ends.0) (is_same ends.1 ends.1) (same_self ends.1)))

-- one row more, and the lifelines of its ends
pub needed_push : (old new : Lines) (before rows : List Row) (row : Row) (ends : Option (Who × Who))
    → ((test : Who → Bool) → IsTrue (are_all test ends) → HasOnly test old → HasOnly test new) → row.ends ≡ ends → rows ≡ before ++ row ∷ []
    → StayNeeded before rows old new
needed_push old new before rows row ends adds is pushed all many only =
    let test : Who → Bool = is_needed all many (before ++ row ∷ []) in
    let at : (it : Who) → is_end it ends ≡ true → test it ≡ true = λ it here.
    needed_last all many before row it (ap (is_end it) is ∙ here) in
    let so : HasOnly test new =
    adds test (all_ends test ends at) (more (is_needed all many before) test old (needed_more all many before row) only) in
    subst (λ those. HasOnly (is_needed all many those) new) (sym pushed) so

-- the processes with which a script begins
pub needed_first : (many : ℕ) (old new : Lines) → OnlyPlayers many old new → ((test : Who → Bool) → HasOnly test old)
    → HasOnly (is_needed true many []) new
needed_first many old new adds none =
    adds (is_needed true many []) (λ number from to. and_from (nat_le 1 number) (nat_le number many) (le-leb 1 number from) (le-leb number many to))
    (none (is_needed true many []))
