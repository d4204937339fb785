-- Each row of the table is that of its own command.
use Rattle.std.proofs.Common.{◌≡◌, ℕ, Bool, true, false, cond, List, [], ◌∷◌, Some, bytes_eq, refl, subst}
use Rattle.std.specs.Bool.{⊤}
use Rattle.std.specs.List.{find}
use Rattle.tb_cli.specs.Table.{Row, table, row_named}
use Rattle.tb_cli.specs.Helpers.Fitting.{row_by}

abbrev AreBy : List Row → Type 0
AreBy [] = ⊤
AreBy (row ∷ rows) = (row ≡ row_by row.verb) × AreBy rows

found-by : (test : Row → Bool) (rows : List Row) (row : Row) → AreBy rows → find test rows ≡ Some row → row ≡ row_by row.verb
found-by test [] row all e = absurd cc
found-by test (first ∷ rows) row all e = by (test first) (found-by test rows row all.1) e where
  by : (b : Bool) → (find test rows ≡ Some row → row ≡ row_by row.verb) → cond b (Some first) (find test rows) ≡ Some row → row ≡ row_by row.verb
  by true behind h = let same : first ≡ row = cc in subst (λ (r : Row). r ≡ row_by r.verb) same all.0
  by false behind h = behind h

pub row-by : (word : List ℕ) (row : Row) → row_named word ≡ Some row → row ≡ row_by row.verb
row-by word row e = found-by (λ (r : Row). bytes_eq r.word word) table row (refl, (refl, (refl, (refl, (refl, (refl, tt)))))) e
