-- Lemmas on the names of tools at the ends of rows.
use Rattle.std.proofs.Common.{◌≡◌, ◌++◌, ◌∷◌, [], ℕ, List, true, Option, Result, OnOk, All, sym, subst}
use Rattle.std.proofs.lemmas.List.Elements.{All-push}
use Rattle.tb_log.specs.declared.entry.Entry.{Entry}
use Rattle.tb_chart.specs.declared.cast.Cast.{Cast}
use Rattle.tb_chart.specs.declared.figure.End.{End}
use Rattle.tb_chart.specs.declared.figure.Figure.{Figure}
use Rattle.tb_chart.specs.declared.row.Who.{Who}
use Rattle.tb_chart.specs.declared.row.Row.{Row}
use Rattle.tb_chart.specs.declared.scene.Scene.{Scene}
use Rattle.tb_chart.specs.Ends.{ends_of}
use Rattle.tb_chart.specs.Figures.{figure}
use Rattle.tb_chart.specs.Helpers.Additions.{GoesOn}
use Rattle.tb_chart.specs.Named.{NamesTools, are_named}

named_row : (tools names : List (List ℕ)) (entry : Entry) (shown : Figure) (wanted : Option (End × End)) (ends : Option (Who × Who)) (it : Row)
    → are_named names entry wanted ends ≡ true → names ≡ tools → shown ≡ figure entry → wanted ≡ ends_of shown
    → it.entry.now ≡ entry → it.ends ≡ ends → are_named tools it.entry.now (ends_of (figure it.entry.now)) it.ends ≡ true
named_row tools names entry shown wanted ends it named same seen is its_entry its_ends = cc

-- one row more, of an entry whose tools are named
pub named_push : (tools names : List (List ℕ)) (entry : Entry) (shown : Figure) (wanted : Option (End × End)) (ends : Option (Who × Who)) (it : Row)
    (rows now : List Row) → are_named names entry wanted ends ≡ true → names ≡ tools → shown ≡ figure entry → wanted ≡ ends_of shown
    → it.entry.now ≡ entry → it.ends ≡ ends → now ≡ rows ++ it ∷ [] → All (NamesTools tools) rows → All (NamesTools tools) now
named_push tools names entry shown wanted ends it rows now named same seen is its_entry its_ends pushed all =
    let one : NamesTools tools it = named_row tools names entry shown wanted ends it named same seen is its_entry its_ends in
    subst (λ those. All (NamesTools tools) those) (sym pushed) (All-push (NamesTools tools) rows it all one)

-- the same where the cast is that of the scene before the entry
pub named_goes : {A B : Type 0} (entry : Entry) (old new : Scene) (rows now : List Row) (result : Result A B) → GoesOn entry old new
    → OnOk result (All (NamesTools new.cast.now.tools.items) rows → All (NamesTools new.cast.now.tools.items) now)
    → OnOk result (All (NamesTools old.cast.now.tools.items) rows → All (NamesTools old.cast.now.tools.items) now)
named_goes entry old new rows now result goes named =
    subst (λ (cast : Cast). OnOk result (All (NamesTools cast.tools.items) rows → All (NamesTools cast.tools.items) now)) goes.cast named
