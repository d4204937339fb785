-- The line of a step in parts: its word, the places that it shows, and the terms that it shows.
use Rattle.std.specs.Prelude.{ℕ, List, [], ◌++◌}
use Rattle.tb_terms.specs.declared.term.Term.{Term}
use Rattle.tb_log.specs.declared.entry.Place.{Place}
use Rattle.tb_log.specs.declared.entry.LabelKind.{LabelKind}
use Rattle.tb_log.specs.declared.entry.LabelKind.TheVariants as kind
use Rattle.tb_log.specs.LogText.{place_words}

-- the places that the line shows: both places of a message, none of `finish` and `halt`, the one place of any other step
abbrev pub shown_places : LabelKind → Place → Place → List ℕ
shown_places kind.Msg from to = place_words from ++ place_words to
shown_places kind.Finish from to = []
shown_places kind.Halt from to = []
shown_places kind from to = place_words from

-- the terms that the line shows: none for `finish` and `halt`
abbrev pub shown_terms : LabelKind → List Term → List Term
shown_terms kind.Finish terms = []
shown_terms kind.Halt terms = []
shown_terms kind terms = terms
