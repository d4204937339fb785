-- Lemmas on the rows of a chart.
use Rattle.std.proofs.Common.{◌≡◌, ◌∙◌, ◌+◌, ◌<◌, ◌++◌, ◌∷◌, [], ℕ, List, length, drop, take, get_or, ap, sym}
use Rattle.std.proofs.lemmas.List.{append_assoc, drop_more}
use Rattle.std.proofs.lemmas.List.Sums.{fold_more}
use Rattle.tb_log.specs.declared.entry.Entry.{Entry}
use Rattle.tb_chart.specs.declared.cast.Cast.{Cast}
use Rattle.tb_chart.specs.declared.chart.Span.{Span}
use Rattle.tb_chart.specs.Players.{players_after, players_of}
use Rattle.tb_chart.specs.Rows.{SeenRow, rows_from, rows_of}
use Rattle.tb_chart.specs.Tools.{tools_after, tools_of}

-- one entry more, before which the processes are `old`, and after it `players`
pub rows-more : (cast cast' : Cast) (span : Span) (old players : List ℕ) (index : ℕ) (entries : List Entry) (entry : Entry) (before now whole : List SeenRow)
    → index < length entries → entry ≡ get_or entries index entry → cast' ≡ cast → players ≡ players_after cast' old entry
    → now ≡ before ++ rows_of span players (index + 1) entry
    → before ++ rows_from cast span old (index + 1) (drop index entries) ≡ whole
    → now ++ rows_from cast span players (index + 1 + 1) (drop (index + 1) entries) ≡ whole
rows-more cast cast' span old players index entries entry before now whole within here same goes more all =
    let rest : List Entry = drop (index + 1) entries in
    let split : drop index entries ≡ entry ∷ rest = drop_more entries index entry within ∙ ap (λ (e : Entry). e ∷ rest) (sym here) in
    let after : players ≡ players_after cast old entry = goes ∙ ap (λ (c : Cast). players_after c old entry) same in
    let both : List ℕ → List SeenRow = λ those. rows_of span those (index + 1) entry ++ rows_from cast span those (index + 1 + 1) rest in
    ap (λ (rows : List SeenRow). rows ++ rows_from cast span players (index + 1 + 1) rest) more
    ∙ append_assoc before (rows_of span players (index + 1) entry) (rows_from cast span players (index + 1 + 1) rest)
    ∙ ap (λ those. before ++ both those) after
    ∙ ap (λ (es : List Entry). before ++ rows_from cast span old (index + 1) es) (sym split)
    ∙ all

-- the processes after one entry more
pub players-more : (cast cast' : Cast) (old players : List ℕ) (index : ℕ) (entries : List Entry) (entry : Entry) → index < length entries
    → entry ≡ get_or entries index entry → cast' ≡ cast → old ≡ players_of cast (take index entries) → players ≡ players_after cast' old entry
    → players ≡ players_of cast (take (index + 1) entries)
players-more cast cast' old players index entries entry within here same before goes =
    goes
    ∙ ap (λ (c : Cast). players_after c old entry) same
    ∙ ap (λ those. players_after cast those entry) before
    ∙ ap (players_after cast (players_of cast (take index entries))) here
    ∙ sym (fold_more (players_after cast) cast.roots.items entries index entry within)

-- the tools after one entry more
pub tools-more : (old : List (List ℕ)) (index : ℕ) (entries : List Entry) (entry : Entry) → index < length entries
    → entry ≡ get_or entries index entry → old ≡ tools_of (take index entries) → tools_after old entry ≡ tools_of (take (index + 1) entries)
tools-more old index entries entry within here before =
    ap (λ those. tools_after those entry) before
    ∙ ap (tools_after (tools_of (take index entries))) here
    ∙ sym (fold_more tools_after [] entries index entry within)
