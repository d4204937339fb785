-- Lemmas on logs in which no entry is wrong.
use Rattle.std.proofs.Common.{◌≡◌, ◌∙◌, ◌+◌, ◌<◌, ◌++◌, ◌∷◌, [], ℕ, List, length, take, get_or, false, inl, inr, Result, Ok, Err, OnOk, ap, sym, subst, arith}
use Rattle.std.specs.List.{fold}
use Rattle.std.proofs.Math.Seq.{take-length}
use Rattle.std.proofs.lemmas.Bool.{false≢true}
use Rattle.std.proofs.lemmas.List.{length-take-le, take_more}
use Rattle.tb_log.specs.Shapes.{lane_count}
use Rattle.tb_log.specs.declared.entry.Entry.{Entry}
use Rattle.tb_chart.specs.declared.cast.Cast.{Cast}
use Rattle.tb_chart.specs.declared.chart.Span.{Span}
use Rattle.tb_chart.specs.declared.scene.Scene.{Scene}
use Rattle.tb_chart.specs.Ends.{ends_of}
use Rattle.tb_chart.specs.Figures.{figure}
use Rattle.tb_chart.specs.Helpers.Additions.{GoesOn, HasEnds, IsRightIn, Passes, Seated}
use Rattle.tb_chart.specs.Players.{players_after, players_of}
use Rattle.tb_chart.specs.Refused.{AreRight, IsWrong, LacksEnd}
use Rattle.tb_chart.specs.Rows.{is_shown}
use Rattle.tb_chart.specs.Tools.{tools_after, tools_of}

-- an entry that isn't shown
pub right_hidden : (scene : Scene) (span : Span) (number : ℕ) (entry : Entry) → Passes scene entry
    → false ≡ is_shown span.from span.to number (figure entry) → IsRightIn scene span number entry
right_hidden scene span number entry pass hidden = record {
  right = λ tools seated wrong. elim wrong [
    | inl it ↦ pass.not_lost tools seated it
    | inr it ↦ false≢true (hidden ∙ it.0)
  ];
}

-- one that is shown, after which the scene is `new`
pub right_shown : {A B : Type 0} (result : Result A B) (old new : Scene) (span : Span) (number : ℕ) (entry : Entry) → Passes old entry
    → GoesOn entry old new → OnOk result (HasEnds new entry (ends_of (figure entry))) → OnOk result (IsRightIn old span number entry)
right_shown (Ok it) old new span number entry pass goes has = record {
  right = λ tools seated wrong.
      let after : List (List ℕ) = tools_after tools entry in
      let ends = ends_of (figure entry) in
      elim wrong [
        | inl it ↦ pass.not_lost tools seated it
        | inr it ↦ has.there after (goes.tools tools seated)
            (subst (λ those. LacksEnd (length new.lanes.items) those after entry ends) (sym goes.players)
            (subst (λ those. LacksEnd those (players_after old.cast.now old.players.items entry) after entry ends) (sym goes.lanes) it.1))
      ];
}
right_shown (Err fault) old new span number entry pass goes has = tt

-- one entry more
right_push : (cast : Cast) (span : Span) (players : List ℕ) (tools : List (List ℕ)) (first number : ℕ) (entries : List Entry) (entry : Entry)
    → number ≡ first + length entries → AreRight cast span players tools first entries
    → (IsWrong lane_count cast span (fold (players_after cast) players entries) (fold tools_after tools entries) number entry → ⊥)
    → AreRight cast span players tools first (entries ++ entry ∷ [])
right_push cast span players tools first number [] entry place all right =
    let same : number ≡ first = omega (arith, place) in
    (subst (λ n. IsWrong lane_count cast span players tools n entry → ⊥) same right, tt)
right_push cast span players tools first number (next ∷ entries) entry place all right =
    let rest : number ≡ first + 1 + length entries = omega (arith, place) in
    (all.0, right_push cast span (players_after cast players next) (tools_after tools next) (first + 1) number entries entry rest all.1 right)

pub right_more : (scene : Scene) (cast : Cast) (span : Span) (index number : ℕ) (entries : List Entry) (entry : Entry) → index < length entries
    → entry ≡ get_or entries index entry → number ≡ index + 1 → length scene.lanes.items ≡ lane_count → scene.cast.now ≡ cast
    → scene.players.items ≡ players_of cast (take index entries) → Seated scene (tools_of (take index entries))
    → AreRight cast span cast.roots.items [] 1 (take index entries) → IsRightIn scene span number entry
    → AreRight cast span cast.roots.items [] 1 (take (index + 1) entries)
right_more scene cast span index number entries entry within here next many same before seated all is =
    let split : take (index + 1) entries ≡ take index entries ++ entry ∷ [] =
    take_more entries index entry within ∙ ap (λ (e : Entry). take index entries ++ e ∷ []) (sym here) in
    let tools : List (List ℕ) = tools_of (take index entries) in
    let one : IsWrong lane_count scene.cast.now span scene.players.items tools number entry → ⊥ =
    subst (λ those. IsWrong those scene.cast.now span scene.players.items tools number entry → ⊥) many (is.right tools seated) in
    let two : IsWrong lane_count cast span scene.players.items tools number entry → ⊥ =
    subst (λ those. IsWrong lane_count those span scene.players.items tools number entry → ⊥) same one in
    let three : IsWrong lane_count cast span (players_of cast (take index entries)) tools number entry → ⊥ =
    subst (λ those. IsWrong lane_count cast span those tools number entry → ⊥) before two in
    let long : length (take index entries) ≡ index = length-take-le index entries (omega (arith, within)) in
    let place : number ≡ 1 + length (take index entries) = omega (arith, next, long) in
    subst (λ (es : List Entry). AreRight cast span cast.roots.items [] 1 es) (sym split)
    (right_push cast span cast.roots.items [] 1 number (take index entries) entry place all three)

-- no entry is left
pub right_all : (cast : Cast) (span : Span) (index : ℕ) (entries : List Entry) → index ≡ length entries
    → AreRight cast span cast.roots.items [] 1 (take index entries) → AreRight cast span cast.roots.items [] 1 entries
right_all cast span index entries last right =
    subst (λ (es : List Entry). AreRight cast span cast.roots.items [] 1 es) (ap (λ n. take n entries) last ∙ take-length entries) right
