-- Lemmas on the reasons why a log has no chart.
use Rattle.std.proofs.Common.{◌≡◌, ◌∙◌, ◌+◌, ◌<◌, ◌++◌, ◌∷◌, [], ℕ, List, length, drop, take, get_or, true, inl, inr, refl, Result, Err, IfErr, ap, sym, subst, arith}
use Rattle.std.proofs.lemmas.List.{drop_more, length-take-le, take-append-drop}
use Rattle.tb_log.specs.Shapes.{lane_count}
use Rattle.tb_log.specs.declared.entry.Entry.{Entry}
use Rattle.tb_chart.specs.declared.cast.Cast.{Cast}
use Rattle.tb_chart.specs.declared.chart.Span.{Span}
use Rattle.tb_chart.specs.declared.fault.ChartFault.{ChartFault}
use Rattle.tb_chart.specs.declared.fault.ChartFault.TheVariants as fault
use Rattle.tb_chart.specs.declared.scene.Scene.{Scene}
use Rattle.tb_chart.specs.Ends.{ends_of}
use Rattle.tb_chart.specs.Figures.{figure}
use Rattle.tb_chart.specs.Helpers.Additions.{GoesOn, IsEndFault, IsEntryFault, IsLostIn, Seated}
use Rattle.tb_chart.specs.Players.{players_after, players_of}
use Rattle.tb_chart.specs.Refused.{AreRight, IsRefused, LacksEnd, MayFail}
use Rattle.tb_chart.specs.Rows.{is_shown}
use Rattle.tb_chart.specs.Tools.{tools_after, tools_of}

-- the fault of an entry that isn't followed
pub lost_fault : (scene : Scene) (span : Span) (number : ℕ) (entry : Entry) → IsLostIn scene entry
    → IsEntryFault scene span number entry (fault.Line number)
lost_fault scene span number entry lost = (
  refl,
  λ tools seated. elim (lost tools seated) [
    | inl it ↦ inl (inl it)
    | inr it ↦ inr it
  ],
)

-- the fault of an entry that is shown and lacks an end: after it the scene is `new`
pub end_fault : (old new : Scene) (span : Span) (number : ℕ) (entry : Entry) (it : ChartFault)
    → true ≡ is_shown span.from span.to number (figure entry) → GoesOn entry old new → IsEndFault new number entry it
    → IsEntryFault old span number entry it
end_fault old new span number entry (fault.Line named) shown goes is = (
  is.0,
  λ tools seated.
      let after : List (List ℕ) = tools_after tools entry in
      let ends = ends_of (figure entry) in
      inl (inr (
        sym shown,
        subst (λ those. LacksEnd those (players_after old.cast.now old.players.items entry) after entry ends) goes.lanes
            (subst (λ those. LacksEnd (length new.lanes.items) those after entry ends) goes.players (is.1 after (goes.tools tools seated))),
      )),
)
end_fault old new span number entry fault.NoMemory shown goes is = tt

-- the fault of a log whose entry at `index` is the first wrong one
pub refused_at : (scene : Scene) (cast : Cast) (span : Span) (index number : ℕ) (entries : List Entry) (entry : Entry) (it : ChartFault)
    → index < length entries → entry ≡ get_or entries index entry → number ≡ index + 1 → length scene.lanes.items ≡ lane_count → scene.cast.now ≡ cast
    → scene.players.items ≡ players_of cast (take index entries) → Seated scene (tools_of (take index entries))
    → AreRight cast span cast.roots.items [] 1 (take index entries) → IsEntryFault scene span number entry it → IsRefused cast span entries it
refused_at scene cast span index number entries entry (fault.Line named) within here next many same before seated right is =
    let split : entries ≡ take index entries ++ entry ∷ drop (index + 1) entries =
    sym (take-append-drop index entries)
    ∙ ap (λ (rest : List Entry). take index entries ++ rest) (drop_more entries index entry within)
    ∙ ap (λ (e : Entry). take index entries ++ e ∷ drop (index + 1) entries) (sym here) in
    let tools : List (List ℕ) = tools_of (take index entries) in
    let one : MayFail lane_count scene.cast.now span scene.players.items tools number entry =
    subst (λ those. MayFail those scene.cast.now span scene.players.items tools number entry) many (is.1 tools seated) in
    let two : MayFail lane_count cast span scene.players.items tools number entry =
    subst (λ those. MayFail lane_count those span scene.players.items tools number entry) same one in
    let three : MayFail lane_count cast span (players_of cast (take index entries)) tools number entry =
    subst (λ those. MayFail lane_count cast span those tools number entry) before two in
    let long : length (take index entries) ≡ index = length-take-le index entries (omega (arith, within)) in
    record {
      before = take index entries;
      entry = entry;
      after = drop (index + 1) entries;
      parts = split;
      place = is.0 ∙ next ∙ ap (λ n. n + 1) (sym long);
      right = right;
      wrong = subst (λ n. MayFail lane_count cast span (players_of cast (take index entries)) tools n entry) (sym is.0) three;
    }
refused_at scene cast span index number entries entry fault.NoMemory within here next many same before seated right is = tt

-- the same of a call that returns the fault
pub refused_by : {A : Type 0} (result : Result A ChartFault) (scene : Scene) (cast : Cast) (span : Span) (index number : ℕ) (entries : List Entry)
    (entry : Entry) (it : ChartFault) → result ≡ Err it → index < length entries → entry ≡ get_or entries index entry → number ≡ index + 1
    → length scene.lanes.items ≡ lane_count → scene.cast.now ≡ cast → scene.players.items ≡ players_of cast (take index entries)
    → Seated scene (tools_of (take index entries)) → AreRight cast span cast.roots.items [] 1 (take index entries)
    → IsEntryFault scene span number entry it → IfErr result (IsRefused cast span entries)
refused_by result scene cast span index number entries entry it is within here next many same before seated right wrong =
    subst (λ those. IfErr those (IsRefused cast span entries)) (sym is)
    (refused_at scene cast span index number entries entry it within here next many same before seated right wrong)
