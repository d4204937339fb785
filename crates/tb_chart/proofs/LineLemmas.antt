-- Lemmas on the lifelines of a chart.
use Rattle.std.proofs.Common.{◌≡◌, ◌≢◌, ◌∙◌, ◌+◌, ◌-◌, ◌<◌, ◌≤◌, ◌++◌, ◌∷◌, [], ℕ, zero, suc, List, length, take, get_or, Bool, true, false, inl, inr, Option, Some, None, All, AllPairs, IsTrue, refl, sym, ap, subst, subst₂, arith}
use Rattle.std.specs.Prelude.{slice_get, nat_lt, is_some, unwrap_or, option_and_then, if◌then◌else◌, Result, Ok, Err, OnOk}
use Rattle.std.specs.List.{list_any}
use Rattle.std.proofs.lemmas.Bool.{and_parts, and_from, cases_eq, false≢true, lt-ltb, le-ltb}
use Rattle.std.proofs.Math.Seq.{take-length}
use Rattle.std.proofs.lemmas.List.Elements.{All-push}
use Rattle.std.proofs.lemmas.Option.{none-some, same_Some, slice_get-get_or, slice_get_within}
use Rattle.tb_log.specs.declared.entry.Entry.{Entry}
use Rattle.tb_chart.specs.declared.cast.Cast.{Cast}
use Rattle.tb_chart.specs.declared.lines.Lines.{Lines}
use Rattle.tb_chart.specs.declared.lines.ProcessLine.{ProcessLine}
use Rattle.tb_chart.specs.declared.row.Row.{Row}
use Rattle.tb_chart.specs.declared.row.Seat.{Seat}
use Rattle.tb_chart.specs.declared.row.Who.{Who}
use Rattle.tb_chart.specs.declared.row.Who.TheVariants as who
use Rattle.tb_chart.specs.Helpers.Additions.{Adds, AddsTool, KeepBodies, Placed, Puts, Sound, Stay, are_all, are_players, is_player}
use Rattle.tb_chart.specs.Lifelines.{HasBody, HasFirst, HasLines, HasOnly, Once, OfTwoTools, has_line, has_process, have_lines, is_line_of, is_process, is_tool, is_tool_in, notes_count, place_of, spot_at, spot_behind}
use Rattle.tb_chart.specs.Numbers.{numbered}
use Rattle.tb_chart.specs.Players.{players_of}
use Rattle.tb_chart.specs.declared.lines.Spot.TheVariants as spot
use Rattle.tb_chart.proofs.PlaceLemmas.{placed_push, process_stays, process_there}

-- both ends of a row
stay_both : (old new : Lines) (ends : Option (Who × Who)) → Stay old new → IsTrue (have_lines old ends) → IsTrue (have_lines new ends)
stay_both old new None stay have = have
stay_both old new (Some ends) stay have =
    let parts = and_parts (has_line old ends.0) (has_line old ends.1) have in
    and_from (has_line new ends.0) (has_line new ends.1) (stay ends.0 parts.0) (stay ends.1 parts.1)

-- one row more
pub lines_push : (old new : Lines) (rows now : List Row) (it : Row) (ends : Option (Who × Who)) → Stay old new → IsTrue (have_lines new ends)
    → it.ends ≡ ends → now ≡ rows ++ it ∷ [] → All (HasLines old) rows → All (HasLines new) now
lines_push old new rows now it ends stay has its_ends pushed all =
    let before : All (HasLines new) rows = λ k d within. stay_both old new (get_or rows k d).ends stay (all k d within) in
    let one : HasLines new it = subst (λ those. IsTrue (have_lines new those)) (sym its_ends) has in
    subst (λ those. All (HasLines new) those) (sym pushed) (All-push (HasLines new) rows it before one)

-- two calls that add a lifeline
pub adds_both : (players : List ℕ) (from to : Who) (old mid new : Lines) → Adds players from old mid → Adds players to mid new
    → IsTrue (are_players players (Some (from, to))) → IsTrue (have_lines new (Some (from, to)))
adds_both players from to old mid new one two are =
    let parts = and_parts (is_player players from) (is_player players to) are in
    and_from (has_line new from) (has_line new to) (two.stay from (one.there parts.0)) (two.there parts.1)

pub stay_through : (players : List ℕ) (from to : Who) (old mid new : Lines) → Adds players from old mid → Adds players to mid new → Stay old new
stay_through players from to old mid new one two = λ it has. two.stay it (one.stay it has)

pub sound_through : (players : List ℕ) (from to : Who) (old mid new : Lines) → Adds players from old mid → Adds players to mid new
    → Sound players old → Sound players new
sound_through players from to old mid new one two sound = two.sound (one.sound sound)

pub only_through : (players : List ℕ) (from to : Who) (old mid new : Lines) → Adds players from old mid → Adds players to mid new
    → (test : Who → Bool) → IsTrue (are_all test (Some (from, to))) → HasOnly test old → HasOnly test new
only_through players from to old mid new one two test are only =
    let parts = and_parts (test from) (test to) are in
    two.only test parts.1 (one.only test parts.0 only)

-- lifelines of processes that stay as they are
sound_same : (players : List ℕ) (old new : Lines) → new.processes.items ≡ old.processes.items → new.places.items ≡ old.places.items
    → (AllPairs OfTwoTools old.tools.items → AllPairs OfTwoTools new.tools.items) → Sound players old → Sound players new
sound_same players old new same places tools sound = record {
  bodies = subst (λ those. All (HasBody players) those) (sym same) sound.bodies;
  placed = subst₂ Placed (sym same) (sym places) sound.placed;
  tools = tools sound.tools;
}

-- one lifeline more
sound_push : (players : List ℕ) (number body : ℕ) (line : ProcessLine) (old new : Lines) → numbered players number ≡ Some body
    → Puts number (length old.processes.items) old.places.items new.places.items → line.number ≡ number → line.body ≡ body
    → new.processes.items ≡ old.processes.items ++ line ∷ [] → new.tools.items ≡ old.tools.items → number ≢ 0
    → has_process old.processes.items old.places.items number ≡ false → Sound players old → Sound players new
sound_push players number body line old new player puts is is_body pushed tools some none sound =
    let one : HasBody players line = ap (numbered players) is ∙ player ∙ ap Some (sym is_body) in
    record {
      bodies = subst (λ those. All (HasBody players) those) (sym pushed) (All-push (HasBody players) old.processes.items line sound.bodies one);
      placed = placed_push number old.processes.items new.processes.items line old.places.items new.places.items puts is pushed some none sound.placed;
      tools = subst (λ those. AllPairs OfTwoTools those) (sym tools) sound.tools;
    }

-- processes more
pub sound_goes : (old new : List ℕ) (lines : Lines) → KeepBodies old new → Sound old lines → Sound new lines
sound_goes old new lines keep sound = record {
  bodies = λ k d within. keep (get_or lines.processes.items k d).number (get_or lines.processes.items k d).body (sound.bodies k d within);
  placed = sound.placed;
  tools = sound.tools;
}

-- no process has two lifelines, since its place is one
same_place : (lines : Lines) (i j : ℕ) (d : ProcessLine) → Placed lines.processes.items lines.places.items → i < length lines.processes.items
    → j < length lines.processes.items → (get_or lines.processes.items i d).number ≡ (get_or lines.processes.items j d).number → i ≡ j
same_place lines i j d placed first second same =
    same_Some i j (sym (placed i d first) ∙ ap (place_of lines.places.items) same ∙ placed j d second)

pub sound_once : (players : List ℕ) (lines : Lines) → Sound players lines → Once lines
sound_once players lines sound = record {
  processes = λ i j d below within. λ same.
      let first : i < length lines.processes.items = omega (arith, below, within) in
      let one : i ≡ j = same_place lines i j d sound.placed first within same in
      omega (arith, below, one);
  tools = sound.tools;
}

player_there : (players : List ℕ) (number index : ℕ) → number ≡ index + 1 → index < length players → is_some (numbered players number) ≡ true
player_there players zero index is within = absurd (omega (arith, is))
player_there players (suc number) index is within =
    let at : number < length players = omega (arith, is, within) in
    ap (λ it. is_some it) (slice_get-get_or players number 0 at)

-- the first processes, and the next one
pub first_more : (players : List ℕ) (number index : ℕ) (old new : Lines) → number ≡ index + 1 → index < length players
    → Adds players (who.Process number) old new → HasFirst index old → HasFirst (index + 1) new
first_more players number index old new is within adds first = λ other from to. elim (cases_eq other number) [
  | inl same ↦ subst (λ it. IsTrue (has_line new (who.Process it))) (sym same) (adds.there (player_there players number index is within))
  | inr apart ↦ adds.stay (who.Process other) (first other from (omega (arith, to, is, apart)))
]

not_zero : (players : List ℕ) (number body : ℕ) → numbered players number ≡ Some body → number ≢ 0
not_zero players zero body player = absurd (none-some body player)
not_zero players (suc number) body player = λ same. absurd (omega (arith, same))

process_stay : (number : ℕ) (line : ProcessLine) (old new : Lines) (it : Who)
    → Puts number (length old.processes.items) old.places.items new.places.items → line.number ≡ number
    → new.processes.items ≡ old.processes.items ++ line ∷ [] → new.tools.items ≡ old.tools.items → new.has_notes ≡ old.has_notes → number ≢ 0
    → IsTrue (has_line old it) → IsTrue (has_line new it)
process_stay number line old new (who.Process other) puts is pushed tools notes some has =
    process_stays number old.processes.items new.processes.items line old.places.items new.places.items other puts is pushed some has
process_stay number line old new (who.Tool seat) puts is pushed tools notes some has = ap (λ those. list_any (is_tool seat) those) tools ∙ has
process_stay number line old new who.Notes puts is pushed tools notes some has = notes ∙ has

only_push : (test : Who → Bool) (number : ℕ) (line : ProcessLine) (old new : Lines) → line.number ≡ number
    → new.processes.items ≡ old.processes.items ++ line ∷ [] → new.tools.items ≡ old.tools.items → new.has_notes ≡ old.has_notes
    → IsTrue (test (who.Process number)) → HasOnly test old → HasOnly test new
only_push test number line old new is pushed tools notes it only =
    let P : ProcessLine → Type 0 = λ (one : ProcessLine). IsTrue (test (who.Process one.number)) in
    let one : P line = subst (λ n. IsTrue (test (who.Process n))) (sym is) it in
    record {
      processes = subst (λ those. All P those) (sym pushed) (All-push P old.processes.items line only.processes one);
      notes = λ has. only.notes (sym notes ∙ has);
      tools = subst (λ those. All (λ (line : Seat). IsTrue (test (who.Tool line))) those) (sym tools) only.tools;
    }

-- a process: its number is not 0, since it is one of the processes
pub adds_process : (players : List ℕ) (number body : ℕ) (line : ProcessLine) (old new : Lines) → numbered players number ≡ Some body
    → Puts number (length old.processes.items) old.places.items new.places.items → line.number ≡ number → line.body ≡ body
    → new.processes.items ≡ old.processes.items ++ line ∷ [] → new.tools.items ≡ old.tools.items → new.has_notes ≡ old.has_notes
    → has_process old.processes.items old.places.items number ≡ false → Adds players (who.Process number) old new
adds_process players number body line old new player puts is is_body pushed tools notes none =
    let some : number ≢ 0 = not_zero players number body player in
    record {
      there = λ one. process_there number old.processes.items new.processes.items line old.places.items new.places.items puts is pushed some;
      stay = λ it has. process_stay number line old new it puts is pushed tools notes some has;
      sound = λ sound. sound_push players number body line old new player puts is is_body pushed tools some none sound;
      only = λ test it only. only_push test number line old new is pushed tools notes it only;
    }

-- there is no such process
pub adds_nobody : (players : List ℕ) (number : ℕ) (lines : Lines) → None ≡ numbered players number → Adds players (who.Process number) lines lines
adds_nobody players number lines none = record {
  there = λ one. absurd (false≢true (ap (λ it. is_some it) none ∙ one));
  stay = λ it has. has;
  sound = λ sound. sound;
  only = λ test it only. only;
}

-- it is there already
pub adds_same : (players : List ℕ) (it : Who) (lines : Lines) → IsTrue (has_line lines it) → Adds players it lines lines
adds_same players it lines has = record { there = λ one. has; stay = λ it has. has; sound = λ sound. sound; only = λ test it only. only }

tool_stay : (seat : Seat) (old new : Lines) (it : Who) → AddsTool seat old.tools.items new.tools.items → new.processes.items ≡ old.processes.items
    → new.places.items ≡ old.places.items → new.has_notes ≡ old.has_notes → IsTrue (has_line old it) → IsTrue (has_line new it)
tool_stay seat old new (who.Process number) adds processes places notes has =
    ap (λ those. has_process those new.places.items number) processes
    ∙ ap (λ those. has_process old.processes.items those number) places ∙ has
tool_stay seat old new (who.Tool other) adds processes places notes has = adds.stays other has
tool_stay seat old new who.Notes adds processes places notes has = notes ∙ has

pub adds_tool : (players : List ℕ) (seat : Seat) (old new : Lines) → AddsTool seat old.tools.items new.tools.items → new.processes.items ≡ old.processes.items
    → new.places.items ≡ old.places.items → new.has_notes ≡ old.has_notes → Adds players (who.Tool seat) old new
adds_tool players seat old new adds processes places notes = record {
  there = λ one. adds.there;
  stay = λ it has. tool_stay seat old new it adds processes places notes has;
  sound = λ sound. sound_same players old new processes places adds.apart sound;
  only = λ test it only. record {
    processes = subst (λ those. All (λ (line : ProcessLine). IsTrue (test (who.Process line.number))) those) (sym processes) only.processes;
    notes = λ has. only.notes (sym notes ∙ has);
    tools = adds.only (λ line. test (who.Tool line)) it only.tools;
  };
}

notes_stay : (old new : Lines) (it : Who) → new ≡ record old { has_notes = true } → IsTrue (has_line old it) → IsTrue (has_line new it)
notes_stay old new (who.Process number) is has = ap (λ lines. has_line lines (who.Process number)) is ∙ has
notes_stay old new (who.Tool seat) is has = ap (λ lines. has_line lines (who.Tool seat)) is ∙ has
notes_stay old new who.Notes is has = ap (λ lines. has_line lines who.Notes) is

pub adds_notes : (players : List ℕ) (old new : Lines) → new ≡ record old { has_notes = true } → Adds players who.Notes old new
adds_notes players old new is = record {
  there = λ one. ap (λ lines. has_line lines who.Notes) is;
  stay = λ it has. notes_stay old new it is has;
  sound = λ sound. sound_same players old new (ap (λ lines. lines.processes.items) is) (ap (λ lines. lines.places.items) is)
      (subst (λ those. AllPairs OfTwoTools those) (sym (ap (λ lines. lines.tools.items) is))) sound;
  only = λ test it only. record {
    processes = subst (λ those. All (λ (line : ProcessLine). IsTrue (test (who.Process line.number))) those)
        (sym (ap (λ lines. lines.processes.items) is)) only.processes;
    notes = λ has. it;
    tools = subst (λ those. All (λ (line : Seat). IsTrue (test (who.Tool line))) those) (sym (ap (λ lines. lines.tools.items) is)) only.tools;
  };
}

-- The columns of lifelines: that of a process is the place of its line.
process_in : (number : ℕ) (lines : Lines) (place : Option ℕ) (it : Option ProcessLine) (column : ℕ) → column ≡ unwrap_or place 0
    → option_and_then (λ place. slice_get lines.processes.items place) place ≡ it → is_process number it ≡ true
    → is_line_of lines (who.Process number) (spot_at lines column) ≡ true
process_in number lines None it column at here is = absurd (false≢true (ap (is_process number) here ∙ is))
process_in number lines (Some place) None column at here is = absurd (false≢true is)
process_in number lines (Some place) (Some line) column at here is =
    let same : column ≡ place = at in
    let within : nat_lt column (length lines.processes.items) ≡ true =
    lt-ltb column (length lines.processes.items) (omega (arith, same, slice_get_within lines.processes.items place line here)) in
    ap (λ b. is_line_of lines (who.Process number) (if b then spot.Process column else spot_behind lines.has_notes (column - length lines.processes.items))) within
    ∙ ap (λ column. is_process number (slice_get lines.processes.items column)) at
    ∙ ap (is_process number) here ∙ is

pub column_process : (number : ℕ) (lines : Lines) (place : Option ℕ) (column : ℕ) → place ≡ place_of lines.places.items number
    → column ≡ unwrap_or place 0 → IsTrue (has_line lines (who.Process number)) → IsTrue (is_line_of lines (who.Process number) (spot_at lines column))
column_process number lines place column is at has =
    process_in number lines place (option_and_then (λ place. slice_get lines.processes.items place) place) column at refl
    (ap (λ it. is_process number (option_and_then (λ place. slice_get lines.processes.items place) it)) is ∙ has)

-- a column behind those of the processes
behind : (lines : Lines) (it : Who) (column more : ℕ) → column ≡ length lines.processes.items + more
    → is_line_of lines it (spot_at lines column) ≡ is_line_of lines it (spot_behind lines.has_notes more)
behind lines it column more at =
    let out : nat_lt column (length lines.processes.items) ≡ false = le-ltb column (length lines.processes.items) (omega (arith, at)) in
    let rest : column - length lines.processes.items ≡ more = omega (arith, at) in
    ap (λ b. is_line_of lines it (if b then spot.Process column else spot_behind lines.has_notes (column - length lines.processes.items))) out
    ∙ ap (λ those. is_line_of lines it (spot_behind lines.has_notes those)) rest

pub column_notes : (lines : Lines) (column : ℕ) → column ≡ length lines.processes.items → IsTrue (has_line lines who.Notes)
    → IsTrue (is_line_of lines who.Notes (spot_at lines column))
column_notes lines column at has =
    behind lines who.Notes column 0 (omega (arith, at)) ∙ ap (λ b. is_line_of lines who.Notes (spot_behind b 0)) has

tool_behind : (lines : Lines) (seat : Seat) (notes : Bool) (place : ℕ)
    → is_line_of lines (who.Tool seat) (spot_behind notes ((if notes then 1 else 0) + place)) ≡ is_tool_in seat (slice_get lines.tools.items place)
tool_behind lines seat true place =
    let next : 1 + place ≡ suc place = omega arith in ap (λ more. is_line_of lines (who.Tool seat) (spot_behind true more)) next
tool_behind lines seat false place =
    let same : 0 + place ≡ place = omega arith in ap (λ more. is_line_of lines (who.Tool seat) (spot_behind false more)) same

pub column_tool : (lines : Lines) (seat : Seat) (place column : ℕ) → column ≡ length lines.processes.items + notes_count lines + place
    → is_tool_in seat (slice_get lines.tools.items place) ≡ true → IsTrue (is_line_of lines (who.Tool seat) (spot_at lines column))
column_tool lines seat place column at is =
    behind lines (who.Tool seat) column (notes_count lines + place) (omega (arith, at)) ∙ tool_behind lines seat lines.has_notes place ∙ is

-- the place of a tool is below the number of tools
tool_within : (seat : Seat) (tools : List Seat) (place : ℕ) (it : Option Seat) → slice_get tools place ≡ it → is_tool_in seat it ≡ true
    → place < length tools
tool_within seat tools place None here is = absurd (false≢true is)
tool_within seat tools place (Some line) here is = slice_get_within tools place line here

one_or_none : (notes : Bool) → (if notes then 1 else 0) ≤ 1
one_or_none true = omega arith
one_or_none false = omega arith

pub notes_few : (lines : Lines) → notes_count lines ≤ 1
notes_few lines = one_or_none lines.has_notes

pub column_of_tool : (lines : Lines) (seat : Seat) (tools : List Seat) (place first column : ℕ) → tools ≡ lines.tools.items
    → (IsTrue (list_any (is_tool seat) tools) → IsTrue (is_tool_in seat (slice_get tools place)))
    → (place < length lines.tools.items → column ≡ first + place) → first ≡ length lines.processes.items + notes_count lines
    → IsTrue (has_line lines (who.Tool seat)) → IsTrue (is_line_of lines (who.Tool seat) (spot_at lines column))
column_of_tool lines seat tools place first column same finds at is has =
    let any : IsTrue (list_any (is_tool seat) tools) = subst (λ those. IsTrue (list_any (is_tool seat) those)) (sym same) has in
    let found : IsTrue (is_tool_in seat (slice_get lines.tools.items place)) =
    subst (λ those. IsTrue (is_tool_in seat (slice_get those place))) same (finds any) in
    let within : place < length lines.tools.items = tool_within seat lines.tools.items place (slice_get lines.tools.items place) refl found in
    let sum : column ≡ length lines.processes.items + notes_count lines + place = omega (arith, at within, is) in
    column_tool lines seat place column sum found

-- a call that adds the lifeline of a tool
pub added_tool : {A E : Type 0} (result : Result A E) (players : List ℕ) (seat : Seat) (old new : Lines)
    → OnOk result (AddsTool seat old.tools.items new.tools.items) → new.processes.items ≡ old.processes.items → new.places.items ≡ old.places.items
    → new.has_notes ≡ old.has_notes → OnOk result (Adds players (who.Tool seat) old new)
added_tool (Ok done) players seat old new adds processes places notes = adds_tool players seat old new adds processes places notes
added_tool (Err fault) players seat old new adds processes places notes = tt

-- after all entries
pub bodies_after : (cast : Cast) (entries : List Entry) (index : ℕ) (players : List ℕ) (lines : Lines) → index ≡ length entries
    → players ≡ players_of cast (take index entries) → Sound players lines → All (HasBody (players_of cast entries)) lines.processes.items
bodies_after cast entries index players lines last before sound =
    let whole : players ≡ players_of cast entries =
    before ∙ ap (λ n. players_of cast (take n entries)) last ∙ ap (players_of cast) (take-length entries) in
    subst (λ those. All (HasBody those) lines.processes.items) whole sound.bodies
