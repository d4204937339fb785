-- Lemmas on where the lifelines of processes are.
use Rattle.std.proofs.Common.{◌≡◌, ◌≢◌, ◌<◌, ◌≤◌, ◌∙◌, ◌++◌, ◌∷◌, [], ℕ, zero, suc, List, length, set, get_or, true, false, inl, inr, Option, Some, None, refl, sym, ap, subst, arith}
use Rattle.std.specs.Prelude.{slice_get, option_and_then}
use Rattle.std.specs.Option.{option_flatten}
use Rattle.std.proofs.lemmas.List.{length_push}
use Rattle.std.proofs.Math.ListN.{get_or-append}
use Rattle.std.proofs.lemmas.Bool.{cases_eq, cases_lt, eq-eqb, false≢true}
use Rattle.std.proofs.lemmas.Option.{none-some, same_Some, slice_get-get_or}
use Rattle.tb_chart.specs.declared.lines.ProcessLine.{ProcessLine}
use Rattle.tb_chart.specs.Helpers.Additions.{Placed, Puts, SamePlaces}
use Rattle.tb_chart.specs.Lifelines.{has_process, is_process, place_of}
use Rattle.tb_chart.specs.Numbers.{index_of}
use Rattle.tb_chart.proofs.ListLemmas.{get_last, get_other, get_set}

-- no place more
pub place_push : (places : List (Option ℕ)) (number : ℕ) → place_of (places ++ None ∷ []) number ≡ place_of places number
place_push places zero = refl
place_push [] (suc zero) = refl
place_push [] (suc (suc number)) = refl
place_push (place ∷ places) (suc zero) = refl
place_push (place ∷ places) (suc (suc number)) = place_push places (suc number)

place_other : (index number place : ℕ) (places : List (Option ℕ)) (other : ℕ) → index ≡ number → other ≢ suc number
    → place_of (set places index (Some place)) other ≡ place_of places other
place_other index number place places zero at apart = refl
place_other index number place places (suc other) at apart =
    ap option_flatten (get_other places index other (Some place) (λ same. apart (ap suc (same ∙ at))))

pub index_within : (number index many : ℕ) → Some index ≡ index_of number → number ≤ many → index < many
index_within zero index many found long = absurd (none-some index (sym found))
index_within (suc number) index many found long =
    let at : index ≡ number = same_Some index number found in
    omega (arith, at, long)

pub puts_some : (number index place : ℕ) (old : List (Option ℕ)) → Some index ≡ index_of number → number ≤ length old
    → Puts number place old (set old index (Some place))
puts_some zero index place old found long = absurd (none-some index (sym found))
puts_some (suc number) index place old found long =
    let at : index ≡ number = same_Some index number found in
    let here : slice_get (set old index (Some place)) number ≡ Some (Some place) =
    subst (λ it. slice_get (set old index (Some place)) it ≡ Some (Some place)) at
    (get_set old index (Some place) (index_within (suc number) index (length old) found long)) in
    record {
      placed = λ some. ap option_flatten here;
      others = λ other apart. place_other index number place old other at apart;
    }

-- there is no number 0
pub puts_none : (number place : ℕ) (places : List (Option ℕ)) → None ≡ index_of number → Puts number place places places
puts_none zero place places none = record { placed = λ some. absurd (some refl); others = λ other apart. refl }
puts_none (suc number) place places none = absurd (none-some number none)

-- where the others were before too
pub puts_after : (number place : ℕ) (old mid new : List (Option ℕ)) → SamePlaces old mid → Puts number place mid new → Puts number place old new
puts_after number place old mid new same puts = record {
  placed = puts.placed;
  others = λ other apart. puts.others other apart ∙ same other;
}

pub puts_at : (number place other : ℕ) (old new : List (Option ℕ)) → place ≡ other → Puts number place old new → Puts number other old new
puts_at number place other old new same puts = subst (λ it. Puts number it old new) same puts

-- one lifeline more
line_stays : (number : ℕ) (processes : List ProcessLine) (line : ProcessLine) (place : ℕ) → is_process number (slice_get processes place) ≡ true
    → is_process number (slice_get (processes ++ line ∷ []) place) ≡ true
line_stays number [] line place is = absurd (false≢true is)
line_stays number (it ∷ processes) line zero is = is
line_stays number (it ∷ processes) line (suc place) is = line_stays number processes line place is

stays_at : (number : ℕ) (processes : List ProcessLine) (line : ProcessLine) (place : Option ℕ)
    → is_process number (option_and_then (λ place. slice_get processes place) place) ≡ true
    → is_process number (option_and_then (λ place. slice_get (processes ++ line ∷ []) place) place) ≡ true
stays_at number processes line None is = absurd (false≢true is)
stays_at number processes line (Some place) is = line_stays number processes line place is

pub process_there : (number : ℕ) (processes now : List ProcessLine) (line : ProcessLine) (old new : List (Option ℕ))
    → Puts number (length processes) old new → line.number ≡ number → now ≡ processes ++ line ∷ [] → number ≢ 0
    → has_process now new number ≡ true
process_there number processes now line old new puts is pushed some =
    ap (λ those. has_process those new number) pushed
    ∙ ap (λ place. is_process number (option_and_then (λ place. slice_get (processes ++ line ∷ []) place) place)) (puts.placed some)
    ∙ ap (is_process number) (get_last processes line) ∙ eq-eqb line.number number is

pub process_stays : (number : ℕ) (processes now : List ProcessLine) (line : ProcessLine) (old new : List (Option ℕ)) (other : ℕ)
    → Puts number (length processes) old new → line.number ≡ number → now ≡ processes ++ line ∷ [] → number ≢ 0
    → has_process processes old other ≡ true → has_process now new other ≡ true
process_stays number processes now line old new other puts is pushed some has = elim (cases_eq other number) [
  | inl same ↦ subst (λ it. has_process now new it ≡ true) (sym same) (process_there number processes now line old new puts is pushed some)
  | inr apart ↦
      ap (λ those. has_process those new other) pushed
      ∙ stays_at other processes line (place_of new other)
      (ap (λ place. is_process other (option_and_then (λ place. slice_get processes place) place)) (puts.others other apart) ∙ has)
]

-- Each lifeline is at the place of its process. One more of a process that had none is so too.
unless_there : (number index : ℕ) (processes : List ProcessLine) (it : ProcessLine) (places : List (Option ℕ)) → index < length processes
    → it.number ≡ number → get_or processes index it ≡ it → place_of places it.number ≡ Some index → has_process processes places number ≡ true
unless_there number index processes it places within is here placed =
    ap (λ place. is_process number (option_and_then (λ place. slice_get processes place) place)) (ap (place_of places) (sym is) ∙ placed)
    ∙ ap (is_process number) (slice_get-get_or processes index it within ∙ ap Some here)
    ∙ eq-eqb it.number number is

placed_old : (number index place : ℕ) (processes : List ProcessLine) (it : ProcessLine) (old new : List (Option ℕ)) → index < length processes
    → get_or processes index it ≡ it → place_of old it.number ≡ Some index → Puts number place old new → has_process processes old number ≡ false
    → place_of new it.number ≡ Some index
placed_old number index place processes it old new within here placed puts none = elim (cases_eq it.number number) [
  | inl same ↦ absurd (false≢true (sym none ∙ unless_there number index processes it old within same here placed))
  | inr apart ↦ puts.others it.number apart ∙ placed
]

same_within : (processes : List ProcessLine) (index : ℕ) (d e : ProcessLine) → index < length processes → get_or processes index d ≡ get_or processes index e
same_within processes index d e within =
    same_Some (get_or processes index d) (get_or processes index e)
    (sym (slice_get-get_or processes index d within) ∙ slice_get-get_or processes index e within)

last_line : (processes : List ProcessLine) (line d : ProcessLine) → get_or (processes ++ line ∷ []) (length processes) d ≡ line
last_line [] line d = refl
last_line (it ∷ processes) line d = last_line processes line d

pub placed_push : (number : ℕ) (processes now : List ProcessLine) (line : ProcessLine) (old new : List (Option ℕ))
    → Puts number (length processes) old new → line.number ≡ number → now ≡ processes ++ line ∷ [] → number ≢ 0
    → has_process processes old number ≡ false → Placed processes old → Placed now new
placed_push number processes now line old new puts is pushed some none placed =
    let all : Placed (processes ++ line ∷ []) new = λ index d within. elim (cases_lt index (length processes)) [
      | inl before ↦
          let it = get_or processes index d in
          let here : get_or (processes ++ line ∷ []) index d ≡ it = get_or-append processes (line ∷ []) d index before in
          ap (λ (those : ProcessLine). place_of new those.number) here
          ∙ placed_old number index (length processes) processes it old new before (same_within processes index it d before) (placed index d before) puts none
      | inr last ↦
          let at : index ≡ length processes = omega (arith, last, within, length_push processes line) in
          let here : get_or (processes ++ line ∷ []) index d ≡ line =
          ap (λ n. get_or (processes ++ line ∷ []) n d) at ∙ last_line processes line d in
          ap (λ (those : ProcessLine). place_of new those.number) here ∙ ap (place_of new) is ∙ puts.placed some ∙ ap Some (sym at)
    ] in
    subst (λ those. Placed those new) (sym pushed) all
