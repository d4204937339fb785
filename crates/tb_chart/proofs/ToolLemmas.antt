-- Lemmas on the lifelines of tools.
use Rattle.std.proofs.Common.{◌≡◌, ◌≢◌, ◌∙◌, ◌++◌, ◌∷◌, ◌⊎◌, ◌&&◌, [], ℕ, List, length, set, get_or, Bool, true, false, ◌||◌, not, All, AllPairs, IsTrue, Option, Some, None, inl, inr, refl, sym, ap, subst, subst₂, ◌<◌, arith}
use Rattle.std.specs.Prelude.{slice_get, nat_eq, is_some}
use Rattle.std.specs.List.{list_any}
use Rattle.std.specs.Option.{option_eq}
use Rattle.std.proofs.lemmas.Bool.{and_parts, and_from, cases_Bool, cases_eq, eq-eqb, eqb-true, false≢true}
use Rattle.std.proofs.lemmas.Grind.{get_or-set_at}
use Rattle.std.proofs.lemmas.List.{get_or-set_other, length-set}
use Rattle.std.proofs.lemmas.List.Elements.{All-push, All-set}
use Rattle.std.proofs.lemmas.List.Quantifiers.{all_pairs_push}
use Rattle.std.proofs.lemmas.Option.{same_Some, slice_get-get_or, slice_get_within}
use Rattle.tb_chart.specs.declared.row.Seat.{Seat}
use Rattle.tb_chart.specs.Helpers.Additions.{AddsTool, is_seat, is_seat_in}
use Rattle.tb_chart.specs.Lifelines.{OfTwoTools, is_tool}
use Rattle.tb_chart.proofs.ListLemmas.{any_here, any_last, any_push, any_set, fails_at, get_set}

or_true : (a : Bool) → (a || true) ≡ true
or_true true = refl
or_true false = refl

-- a lifeline of the tool itself
seat_tool : (seat line : Seat) → is_seat seat line ≡ true → is_tool seat line ≡ true
seat_tool seat line is =
    let parts = and_parts (nat_eq line.lane seat.lane) (option_eq nat_eq line.kind seat.kind) is in
    let any : (not (is_some seat.kind) || option_eq nat_eq line.kind seat.kind) ≡ true =
    ap (λ b. not (is_some seat.kind) || b) parts.1 ∙ or_true (not (is_some seat.kind)) in
    and_from (nat_eq line.lane seat.lane) (not (is_some seat.kind) || option_eq nat_eq line.kind seat.kind) parts.0 any

nat_eq_back : (a b : ℕ) → nat_eq a b ≡ false → nat_eq b a ≡ false
nat_eq_back a b apart = elim (cases_Bool (nat_eq b a)) [
  | inl it ↦ absurd (false≢true (sym apart ∙ eq-eqb a b (sym (eqb-true b a it))))
  | inr it ↦ it
]

-- a tool that has no name may have any
any_kind : (kind other : Option ℕ) → option_eq nat_eq kind None ≡ true → (not (is_some kind) || option_eq nat_eq other kind) ≡ true
any_kind None other none = refl
any_kind (Some kind) other none = absurd (false≢true none)

kind_same : (kind : Option ℕ) → option_eq nat_eq kind kind ≡ true
kind_same None = refl
kind_same (Some kind) = eq-eqb kind kind refl

own_seat : (seat : Seat) → is_tool seat seat ≡ true
own_seat seat = seat_tool seat seat
    (and_from (nat_eq seat.lane seat.lane) (option_eq nat_eq seat.kind seat.kind) (eq-eqb seat.lane seat.lane refl) (kind_same seat.kind))

pub adds_found : (seat : Seat) (tools lines : List Seat) → true ≡ list_any (is_tool seat) lines → lines ≡ tools → AddsTool seat tools tools
adds_found seat tools lines has same = record {
  there = ap (list_any (is_tool seat)) (sym same) ∙ sym has;
  stays = λ other any. any;
  apart = λ before. before;
  only = λ test it all. all;
}

-- a lifeline of neither this tool nor a program without a name on its lane is of another tool
kinds_differ : (kind line : Option ℕ) → (not (is_some line) || option_eq nat_eq kind line) ≡ true
    → (option_eq nat_eq line None ≡ true) ⊎ ((not (is_some kind) || option_eq nat_eq line kind) ≡ true)
kinds_differ kind None is = inl refl
kinds_differ None (Some line) is = inr refl
kinds_differ (Some kind) (Some line) is = inr (eq-eqb line kind (sym (eqb-true kind line is)))

turned : (seat unnamed line : Seat) → unnamed.lane ≡ seat.lane → unnamed.kind ≡ None → is_tool line seat ≡ true
    → (is_seat unnamed line ≡ true) ⊎ (is_tool seat line ≡ true)
turned seat unnamed line lane none is =
    let parts = and_parts (nat_eq seat.lane line.lane) (not (is_some line.kind) || option_eq nat_eq seat.kind line.kind) is in
    let same : line.lane ≡ seat.lane = sym (eqb-true seat.lane line.lane parts.0) in
    elim (kinds_differ seat.kind line.kind parts.1) [
      | inl it ↦ inl (and_from (nat_eq line.lane unnamed.lane) (option_eq nat_eq line.kind unnamed.kind)
          (eq-eqb line.lane unnamed.lane (same ∙ sym lane)) (ap (option_eq nat_eq line.kind) none ∙ it))
      | inr it ↦ inr (and_from (nat_eq line.lane seat.lane) (not (is_some seat.kind) || option_eq nat_eq line.kind seat.kind)
          (eq-eqb line.lane seat.lane same) it)
    ]

of_two : (seat unnamed line : Seat) → unnamed.lane ≡ seat.lane → unnamed.kind ≡ None → is_tool seat line ≡ false → is_seat unnamed line ≡ false
    → OfTwoTools line seat
of_two seat unnamed line lane none other bare = elim (cases_Bool (is_tool line seat)) [
  | inl it ↦ elim (turned seat unnamed line lane none it) [
    | inl is ↦ absurd (false≢true (sym bare ∙ is))
    | inr is ↦ absurd (false≢true (sym other ∙ is))
  ]
  | inr it ↦ (it, other)
]

pub adds_pushed : (seat unnamed : Seat) (old lines lines' new : List Seat) → unnamed.lane ≡ seat.lane → unnamed.kind ≡ None
    → false ≡ list_any (is_tool seat) lines → list_any (is_seat unnamed) lines' ≡ false → lines ≡ old → lines' ≡ old → new ≡ old ++ seat ∷ []
    → AddsTool seat old new
adds_pushed seat unnamed old lines lines' new lane none other bare same same' is =
    let not_there : list_any (is_tool seat) old ≡ false = ap (list_any (is_tool seat)) (sym same) ∙ sym other in
    let no_program : list_any (is_seat unnamed) old ≡ false = ap (list_any (is_seat unnamed)) (sym same') ∙ bare in
    record {
      there = ap (list_any (is_tool seat)) is ∙ any_last (is_tool seat) old seat (own_seat seat);
      stays = λ it any. ap (list_any (is_tool it)) is ∙ any_push (is_tool it) old seat any;
      apart = λ before. subst (λ those. AllPairs OfTwoTools those) (sym is)
          (all_pairs_push OfTwoTools old seat before
          (λ k d within. of_two seat unnamed (get_or old k d) lane none
          (fails_at (is_tool seat) old k d within not_there) (fails_at (is_seat unnamed) old k d within no_program)));
      only = λ test it all. subst (λ those. All (λ line. IsTrue (test line)) those) (sym is) (All-push (λ line. IsTrue (test line)) old seat all it);
    }

-- a lifeline with no name yet gets the tool's
kind_unnamed : (wanted kind other : Option ℕ) → option_eq nat_eq kind None ≡ true
    → (not (is_some wanted) || option_eq nat_eq kind wanted) ≡ true → (not (is_some wanted) || option_eq nat_eq other wanted) ≡ true
kind_unnamed None kind other none is = refl
kind_unnamed (Some wanted) None other none is = absurd (false≢true is)
kind_unnamed (Some wanted) (Some kind) other none is = absurd (false≢true none)

named_tool : (other seat line : Seat) → is_seat (record { lane = seat.lane; kind = None }) line ≡ true → is_tool other line ≡ true → is_tool other seat ≡ true
named_tool other seat line unnamed is =
    let bare = and_parts (nat_eq line.lane seat.lane) (option_eq nat_eq line.kind None) unnamed in
    let parts = and_parts (nat_eq line.lane other.lane) (not (is_some other.kind) || option_eq nat_eq line.kind other.kind) is in
    let lane : seat.lane ≡ other.lane = sym (eqb-true line.lane seat.lane bare.0) ∙ eqb-true line.lane other.lane parts.0 in
    and_from (nat_eq seat.lane other.lane) (not (is_some other.kind) || option_eq nat_eq seat.kind other.kind)
    (eq-eqb seat.lane other.lane lane) (kind_unnamed other.kind line.kind seat.kind bare.1 parts.1)

-- the lifeline of a program without a name is alone on its lane, so the tool's is in its place
lanes_apart : (seat line other : Seat) → is_seat (record { lane = seat.lane; kind = None }) line ≡ true → is_tool line other ≡ false
    → nat_eq other.lane seat.lane ≡ false
lanes_apart seat line other unnamed two =
    let bare = and_parts (nat_eq line.lane seat.lane) (option_eq nat_eq line.kind None) unnamed in
    elim (cases_Bool (nat_eq other.lane seat.lane)) [
      | inl it ↦ absurd (false≢true (sym two
          ∙ and_from (nat_eq other.lane line.lane) (not (is_some line.kind) || option_eq nat_eq other.kind line.kind)
          (eq-eqb other.lane line.lane (eqb-true other.lane seat.lane it ∙ sym (eqb-true line.lane seat.lane bare.0)))
          (any_kind line.kind other.kind bare.1)))
      | inr it ↦ it
    ]

two_lanes : (first second : Seat) → nat_eq first.lane second.lane ≡ false → OfTwoTools first second
two_lanes first second apart =
    let back : nat_eq second.lane first.lane ≡ false = nat_eq_back first.lane second.lane apart in (
      ap (λ b. b && (not (is_some first.kind) || option_eq nat_eq second.kind first.kind)) back,
      ap (λ b. b && (not (is_some second.kind) || option_eq nat_eq first.kind second.kind)) apart,
    )

two_back : (first second : Seat) → OfTwoTools first second → OfTwoTools second first
two_back first second two = (two.1, two.0)

-- the lifeline at `index` is another one now
pairs_over : (seat line : Seat) (old : List Seat) (index : ℕ) → slice_get old index ≡ Some line → index < length old
    → is_seat (record { lane = seat.lane; kind = None }) line ≡ true → AllPairs OfTwoTools old → AllPairs OfTwoTools (set old index seat)
pairs_over seat line old index here within unnamed before i j d below inside =
    let long : j < length old = omega (arith, inside, length-set old index seat) in
    let at : (e : Seat) → get_or old index e ≡ line = λ e. same_Some (get_or old index e) line (sym (slice_get-get_or old index e within) ∙ here) in
    elim (cases_eq i index) [
      | inl first ↦
          let other : OfTwoTools line (get_or old j d) =
          subst (λ it. OfTwoTools it (get_or old j d)) (ap (λ n. get_or old n d) first ∙ at d) (before i j d below long) in
          let apart : j ≢ index = λ same. omega (arith, first, same, below) in
          let one : get_or (set old index seat) i d ≡ seat = get_or-set_at old index i seat d first within in
          let two : get_or (set old index seat) j d ≡ get_or old j d = get_or-set_other old index j seat d apart in
          let lanes = lanes_apart seat line (get_or old j d) unnamed other.0 in
          subst₂ OfTwoTools (sym one) (sym two) (two_back (get_or old j d) seat (two_lanes (get_or old j d) seat lanes))
      | inr not_first ↦ elim (cases_eq j index) [
        | inl second ↦
            let other : OfTwoTools (get_or old i d) line =
            subst (OfTwoTools (get_or old i d)) (ap (λ n. get_or old n d) second ∙ at d) (before i j d below long) in
            let one : get_or (set old index seat) i d ≡ get_or old i d = get_or-set_other old index i seat d not_first in
            let two : get_or (set old index seat) j d ≡ seat = get_or-set_at old index j seat d second within in
            let lanes = lanes_apart seat line (get_or old i d) unnamed other.1 in
            subst₂ OfTwoTools (sym one) (sym two) (two_lanes (get_or old i d) seat lanes)
        | inr not_second ↦
            let one : get_or (set old index seat) i d ≡ get_or old i d = get_or-set_other old index i seat d not_first in
            let two : get_or (set old index seat) j d ≡ get_or old j d = get_or-set_other old index j seat d not_second in
            subst₂ OfTwoTools (sym one) (sym two) (before i j d below long)
      ]
    ]

adds_over : (seat line : Seat) (old new : List Seat) (index : ℕ) → slice_get old index ≡ Some line → index < length old
    → is_seat (record { lane = seat.lane; kind = None }) line ≡ true → new ≡ set old index seat → AddsTool seat old new
adds_over seat line old new index here within unnamed is = record {
  there = ap (list_any (is_tool seat)) is ∙ any_here (is_tool seat) (set old index seat) index seat (get_set old index seat within) (own_seat seat);
  stays = λ other any. ap (list_any (is_tool other)) is ∙ any_set (is_tool other) old index line seat here (named_tool other seat line unnamed) any;
  apart = λ before. subst (λ those. AllPairs OfTwoTools those) (sym is) (pairs_over seat line old index here within unnamed before);
  only = λ test it all. subst (λ those. All (λ line. IsTrue (test line)) those) (sym is) (All-set (λ line. IsTrue (test line)) old index seat it all);
}

-- the same where the lifeline is looked up
over_at : (seat : Seat) (old new : List Seat) (index : ℕ) (it : Option Seat) → slice_get old index ≡ it
    → is_seat_in (record { lane = seat.lane; kind = None }) it ≡ true → new ≡ set old index seat → AddsTool seat old new
over_at seat old new index None here unnamed is = absurd (false≢true unnamed)
over_at seat old new index (Some line) here unnamed is = adds_over seat line old new index here (slice_get_within old index line here) unnamed is

pub adds_replaced : (seat unnamed : Seat) (old new : List Seat) (index : ℕ) → is_seat_in unnamed (slice_get old index) ≡ true
    → unnamed ≡ record { lane = seat.lane; kind = None } → new ≡ set old index seat → AddsTool seat old new
adds_replaced seat unnamed old new index found same is =
    over_at seat old new index (slice_get old index) refl (subst (λ it. is_seat_in it (slice_get old index) ≡ true) same found) is

pub adds_named : (seat unnamed : Seat) (tools lines : List Seat) (index : ℕ) → is_seat_in unnamed (slice_get lines index) ≡ true
    → unnamed ≡ record { lane = seat.lane; kind = None } → lines ≡ tools → AddsTool seat tools (set tools index seat)
adds_named seat unnamed tools lines index found is same =
    adds_replaced seat unnamed tools (set tools index seat) index (subst (λ those. is_seat_in unnamed (slice_get those index) ≡ true) same found) is refl

within_at : (seat : Seat) (lines : List Seat) (index : ℕ) (it : Option Seat) → slice_get lines index ≡ it → is_seat_in seat it ≡ true → index < length lines
within_at seat lines index None here is = absurd (false≢true is)
within_at seat lines index (Some line) here is = slice_get_within lines index line here

pub seat_within : (seat : Seat) (lines : List Seat) (index : ℕ) → is_seat_in seat (slice_get lines index) ≡ true → index < length lines
seat_within seat lines index is = within_at seat lines index (slice_get lines index) refl is

pub some_of : {X : Type 0} (found : Option X) → is_some found ≡ true → (x : X) × (found ≡ Some x)
some_of None some = absurd (false≢true some)
some_of (Some x) some = (x, refl)
