-- The lists of a log represent the same entries when the lists grow, and one more entry when one is added.
use Rattle.std.proofs.Common.{◌≡◌, ◌≤◌, ◌<◌, ℕ, zero, suc, ◌+◌, ◌-◌, List, [], ◌∷◌, ◌++◌, length, map, min, take, drop, get_or, slice_get, Some, true, option_map, refl, ap, sym, subst, ◌∙◌, arith, length-append}
use Rattle.std.specs.List.{All}
use Rattle.std.proofs.lemmas.List.{append-nil, length-map, length-drop, map_push, take-append-le, drop-append-le, drop_at, take_all, length_push}
use Rattle.std.proofs.lemmas.List.Elements.{All-nil, All-head, All-tail, All-push, All-weaker}
use Rattle.std.proofs.lemmas.Option.{slice_get-map, slice_get-get_or}
use Rattle.tb_terms.specs.declared.term.Term.{Term}
use Rattle.tb_log.specs.declared.entry.Label.{Label}
use Rattle.tb_log.specs.declared.entry.Entry.{Entry}
use Rattle.tb_log.specs.declared.entry.Entry.TheVariants.{Did, Quiet}
use Rattle.tb_log.specs.declared.kept.KeptStep.{KeptStep}
use Rattle.tb_log.specs.declared.kept.Kept.{Kept}
use Rattle.tb_log.specs.declared.kept.Kept.TheVariants as kept
use Rattle.tb_log.specs.declared.kept.Other.{Other}
use Rattle.tb_log.specs.Limits.{entry_size, has_room, log_size, terms_size}
use Rattle.tb_log.specs.Logs.{LogState}
use Rattle.tb_log.specs.Helpers.KeptLogs.{NamesWithin, StandsFor, entries_kept, entry_kept, label_kept, other_entry, other_there}
use Rattle.tb_log.proofs.SizeLemmas.{log_sized, measured, room_parts, terms_sized}

pub entries_long : (terms numbers : List Term) (others : List Other) (entries : List Kept) → length (entries_kept terms numbers others entries) ≡ length entries
entries_long terms numbers others entries = length-map entries (entry_kept terms numbers others)

-- A list that grew at its end.

abbrev pub Grows : {X : Type 0} → List X → List X → Type 0
Grows {X} old new = (more : List X) × (new ≡ old ++ more)

pub same_grows : {X : Type 0} (old : List X) → Grows old old
same_grows old = ([], sym (append-nil old))

grown_longer : {X : Type 0} (old new : List X) → Grows old new → length old ≤ length new
grown_longer old new grows =
    let long : length new ≡ length old + length grows.0 = ap length grows.1 ∙ length-append old grows.0 in
    omega (arith, long)

share_grown : {X : Type 0} (old new : List X) (first count : ℕ) → Grows old new → first + count ≤ length old → take count (drop first new) ≡ take count (drop first old)
share_grown old new first count grows within =
    let long : length (drop first old) ≡ length old - first = length-drop first old in
    ap (λ xs. take count (drop first xs)) grows.1
    ∙ ap (take count) (drop-append-le first old grows.0 (omega (arith, within))) ∙ take-append-le count (drop first old) grows.0 (omega (arith, within, long))

there_more : {X : Type 0} (old more : List X) (at : ℕ) → at < length old → slice_get (old ++ more) at ≡ slice_get old at
there_more [] more at within = absurd (omega (arith, within))
there_more (x ∷ old) more zero within = refl
there_more (x ∷ old) more (suc at) within = there_more old more at (omega (arith, within))

-- The lists represent the same entries after they grew.

kept_grown : (terms numbers : List Term) (others : List Other) (terms' numbers' : List Term) (others' : List Other) → Grows terms terms' → Grows numbers numbers' → Grows others others'
    → (it : Kept) → NamesWithin (length terms) (length numbers) (length others) it → entry_kept terms' numbers' others' it ≡ entry_kept terms numbers others it
kept_grown terms numbers others terms' numbers' others' t n o (kept.Did step) within =
    ap (λ (ts : List Term). let label : Label = record { kind = step.kind; from = step.from; to = step.to; terms = ts } in Did label) (share_grown terms terms' step.first step.count t within)
kept_grown terms numbers others terms' numbers' others' t n o (kept.Numbers step) within =
    ap (λ (ts : List Term). let label : Label = record { kind = step.kind; from = step.from; to = step.to; terms = ts } in Did label) (share_grown numbers numbers' step.first step.count n within)
kept_grown terms numbers others terms' numbers' others' t n o kept.Quiet within = refl
kept_grown terms numbers others terms' numbers' others' t n o (kept.Other at) within =
    ap (λ (os : List Other). other_there (slice_get os at)) o.1 ∙ ap other_there (there_more others o.0 at within)

same_map : {A B : Type 0} (f g : A → B) (P : A → Type 0) (xs : List A) → ((x : A) → P x → f x ≡ g x) → All P xs → map f xs ≡ map g xs
same_map f g P [] same all = refl
same_map f g P (x ∷ xs) same all =
    ap (λ y. y ∷ map f xs) (same x (All-head P x xs all)) ∙ ap (λ ys. g x ∷ ys) (same_map f g P xs same (All-tail P x xs all))

still_named : (terms numbers others terms' numbers' others' : ℕ) → terms ≤ terms' → numbers ≤ numbers' → others ≤ others' → (it : Kept) → NamesWithin terms numbers others it → NamesWithin terms' numbers' others' it
still_named terms numbers others terms' numbers' others' t n o (kept.Did step) within = omega (arith, t, within)
still_named terms numbers others terms' numbers' others' t n o (kept.Numbers step) within = omega (arith, n, within)
still_named terms numbers others terms' numbers' others' t n o kept.Quiet within = tt
still_named terms numbers others terms' numbers' others' t n o (kept.Other at) within = omega (arith, o, within)

-- The invariant of a log without entries.

pub stands_empty : (limit : ℕ) → limit ≤ 4294967295 → StandsFor limit 0 [] [] [] []
stands_empty limit limited = record {
  named = All-nil (NamesWithin 0 0 0);
  sized = refl;
  small = omega arith;
  within = omega arith;
  limited = limited;
  few_terms = omega arith;
  few_numbers = omega arith;
  few_others = omega arith;
}

-- One more entry.

pub kept_pushed : (terms numbers : List Term) (others : List Other) (terms' numbers' : List Term) (others' : List Other) → Grows terms terms' → Grows numbers numbers' → Grows others others'
    → (entries : List Kept) (it : Kept) (entry : Entry) → All (NamesWithin (length terms) (length numbers) (length others)) entries → entry_kept terms' numbers' others' it ≡ entry
    → entries_kept terms' numbers' others' (entries ++ it ∷ []) ≡ entries_kept terms numbers others entries ++ entry ∷ []
kept_pushed terms numbers others terms' numbers' others' t n o entries it entry all is =
    map_push (entry_kept terms' numbers' others') entries it
    ∙ ap (λ (es : List Entry). es ++ entry_kept terms' numbers' others' it ∷ [])
    (same_map (entry_kept terms' numbers' others') (entry_kept terms numbers others) (NamesWithin (length terms) (length numbers) (length others)) entries
    (kept_grown terms numbers others terms' numbers' others' t n o) all)
    ∙ ap (λ (e : Entry). entries_kept terms numbers others entries ++ e ∷ []) is

pub stands_with : (limit size more : ℕ) (terms numbers : List Term) (others : List Other) (terms' numbers' : List Term) (others' : List Other) → Grows terms terms' → Grows numbers numbers' → Grows others others'
    → (entries : List Kept) (it : Kept) (entry : Entry) → StandsFor limit size terms numbers others entries → entry_kept terms' numbers' others' it ≡ entry
    → NamesWithin (length terms') (length numbers') (length others') it → has_room limit (entries_kept terms numbers others entries) entry ≡ true → more ≡ min (entry_size entry) 18446744073709551615
    → length terms' ≤ length terms + entry_size entry → length numbers' ≤ length numbers + entry_size entry → length others' ≤ length others + 1
    → StandsFor limit (size + more) terms' numbers' others' (entries ++ it ∷ [])
stands_with limit size more terms numbers others terms' numbers' others' t n o entries it entry stands is within room measure few_terms few_numbers few_others =
    let was = entries_kept terms numbers others entries in
    let Within = NamesWithin (length terms') (length numbers') (length others') in
    let parts = room_parts limit was entry room in
    let exact : more ≡ entry_size entry = measured limit was entry more room measure in
    let longer : length (entries ++ it ∷ []) ≡ length entries + 1 = length_push entries it in
    let same : length was ≡ length entries = entries_long terms numbers others entries in
    let total : log_size (was ++ entry ∷ []) ≡ log_size was + entry_size entry = log_sized was entry in
    let sized : size + more ≡ log_size (was ++ entry ∷ []) = omega (arith, stands.sized, exact, total) in
    record {
      named = All-push Within entries it
          (All-weaker (NamesWithin (length terms) (length numbers) (length others)) Within
          (still_named (length terms) (length numbers) (length others) (length terms') (length numbers') (length others') (grown_longer terms terms' t) (grown_longer numbers numbers' n) (grown_longer others others' o)) entries stands.named) within;
      sized = sized ∙ ap log_size (sym (kept_pushed terms numbers others terms' numbers' others' t n o entries it entry stands.named is));
      small = omega (arith, stands.sized, exact, parts.1);
      within = omega (arith, longer, same, parts.0);
      limited = stands.limited;
      few_terms = omega (arith, few_terms, exact, stands.few_terms);
      few_numbers = omega (arith, few_numbers, exact, stands.few_numbers);
      few_others = omega (arith, few_others, longer, stands.few_others);
    }

-- One more step, whose terms are at the end of their list.

-- a step with `count` terms from index `first` on
abbrev pub step_at : ℕ → ℕ → Label → KeptStep
step_at first count label = record { kind = label.kind; from = label.from; to = label.to; first = first; count = count }

-- the terms that the step takes from the list are its terms
pub label_last : (terms : List Term) (label : Label) (first count : ℕ) → first ≡ length terms → count ≡ length label.terms → label_kept (terms ++ label.terms) (step_at first count label) ≡ label
label_last terms label first count from_there so_many =
    let more = terms ++ label.terms in
    let share : take count (drop first more) ≡ label.terms =
    ap (λ (n : ℕ). take n (drop first more)) so_many ∙ ap (take (length label.terms)) (drop_at terms label.terms first (sym from_there)) ∙ take_all (length label.terms) label.terms (omega arith) in
    ap (λ (ts : List Term). let it : Label = record { kind = label.kind; from = label.from; to = label.to; terms = ts } in it) share

-- the terms of the step are within the list, which grows by at most the size of the step
pub step_within : (terms : List Term) (label : Label) (first count : ℕ) → first ≡ length terms → count ≡ length label.terms → first + count ≤ length (terms ++ label.terms)
step_within terms label first count from_there so_many =
    let long : length (terms ++ label.terms) ≡ length terms + length label.terms = length-append terms label.terms in
    omega (arith, long, from_there, so_many)

step_long : (terms : List Term) (label : Label) → length (terms ++ label.terms) ≤ length terms + terms_size label.terms
step_long terms label =
    let long : length (terms ++ label.terms) ≡ length terms + length label.terms = length-append terms label.terms in
    let few : length label.terms ≤ terms_size label.terms = terms_sized label.terms in
    omega (arith, long, few)

pub step_pushed : (terms numbers : List Term) (others : List Other) (entries : List Kept) (label : Label) (first count : ℕ) → first ≡ length terms → count ≡ length label.terms
    → All (NamesWithin (length terms) (length numbers) (length others)) entries
    → entries_kept (terms ++ label.terms) numbers others (entries ++ kept.Did (step_at first count label) ∷ []) ≡ entries_kept terms numbers others entries ++ Did label ∷ []
step_pushed terms numbers others entries label first count from_there so_many all =
    kept_pushed terms numbers others (terms ++ label.terms) numbers others (label.terms, refl) (same_grows numbers) (same_grows others) entries (kept.Did (step_at first count label)) (Did label) all
    (ap Did (label_last terms label first count from_there so_many))

pub stands_with_step : (limit size more : ℕ) (terms numbers : List Term) (others : List Other) (entries : List Kept) (label : Label) (first count : ℕ) → first ≡ length terms → count ≡ length label.terms
    → StandsFor limit size terms numbers others entries → has_room limit (entries_kept terms numbers others entries) (Did label) ≡ true → more ≡ min (terms_size label.terms) 18446744073709551615
    → StandsFor limit (size + more) (terms ++ label.terms) numbers others (entries ++ kept.Did (step_at first count label) ∷ [])
stands_with_step limit size more terms numbers others entries label first count from_there so_many stands room is =
    stands_with limit size more terms numbers others (terms ++ label.terms) numbers others (label.terms, refl) (same_grows numbers) (same_grows others) entries (kept.Did (step_at first count label)) (Did label)
    stands (ap Did (label_last terms label first count from_there so_many)) (step_within terms label first count from_there so_many) room is (step_long terms label) (omega arith) (omega arith)

pub numbers_pushed : (terms numbers : List Term) (others : List Other) (entries : List Kept) (label : Label) (first count : ℕ) → first ≡ length numbers → count ≡ length label.terms
    → All (NamesWithin (length terms) (length numbers) (length others)) entries
    → entries_kept terms (numbers ++ label.terms) others (entries ++ kept.Numbers (step_at first count label) ∷ []) ≡ entries_kept terms numbers others entries ++ Did label ∷ []
numbers_pushed terms numbers others entries label first count from_there so_many all =
    kept_pushed terms numbers others terms (numbers ++ label.terms) others (same_grows terms) (label.terms, refl) (same_grows others) entries (kept.Numbers (step_at first count label)) (Did label) all
    (ap Did (label_last numbers label first count from_there so_many))

pub stands_with_numbers : (limit size more : ℕ) (terms numbers : List Term) (others : List Other) (entries : List Kept) (label : Label) (first count : ℕ) → first ≡ length numbers → count ≡ length label.terms
    → StandsFor limit size terms numbers others entries → has_room limit (entries_kept terms numbers others entries) (Did label) ≡ true → more ≡ min (terms_size label.terms) 18446744073709551615
    → StandsFor limit (size + more) terms (numbers ++ label.terms) others (entries ++ kept.Numbers (step_at first count label) ∷ [])
stands_with_numbers limit size more terms numbers others entries label first count from_there so_many stands room is =
    stands_with limit size more terms numbers others terms (numbers ++ label.terms) others (same_grows terms) (label.terms, refl) (same_grows others) entries (kept.Numbers (step_at first count label)) (Did label)
    stands (ap Did (label_last numbers label first count from_there so_many)) (step_within numbers label first count from_there so_many) room is (omega arith) (step_long numbers label) (omega arith)

-- One more entry that isn't a step in the shared lists.

there_last : {X : Type 0} (xs : List X) (x : X) → slice_get (xs ++ x ∷ []) (length xs) ≡ Some x
there_last [] x = refl
there_last (first ∷ xs) x = there_last xs x

other_last : (others : List Other) (other : Other) (index : ℕ) → index ≡ length others → other_there (slice_get (others ++ other ∷ []) index) ≡ other_entry other
other_last others other index at = ap (λ (n : ℕ). other_there (slice_get (others ++ other ∷ []) n)) at ∙ ap other_there (there_last others other)

pub other_pushed : (terms numbers : List Term) (others : List Other) (entries : List Kept) (other : Other) (index : ℕ) → index ≡ length others → All (NamesWithin (length terms) (length numbers) (length others)) entries
    → entries_kept terms numbers (others ++ other ∷ []) (entries ++ kept.Other index ∷ []) ≡ entries_kept terms numbers others entries ++ other_entry other ∷ []
other_pushed terms numbers others entries other index at all =
    kept_pushed terms numbers others terms numbers (others ++ other ∷ []) (same_grows terms) (same_grows numbers) (other ∷ [], refl) entries (kept.Other index) (other_entry other) all (other_last others other index at)

pub stands_with_other : (limit size more : ℕ) (terms numbers : List Term) (others : List Other) (entries : List Kept) (other : Other) (index : ℕ) → index ≡ length others
    → StandsFor limit size terms numbers others entries → has_room limit (entries_kept terms numbers others entries) (other_entry other) ≡ true → more ≡ min (entry_size (other_entry other)) 18446744073709551615
    → StandsFor limit (size + more) terms numbers (others ++ other ∷ []) (entries ++ kept.Other index ∷ [])
stands_with_other limit size more terms numbers others entries other index at stands room is =
    let long : length (others ++ other ∷ []) ≡ length others + 1 = length_push others other in
    stands_with limit size more terms numbers others terms numbers (others ++ other ∷ []) (same_grows terms) (same_grows numbers) (other ∷ [], refl) entries (kept.Other index) (other_entry other)
    stands (other_last others other index at) (omega (arith, long, at)) room is (omega arith) (omega arith) (omega (arith, long))

pub quiet_pushed : (terms numbers : List Term) (others : List Other) (entries : List Kept) → entries_kept terms numbers others (entries ++ kept.Quiet ∷ []) ≡ entries_kept terms numbers others entries ++ Quiet ∷ []
quiet_pushed terms numbers others entries = map_push (entry_kept terms numbers others) entries kept.Quiet

pub stands_with_quiet : (limit size : ℕ) (terms numbers : List Term) (others : List Other) (entries : List Kept) → StandsFor limit size terms numbers others entries
    → has_room limit (entries_kept terms numbers others entries) Quiet ≡ true → StandsFor limit size terms numbers others (entries ++ kept.Quiet ∷ [])
stands_with_quiet limit size terms numbers others entries stands room =
    subst (λ (n : ℕ). StandsFor limit n terms numbers others (entries ++ kept.Quiet ∷ [])) (let e : size + 0 ≡ size = omega arith in e)
    (stands_with limit size 0 terms numbers others terms numbers others (same_grows terms) (same_grows numbers) (same_grows others) entries kept.Quiet Quiet stands refl tt room refl (omega arith) (omega arith) (omega arith))

-- The entry at an index.

pub kept_there : (terms numbers : List Term) (others : List Other) (entries : List Kept) (at : ℕ) (it : Kept) → at < length entries → it ≡ get_or entries at it → slice_get (entries_kept terms numbers others entries) at ≡ Some (entry_kept terms numbers others it)
kept_there terms numbers others entries at it within is =
    slice_get-map (entry_kept terms numbers others) entries at ∙ ap (option_map (entry_kept terms numbers others)) (slice_get-get_or entries at it within ∙ ap Some (sym is))

pub names_within : (terms numbers others : ℕ) (entries : List Kept) (at : ℕ) (it : Kept) → All (NamesWithin terms numbers others) entries → at < length entries → it ≡ get_or entries at it → NamesWithin terms numbers others it
names_within terms numbers others entries at it all within is = subst (NamesWithin terms numbers others) (sym is) (all at it within)

pub other_read : (others : List Other) (at : ℕ) (other : Other) → at < length others → other ≡ get_or others at other → other_there (slice_get others at) ≡ other_entry other
other_read others at other within is = ap other_there (slice_get-get_or others at other within ∙ ap Some (sym is))

-- What contracts see of a log.

pub room_inside : (limit : ℕ) (entries : List Entry) (log : LogState) (entry : Entry) → log.limit ≡ limit → log.entries ≡ entries → has_room log.limit log.entries entry ≡ true → has_room limit entries entry ≡ true
room_inside limit entries log entry same_limit same_entries room =
    ap (λ (n : ℕ). has_room n entries entry) (sym same_limit) ∙ ap (λ (es : List Entry). has_room log.limit es entry) (sym same_entries) ∙ room

pub within_inside : (terms numbers : List Term) (others : List Other) (entries : List Kept) (seen : List Entry) (at : ℕ) → seen ≡ entries_kept terms numbers others entries → at < length seen → at < length entries
within_inside terms numbers others entries seen at is within =
    let long : length seen ≡ length entries = ap length is ∙ entries_long terms numbers others entries in
    omega (arith, within, long)
