-- The steps of a walk over the subscriptions.
use Rattle.std.proofs.Common.{◌≡◌, ◌↔◌, ℕ, suc, ◌+◌, ◌<◌, Bool, true, false, List, [], ◌∷◌, ◌++◌, length, get_or, take, drop, remove, IsTrue, refl, ap, sym, ◌∙◌, add-one, append_assoc}
use Rattle.std.proofs.Math.Seq.{drop-cons}
use Rattle.std.proofs.lemmas.List.{take_more}
use Rattle.tb_terms.specs.declared.pattern.Pattern.{Pattern}
use Rattle.tb_terms.specs.contracts.pattern.Pattern as pattern
use Rattle.std.specs.Coded.{Coded, coded_list}
use Rattle.tb_terms.proofs.SameLemmas.{is_same-decided}
use Rattle.tb_notes.specs.Inboxes.{is_same_patterns, is_among, without}

abbrev pub patterns_code : Coded (List Pattern)
patterns_code = coded_list pattern.the_row.coded

rest_at : {A : Type 0} (xs : List A) (i : ℕ) (x : A) → i < length xs → x ≡ get_or xs i x → drop i xs ≡ x ∷ drop (suc i) xs
rest_at {A} xs i x below at = drop-cons xs i x below ∙ ap (λ (y : A). y ∷ drop (suc i) xs) (sym at)

among-here : (ps x : List Pattern) (xs : List (List Pattern)) → is_same_patterns ps x ≡ true → is_among ps (x ∷ xs) ≡ true
among-here ps x xs e = rw e refl

among-past : (ps x : List Pattern) (xs : List (List Pattern)) → is_same_patterns ps x ≡ false → is_among ps (x ∷ xs) ≡ is_among ps xs
among-past ps x xs e = rw e refl

pub without-here : (ps x : List Pattern) (xs : List (List Pattern)) → is_same_patterns ps x ≡ true → without ps (x ∷ xs) ≡ xs
without-here ps x xs e = rw e refl

pub without-past : (ps x : List Pattern) (xs : List (List Pattern)) → is_same_patterns ps x ≡ false → without ps (x ∷ xs) ≡ x ∷ without ps xs
without-past ps x xs e = rw e refl

-- the subscription at i is equal to the patterns
pub found_at : (ps : List Pattern) (xs : List (List Pattern)) (i : ℕ) (x : List Pattern) (b : Bool) → i < length xs → x ≡ get_or xs i x → b ≡ true → (IsTrue b ↔ (ps ≡ x))
    → is_among ps (drop i xs) ≡ is_among ps xs → take i xs ++ without ps (drop i xs) ≡ without ps xs
    → IsTrue (is_among ps xs) × (i < length xs) × (without ps xs ≡ remove xs i)
found_at ps xs i x b below at holds decided among rest =
    let same : is_same_patterns ps x ≡ true = sym (is_same-decided patterns_code ps x b decided) ∙ holds in
    let d : drop i xs ≡ x ∷ drop (suc i) xs = rest_at xs i x below at in (
      sym among ∙ ap (is_among ps) d ∙ among-here ps x (drop (suc i) xs) same,
      below,
      sym rest ∙ ap (λ (l : List (List Pattern)). take i xs ++ l) (ap (without ps) d ∙ without-here ps x (drop (suc i) xs) same),
    )

-- the subscription at i isn't equal to the patterns
pub passed_at : (ps : List Pattern) (xs : List (List Pattern)) (i : ℕ) (x : List Pattern) (b : Bool) → i < length xs → x ≡ get_or xs i x → b ≡ false → (IsTrue b ↔ (ps ≡ x))
    → is_among ps (drop i xs) ≡ is_among ps xs → take i xs ++ without ps (drop i xs) ≡ without ps xs
    → (is_among ps (drop (i + 1) xs) ≡ is_among ps xs) × (take (i + 1) xs ++ without ps (drop (i + 1) xs) ≡ without ps xs)
passed_at ps xs i x b below at fails decided among rest =
    let other : is_same_patterns ps x ≡ false = sym (is_same-decided patterns_code ps x b decided) ∙ fails in
    let d : drop i xs ≡ x ∷ drop (suc i) xs = rest_at xs i x below at in
    let left : List (List Pattern) = without ps (drop (suc i) xs) in
    let more : take (i + 1) xs ≡ take i xs ++ x ∷ [] = take_more xs i x below ∙ ap (λ (y : List Pattern). take i xs ++ y ∷ []) (sym at) in
    let here : take i xs ++ (x ∷ left) ≡ without ps xs =
    ap (λ (l : List (List Pattern)). take i xs ++ l) (sym (ap (without ps) d ∙ without-past ps x (drop (suc i) xs) other)) ∙ rest in (
      rw add-one (sym (ap (is_among ps) d ∙ among-past ps x (drop (suc i) xs) other) ∙ among),
      rw more (rw add-one (append_assoc (take i xs) (x ∷ []) left ∙ here)),
    )
