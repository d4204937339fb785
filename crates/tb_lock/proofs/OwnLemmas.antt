-- The entries of a log that need some of given rights.
use Rattle.std.proofs.Common.{◌≡◌, ◌≤◌, ◌+◌, ℕ, List, [], ◌∷◌, ◌++◌, length, Bool, true, false, cond, true≢false, refl, sym, ap, ◌∙◌, subst, ⊎_elim, arith, length-append, append-nil}
use Rattle.std.proofs.lemmas.List.Elements.{filter-append}
use Rattle.std.proofs.lemmas.List.Sums.{length-filter, count_by-le-length}
use Rattle.std.proofs.lemmas.List.{nil_from_length}
use Rattle.tb_log.specs.declared.entry.Entry.{Entry}
use Rattle.tb_lock.specs.declared.rights.Rights.{Rights}
use Rattle.tb_lock.specs.Rights.{Right, has, right_of, own, AreAmong, united}
use Rattle.tb_lock.specs.Histories.{Grows}
use Rattle.tb_lock.proofs.RightLemmas.{of_united}

-- each of these entries needs one of the rights, or none of them does
abbrev pub NeedsOne : Rights → List Entry → Type 0
NeedsOne rights [] = Unit {0}
NeedsOne rights (entry ∷ entries) = (has rights (right_of entry) ≡ true) × NeedsOne rights entries

abbrev pub NeedsNone : Rights → List Entry → Type 0
NeedsNone rights [] = Unit {0}
NeedsNone rights (entry ∷ entries) = (has rights (right_of entry) ≡ false) × NeedsNone rights entries

pub own-append : (rights : Rights) (log more : List Entry) → own rights (log ++ more) ≡ own rights log ++ own rights more
own-append rights log more = filter-append (λ (entry : Entry). has rights (right_of entry)) log more

pub length-own : (rights : Rights) (log : List Entry) → length (own rights log) ≤ length log
length-own rights log =
    let p : Entry → Bool = λ entry. has rights (right_of entry) in
    subst (λ (n : ℕ). n ≤ length log) (sym (length-filter p log)) (count_by-le-length p log)

none_at : (b : Bool) (entry : Entry) (entries : List Entry) → cond b (entry ∷ entries) entries ≡ [] → (b ≡ false) × (entries ≡ [])
none_at true entry entries e = absurd (cc)
none_at false entry entries e = (refl, e)

all_at : (b : Bool) (entry : Entry) (entries more : List Entry) → length entries ≤ length more → cond b (entry ∷ entries) entries ≡ entry ∷ more → (b ≡ true) × (entries ≡ more)
all_at true entry entries more short e = (refl, ap tail e)
  where
    tail : List Entry → List Entry
    tail [] = []
    tail (x ∷ xs) = xs
all_at false entry entries more short e = let long : length entries ≡ length (entry ∷ more) = ap length e in absurd (omega arith)

pub needs_none : (rights : Rights) (entries : List Entry) → own rights entries ≡ [] → NeedsNone rights entries
needs_none rights [] e = tt
needs_none rights (entry ∷ entries) e =
    let t = none_at (has rights (right_of entry)) entry (own rights entries) e in
    (t.0, needs_none rights entries t.1)

pub none_needed : (rights : Rights) (entries : List Entry) → NeedsNone rights entries → own rights entries ≡ []
none_needed rights [] needs = refl
none_needed rights (entry ∷ entries) needs = ap (λ (b : Bool). cond b (entry ∷ own rights entries) (own rights entries)) needs.0 ∙ none_needed rights entries needs.1

pub needs_one : (rights : Rights) (entries : List Entry) → own rights entries ≡ entries → NeedsOne rights entries
needs_one rights [] e = tt
needs_one rights (entry ∷ entries) e =
    let t = all_at (has rights (right_of entry)) entry (own rights entries) entries (length-own rights entries) e in
    (t.0, needs_one rights entries t.1)

pub not_false : (b : Bool) → (b ≡ true → ⊥) → b ≡ false
not_false true never = absurd (never refl)
not_false false never = refl

-- if no entry needs one of the rights, no entry needs one of some of these rights
pub own_fewer : (some rights : Rights) (entries : List Entry) → AreAmong some rights → own rights entries ≡ [] → own some entries ≡ []
own_fewer some rights entries among e = none_needed some entries (go entries (needs_none rights entries e))
  where
    go : (entries : List Entry) → NeedsNone rights entries → NeedsNone some entries
    go [] needs = tt
    go (entry ∷ entries) needs = (not_false (has some (right_of entry)) (λ is. true≢false (sym (among (right_of entry) is) ∙ needs.0)), go entries needs.1)

-- if all entries need one of the rights, no entry needs one of `other`, which has no right in common with them
pub own_apart : (rights other : Rights) (entries : List Entry) → ((right : Right) → has rights right ≡ true → has other right ≡ true → ⊥) → own rights entries ≡ entries → own other entries ≡ []
own_apart rights other entries apart e = none_needed other entries (go entries (needs_one rights entries e))
  where
    go : (entries : List Entry) → NeedsOne rights entries → NeedsNone other entries
    go [] needs = tt
    go (entry ∷ entries) needs = (not_false (has other (right_of entry)) (λ is. apart (right_of entry) needs.0 is), go entries needs.1)

-- if no entry needs one of the rights, and none needs one of the others, no entry needs one of the united rights
pub own_both : (rights more : Rights) (entries : List Entry) → own rights entries ≡ [] → own more entries ≡ [] → own (united rights more) entries ≡ []
own_both rights more entries e f = none_needed (united rights more) entries (go entries (needs_none rights entries e) (needs_none more entries f))
  where
    go : (entries : List Entry) → NeedsNone rights entries → NeedsNone more entries → NeedsNone (united rights more) entries
    go [] needs others = tt
    go (entry ∷ entries) needs others = (
      not_false (has (united rights more) (right_of entry)) (λ is. ⊎_elim (λ t. true≢false (sym t ∙ needs.0)) (λ t. true≢false (sym t ∙ others.0)) (of_united rights more (right_of entry) is)),
      go entries needs.1 others.1,
    )

-- if no entry of two parts together needs one of the rights, no entry of each part does; and the converse
append_nil : {A : Type 0} (xs ys : List A) → xs ++ ys ≡ [] → (xs ≡ []) × (ys ≡ [])
append_nil [] ys e = (refl, e)
append_nil (x ∷ xs) ys e = absurd (cc)

pub own_parts : (rights : Rights) (entries more : List Entry) → own rights (entries ++ more) ≡ [] → (own rights entries ≡ []) × (own rights more ≡ [])
own_parts rights entries more e = append_nil (own rights entries) (own rights more) (sym (own-append rights entries more) ∙ e)

pub own_joined : (rights : Rights) (entries more : List Entry) → own rights entries ≡ [] → own rights more ≡ [] → own rights (entries ++ more) ≡ []
own_joined rights entries more e f = own-append rights entries more ∙ ap (λ (xs : List Entry). xs ++ own rights more) e ∙ f

-- if all entries of two parts need one of the rights, all entries of both together do
pub own_all_more : (rights : Rights) (entries more : List Entry) → own rights entries ≡ entries → own rights more ≡ more → own rights (entries ++ more) ≡ entries ++ more
own_all_more rights entries more e f = own-append rights entries more ∙ ap (λ (xs : List Entry). xs ++ own rights more) e ∙ ap (λ (xs : List Entry). entries ++ xs) f

-- if all entries need one of the rights, and no entry of the rest does, the rest is empty
pub no_rest : (rights : Rights) (seen rest : List Entry) → own rights (seen ++ rest) ≡ seen ++ rest → own rights rest ≡ [] → rest ≡ []
no_rest rights seen rest all none =
    let is : own rights seen ≡ seen ++ rest = sym (append-nil (own rights seen)) ∙ ap (λ (xs : List Entry). own rights seen ++ xs) (sym none) ∙ sym (own-append rights seen rest) ∙ all in
    let short : length (own rights seen) ≤ length seen = length-own rights seen in
    let long : length (own rights seen) ≡ length seen + length rest = ap length is ∙ length-append seen rest in
    nil_from_length rest (omega arith)

-- if no later entry needs one of the rights, the longer log has the same entries that need one of some of these rights
pub own-grows : (some rights : Rights) (seen log : List Entry) → Grows rights seen log → AreAmong some rights → own some log ≡ own some seen
own-grows some rights seen log g among =
    ap (own some) g.is ∙ own-append some seen g.rest ∙ ap (λ (xs : List Entry). own some seen ++ xs) (own_fewer some rights g.rest among g.none) ∙ append-nil (own some seen)
