-- The effect of a subscription on the wanted notes, and of its removal.
use Rattle.std.proofs.Common.{◌≡◌, Bool, true, false, ◌||◌, if◌then◌else◌, List, [], ◌∷◌, ◌++◌, refl, ap, sym, ◌∙◌}
use Rattle.std.specs.List.{list_any, IsDistinct, AllByRecursion}
use Rattle.std.proofs.lemmas.List.Folds.{list_any-append}
use Rattle.std.proofs.lemmas.Map.Keys.{IsDistinct-head, IsDistinct-tail}
use Rattle.tb_terms.specs.declared.term.Term.{Term}
use Rattle.tb_terms.specs.declared.pattern.Pattern.{Pattern}
use Rattle.tb_terms.proofs.SameLemmas.{is_same-refl, is_same-sound}
use Rattle.tb_notes.specs.Inboxes.{Held, is_same_patterns, is_among, with_subscription, without, subscribed, unsubscribed, fits, wants, IsInOrder}
use Rattle.tb_notes.proofs.Walking.{patterns_code, without-here, without-past}
use Rattle.tb_notes.proofs.Ordering.{same_patterns-equiv}

abbrev Subscriptions : Type 0
Subscriptions = List (List Pattern)

or-false : (a : Bool) → (a || false) ≡ a
or-false true = refl
or-false false = refl

or-self : (a b : Bool) → (b ≡ true → a ≡ true) → (a || b) ≡ a
or-self true b h = refl
or-self false true h = sym (h refl)
or-self false false h = refl

or-true : (a : Bool) → (a || true) ≡ true
or-true true = refl
or-true false = refl

wanted-here : (note : List Term) (ps x : List Pattern) (xs : Subscriptions) → is_same_patterns ps x ≡ true → fits note ps ≡ true → list_any (fits note) (x ∷ xs) ≡ true
wanted-here note ps x xs e f =
    let same : fits note x ≡ true = ap (fits note) (sym (is_same-sound patterns_code ps x e)) ∙ f in
    rw same refl

wanted-in : (note : List Term) (ps x : List Pattern) (xs : Subscriptions) (b : Bool) → is_same_patterns ps x ≡ b → fits note ps ≡ true
    → (b || is_among ps xs) ≡ true → (is_among ps xs ≡ true → list_any (fits note) xs ≡ true) → list_any (fits note) (x ∷ xs) ≡ true
wanted-in note ps x xs true e f h left = wanted-here note ps x xs e f
wanted-in note ps x xs false e f h left = ap (λ (a : Bool). fits note x || a) (left h) ∙ or-true (fits note x)

-- a note that a subscription matches is wanted
among-wants : (note : List Term) (ps : List Pattern) (xs : Subscriptions) → is_among ps xs ≡ true → fits note ps ≡ true → list_any (fits note) xs ≡ true
among-wants note ps [] h f = cc
among-wants note ps (x ∷ xs) h f =
    wanted-in note ps x xs (is_same_patterns ps x) refl f h (λ k. among-wants note ps xs k f)

wants-added : (note : List Term) (ps : List Pattern) (xs : Subscriptions) (b : Bool) → is_among ps xs ≡ b
    → list_any (fits note) (if b then xs else xs ++ ps ∷ []) ≡ (list_any (fits note) xs || fits note ps)
wants-added note ps xs true e = sym (or-self (list_any (fits note) xs) (fits note ps) (among-wants note ps xs e))
wants-added note ps xs false e =
    list_any-append (fits note) xs (ps ∷ []) ∙ ap (λ (a : Bool). list_any (fits note) xs || a) (or-false (fits note ps))

pub wants-subscribed : (ps : List Pattern) (held : Held) (note : List Term) → wants (subscribed ps held) note ≡ (wants held note || fits note ps)
wants-subscribed ps held note = wants-added note ps held.subscriptions (is_among ps held.subscriptions) refl

among-added : (ps : List Pattern) (xs : Subscriptions) (b : Bool) → is_among ps xs ≡ b → is_among ps (if b then xs else xs ++ ps ∷ []) ≡ true
among-added ps xs true e = e
among-added ps xs false e =
    list_any-append (is_same_patterns ps) xs (ps ∷ [])
    ∙ ap (λ (a : Bool). is_among ps xs || (a || false)) (is_same-refl patterns_code ps)
    ∙ or-true (is_among ps xs)

kept : (ps : List Pattern) (xs : Subscriptions) → is_among ps xs ≡ true → with_subscription ps xs ≡ xs
kept ps xs e = rw e refl

added : (ps : List Pattern) (xs : Subscriptions) → is_among ps xs ≡ false → with_subscription ps xs ≡ xs ++ ps ∷ []
added ps xs e = rw e refl

pub subscribed-twice : (ps : List Pattern) (held : Held) → subscribed ps (subscribed ps held) ≡ subscribed ps held
subscribed-twice ps held =
    let xs = held.subscriptions in
    ap (λ (ys : Subscriptions). record { subscriptions = ys; notes = held.notes })
    (kept ps (with_subscription ps xs) (among-added ps xs (is_among ps xs) refl))

or-none : (a b : Bool) → (a || b) ≡ false → (a ≡ false) × (b ≡ false)
or-none true b h = cc
or-none false b h = (refl, h)

without-added : (ps : List Pattern) (xs : Subscriptions) → is_among ps xs ≡ false → without ps (xs ++ ps ∷ []) ≡ xs
without-added ps [] h = without-here ps ps [] (is_same-refl patterns_code ps)
without-added ps (x ∷ xs) h =
    let t = or-none (is_same_patterns ps x) (is_among ps xs) h in
    without-past ps x (xs ++ ps ∷ []) t.0 ∙ ap (λ (ys : Subscriptions). x ∷ ys) (without-added ps xs t.1)

pub unsubscribed-back : (ps : List Pattern) (held : Held) → is_among ps held.subscriptions ≡ false → unsubscribed ps (subscribed ps held) ≡ held
unsubscribed-back ps held h =
    let xs = held.subscriptions in
    ap (λ (ys : Subscriptions). record { subscriptions = ys; notes = held.notes })
    (ap (without ps) (added ps xs h) ∙ without-added ps xs h)

-- if no subscription equals a list of patterns, equal patterns aren't among the subscriptions
apart : (ps x : List Pattern) (xs : Subscriptions) → is_same_patterns ps x ≡ true → AllByRecursion (λ y. is_same_patterns x y ≡ false) xs → is_among ps xs ≡ false
apart ps x [] e h = refl
apart ps x (y ∷ ys) e h =
    let other : is_same_patterns ps y ≡ false = same_patterns-equiv.congr ps x y e ∙ h.0 in
    let left : is_among ps ys ≡ false = apart ps x ys e h.1 in
    rw (other, left) refl

gone-past : (ps x : List Pattern) (xs : Subscriptions) (b : Bool) → is_same_patterns ps x ≡ b → AllByRecursion (λ y. is_same_patterns x y ≡ false) xs
    → is_among ps (without ps xs) ≡ false → is_among ps (if b then xs else x ∷ without ps xs) ≡ false
gone-past ps x xs true e others left = apart ps x xs e others
gone-past ps x xs false e others left = rw (e, left) refl

gone-without : (ps : List Pattern) (xs : Subscriptions) → IsDistinct is_same_patterns xs → is_among ps (without ps xs) ≡ false
gone-without ps [] d = refl
gone-without ps (x ∷ xs) d =
    gone-past ps x xs (is_same_patterns ps x) refl (IsDistinct-head is_same_patterns x xs d)
    (gone-without ps xs (IsDistinct-tail is_same_patterns x xs d))

pub unsubscribed-gone : (ps : List Pattern) (held : Held) → IsInOrder held → is_among ps (unsubscribed ps held).subscriptions ≡ false
unsubscribed-gone ps held order = gone-without ps held.subscriptions order.distinct
