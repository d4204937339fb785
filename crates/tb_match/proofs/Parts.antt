-- The steps of loops over patterns and terms.
use Rattle.std.proofs.Common.{◌≡◌, ℕ, Bool, true, false, suc, ◌+◌, ◌<◌, List, [], ◌∷◌, length, get_or, drop, Option, Some, None, option_and_then, if◌then◌else◌, IsTrue, refl, ap, sym, ◌∙◌, subst, arith, add-one}
use Rattle.std.proofs.Math.Seq.{drop-cons}
use Rattle.tb_terms.specs.declared.term.Term.{Term}
use Rattle.tb_terms.specs.declared.pattern.Pattern.{Pattern}
use Rattle.tb_terms.specs.Same.{is_same_term}
use Rattle.tb_match.specs.declared.bind.Bind.{Bind}
use Rattle.tb_match.specs.Joining.{bound, agreed, with_bind, with_prefix, both}
use Rattle.tb_match.specs.Matches.{match_term, match_list, binds_if, is_plain, are_plain}
use Rattle.tb_terms.proofs.SameLemmas.{both-true}
use Rattle.tb_match.proofs.Grouping.{Binds, with_prefix-both}
use Rattle.tb_match.proofs.Once.{alone-list}

both-none : (m : Option Binds) → both m None ≡ None
both-none None = refl
both-none (Some a) = refl

-- no match if there aren't as many terms as patterns
pub uneven : (ps : List Pattern) (ts : List Term) → (length ps ≡ length ts → ⊥) → match_list ps ts ≡ None
uneven [] [] h = absurd (h refl)
uneven [] (t ∷ ts) h = refl
uneven (p ∷ ps) [] h = refl
uneven (p ∷ ps) (t ∷ ts) h = ap (both (match_term p t)) (uneven ps ts (λ e. h (ap suc e))) ∙ both-none (match_term p t)

turn : (ps : List Pattern) (ts : List Term) (i : ℕ) (p : Pattern) (t : Term) → i < length ps → length ps ≡ length ts → p ≡ get_or ps i p → t ≡ get_or ts i t → match_list (drop i ps) (drop i ts) ≡ both (match_term p t) (match_list (drop (i + 1) ps) (drop (i + 1) ts))
turn ps ts i p t below even at_p at_t =
    let below_t : i < length ts = omega arith in
    let first : drop i ps ≡ p ∷ drop (suc i) ps = drop-cons ps i p below ∙ ap (λ (q : Pattern). q ∷ drop (suc i) ps) (sym at_p) in
    let second : drop i ts ≡ t ∷ drop (suc i) ts = drop-cons ts i t below_t ∙ ap (λ (u : Term). u ∷ drop (suc i) ts) (sym at_t) in
    rw (add-one, first, second) refl

-- the next part is joined to the binds so far
pub prefix_turn : (a : Binds) (m : Option Binds) (ps : List Pattern) (ts : List Term) (i : ℕ) (p : Pattern) (t : Term) → i < length ps → length ps ≡ length ts → p ≡ get_or ps i p → t ≡ get_or ts i t → m ≡ with_prefix a (match_term p t) → with_prefix a (match_list (drop i ps) (drop i ts)) ≡ option_and_then (λ (b : Binds). with_prefix b (match_list (drop (i + 1) ps) (drop (i + 1) ts))) m
prefix_turn a m ps ts i p t below even at_p at_t e =
    let rest = match_list (drop (i + 1) ps) (drop (i + 1) ts) in
    ap (with_prefix a) (turn ps ts i p t below even at_p at_t)
    ∙ with_prefix-both a (match_term p t) rest
    ∙ ap (λ (o : Option Binds). option_and_then (λ (b : Binds). with_prefix b rest) o) (sym e)

-- if the next part matches, the later parts are joined to the binds after it
pub matched_turn : (a b : Binds) (r : Bool) (ps : List Pattern) (ts : List Term) (i : ℕ) (p : Pattern) (t : Term) → i < length ps → length ps ≡ length ts → p ≡ get_or ps i p → t ≡ get_or ts i t → binds_if r b ≡ with_prefix a (match_term p t) → r ≡ true → with_prefix a (match_list (drop i ps) (drop i ts)) ≡ with_prefix b (match_list (drop (i + 1) ps) (drop (i + 1) ts))
matched_turn a b r ps ts i p t below even at_p at_t e is =
    prefix_turn a (Some b) ps ts i p t below even at_p at_t (ap (λ (m : Bool). binds_if m b) (sym is) ∙ e)

-- if the next part doesn't match, there is no match
pub unmatched_turn : (a b : Binds) (r : Bool) (ps : List Pattern) (ts : List Term) (i : ℕ) (p : Pattern) (t : Term) → i < length ps → length ps ≡ length ts → p ≡ get_or ps i p → t ≡ get_or ts i t → binds_if r b ≡ with_prefix a (match_term p t) → r ≡ false → with_prefix a (match_list (drop i ps) (drop i ts)) ≡ None
unmatched_turn a b r ps ts i p t below even at_p at_t e is =
    prefix_turn a None ps ts i p t below even at_p at_t (ap (λ (m : Bool). binds_if m b) (sym is) ∙ e)

-- joined to no binds, the binds of the parts remain the same
pub alone_found : (a b : Binds) (r : Bool) (ps qs : List Pattern) (ts us : List Term) → a ≡ [] → ps ≡ qs → ts ≡ us → binds_if r b ≡ with_prefix a (match_list ps ts) → binds_if r b ≡ match_list qs us
alone_found a b r ps qs ts us none same also e =
    e ∙ ap (λ (l : Binds). with_prefix l (match_list ps ts)) none ∙ alone-list ps ts ∙ ap (λ (l : List Pattern). match_list l ts) same ∙ ap (match_list qs) also

-- a part that binds nothing keeps the binds so far
pub kept_if : (a : Binds) (m : Bool) → binds_if m a ≡ with_prefix a (binds_if m [])
kept_if a true = refl
kept_if a false = refl

-- a slot that is bound already takes no other term
agrees_if : (a : Binds) (m : Bool) → ◌≡◌ {A = Option Binds} (binds_if m a) (if m then Some a else None)
agrees_if a true = refl
agrees_if a false = refl

pub agreed_if : (a : Binds) (bind : Bind) (other : Term) (m : Bool) → bound bind.slot a ≡ Some other → m ≡ is_same_term other bind.value → binds_if m a ≡ with_bind a bind
agreed_if a bind other m e is =
    ap (λ (r : Bool). binds_if r a) is ∙ agrees_if a (is_same_term other bind.value) ∙ ap (agreed a bind) (sym e)

-- the next part binds nothing
pub plain_turn : (ps : List Pattern) (ts : List Term) (i : ℕ) (p : Pattern) (t : Term) → i < length ps → length ps ≡ length ts → p ≡ get_or ps i p → t ≡ get_or ts i t → Some [] ≡ match_term p t → match_list (drop i ps) (drop i ts) ≡ match_list (drop (i + 1) ps) (drop (i + 1) ts)
plain_turn ps ts i p t below even at_p at_t e =
    let rest = match_list (drop (i + 1) ps) (drop (i + 1) ts) in
    turn ps ts i p t below even at_p at_t
    ∙ ap (λ (o : Option Binds). both o rest) (sym e)
    ∙ alone-list (drop (i + 1) ps) (drop (i + 1) ts)

-- if all parts are plain, the parts after the next are plain
pub plain_rest : (ps : List Pattern) (i : ℕ) (p : Pattern) → i < length ps → IsTrue (are_plain (drop i ps)) → IsTrue (are_plain (drop (i + 1) ps))
plain_rest ps i p below h =
    let first = get_or ps i p in
    let prefix : drop i ps ≡ first ∷ drop (suc i) ps = drop-cons ps i p below in
    rw add-one (both-true (is_plain first) (are_plain (drop (suc i) ps)) (subst (λ (l : List Pattern). IsTrue (are_plain l)) prefix h)).1
