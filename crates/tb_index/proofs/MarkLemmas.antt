-- If terms match patterns, there are as many of both, and the heads meet.
use Rattle.std.proofs.Common.{◌≡◌, ℕ, List, [], ◌∷◌, map, length, Bool, true, false, Option, Some, None, refl, ap, sym, ◌∙◌, arith, ◌⊎◌, inl, inr, if◌then◌else◌, slice_get}
use Rattle.std.proofs.lemmas.List.{length-map}
use Rattle.std.specs.Str.{bytes_eq}
use Rattle.tb_terms.specs.declared.term.Term.{Term, Term-F, out-Term}
use Rattle.tb_terms.specs.declared.term.Term.TheOpen as term
use Rattle.tb_terms.specs.contracts.term.Term as term_contract
use Rattle.std.proofs.lemmas.Slice.Eq.{bytes_eq-Decides}
use Rattle.std.proofs.lemmas.Grind.{common_steps}
use Rattle.std.proofs.lemmas.Bool.Decides.{nat_tests}
use Rattle.tb_terms.specs.declared.pattern.Pattern.{Pattern, Pattern-F, map-Pattern, out-Pattern, fold_out-Pattern}
use Rattle.tb_terms.specs.declared.pattern.Pattern.TheOpen as pattern
use Rattle.tb_terms.specs.Same.{is_same_term}
use Rattle.tb_terms.proofs.SameLemmas.{is_same-sound}
use Rattle.tb_match.specs.declared.bind.Bind.{Bind}
use Rattle.tb_match.specs.Joining.{both}
use Rattle.tb_match.specs.Matches.{Matching, match_all, match_appl, match_members, binds_if, match_step, match_term, match_list}
use Rattle.tb_index.specs.Marks.{open_head, row_head, name_head, term_head_in, term_head, pattern_head_in, pattern_head, first_term_head, first_pattern_head, sent_mark, received_mark, meets}

both-first : (a b : Option (List Bind)) (c : List Bind) → both a b ≡ Some c → (binds : List Bind) × (a ≡ Some binds)
both-first None b c e = cc
both-first (Some binds) b c e = (binds, refl)

both-second : (a b : Option (List Bind)) (c : List Bind) → both a b ≡ Some c → (binds : List Bind) × (b ≡ Some binds)
both-second None b c e = cc
both-second (Some these) None c e = cc
both-second (Some these) (Some binds) c e = (binds, refl)

all-long : (matchings : List Matching) (terms : List Term) (binds : List Bind) → match_all matchings terms ≡ Some binds → length matchings ≡ length terms
all-long [] [] binds e = refl
all-long [] (term ∷ terms) binds e = cc
all-long (matching ∷ others) [] binds e = cc
all-long (matching ∷ others) (term ∷ terms) binds e =
    let rest = both-second (matching term) (match_all others terms) binds e in
    let long = all-long others terms rest.0 rest.1 in
    omega arith

if-some : (b : Bool) (x : Option (List Bind)) (binds : List Bind) → (if b then x else None) ≡ Some binds → (b ≡ true) × (x ≡ Some binds)
if-some true x binds e = (refl, e)
if-some false x binds e = cc

binds-true : (b : Bool) (some binds : List Bind) → binds_if b some ≡ Some binds → b ≡ true
binds-true true some binds e = refl
binds-true false some binds e = cc

-- the received head is open, or equals the sent head
abbrev pub HeadsMeet : ℕ → ℕ → Type 0
HeadsMeet received sent = (received ≡ open_head) ⊎ (received ≡ sent)

appl-meets : (name : List ℕ) (parts : List Pattern) (v : Term-F Term) (binds : List Bind) →
    match_appl name (map match_term parts) v ≡ Some binds → HeadsMeet (name_head name (length parts)) (term_head_in v)
appl-meets name parts (term.Int number) binds e = cc
appl-meets name parts (term.Str bytes) binds e = cc
appl-meets name parts (term.Appl other terms) binds e =
    let t = if-some (bytes_eq name other) (match_all (map match_term parts) terms) binds e in
    let same : name ≡ other = grind (arith, common_steps, bytes_eq-Decides name other, t.0) in
    let long : length parts ≡ length terms = sym (length-map parts match_term) ∙ all-long (map match_term parts) terms binds t.1 in
    inr (ap (name_head name) long ∙ ap (λ n. name_head n (length terms)) same)
appl-meets name parts (term.List terms) binds e = cc

row-meets : (parts : List Matching) (v : Term-F Term) (binds : List Bind) → match_members parts v ≡ Some binds → HeadsMeet row_head (term_head_in v)
row-meets parts (term.Int number) binds e = cc
row-meets parts (term.Str bytes) binds e = cc
row-meets parts (term.Appl other terms) binds e = cc
row-meets parts (term.List terms) binds e = inr refl

step-meets : (w : Pattern-F Pattern) (term : Term) (binds : List Bind) →
    match_step (map-Pattern Pattern Matching match_term w) term ≡ Some binds → HeadsMeet (pattern_head_in w) (term_head_in (out-Term term))
step-meets (pattern.Fixed fixed) term binds e = inr (ap term_head (is_same-sound term_contract.the_row.coded fixed term (binds-true (is_same_term fixed term) [] binds e)))
step-meets (pattern.Hole sort) term binds e = inl refl
step-meets (pattern.Result slot sort) term binds e = inl refl
step-meets (pattern.Appl name parts) term binds e = appl-meets name parts (out-Term term) binds e
step-meets (pattern.List parts) term binds e = row-meets (map match_term parts) (out-Term term) binds e

heads-meet : (p : Pattern) (term : Term) (binds : List Bind) → match_term p term ≡ Some binds → HeadsMeet (pattern_head p) (term_head term)
heads-meet p term binds e = step-meets (out-Pattern p) term binds (sym (ap (λ (m : Matching). m term) (fold_out-Pattern Matching match_step p)) ∙ e)

counts-meet : (patterns : List Pattern) (terms : List Term) (binds : List Bind) → match_list patterns terms ≡ Some binds → length patterns ≡ length terms
counts-meet patterns terms binds e = sym (length-map patterns match_term) ∙ all-long (map match_term patterns) terms binds e

meets-by : (count head other_count other_head : ℕ) → count ≡ other_count → HeadsMeet head other_head →
    meets (record { count = count; head = head }) (record { count = other_count; head = other_head }) ≡ true
meets-by count head other_count other_head e (inl open_one) = rw (e, open_one) (grind (arith, nat_tests))
meets-by count head other_count other_head e (inr same) = rw (e, same) (grind (arith, nat_tests))

-- If terms match patterns, their marks meet.
pub matched-meets : (patterns : List Pattern) (terms : List Term) (binds : List Bind) → match_list patterns terms ≡ Some binds →
    meets (received_mark patterns) (sent_mark terms) ≡ true
unfolding received_mark sent_mark
matched-meets [] [] binds e = refl
matched-meets [] (term ∷ terms) binds e = cc
matched-meets (p ∷ patterns) [] binds e = cc
matched-meets (p ∷ patterns) (term ∷ terms) binds e =
    let first = both-first (match_term p term) (match_all (map match_term patterns) terms) binds e in
    meets-by (length (p ∷ patterns)) (pattern_head p) (length (term ∷ terms)) (term_head term)
    (counts-meet (p ∷ patterns) (term ∷ terms) binds e) (heads-meet p term first.0 first.1)

some-same : {X : Type 0} (a b : X) → Some a ≡ Some b → a ≡ b
some-same a b e = cc

pub first-term : (terms : List Term) (term : Term) → slice_get terms 0 ≡ Some term → term_head term ≡ first_term_head terms
first-term [] term e = cc
first-term (first ∷ terms) term e = let same : first ≡ term = some-same first term e in ap term_head (sym same)

pub no-term : (terms : List Term) → slice_get terms 0 ≡ None → open_head ≡ first_term_head terms
no-term [] e = refl
no-term (first ∷ terms) e = cc

pub first-pattern : (patterns : List Pattern) (p : Pattern) → slice_get patterns 0 ≡ Some p → pattern_head p ≡ first_pattern_head patterns
first-pattern [] p e = cc
first-pattern (first ∷ patterns) p e = let same : first ≡ p = some-same first p e in ap pattern_head (sym same)

pub no-pattern : (patterns : List Pattern) → slice_get patterns 0 ≡ None → open_head ≡ first_pattern_head patterns
no-pattern [] e = refl
no-pattern (first ∷ patterns) e = cc
