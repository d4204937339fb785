-- What a pattern of each kind matches, and matches that bind nothing.
use Rattle.std.proofs.Common.{◌≡◌, ℕ, Bool, true, false, List, [], ◌∷◌, map, Option, Some, None, is_some, option_map, option_and_then, if◌then◌else◌, refl, sym, ap, ◌∙◌, subst}
use Rattle.std.proofs.lemmas.Slice.Eq.{bytes_eq-Decides}
use Rattle.std.specs.Str.{bytes_eq}
use Rattle.tb_terms.specs.declared.term.Term.{Term, Term-F, out-Term}
use Rattle.tb_terms.specs.declared.term.Term.TheOpen as layer
use Rattle.tb_terms.specs.declared.term.Term.TheVariants as term
use Rattle.tb_terms.specs.contracts.term.Term as row
use Rattle.tb_terms.specs.declared.sort.Sort.{Sort}
use Rattle.tb_terms.specs.declared.pattern.Pattern.{Pattern, Pattern-F, map-Pattern, out-Pattern, fold_out-Pattern}
use Rattle.tb_terms.specs.declared.pattern.Pattern.TheOpen as open_pattern
use Rattle.tb_terms.specs.declared.pattern.Pattern.TheVariants as pattern
use Rattle.tb_terms.specs.Same.{is_same_term}
use Rattle.tb_terms.specs.Sorts.{has_sort}
use Rattle.tb_terms.proofs.SameLemmas.{is_same-sound, is_same-refl}
use Rattle.tb_func.specs.Arguments.{of_both}
use Rattle.tb_func.specs.Patterns.{fixed_in, fixed_term, fixed_terms}
use Rattle.tb_match.specs.Joining.{both}
use Rattle.tb_match.specs.Matches.{Matching, binds_if, match_appl, match_list, match_members, match_step, match_term}
use Rattle.tb_match.proofs.Grouping.{Binds}

-- what is there comes of what is there

pub then-some : {A B : Type 0} (f : A → Option B) (o : Option A) (b : B) → option_and_then f o ≡ Some b → (a : A) × (o ≡ Some a) × (f a ≡ Some b)
then-some f None b h = cc
then-some f (Some a) b h = (a, refl, h)

pub map-some : {A B : Type 0} (f : A → B) (o : Option A) (b : B) → option_map f o ≡ Some b → (a : A) × (o ≡ Some a) × (f a ≡ b)
map-some f None b h = cc
map-some f (Some a) b h = let e : f a ≡ b = cc in (a, refl, e)

pub cons-some : {A : Type 0} (o : Option A) (os : Option (List A)) (all : List A) → of_both (λ x xs. Some (x ∷ xs)) o os ≡ Some all → (x : A) × (xs : List A) × (o ≡ Some x) × (os ≡ Some xs) × (x ∷ xs ≡ all)
cons-some None os all h = cc
cons-some (Some x) None all h = cc
cons-some (Some x) (Some xs) all h = let e : x ∷ xs ≡ all = cc in (x, xs, refl, refl, e)

-- a match of each kind of pattern

abbrev matching : Pattern-F Pattern → Matching
matching w = match_step (map-Pattern Pattern Matching match_term w)

matched : (p : Pattern) (w : Pattern-F Pattern) (t : Term) → out-Pattern p ≡ w → match_term p t ≡ matching w t
matched p w t e = ap (λ (m : Matching). m t) (fold_out-Pattern Matching match_step p ∙ ap matching e)

pub match-Fixed : (f t : Term) → match_term (pattern.Fixed f) t ≡ binds_if (is_same_term f t) []
match-Fixed f t = matched (pattern.Fixed f) (open_pattern.Fixed f) t (pattern.outs-Fixed f)

pub match-Hole : (s : Sort) (t : Term) → match_term (pattern.Hole s) t ≡ binds_if (has_sort t s) []
match-Hole s t = matched (pattern.Hole s) (open_pattern.Hole s) t (pattern.outs-Hole s)

match-Result : (n : ℕ) (s : Sort) (t : Term) → match_term (pattern.Result n s) t ≡ binds_if (has_sort t s) (record { slot = n; value = t } ∷ [])
match-Result n s t = matched (pattern.Result n s) (open_pattern.Result n s) t (pattern.outs-Result n s)

match-Appl : (name : List ℕ) (ps : List Pattern) (t : Term) → match_term (pattern.Appl name ps) t ≡ match_appl name (map match_term ps) (out-Term t)
match-Appl name ps t = matched (pattern.Appl name ps) (open_pattern.Appl name ps) t (pattern.outs-Appl name ps)

match-List : (ps : List Pattern) (t : Term) → match_term (pattern.List ps) t ≡ match_members (map match_term ps) (out-Term t)
match-List ps t = matched (pattern.List ps) (open_pattern.List ps) t (pattern.outs-List ps)

-- a line matches where its parts do
pub line-match : (word : List ℕ) (patterns : List Pattern) (terms : List Term) → match_term (pattern.Appl word patterns) (term.Appl word terms) ≡ match_list patterns terms
line-match word patterns terms =
    let same : bytes_eq word word ≡ true = (bytes_eq-Decides word word).1 refl in
    match-Appl word patterns (term.Appl word terms)
    ∙ ap (match_appl word (map match_term patterns)) (term.outs-Appl word terms)
    ∙ ap (λ (b : Bool). if b then match_list patterns terms else None) same

-- and so does a list
pub list-match : (patterns : List Pattern) (terms : List Term) → match_term (pattern.List patterns) (term.List terms) ≡ match_list patterns terms
list-match patterns terms = match-List patterns (term.List terms) ∙ ap (match_members (map match_term patterns)) (term.outs-List terms)

-- what a match says

if-some : (b : Bool) (binds : Binds) → is_some (binds_if b binds) ≡ true → b ≡ true
if-some true binds h = refl
if-some false binds h = h

pub fixed-is : (f t : Term) → is_some (match_term (pattern.Fixed f) t) ≡ true → f ≡ t
fixed-is f t h = is_same-sound row.the_row.coded f t (if-some (is_same_term f t) [] (sym (ap is_some (match-Fixed f t)) ∙ h))

pub hole-has : (s : Sort) (t : Term) → is_some (match_term (pattern.Hole s) t) ≡ true → has_sort t s ≡ true
hole-has s t h = if-some (has_sort t s) [] (sym (ap is_some (match-Hole s t)) ∙ h)

pub result-has : (n : ℕ) (s : Sort) (t : Term) → is_some (match_term (pattern.Result n s) t) ≡ true → has_sort t s ≡ true
result-has n s t h = if-some (has_sort t s) (record { slot = n; value = t } ∷ []) (sym (ap is_some (match-Result n s t)) ∙ h)

both-some : (m r : Option Binds) → is_some (both m r) ≡ true → (is_some m ≡ true) × (is_some r ≡ true)
both-some None r h = cc
both-some (Some a) None h = cc
both-some (Some a) (Some b) h = (refl, refl)

-- a match that binds nothing

pub fixed-plain : (f t : Term) → f ≡ t → match_term (pattern.Fixed f) t ≡ Some []
fixed-plain f t e = match-Fixed f t ∙ ap (λ (b : Bool). binds_if b []) (ap (is_same_term f) (sym e) ∙ is_same-refl row.the_row.coded f)

pub hole-plain : (s : Sort) (t : Term) → has_sort t s ≡ true → match_term (pattern.Hole s) t ≡ Some []
hole-plain s t h = match-Hole s t ∙ ap (λ (b : Bool). binds_if b []) h

pub both-plain : (m r : Option Binds) → m ≡ Some [] → r ≡ Some [] → both m r ≡ Some []
both-plain m r h k = rw (h, k) refl

-- where a match of the one pattern is one of the other

abbrev pub Within : Pattern → Pattern → Type 0
Within p q = (t : Term) → is_some (match_term p t) ≡ true → match_term q t ≡ Some []

abbrev pub AreWithin : List Pattern → List Pattern → Type 0
AreWithin ps qs = (ts : List Term) → is_some (match_list ps ts) ≡ true → match_list qs ts ≡ Some []

pub none-within : AreWithin [] []
none-within [] h = refl
none-within (t ∷ ts) h = cc

pub cons-within : (p q : Pattern) (ps qs : List Pattern) → Within p q → AreWithin ps qs → AreWithin (p ∷ ps) (q ∷ qs)
cons-within p q ps qs one more [] h = cc
cons-within p q ps qs one more (t ∷ ts) h =
    let parts = both-some (match_term p t) (match_list ps ts) h in
    both-plain (match_term q t) (match_list qs ts) (one t parts.0) (more ts parts.1)

appl-layer : (name : List ℕ) (ps qs : List Pattern) → AreWithin ps qs → (w : Term-F Term) → is_some (match_appl name (map match_term ps) w) ≡ true → match_appl name (map match_term qs) w ≡ Some []
appl-layer name ps qs f (layer.Int n) h = cc
appl-layer name ps qs f (layer.Str s) h = cc
appl-layer name ps qs f (layer.Appl other ts) h = named (bytes_eq name other) h where
  named : (b : Bool) → is_some (if b then match_list ps ts else None) ≡ true → (if b then match_list qs ts else None) ≡ Some []
  named true k = f ts k
  named false k = cc
appl-layer name ps qs f (layer.List ts) h = cc

pub appl-within : (name : List ℕ) (ps qs : List Pattern) → AreWithin ps qs → Within (pattern.Appl name ps) (pattern.Appl name qs)
appl-within name ps qs f t h = match-Appl name qs t ∙ appl-layer name ps qs f (out-Term t) (sym (ap is_some (match-Appl name ps t)) ∙ h)

list-layer : (ps qs : List Pattern) → AreWithin ps qs → (w : Term-F Term) → is_some (match_members (map match_term ps) w) ≡ true → match_members (map match_term qs) w ≡ Some []
list-layer ps qs f (layer.Int n) h = cc
list-layer ps qs f (layer.Str s) h = cc
list-layer ps qs f (layer.Appl name ts) h = cc
list-layer ps qs f (layer.List ts) h = f ts h

pub list-within : (ps qs : List Pattern) → AreWithin ps qs → Within (pattern.List ps) (pattern.List qs)
list-within ps qs f t h = match-List qs t ∙ list-layer ps qs f (out-Term t) (sym (ap is_some (match-List ps t)) ∙ h)

-- patterns that are all fixed match their terms

fixed-layer : (w : Pattern-F Pattern) (t : Term) → fixed_in w ≡ Some t → matching w t ≡ Some []
fixed-layer (open_pattern.Fixed f) t h =
    let e : f ≡ t = cc in
    sym (match-Fixed f t) ∙ fixed-plain f t e
fixed-layer (open_pattern.Hole s) t h = cc
fixed-layer (open_pattern.Result n s) t h = cc
fixed-layer (open_pattern.Appl name ps) t h = cc
fixed-layer (open_pattern.List ps) t h = cc

fixed-one : (p : Pattern) (t : Term) → fixed_term p ≡ Some t → match_term p t ≡ Some []
fixed-one p t h = matched p (out-Pattern p) t refl ∙ fixed-layer (out-Pattern p) t h

pub fixed-all : (ps : List Pattern) (ts : List Term) → fixed_terms ps ≡ Some ts → match_list ps ts ≡ Some []
fixed-all [] ts h =
    let e : [] ≡ ts = cc in
    subst (λ (l : List Term). match_list [] l ≡ Some []) e refl
fixed-all (p ∷ ps) ts h =
    let c = cons-some (fixed_term p) (fixed_terms ps) ts h in
    subst (λ (l : List Term). match_list (p ∷ ps) l ≡ Some []) c.4 (both-plain (match_term p c.0) (match_list ps c.1) (fixed-one p c.0 c.2) (fixed-all ps c.1 c.3))
