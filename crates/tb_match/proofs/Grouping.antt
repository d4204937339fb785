-- Binds are joined in any grouping.
use Rattle.std.proofs.Common.{◌≡◌, ℕ, ◌==◌, Bool, true, false, List, [], ◌∷◌, ◌++◌, Option, Some, None, ◌⊎◌, inl, inr, option_and_then, if◌then◌else◌, refl, ap, sym, ◌∙◌, subst, rules}
use Rattle.tb_terms.specs.declared.term.Term.{Term}
use Rattle.tb_terms.specs.contracts.term.Term as term
use Rattle.tb_terms.specs.Same.{is_same_term}
use Rattle.tb_terms.proofs.SameLemmas.{is_same-sound}
use Rattle.tb_match.specs.declared.bind.Bind.{Bind}
use Rattle.tb_match.specs.Joining.{bound, agreed, with_bind, joined, with_prefix, both}

abbrev pub Binds : Type 0
Binds = List Bind

abbrev Found : Type 0
Found = Option Binds

-- steps that can fail, in order
chain : (f g : Binds → Found) (o : Found) → option_and_then g (option_and_then f o) ≡ option_and_then (λ (a : Binds). option_and_then g (f a)) o
chain f g None = refl
chain f g (Some a) = refl

same_steps : (f g : Binds → Found) (o : Found) → ((a : Binds) → f a ≡ g a) → option_and_then f o ≡ option_and_then g o
same_steps f g None e = refl
same_steps f g (Some a) e = e a

no_step : (o : Found) → ◌≡◌ {A = Found} None (option_and_then (λ (a : Binds). None) o)
no_step None = refl
no_step (Some a) = refl

last_step : (o : Found) → option_and_then (λ (a : Binds). Some a) o ≡ o
last_step None = refl
last_step (Some a) = refl

pub both_steps : (f : Binds → Found) (o : Found) (r : Binds) → option_and_then f o ≡ Some r → (a : Binds) × (o ≡ Some a) × (f a ≡ Some r)
both_steps f None r e = absurd (cc)
both_steps f (Some a) r e = (a, refl, e)

pub joined-one : (a : Binds) (x : Bind) → joined a (x ∷ []) ≡ with_bind a x
joined-one a x = last_step (with_bind a x)

-- one more bind at the end
joined-append : (a b : Binds) (x : Bind) → joined a (b ++ x ∷ []) ≡ option_and_then (λ (all : Binds). with_bind all x) (joined a b)
joined-append a [] x = joined-one a x
joined-append a (y ∷ b) x =
    same_steps (λ (all : Binds). joined all (b ++ x ∷ [])) (λ (all : Binds). option_and_then (λ (u : Binds). with_bind u x) (joined all b)) (with_bind a y) (λ all. joined-append all b x)
    ∙ sym (chain (λ (all : Binds). joined all b) (λ (u : Binds). with_bind u x) (with_bind a y))

-- what the binds in front are bound to, and what those behind them are
prefix_case : (t : Bool) (u w : Term) (o r : Option Term) → (o ≡ Some w → r ≡ Some w) → ◌≡◌ {A = Option Term} (if t then Some u else o) (Some w) → ◌≡◌ {A = Option Term} (if t then Some u else r) (Some w)
prefix_case true u w o r h e = e
prefix_case false u w o r h e = h e

pub bound-prefix : (s : ℕ) (a b : Binds) (w : Term) → bound s a ≡ Some w → bound s (a ++ b) ≡ Some w
bound-prefix s [] b w h = cc
bound-prefix s (y ∷ a) b w h = prefix_case (y.slot == s) y.value w (bound s a) (bound s (a ++ b)) (bound-prefix s a b w) h

behind_case : (t : Bool) (u : Term) (o r e : Option Term) → (o ≡ None → r ≡ e) → ◌≡◌ {A = Option Term} (if t then Some u else o) None → ◌≡◌ {A = Option Term} (if t then Some u else r) e
behind_case true u o r e h q = cc
behind_case false u o r e h q = h q

pub bound-behind : (s : ℕ) (a b : Binds) → bound s a ≡ None → bound s (a ++ b) ≡ bound s b
bound-behind s [] b h = refl
bound-behind s (y ∷ a) b h = behind_case (y.slot == s) y.value (bound s a) (bound s (a ++ b)) (bound s b) (bound-behind s a b) h

pub bound-here : (x : Bind) (b : Binds) → bound x.slot (x ∷ b) ≡ Some x.value
bound-here x b =
    let e : (x.slot == x.slot) ≡ true = search rules in
    rw e refl

-- if there is a result, the slot is bound to the same term, and no bind is added
pub agreed_same : (t : Bool) (a all : Binds) → ◌≡◌ {A = Found} (if t then Some a else None) (Some all) → (t ≡ true) × (a ≡ all)
agreed_same true a all e = (refl, cc)
agreed_same false a all e = absurd (cc)

agreed-bound : (a : Binds) (y : Bind) (all : Binds) (o : Option Term) → bound y.slot a ≡ o → agreed a y o ≡ Some all → bound y.slot all ≡ Some y.value
agreed-bound a y all None h e =
    let is : a ++ y ∷ [] ≡ all = cc in
    subst (λ (l : Binds). bound y.slot l ≡ Some y.value) is (bound-behind y.slot a (y ∷ []) h ∙ bound-here y [])
agreed-bound a y all (Some w) h e =
    let p = agreed_same (is_same_term w y.value) a all e in
    let equal : w ≡ y.value = is_same-sound term.the_row.coded w y.value p.0 in
    sym (ap (bound y.slot) p.1) ∙ h ∙ ap (λ (v : Term). Some v) equal

agreed-keeps : (a : Binds) (y : Bind) (all : Binds) (o : Option Term) → agreed a y o ≡ Some all → (s : ℕ) (w : Term) → bound s a ≡ Some w → bound s all ≡ Some w
agreed-keeps a y all None e s w h =
    let is : a ++ y ∷ [] ≡ all = cc in
    subst (λ (l : Binds). bound s l ≡ Some w) is (bound-prefix s a (y ∷ []) w h)
agreed-keeps a y all (Some v) e s w h = sym (ap (bound s) (agreed_same (is_same_term v y.value) a all e).1) ∙ h

joined-keeps : (a b ab : Binds) → joined a b ≡ Some ab → (s : ℕ) (w : Term) → bound s a ≡ Some w → bound s ab ≡ Some w
joined-keeps a [] ab e s w h =
    let is : a ≡ ab = cc in
    sym (ap (bound s) is) ∙ h
joined-keeps a (y ∷ b) ab e s w h =
    let p = both_steps (λ (all : Binds). joined all b) (with_bind a y) ab e in
    joined-keeps p.0 b ab p.2 s w (agreed-keeps a y p.0 (bound y.slot a) p.1 s w h)

either : (t : Bool) (u w : Term) (o : Option Term) → ◌≡◌ {A = Option Term} (if t then Some u else o) (Some w) → ((t ≡ true) × (u ≡ w)) ⊎ (o ≡ Some w)
either true u w o e = inl (refl, cc)
either false u w o e = inr e

last_or_before : (a b ab : Binds) (y : Bind) (s : ℕ) (w : Term) → (bound y.slot ab ≡ Some y.value) → (bound s b ≡ Some w → bound s ab ≡ Some w) → (((y.slot == s) ≡ true) × (y.value ≡ w)) ⊎ (bound s b ≡ Some w) → bound s ab ≡ Some w
last_or_before a b ab y s w here before (inl q) =
    let t = q.0 in
    let at : y.slot ≡ s = search rules in
    sym (ap (λ (n : ℕ). bound n ab) at) ∙ here ∙ ap (λ (v : Term). Some v) q.1
last_or_before a b ab y s w here before (inr e) = before e

-- a slot remains bound after binds are joined
joined-bound : (a b ab : Binds) → joined a b ≡ Some ab → (s : ℕ) (w : Term) → bound s b ≡ Some w → bound s ab ≡ Some w
joined-bound a [] ab e s w h = cc
joined-bound a (y ∷ b) ab e s w h =
    let p = both_steps (λ (all : Binds). joined all b) (with_bind a y) ab e in
    let here = joined-keeps p.0 b ab p.2 y.slot y.value (agreed-bound a y p.0 (bound y.slot a) refl p.1) in
    last_or_before a b ab y s w here (joined-bound p.0 b ab p.2 s w) (either (y.slot == s) y.value w (bound s b) h)

after_if : (f : Binds → Found) (t : Bool) (b : Binds) → option_and_then f (if t then Some b else None) ≡ (if t then f b else None)
after_if f true b = refl
after_if f false b = refl

if_none : (t : Bool) → ◌≡◌ {A = Found} (if t then None else None) None
if_none true = refl
if_none false = refl

one_more_known : (a b : Binds) (x : Bind) (w : Term) → bound x.slot b ≡ Some w → (o : Found) → joined a b ≡ o → option_and_then (joined a) (agreed b x (Some w)) ≡ option_and_then (λ (ab : Binds). with_bind ab x) o
one_more_known a b x w h None e =
    let t = is_same_term w x.value in
    after_if (joined a) t b ∙ ap (λ (o : Found). if t then o else None) e ∙ if_none t
one_more_known a b x w h (Some ab) e =
    let t = is_same_term w x.value in
    let known : bound x.slot ab ≡ Some w = joined-bound a b ab e x.slot w h in
    after_if (joined a) t b ∙ ap (λ (o : Found). if t then o else None) e ∙ sym (ap (agreed ab x) known)

one_more_at : (a b : Binds) (x : Bind) (o : Option Term) → bound x.slot b ≡ o → option_and_then (joined a) (agreed b x o) ≡ option_and_then (λ (ab : Binds). with_bind ab x) (joined a b)
one_more_at a b x None h = joined-append a b x
one_more_at a b x (Some w) h = one_more_known a b x w h (joined a b) refl

one_more : (a b : Binds) (x : Bind) → option_and_then (joined a) (with_bind b x) ≡ option_and_then (λ (ab : Binds). with_bind ab x) (joined a b)
one_more a b x = one_more_at a b x (bound x.slot b) refl

grouped : (a b c : Binds) → option_and_then (joined a) (joined b c) ≡ option_and_then (λ (ab : Binds). joined ab c) (joined a b)
grouped a b [] = sym (last_step (joined a b))
grouped a b (x ∷ c) =
    chain (λ (u : Binds). joined u c) (joined a) (with_bind b x)
    ∙ same_steps (λ (u : Binds). option_and_then (joined a) (joined u c)) (λ (u : Binds). option_and_then (λ (ab : Binds). joined ab c) (joined a u)) (with_bind b x) (λ u. grouped a u c)
    ∙ sym (chain (joined a) (λ (ab : Binds). joined ab c) (with_bind b x))
    ∙ ap (λ (o : Found). option_and_then (λ (ab : Binds). joined ab c) o) (one_more a b x)
    ∙ chain (λ (ab : Binds). with_bind ab x) (λ (ab : Binds). joined ab c) (joined a b)

-- the first of two parts is joined to the binds before it, and the second to the result
pub with_prefix-both : (a : Binds) (m r : Found) → with_prefix a (both m r) ≡ option_and_then (λ (ab : Binds). with_prefix ab r) (with_prefix a m)
with_prefix-both a None r = refl
with_prefix-both a (Some b) None = no_step (joined a b)
with_prefix-both a (Some b) (Some c) = grouped a b c
