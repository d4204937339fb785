-- A match gives the fewest binds under which a term agrees with a pattern.
use Rattle.std.proofs.Common.{◌≡◌, ℕ, ◌==◌, Bool, true, false, ◌&&◌, List, [], ◌∷◌, ◌++◌, map, Option, Some, None, IfSome, IsTrue, MatchOption, option_and_then, if◌then◌else◌, refl, ap, sym, ◌∙◌, subst, rules}
use Rattle.std.specs.List.{AllByRecursion}
use Rattle.std.specs.Str.{bytes_eq}
use Rattle.tb_terms.specs.declared.term.Term.{Term, out-Term}
use Rattle.tb_terms.specs.declared.term.Term.TheOpen as term
use Rattle.tb_terms.specs.contracts.term.Term as row
use Rattle.tb_terms.specs.declared.pattern.Pattern.{Pattern, Pattern-F, map-Pattern, ind-Pattern, roll-Pattern, fold-roll-Pattern}
use Rattle.tb_terms.specs.declared.pattern.Pattern.TheOpen as layer
use Rattle.tb_terms.specs.Same.{is_same_term}
use Rattle.tb_terms.specs.Sorts.{has_sort}
use Rattle.tb_terms.proofs.SameLemmas.{is_same-sound, is_same-refl, both-true}
use Rattle.tb_match.specs.declared.bind.Bind.{Bind}
use Rattle.tb_match.specs.Agreeing.{Agreeing, all_agree, appl_agrees, members_agree, is_value, agree_step, agrees, list_agrees, AreAmong}
use Rattle.tb_match.specs.Joining.{bound, agreed, with_bind, joined, both, IsBoundOnce}
use Rattle.tb_match.specs.Matches.{Matching, match_all, match_appl, match_members, binds_if, match_step, match_term, match_list}
use Rattle.tb_match.proofs.Grouping.{Binds, both_steps, agreed_same}
use Rattle.tb_match.proofs.Once.{match_term-once, match_list-once, none_of, differs}

-- binds among others

among-append : (a b o : Binds) → AreAmong a o → AreAmong b o → AreAmong (a ++ b) o
among-append [] b o h k = k
among-append (x ∷ a) b o h k = (h.0, among-append a b o h.1 k)

among-prefix : (a b o : Binds) → AreAmong (a ++ b) o → AreAmong a o
among-prefix [] b o h = tt
among-prefix (x ∷ a) b o h = (h.0, among-prefix a b o h.1)

among-behind : (a b o : Binds) → AreAmong (a ++ b) o → AreAmong b o
among-behind [] b o h = h
among-behind (x ∷ a) b o h = among-behind a b o h.1

found_case : (t : Bool) (m n : ℕ) → (m == n) ≡ t → (u w : Term) (r : Option Term) (o : Binds) → bound m o ≡ Some u → (r ≡ Some w → bound n o ≡ Some w) → ◌≡◌ {A = Option Term} (if t then Some u else r) (Some w) → bound n o ≡ Some w
found_case true m n t u w r o h k e =
    let at : m ≡ n = search rules in
    let value : u ≡ w = cc in
    sym (ap (λ (s : ℕ). bound s o) at) ∙ h ∙ ap (λ (v : Term). Some v) value
found_case false m n t u w r o h k e = k e

among-bound : (a o : Binds) → AreAmong a o → (s : ℕ) (w : Term) → bound s a ≡ Some w → bound s o ≡ Some w
among-bound [] o h s w e = cc
among-bound (x ∷ a) o h s w e = found_case (x.slot == s) x.slot s refl x.value w (bound s a) o h.0 (among-bound a o h.1 s w) e

-- binds among others remain among these with a further bind, if its slot is free
among-more : (a o : Binds) (x : Bind) → bound x.slot a ≡ None → AreAmong a o → AreAmong a (x ∷ o)
among-more [] o x free h = tt
among-more (z ∷ a) o x free h =
    let p = none_of (z.slot == x.slot) z.value (bound x.slot a) free in
    let past : bound z.slot (x ∷ o) ≡ bound z.slot o = rw (differs z.slot x.slot p.0) refl in
    (past ∙ h.0, among-more a o x p.1 h.1)

among-self : (a : Binds) → IsBoundOnce a → AreAmong a a
among-self [] h = tt
among-self (x ∷ a) h =
    let e : (x.slot == x.slot) ≡ true = search rules in
    let here : bound x.slot (x ∷ a) ≡ Some x.value = rw e refl in
    (here, among-more a a x h.0 (among-self a h.1))

-- one more bind
abbrev Among : Option Binds → Binds → Type 0
Among found o = MatchOption found ⊥ (λ a. AreAmong a o)

agreed-among : (a : Binds) (x : Bind) (o : Binds) (f : Option Term) → bound x.slot a ≡ f → AreAmong a o → bound x.slot o ≡ Some x.value → Among (agreed a x f) o
agreed-among a x o None e h k = among-append a (x ∷ []) o h (k, tt)
agreed-among a x o (Some w) e h k =
    let there : bound x.slot o ≡ Some w = among-bound a o h x.slot w e in
    let value : ◌≡◌ {A = Option Term} (Some w) (Some x.value) = sym there ∙ k in
    let equal : w ≡ x.value = cc in
    let test : is_same_term w x.value ≡ true = ap (is_same_term w) (sym equal) ∙ is_same-refl row.the_row.coded w in
    rw test h

agreed-from : (a : Binds) (x : Bind) (o all : Binds) (f : Option Term) → bound x.slot a ≡ f → agreed a x f ≡ Some all → AreAmong all o → AreAmong a o × (bound x.slot o ≡ Some x.value)
agreed-from a x o all None e is h =
    let whole : a ++ x ∷ [] ≡ all = cc in
    let parts : AreAmong (a ++ x ∷ []) o = subst (λ (l : Binds). AreAmong l o) (sym whole) h in
    (among-prefix a (x ∷ []) o parts, (among-behind a (x ∷ []) o parts).0)
agreed-from a x o all (Some w) e is h =
    let p = agreed_same (is_same_term w x.value) a all is in
    let prefix : AreAmong a o = subst (λ (l : Binds). AreAmong l o) (sym p.1) h in
    let equal : w ≡ x.value = is_same-sound row.the_row.coded w x.value p.0 in
    (prefix, among-bound a o prefix x.slot w e ∙ ap (λ (v : Term). Some v) equal)

-- binds that are joined
then-among : (f : Binds → Option Binds) (m : Option Binds) (o : Binds) → Among m o → ((a : Binds) → AreAmong a o → Among (f a) o) → Among (option_and_then f m) o
then-among f None o h k = h
then-among f (Some a) o h k = k a h

joined-among : (a b o : Binds) → AreAmong a o → AreAmong b o → Among (joined a b) o
joined-among a [] o h k = h
joined-among a (x ∷ b) o h k = then-among (λ (all : Binds). joined all b) (with_bind a x) o (agreed-among a x o (bound x.slot a) refl h k.0) (λ all q. joined-among all b o q k.1)

joined-from : (a b ab o : Binds) → joined a b ≡ Some ab → AreAmong ab o → AreAmong a o × AreAmong b o
joined-from a [] ab o e h =
    let is : a ≡ ab = cc in
    (subst (λ (l : Binds). AreAmong l o) (sym is) h, tt)
joined-from a (x ∷ b) ab o e h =
    let p = both_steps (λ (all : Binds). joined all b) (with_bind a x) ab e in
    let rest = joined-from p.0 b ab o p.2 h in
    let here = agreed-from a x o p.0 (bound x.slot a) refl p.1 rest.0 in
    (here.0, (here.1, rest.1))

-- a match and a test that agree under these binds
abbrev Covers : Binds → Option Binds → Bool → Type 0
Covers o None t = t ≡ false
Covers o (Some a) t = (t ≡ true → AreAmong a o) × (AreAmong a o → t ≡ true)

and_true : (s t : Bool) → s ≡ true → t ≡ true → (s && t) ≡ true
and_true true t h k = k
and_true false t h k = cc

no_second : (s t : Bool) → t ≡ false → (s && t) ≡ false
no_second true t h = h
no_second false t h = refl

not_both : (s t : Bool) → (s ≡ true → t ≡ true → ⊥) → (s && t) ≡ false
not_both true true h = absurd (h refl refl)
not_both true false h = refl
not_both false t h = refl

joined-covers : (o a b : Binds) (s t : Bool) (f : Option Binds) → joined a b ≡ f → Covers o (Some a) s → Covers o (Some b) t → Covers o f (s && t)
joined-covers o a b s t None e h k = not_both s t (λ p q. subst (λ (m : Option Binds). Among m o) e (joined-among a b o (h.0 p) (k.0 q)))
joined-covers o a b s t (Some ab) e h k = (
  (λ p. let q = both-true s t p in subst (λ (m : Option Binds). Among m o) e (joined-among a b o (h.0 q.0) (k.0 q.1))),
  (λ p. let q = joined-from a b ab o e p in and_true s t (h.1 q.0) (k.1 q.1)),
)

both-covers : (o : Binds) (m r : Option Binds) (s t : Bool) → Covers o m s → Covers o r t → Covers o (both m r) (s && t)
both-covers o None r s t h k = ap (λ (b : Bool). b && t) h
both-covers o (Some a) None s t h k = no_second s t k
both-covers o (Some a) (Some b) s t h k = joined-covers o a b s t (joined a b) refl h k

none-covers : (o : Binds) (t : Bool) → Covers o (binds_if t []) t
none-covers o true = ((λ _. tt), (λ _. refl))
none-covers o false = refl

is_value-true : (f : Option Term) (t : Term) → is_value f t ≡ true → f ≡ Some t
is_value-true None t h = cc
is_value-true (Some v) t h = ap (λ (w : Term). Some w) (is_same-sound row.the_row.coded v t h)

one-covers : (o : Binds) (n : ℕ) (t : Term) (s : Bool) → Covers o (binds_if s (record { slot = n; value = t } ∷ [])) (s && is_value (bound n o) t)
one-covers o n t false = refl
one-covers o n t true = (
  (λ h. (is_value-true (bound n o) t h, tt)),
  (λ h. ap (λ (f : Option Term). is_value f t) h.0 ∙ is_same-refl row.the_row.coded t),
)

-- the match of a pattern and the test `agrees` agree
abbrev Claim : Binds → Pattern → Type 0
Claim o p = (t : Term) → Covers o (match_term p t) (agrees o p t)

all-cover : (o : Binds) (ps : List Pattern) (ts : List Term) → AllByRecursion (Claim o) ps → Covers o (match_all (map match_term ps) ts) (all_agree (map (agrees o) ps) ts)
all-cover o [] [] h = ((λ _. tt), (λ _. refl))
all-cover o [] (t ∷ ts) h = refl
all-cover o (p ∷ ps) [] h = refl
all-cover o (p ∷ ps) (t ∷ ts) h = both-covers o (match_term p t) (match_all (map match_term ps) ts) (agrees o p t) (all_agree (map (agrees o) ps) ts) (h.0 t) (all-cover o ps ts h.1)

named-cover : (o : Binds) (s t : Bool) (m : Option Binds) → Covers o m t → Covers o (if s then m else None) (s && t)
named-cover o true t m h = h
named-cover o false t m h = refl

appl-cover : (o : Binds) (name : List ℕ) (ps : List Pattern) → AllByRecursion (Claim o) ps → (w : term.Term-F Term) → Covers o (match_appl name (map match_term ps) w) (appl_agrees name (map (agrees o) ps) w)
appl-cover o name ps h (term.Int n) = refl
appl-cover o name ps h (term.Str s) = refl
appl-cover o name ps h (term.Appl other ts) = named-cover o (bytes_eq name other) (all_agree (map (agrees o) ps) ts) (match_all (map match_term ps) ts) (all-cover o ps ts h)
appl-cover o name ps h (term.List ts) = refl

members-cover : (o : Binds) (ps : List Pattern) → AllByRecursion (Claim o) ps → (w : term.Term-F Term) → Covers o (match_members (map match_term ps) w) (members_agree (map (agrees o) ps) w)
members-cover o ps h (term.Int n) = refl
members-cover o ps h (term.Str s) = refl
members-cover o ps h (term.Appl name ts) = refl
members-cover o ps h (term.List ts) = all-cover o ps ts h

abbrev Shown : Binds → Type 0
Shown o = (p : Pattern) × Claim o p

abbrev pattern_of : (o : Binds) → Shown o → Pattern
pattern_of o s = s.0

each : (o : Binds) (ps : List (Shown o)) → AllByRecursion (Claim o) (map (pattern_of o) ps)
each o [] = tt
each o (s ∷ ps) = (s.1, each o ps)

rolled : (o : Binds) (x y : Pattern-F Pattern) → ((t : Term) → Covers o (match_step (map-Pattern Pattern Matching match_term y) t) (agree_step o (map-Pattern Pattern Agreeing (agrees o) y) t)) → y ≡ x → Claim o (roll-Pattern x)
rolled o x y h e =
    let by_match = subst (λ (m : Matching). (t : Term) → Covers o (m t) (agree_step o (map-Pattern Pattern Agreeing (agrees o) y) t)) (sym (fold-roll-Pattern Matching match_step y)) h in
    let by_both = subst (λ (a : Agreeing). (t : Term) → Covers o (match_term (roll-Pattern y) t) (a t)) (sym (fold-roll-Pattern Agreeing (agree_step o) y)) by_match in
    subst (λ (w : Pattern-F Pattern). Claim o (roll-Pattern w)) e by_both

covered : (o : Binds) (p : Pattern) → Claim o p
covered o = ind-Pattern (Claim o) step where
  step : (x : Pattern-F Pattern) (y : Pattern-F (Shown o)) → map-Pattern (Shown o) Pattern (pattern_of o) y ≡ x → Claim o (roll-Pattern x)
  step x (layer.Fixed f) e = rolled o x (layer.Fixed f) (λ t. none-covers o (is_same_term f t)) e
  step x (layer.Hole s) e = rolled o x (layer.Hole s) (λ t. none-covers o (has_sort t s)) e
  step x (layer.Result n s) e = rolled o x (layer.Result n s) (λ t. one-covers o n t (has_sort t s)) e
  step x (layer.Appl n ps) e = rolled o x (layer.Appl n (map (pattern_of o) ps)) (λ t. appl-cover o n (map (pattern_of o) ps) (each o ps) (out-Term t)) e
  step x (layer.List ps) e = rolled o x (layer.List (map (pattern_of o) ps)) (λ t. members-cover o (map (pattern_of o) ps) (each o ps) (out-Term t)) e

found-least : (o : Binds) (m : Option Binds) (t : Bool) → Covers o m t → t ≡ true → Among m o
found-least o None t h e =
    let wrong : true ≡ false = sym e ∙ h in
    absurd (cc)
found-least o (Some a) t h e = h.0 e

pub least : (p : Pattern) (t : Term) (o : Binds) → IsTrue (agrees o p t) → MatchOption (match_term p t) ⊥ (λ a. AreAmong a o)
least p t o h = found-least o (match_term p t) (agrees o p t) (covered o p t) h

agrees_if : (a : (o : Binds) → Bool) (m : Option Binds) → ((o : Binds) → Covers o m (a o)) → IfSome m IsBoundOnce → IfSome m (λ o. IsTrue (a o))
agrees_if a None known h = tt
agrees_if a (Some o) known h = (known o).1 (among-self o h)

pub agreed_with : (p : Pattern) (t : Term) → IfSome (match_term p t) (λ o. IsTrue (agrees o p t))
agreed_with p t = agrees_if (λ o. agrees o p t) (match_term p t) (λ o. covered o p t) (match_term-once p t)

all-covered : (o : Binds) (ps : List Pattern) → AllByRecursion (Claim o) ps
all-covered o [] = tt
all-covered o (p ∷ ps) = (covered o p, all-covered o ps)

list-covered : (o : Binds) (ps : List Pattern) (ts : List Term) → Covers o (match_list ps ts) (list_agrees o ps ts)
list-covered o ps ts = all-cover o ps ts (all-covered o ps)

pub list-least : (ps : List Pattern) (ts : List Term) (o : Binds) → IsTrue (list_agrees o ps ts) → MatchOption (match_list ps ts) ⊥ (λ a. AreAmong a o)
list-least ps ts o h = found-least o (match_list ps ts) (list_agrees o ps ts) (list-covered o ps ts) h

pub list-agreed_with : (ps : List Pattern) (ts : List Term) → IfSome (match_list ps ts) (λ o. IsTrue (list_agrees o ps ts))
list-agreed_with ps ts = agrees_if (λ o. list_agrees o ps ts) (match_list ps ts) (λ o. list-covered o ps ts) (match_list-once ps ts)
