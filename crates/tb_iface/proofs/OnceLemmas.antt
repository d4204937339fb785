-- Each pattern of a list is among those that are left of it once, and each line of an atom is among those of all atoms.
use Rattle.std.proofs.Common.{◌≡◌, Bool, true, false, ◌||◌, ◌⊎◌, inl, inr, List, [], ◌∷◌, ◌++◌, fold, Contains, if◌then◌else◌, refl, sym, subst, arith}
use Rattle.std.specs.List.{flat_map, list_any}
use Rattle.std.proofs.lemmas.List.Elements.{Contains-append_left, Contains-append_right}
use Rattle.tb_terms.specs.contracts.pattern.Pattern as pattern_row
use Rattle.tb_terms.specs.declared.pattern.Pattern.{Pattern}
use Rattle.tb_terms.specs.declared.sort.Sort.{Sort}
use Rattle.tb_terms.proofs.SameLemmas.{is_same-sound}
use Rattle.tb_body.specs.declared.act.Act.{Act}
use Rattle.tb_body.specs.declared.atom.Atom.{Atom}
use Rattle.tb_body.specs.declared.body.Body.{Body}
use Rattle.tb_bus.proofs.OrderLemmas.{contains-cases, contains-further}
use Rattle.tb_iface.specs.Interfaces.{of_atoms, is_same_pattern, with_new, once}

pub contains-first : {X : Type 0} (x : X) (xs : List X) → Contains (x ∷ xs) x
contains-first x xs = (0, omega arith, refl)

among-by : (pattern first : Pattern) (patterns : List Pattern) (b : Bool) → is_same_pattern pattern first ≡ b → (list_any (is_same_pattern pattern) patterns ≡ true → Contains patterns pattern) →
    (b || list_any (is_same_pattern pattern) patterns) ≡ true → Contains (first ∷ patterns) pattern
among-by pattern first patterns true e more h = subst (λ (p : Pattern). Contains (first ∷ patterns) p) (sym (is_same-sound pattern_row.the_row.coded pattern first e)) (contains-first first patterns)
among-by pattern first patterns false e more h = contains-further first pattern patterns (more h)

-- what is the same as one of them is among them
same-among : (pattern : Pattern) (patterns : List Pattern) → list_any (is_same_pattern pattern) patterns ≡ true → Contains patterns pattern
same-among pattern [] h = cc
same-among pattern (first ∷ patterns) h = among-by pattern first patterns (is_same_pattern pattern first) refl (same-among pattern patterns) h

new-by : (patterns : List Pattern) (pattern : Pattern) (b : Bool) → list_any (is_same_pattern pattern) patterns ≡ b → Contains (if b then patterns else patterns ++ pattern ∷ []) pattern
new-by patterns pattern true e = same-among pattern patterns e
new-by patterns pattern false e = Contains-append_right patterns (pattern ∷ []) pattern (contains-first pattern [])

-- the new one is there
with_new-has : (patterns : List Pattern) (pattern : Pattern) → Contains (with_new patterns pattern) pattern
with_new-has patterns pattern = new-by patterns pattern (list_any (is_same_pattern pattern) patterns) refl

old-by : (patterns : List Pattern) (pattern other : Pattern) (b : Bool) → Contains patterns other → Contains (if b then patterns else patterns ++ pattern ∷ []) other
old-by patterns pattern other true c = c
old-by patterns pattern other false c = Contains-append_left patterns (pattern ∷ []) other c

-- and the others still are
with_new-keeps : (patterns : List Pattern) (pattern other : Pattern) → Contains patterns other → Contains (with_new patterns pattern) other
with_new-keeps patterns pattern other c = old-by patterns pattern other (list_any (is_same_pattern pattern) patterns) c

behind-keeps : (before patterns : List Pattern) (pattern : Pattern) → Contains before pattern → Contains (fold with_new before patterns) pattern
behind-keeps before [] pattern c = c
behind-keeps before (first ∷ patterns) pattern c = behind-keeps (with_new before first) patterns pattern (with_new-keeps before first pattern c)

behind-has : (before patterns : List Pattern) (pattern : Pattern) → Contains patterns pattern → Contains (fold with_new before patterns) pattern
behind-has before [] pattern c = let l = c.1 in absurd (omega arith)
behind-has before (first ∷ patterns) pattern c = by (contains-cases first pattern patterns c) (behind-has (with_new before first) patterns pattern)
  where
    by : (first ≡ pattern) ⊎ Contains patterns pattern → (Contains patterns pattern → Contains (fold with_new (with_new before first) patterns) pattern) → Contains (fold with_new (with_new before first) patterns) pattern
    by (inl e) more = behind-keeps (with_new before first) patterns pattern (subst (Contains (with_new before first)) e (with_new-has before first))
    by (inr d) more = more d

-- Each of the patterns is left once.
pub once-has : (patterns : List Pattern) (pattern : Pattern) → Contains patterns pattern → Contains (once patterns) pattern
once-has patterns pattern c = behind-has [] patterns pattern c

-- what a part of a list gives is among what all give
pub contains-flat_map : {X A : Type 0} (f : X → List A) (xs : List X) (x : X) (y : A) → Contains xs x → Contains (f x) y → Contains (flat_map f xs) y
contains-flat_map f [] x y c d = let l = c.1 in absurd (omega arith)
contains-flat_map {X = X} {A = A} f (first ∷ xs) x y c d = by (contains-cases first x xs c) (λ e. contains-flat_map f xs x y e d)
  where
    by : (first ≡ x) ⊎ Contains xs x → (Contains xs x → Contains (flat_map f xs) y) → Contains (f first ++ flat_map f xs) y
    by (inl e) more = Contains-append_left (f first) (flat_map f xs) y (subst (λ (z : X). Contains (f z) y) (sym e) d)
    by (inr e) more = Contains-append_right (f first) (flat_map f xs) y (more e)

-- Each line of an atom of a body is one of those of all atoms.
pub of_atoms-has : (lines : List Sort → Act → List Pattern) (bodies : List Body) (body : Body) (atom : Atom) (pattern : Pattern) → Contains bodies body → Contains body.atoms atom → Contains (lines body.sorts atom.act) pattern →
    Contains (of_atoms lines bodies) pattern
of_atoms-has lines bodies body atom pattern c d e =
    contains-flat_map (λ (b : Body). flat_map (λ (a : Atom). lines b.sorts a.act) b.atoms) bodies body pattern c
    (contains-flat_map (λ (a : Atom). lines body.sorts a.act) body.atoms atom pattern d e)
