-- The first violation is one of the noted violations, and no noted violation is before it.
use Rattle.std.proofs.Common.{◌≡◌, ℕ, ◌==◌, ◌<◌, ◌≤◌, Bool, true, false, ◌||◌, ◌&&◌, nat_lt, inl, inr, List, [], ◌∷◌, fold, Option, Some, None, refl, sym, subst, arith}
use Rattle.std.proofs.lemmas.Bool.Decides.{nat_tests}
use Rattle.tb_syntax.specs.declared.script.Script.{Script}
use Rattle.tb_types.specs.declared.violation.Violation.{Violation}
use Rattle.tb_types.specs.declared.violation.Rule.{Rule}
use Rattle.tb_types.specs.declared.violation.Rule.TheVariants as rule
use Rattle.tb_types.specs.Bodies.{script_faults}
use Rattle.tb_types.specs.Conditions.{IsIn, IsFirst, IsFault, Proper}
use Rattle.tb_types.specs.Helpers.Faults.{fault_of, fault_at}
use Rattle.tb_types.specs.Helpers.First.{is_before, earlier, first_of}
use Rattle.tb_types.specs.Numbers.{number_of}

-- the pair of a condition's number `m` and a token `s` is before the pair of `n` and `t`
abbrev before : ℕ → ℕ → ℕ → ℕ → Bool
before m s n t = nat_lt m n || ((m == n) && nat_lt s t)

before-self : (m s : ℕ) → before m s m s ≡ false
before-self m s = grind (arith, nat_tests)

-- if a pair isn't before another pair, no later pair is before that other pair
before-past : (m s n t k u : ℕ) → before m s n t ≡ true → before m s k u ≡ false → before n t k u ≡ false
before-past m s n t k u h g = grind (arith, nat_tests)

before-kept : (m s n t k u : ℕ) → before m s n t ≡ false → before n t k u ≡ false → before m s k u ≡ false
before-kept m s n t k u h g = grind (arith, nat_tests)

before-token : (m s t : ℕ) → before m t m s ≡ false → s ≤ t
before-token m s t h = grind (arith, nat_tests)

before-number : (m s n t : ℕ) → m < n → before m s n t ≡ false → ⊥
before-number m s n t h g = grind (arith, nat_tests)

pub record IsLeast (least : Violation) (noted : List Violation) : Type 0 where
  pub is_noted : IsIn least noted
  pub none_before : (other : Violation) → IsIn other noted → is_before other least ≡ false

abbrev IsNotBefore : Violation → Violation → Type 0
IsNotBefore least other = is_before other least ≡ false

abbrev number : Violation → ℕ
number violation = number_of violation.rule

-- behind one that is left for an earlier one
left : (next so_far least : Violation) (noted : List Violation) → is_before next so_far ≡ true → IsLeast least (next ∷ noted) → IsLeast least (so_far ∷ next ∷ noted)
left next so_far least noted h l = record { is_noted = inr l.is_noted; none_before = none } where
  none : (other : Violation) → IsIn other (so_far ∷ next ∷ noted) → is_before other least ≡ false
  none other (inl same) =
      subst (IsNotBefore least) (sym same)
      (before-past (number next) next.token (number so_far) so_far.token (number least) least.token h (l.none_before next (inl refl)))
  none other (inr among) = l.none_before other among

-- behind one that is kept before a later one
kept : (next so_far least : Violation) (noted : List Violation) → is_before next so_far ≡ false → IsLeast least (so_far ∷ noted) → IsLeast least (so_far ∷ next ∷ noted)
kept next so_far least noted h l = record { is_noted = noted_still l.is_noted; none_before = none } where
  noted_still : IsIn least (so_far ∷ noted) → IsIn least (so_far ∷ next ∷ noted)
  noted_still (inl same) = inl same
  noted_still (inr among) = inr (inr among)

  none : (other : Violation) → IsIn other (so_far ∷ next ∷ noted) → is_before other least ≡ false
  none other (inl same) = l.none_before other (inl same)
  none other (inr (inl same)) =
      subst (IsNotBefore least) (sym same)
      (before-kept (number next) next.token (number so_far) so_far.token (number least) least.token h (l.none_before so_far (inl refl)))
  none other (inr (inr among)) = l.none_before other (inr among)

alone : (so_far : Violation) → IsLeast so_far (so_far ∷ [])
alone so_far = record { is_noted = inl refl; none_before = none } where
  none : (other : Violation) → IsIn other (so_far ∷ []) → is_before other so_far ≡ false
  none other (inl same) = subst (IsNotBefore so_far) (sym same) (before-self (number so_far) so_far.token)
  none other (inr none_left) = elim none_left [ ]

some-inj : (x y : Violation) → ◌≡◌ {A = Option Violation} (Some x) (Some y) → x ≡ y
some-inj x y e = cc

least-from : (so_far : Violation) (noted : List Violation) (least : Violation) → fold earlier (Some so_far) noted ≡ Some least → IsLeast least (so_far ∷ noted)
least-from so_far [] least e = subst (λ (b : Violation). IsLeast b (so_far ∷ [])) (some-inj so_far least e) (alone so_far)
least-from so_far (next ∷ noted) least e = step (is_before next so_far) refl (least-from next noted least) (least-from so_far noted least) where
  step : (b : Bool) → is_before next so_far ≡ b → (fold earlier (Some next) noted ≡ Some least → IsLeast least (next ∷ noted))
      → (fold earlier (Some so_far) noted ≡ Some least → IsLeast least (so_far ∷ noted)) → IsLeast least (so_far ∷ next ∷ noted)
  step true h from_next from_here = left next so_far least noted h (from_next (let f : fold earlier (earlier (Some so_far) next) noted ≡ Some least = e in rw h at f))
  step false h from_next from_here = kept next so_far least noted h (from_here (let f : fold earlier (earlier (Some so_far) next) noted ≡ Some least = e in rw h at f))

-- if there is no first violation, no violation is noted
never-none : (so_far : Violation) (noted : List Violation) → fold earlier (Some so_far) noted ≡ None → ⊥
never-none so_far [] e = cc
never-none so_far (next ∷ noted) e = step (is_before next so_far) refl (never-none next noted) (never-none so_far noted) where
  step : (b : Bool) → is_before next so_far ≡ b → (fold earlier (Some next) noted ≡ None → ⊥) → (fold earlier (Some so_far) noted ≡ None → ⊥) → ⊥
  step true h from_next from_here = from_next (let f : fold earlier (earlier (Some so_far) next) noted ≡ None = e in rw h at f)
  step false h from_next from_here = from_here (let f : fold earlier (earlier (Some so_far) next) noted ≡ None = e in rw h at f)

none-first : (noted : List Violation) → first_of noted ≡ None → noted ≡ []
none-first [] e = refl
none-first (next ∷ noted) e = absurd (never-none next noted e)

some-first : (noted : List Violation) (least : Violation) → first_of noted ≡ Some least → IsLeast least noted
some-first [] least e = cc
some-first (next ∷ noted) least e = least-from next noted least e

pub first_none : (script : Script) → first_of (script_faults script) ≡ None → Proper script
first_none script e = λ condition token fails. subst (IsIn (record { rule = condition; token = token })) (none-first (script_faults script) e) fails

is-first : (script : Script) (least : Violation) → IsLeast least (script_faults script) → IsFirst script least.rule least.token
is-first script least l = record {
  fails = l.is_noted;
  first_token = λ other fails. before-token (number least) least.token other (l.none_before (record { rule = least.rule; token = other }) fails);
  first_condition = λ condition lower token fails. before-number (number_of condition) token (number least) least.token lower (l.none_before (record { rule = condition; token = token }) fails);
}

is-fault : (script : Script) (condition : Rule) (token : ℕ) → IsFirst script condition token → IsFault script (fault_at condition token)
is-fault script rule.Twice token h = h
is-fault script rule.NoProcess token h = h
is-fault script rule.NoTool token h = h
is-fault script rule.NoFunction token h = h
is-fault script rule.Arity token h = h
is-fault script rule.Undeclared token h = h
is-fault script rule.ResultInSend token h = h
is-fault script rule.NotResult token h = h
is-fault script rule.TypeClash token h = h

pub first_some : (script : Script) (least : Violation) → first_of (script_faults script) ≡ Some least → IsFault script (fault_of least)
first_some script least e = is-fault script least.rule least.token (is-first script least (some-first (script_faults script) least e))
