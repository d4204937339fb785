-- A script has at most one first error, and none if it is well-formed.
use Rattle.std.proofs.Common.{◌≡◌, ℕ, ◌==◌, ◌<◌, ◌≤◌, refl, ap, sym, ◌∙◌, subst, arith}
use Rattle.std.specs.Prelude.{if◌then◌else◌}
use Rattle.tb_syntax.specs.declared.script.Script.{Script}
use Rattle.tb_types.specs.declared.violation.Rule.{Rule}
use Rattle.tb_types.specs.declared.violation.Rule.TheVariants as rule
use Rattle.tb_types.specs.Conditions.{IsFirst, Proper, Fails}
use Rattle.tb_types.specs.Numbers.{number_of}

abbrev numbered : ℕ → Rule
numbered n =
    if n == 1 then rule.Twice else (if n == 2 then rule.NoProcess else (if n == 3 then rule.NoTool
    else (if n == 4 then rule.NoFunction else (if n == 5 then rule.Arity else (if n == 6 then rule.Undeclared
    else (if n == 7 then rule.ResultInSend else (if n == 8 then rule.NotResult else rule.TypeClash)))))))

numbered-back : (condition : Rule) → numbered (number_of condition) ≡ condition
numbered-back rule.Twice = refl
numbered-back rule.NoProcess = refl
numbered-back rule.NoTool = refl
numbered-back rule.NoFunction = refl
numbered-back rule.Arity = refl
numbered-back rule.Undeclared = refl
numbered-back rule.ResultInSend = refl
numbered-back rule.NotResult = refl
numbered-back rule.TypeClash = refl

no_less : (script : Script) (condition other : Rule) (token later : ℕ) → IsFirst script condition token → IsFirst script other later → number_of condition < number_of other → ⊥
no_less script condition other token later f g lower = g.first_condition condition lower token f.fails

same_number : (m n : ℕ) → (m < n → ⊥) → (n < m → ⊥) → m ≡ n
same_number m n f g = omega arith

same_condition : (script : Script) (condition other : Rule) (token later : ℕ) → IsFirst script condition token → IsFirst script other later → condition ≡ other
same_condition script condition other token later f g =
    sym (numbered-back condition)
    ∙ ap numbered (same_number (number_of condition) (number_of other) (no_less script condition other token later f g) (no_less script other condition later token g f))
    ∙ numbered-back other

no_later : (script : Script) (condition other : Rule) (token later : ℕ) → IsFirst script condition token → IsFirst script other later → condition ≡ other → token ≤ later
no_later script condition other token later f g e = f.first_token later (subst (λ (c : Rule). Fails script c later) (sym e) g.fails)

both_ways : (m n : ℕ) → m ≤ n → n ≤ m → m ≡ n
both_ways m n f g = omega arith

pub one_first : (script : Script) (condition other : Rule) (token later : ℕ) → IsFirst script condition token → IsFirst script other later → (condition ≡ other) × (token ≡ later)
one_first script condition other token later f g =
    let e = same_condition script condition other token later f g in
    (e, both_ways token later (no_later script condition other token later f g e) (no_later script other condition later token g f (sym e)))

pub none_first : (script : Script) (condition : Rule) (token : ℕ) → Proper script → IsFirst script condition token → ⊥
none_first script condition token proper f = proper condition token f.fails
