-- Blocks one by one.
use Rattle.std.proofs.Common.{◌≡◌, ℕ, suc, ◌<◌, List, [], ◌∷◌, ◌++◌, ◌-◌, ◌≤◌, Option, Some, None, take, length, get_or, ap, arith, ◌∙◌, sym}
use Rattle.std.specs.Option.{option_or}
use Rattle.std.specs.Str.{bytes_eq}
use Rattle.std.proofs.lemmas.List.Sums.{fold-append}
use Rattle.std.proofs.lemmas.List.Folds.{find-append}
use Rattle.std.proofs.Math.Seq.{take-suc}
use Rattle.tb_expand.specs.declared.seen.Seen.{Seen}
use Rattle.tb_expand.specs.Scopes.{Scope, of_blocks, seen_as}

-- the last block is the innermost
pub with_inner : (blocks : List Scope) (block : Scope) → of_blocks (blocks ++ block ∷ []) ≡ block ++ of_blocks blocks
with_inner blocks block = fold-append (λ (outer : Scope) (inner : Scope). inner ++ outer) [] blocks (block ∷ [])

pub seen_with_inner : (name : List ℕ) (blocks : List Scope) (block : Scope)
    → seen_as name (of_blocks (blocks ++ block ∷ [])) ≡ option_or (seen_as name block) (seen_as name (of_blocks blocks))
seen_with_inner name blocks block =
    rw (with_inner blocks block) (find-append (λ (seen : Seen). bytes_eq seen.name name) block (of_blocks blocks))

-- the blocks up to this position, by the innermost of them
pub seen_at : (name : List ℕ) (blocks : List Scope) (d : Scope) (left : ℕ) → 0 < left → left ≤ length blocks
    → seen_as name (of_blocks (take left blocks))
    ≡ option_or (seen_as name (get_or blocks (left - 1) d)) (seen_as name (of_blocks (take (left - 1) blocks)))
seen_at name blocks d left some within =
    let below : left - 1 < length blocks = omega arith in
    let is : left ≡ suc (left - 1) = omega arith in
    let prefix : take left blocks ≡ take (left - 1) blocks ++ get_or blocks (left - 1) d ∷ []
    = ap (λ (n : ℕ). take n blocks) is ∙ take-suc blocks (left - 1) d below in
    ap (λ (prefix : List Scope). seen_as name (of_blocks prefix)) prefix ∙ seen_with_inner name (take (left - 1) blocks) (get_or blocks (left - 1) d)

pub found_at : (name : List ℕ) (blocks : List Scope) (d : Scope) (left : ℕ) (seen : Seen) → 0 < left → left ≤ length blocks
    → Some seen ≡ seen_as name (get_or blocks (left - 1) d) → Some seen ≡ seen_as name (of_blocks (take left blocks))
found_at name blocks d left seen some within found =
    ap (λ (o : Option Seen). option_or o (seen_as name (of_blocks (take (left - 1) blocks)))) found ∙ sym (seen_at name blocks d left some within)

pub not_at : (name : List ℕ) (blocks : List Scope) (d : Scope) (left : ℕ) → 0 < left → left ≤ length blocks
    → None ≡ seen_as name (get_or blocks (left - 1) d) → seen_as name (of_blocks (take (left - 1) blocks)) ≡ seen_as name (of_blocks (take left blocks))
not_at name blocks d left some within none =
    ap (λ (o : Option Seen). option_or o (seen_as name (of_blocks (take (left - 1) blocks)))) none ∙ sym (seen_at name blocks d left some within)
