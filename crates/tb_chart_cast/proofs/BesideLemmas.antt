-- Lemmas about items that are combined with other items at the same position.
use Rattle.std.proofs.Common.{◌≡◌, ◌∙◌, ◌+◌, ◌<◌, ◌++◌, ◌∷◌, [], ℕ, List, length, drop, get_or, map, Option, ap, sym, refl}
use Rattle.std.specs.Prelude.{slice_get}
use Rattle.std.proofs.lemmas.List.{append_assoc, drop_more, map-append}
use Rattle.tb_chart.specs.declared.cast.Role.{Role}
use Rattle.tb_chart_cast.specs.Casts.{SeenRole, beside, seen_role}

-- one item more
pub beside_more : {A B C : Type 0} (with : Option A → B → C) (others : List A) (index : ℕ) (items : List B) (item : B) (made : C)
    (before now whole : List C) → index < length items → item ≡ get_or items index item → made ≡ with (slice_get others index) item
    → now ≡ before ++ made ∷ [] → before ++ beside with others index (drop index items) ≡ whole
    → now ++ beside with others (index + 1) (drop (index + 1) items) ≡ whole
beside_more {B = B} {C = C} with others index items item made before now whole within here is more all =
    let rest : List B = drop (index + 1) items in
    let after : List C = beside with others (index + 1) rest in
    let split : drop index items ≡ item ∷ rest = drop_more items index item within ∙ ap (λ (it : B). it ∷ rest) (sym here) in
    ap (λ (those : List C). those ++ after) more
    ∙ append_assoc before (made ∷ []) after
    ∙ ap (λ (it : C). before ++ (it ∷ after)) is
    ∙ ap (λ (those : List B). before ++ beside with others index those) (sym split)
    ∙ all

-- one role more
pub roles_push : (roles now : List Role) (role : Role) → now ≡ roles ++ role ∷ [] → map seen_role now ≡ map seen_role roles ++ seen_role role ∷ []
roles_push roles now role is = ap (map seen_role) is ∙ map-append seen_role roles (role ∷ [])
