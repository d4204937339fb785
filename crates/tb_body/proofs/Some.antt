-- Lemma: `some_and_all` holds if and only if the list isn't empty and all members pass.
use Rattle.std.proofs.Common.{◌≡◌, ◌<◌, Bool, ◌&&◌, nat_lt, List, [], ◌∷◌, length, refl, ap, sym, arith}
use Rattle.std.proofs.lemmas.Bool.{lt-ltb}
use Rattle.std.specs.List.{list_all}
use Rattle.tb_terms.specs.declared.expr.Expr.{Expr}
use Rattle.tb_body.specs.Acts.{some_and_all}

pub some_and_all_is : (may_stand : Expr → Bool) (exprs : List Expr) → some_and_all may_stand exprs ≡ (nat_lt 0 (length exprs) && list_all may_stand exprs)
some_and_all_is may_stand [] = refl
some_and_all_is may_stand (expr ∷ exprs) =
    let one : 0 < length (expr ∷ exprs) = omega arith in
    ap (λ (b : Bool). b && list_all may_stand (expr ∷ exprs)) (sym (lt-ltb 0 (length (expr ∷ exprs)) one))
