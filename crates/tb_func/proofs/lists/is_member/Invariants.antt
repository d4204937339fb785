use Rattle.std.proofs.Common.{◌≡◌, drop}
use Rattle.std.specs.List.{list_any}
use Rattle.tb_terms.specs.Same.{is_same_term}
use Rattle.tb_func.proofs.lists.is_member.Given as goal

-- the remaining members decide
abbrev pub invariant-loop-member : goal.invariant-loop-member
invariant-loop-member l =
    list_any (λ t. is_same_term t l.term) (drop l.member-index l.terms) ≡ list_any (λ t. is_same_term t l.term) l.terms
