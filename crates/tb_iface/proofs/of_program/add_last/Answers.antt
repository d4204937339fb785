use Rattle.std.proofs.Common.{◌≡◌, List, [], ◌∷◌, ap, ◌∙◌}
use Rattle.tb_terms.specs.declared.pattern.Pattern.{Pattern}
use Rattle.tb_iface.specs.Interfaces.{with_new}
use Rattle.tb_iface.proofs.of_program.add_last.Goals as goal

one-is : (p q : Pattern) → p ∷ [] ≡ q ∷ [] → p ≡ q
one-is p q h = cc

-- two patterns, one after the other
both-added : (none one two : List Pattern) (p q r s : Pattern) → p ∷ [] ≡ r ∷ [] → one ≡ with_new none p → q ∷ [] ≡ s ∷ [] → two ≡ with_new one q → two ≡ with_new (with_new none r) s
both-added none one two p q r s first put second also =
    also ∙ ap (with_new one) (one-is q s second) ∙ ap (λ (ps : List Pattern). with_new ps s) (put ∙ ap (with_new none) (one-is p r first))

pub returns : goal.returns
returns c =
    both-added c.args.to.now c.add_new.new.patterns c.add_new-2.new.patterns c.in_ok-last_line.field-0 c.in_ok-last_line-2.field-0 _ _ c.in_ok-last_line.ensures c.in_ok-add_new.ensures c.in_ok-last_line-2.ensures c.in_ok-add_new-2.ensures
