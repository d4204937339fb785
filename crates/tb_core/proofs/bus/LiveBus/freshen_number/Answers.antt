use Rattle.std.proofs.Common.{◌≤◌, arith, length, subst}
use Rattle.tb_living.specs.Lives.{IsWhere}
use Rattle.tb_living.proofs.NumberLemmas.{fresh-set, fresh-past}
use Rattle.tb_core.proofs.bus.LiveBus.freshen_number.Goals as goal

pub returns-in_ok-freshen_at-clause-fresh : goal.returns-in_ok-freshen_at-clause-fresh
returns-in_ok-freshen_at-clause-fresh g c others fresh =
    let all = c.args.self.now.living.items in
    let number = c.args.number in
    let at = c.point_of-at.result in
    let set = c.in_ok-freshen_at.ensures.set in
    fresh-set number others all c.freshen_at.new.self.living.items at set.0 set.1 c.requires.in_order (subst (λ xs. IsWhere number xs at) c.as_slice.ensures.value c.point_of-at.ensures) set.2 fresh

pub returns-else-at-len-clause-fresh : goal.returns-else-at-len-clause-fresh
returns-else-at-len-clause-fresh g c others fresh =
    let all = c.args.self.now.living.items in
    let number = c.args.number in
    let at = c.point_of-at.result in
    let past : length all ≤ at = omega arith in
    fresh-past number others all at c.requires.in_order (subst (λ xs. IsWhere number xs at) c.as_slice.ensures.value c.point_of-at.ensures) past fresh
