use Rattle.std.proofs.Common.{◌≡◌, sym, ◌∙◌, refl, length, arith}
use Rattle.tb_tools.proofs.Dismissing.{dismissed-open, dismissed-without, dismissed-closed}
use Rattle.tb_tools.proofs.lane.LaneRow.dismiss.Goals as goal

pub returns-in-Some : goal.returns-in-Some
returns-in-Some c =
    dismissed-open c.args.self.now c.end_with.new.self c.args.lines.now.items c.pop.new.self.items c.in-Some.line
    (sym c.is_open.ensures ∙ c.if-is_open.true) c.in-Some.ensures.items c.end_with.ensures

pub returns-in_default : goal.returns-in_default
returns-in_default c =
    let none : length c.args.lines.now.items ≡ 0 = omega (arith, c.in_default.ensures.cases) in
    λ line left all. absurd (dismissed-without c.args.self.now c.args.lines.now.items (sym c.is_open.ensures ∙ c.if-is_open.true) none line left all)

pub returns-else-is_open : goal.returns-else-is_open
returns-else-is_open c =
    dismissed-closed c.args.self.now c.args.self.now c.args.lines.now.items c.args.lines.now.items
    (sym c.is_open.ensures ∙ c.if-is_open.false) refl refl
