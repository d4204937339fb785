use Rattle.std.proofs.Common.{◌∙◌, ap, option_map, subst, sym}
use Rattle.std.specs.List.{All}
use Rattle.std.proofs.lemmas.Option.{none-some, same_Some}
use Rattle.tb_index.specs.declared.mark.Mark.{Mark}
use Rattle.tb_tools.specs.Lanes.{Tool}
use Rattle.tb_living.specs.Indexes.{number_mark}
use Rattle.tb_core.specs.Helpers.LiveBuses.{IsAwakeUnder}
use Rattle.tb_core.proofs.bus.LiveBus.rouse_lane.Goals as goal

pub returns-in_ok-rouse_marked-in-Some-clause-awake : goal.returns-in_ok-rouse_marked-in-Some-clause-awake
returns-in_ok-rouse_marked-in-Some-clause-awake g c tool e =
    let number = same_Some c.in-Some.number tool.number (sym c.in-Some.is ∙ c.number_on.ensures ∙ ap (option_map (λ (t : Tool). t.number)) e) in
    subst (λ (mark : Mark). All (IsAwakeUnder mark c.rouse_marked.new.self.index) c.args.self.now.living.items) (c.number_mark.ensures ∙ ap number_mark number) c.in_ok-rouse_marked-in-Some.ensures.awake

pub returns-in-None-clause-awake : goal.returns-in-None-clause-awake
returns-in-None-clause-awake g c tool e = absurd (none-some tool.number (sym c.in-None.is ∙ c.number_on.ensures ∙ ap (option_map (λ (t : Tool). t.number)) e))
