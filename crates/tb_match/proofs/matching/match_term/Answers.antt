use Rattle.std.proofs.Common.{ap, ◌∙◌}
use Rattle.tb_match.specs.Joining.{with_prefix}
use Rattle.tb_match.specs.Matches.{match_term}
use Rattle.tb_match.proofs.Grouping.{Binds}
use Rattle.tb_match.proofs.Once.{alone-term}
use Rattle.tb_match.proofs.matching.match_term.Goals as goal

pub returns : goal.returns
returns c =
    let found = match_term c.args.p.now c.args.t.now in
    c.taken_if.ensures ∙ c.in_ok-matches.ensures ∙ ap (λ (b : Binds). with_prefix b found) c.new-binds.ensures ∙ alone-term c.args.p.now c.args.t.now
