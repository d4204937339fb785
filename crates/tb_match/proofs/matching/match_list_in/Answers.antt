use Rattle.std.proofs.Common.{◌∙◌}
use Rattle.tb_match.proofs.Parts.{alone_found}
use Rattle.tb_match.proofs.matching.match_list_in.Goals as goal

pub returns : goal.returns
returns c =
    c.taken_if.ensures
    ∙ alone_found c.empty.new.binds c.match_each.new.binds c.in_ok-matches.matches c.as_slice.result.now c.args.ps.now c.as_slice-2.result.now c.args.ts.now c.empty.ensures c.as_slice.ensures c.as_slice-2.ensures c.in_ok-matches.ensures
