use Rattle.std.proofs.Common.{ap, sym, ◌∙◌}
use Rattle.tb_match.specs.Joining.{with_prefix}
use Rattle.tb_match.proofs.Parts.{uneven, matched_turn, unmatched_turn}
use Rattle.tb_match.proofs.matching.match_each.Goals as goal

pub returns-then-patterns-terms : goal.returns-then-patterns-terms
returns-then-patterns-terms c =
    sym (ap (with_prefix c.args.binds.now) (uneven c.args.patterns.now c.args.terms.now c.if-patterns-terms.true))

pub returns-then-not-branch : goal.returns-then-not-branch
returns-then-not-branch c =
    sym (unmatched_turn c.loop-position.binds c.match_one.new.binds c.in_ok-match_one.field-0 c.args.patterns.now c.args.terms.now c.loop-position.position c.index-patterns-position.result c.index-terms-position.result
    c.loop-position-test.true c.if-patterns-terms.false c.index-patterns-position.is c.index-terms-position.is c.in_ok-match_one.ensures c.if-not-branch.true)
    ∙ c.loop-position.invariant

pub loop-position-preserved : goal.loop-position-preserved
loop-position-preserved c =
    sym (matched_turn c.loop-position.binds c.match_one.new.binds c.in_ok-match_one.field-0 c.args.patterns.now c.args.terms.now c.loop-position.position c.index-patterns-position.result c.index-terms-position.result
    c.loop-position-test.true c.if-patterns-terms.false c.index-patterns-position.is c.index-terms-position.is c.in_ok-match_one.ensures c.if-not-branch.false)
    ∙ c.loop-position.invariant
