use Rattle.std.proofs.Common.{ap, sym, ◌∙◌}
use Rattle.tb_match.specs.Joining.{with_prefix}
use Rattle.tb_match.proofs.Parts.{uneven, matched_turn, unmatched_turn}
use Rattle.tb_match.proofs.matching.+matching.Goals as goal

pub match_parts-returns-then-patterns-terms : goal.match_parts-returns-then-patterns-terms
match_parts-returns-then-patterns-terms t c =
    sym (ap (with_prefix c.args.binds.now) (uneven c.args.patterns.now c.args.terms.now c.if-patterns-terms.true))

pub match_parts-returns-then-not-branch : goal.match_parts-returns-then-not-branch
match_parts-returns-then-not-branch t c =
    sym (unmatched_turn c.loop-position.binds c.match_behind.new.binds c.in_ok-match_behind.field-0 c.args.patterns.now c.args.terms.now c.loop-position.position c.index-patterns-position.result c.index-terms-position.result
    c.loop-position-test.true c.if-patterns-terms.false c.index-patterns-position.is c.index-terms-position.is c.in_ok-match_behind.ensures c.if-not-branch.true)
    ∙ c.loop-position.invariant

pub match_parts-loop-position-preserved : goal.match_parts-loop-position-preserved
match_parts-loop-position-preserved t c =
    sym (matched_turn c.loop-position.binds c.match_behind.new.binds c.in_ok-match_behind.field-0 c.args.patterns.now c.args.terms.now c.loop-position.position c.index-patterns-position.result c.index-terms-position.result
    c.loop-position-test.true c.if-patterns-terms.false c.index-patterns-position.is c.index-terms-position.is c.in_ok-match_behind.ensures c.if-not-branch.false)
    ∙ c.loop-position.invariant
