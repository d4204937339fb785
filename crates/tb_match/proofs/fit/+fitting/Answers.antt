use Rattle.std.proofs.Common.{sym, ◌∙◌}
use Rattle.tb_match.proofs.Parts.{uneven, plain_turn, plain_rest}
use Rattle.tb_match.proofs.fit.+fitting.Goals as goal

pub fits_parts-returns-then-patterns-terms : goal.fits_parts-returns-then-patterns-terms
fits_parts-returns-then-patterns-terms t c = sym (uneven c.args.patterns.now c.args.terms.now c.if-patterns-terms.true)

pub fits_parts-loop-position-preserved : goal.fits_parts-loop-position-preserved
fits_parts-loop-position-preserved t c =
    let fits = rw c.if-not-fits.false at c.fits.ensures in
    let turn = plain_turn c.args.patterns.now c.args.terms.now c.loop-position.position c.index-patterns-position.result c.index-terms-position.result c.loop-position-test.true c.if-patterns-terms.false c.index-patterns-position.is c.index-terms-position.is fits in
    (sym turn ∙ c.loop-position.invariant.0, plain_rest c.args.patterns.now c.loop-position.position c.index-patterns-position.result c.loop-position-test.true c.loop-position.invariant.1)
