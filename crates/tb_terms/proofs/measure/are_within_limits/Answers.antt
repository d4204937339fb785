use Rattle.std.proofs.Common.{◌≡◌, ◌&&◌, Bool, true, length, take, get_or, ap, refl, subst, sym, ◌∙◌, arith}
use Rattle.std.specs.List.{All, list_all}
use Rattle.std.proofs.lemmas.List.{take_all}
use Rattle.std.proofs.lemmas.List.Elements.{All-more}
use Rattle.std.proofs.lemmas.List.Folds.{list_all_more}
use Rattle.tb_terms.specs.Sizes.{IsWithinLimits, is_within_limits}
use Rattle.tb_terms.proofs.measure.are_within_limits.Goals as goal

pub loop-term-preserved : goal.loop-term-preserved
loop-term-preserved c =
    let terms = c.args.terms.now in
    let at = c.loop-term.term-index in
    let term = c.term-item.result in
    let passes = sym c.is_within_limits.ensures.test ∙ c.if-not-is_within_limits.false in
    let within : IsWithinLimits term = c.is_within_limits.ensures.limits.0 c.if-not-is_within_limits.false in (
      list_all_more is_within_limits terms at term c.loop-term-test.true
          ∙ ap (λ (before : Bool). before && is_within_limits (get_or terms at term)) c.loop-term.invariant.0
          ∙ ap is_within_limits (sym c.term-item.is) ∙ passes,
      All-more IsWithinLimits terms at term c.loop-term-test.true c.loop-term.invariant.1 (subst IsWithinLimits c.term-item.is within),
    )

pub returns : goal.returns
returns c =
    let same : take c.loop-term.term-index c.args.terms.now ≡ c.args.terms.now = take_all _ c.args.terms.now (omega arith) in
    let all : All IsWithinLimits c.args.terms.now = subst (All IsWithinLimits) same c.loop-term.invariant.1 in
    record { test = sym c.loop-term.invariant.0 ∙ ap (list_all is_within_limits) same; limits = (λ _. all, λ _. refl) }
