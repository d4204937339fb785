use Rattle.std.proofs.Common.{◌≡◌, true, false, ap, sym, ◌∙◌, inl, inr, ⊎_elim}
use Rattle.std.specs.BTreeMap.{is_at}
use Rattle.tb_index.specs.Marks.{wide}
use Rattle.tb_index.specs.Helpers.Pairs.{has, is_among, triple_cmp}
use Rattle.tb_index.proofs.ActiveLemmas as active
use Rattle.tb_index.proofs.counts.count_many.Goals as goal

pub loop-pair-init : goal.loop-pair-init
loop-pair-init c = (
  λ mark its e. e,
  λ mark proc e. inl (ap (is_among mark proc) (c.into_iter-pair-iterator.ensures.into_iter_gives ∙ c.iter-pair-items.ensures.rest) ∙ e),
)

pub loop-pair-preserved : goal.loop-pair-preserved
loop-pair-preserved c = (
  λ mark its e. c.count_pair.ensures.kept mark its (c.loop-pair.invariant.0 mark its e),
  λ mark proc e. ⊎_elim
      (λ (was : is_among mark proc c.loop-pair.pair-iterator ≡ true). ⊎_elim
      (λ (here : is_at (triple_cmp (mark.count, mark.head, proc)) c.in-Some.pair.now ≡ true).
      inr (active.counted-pair c.count_pair.new.counted mark proc c.in-Some.pair.now here c.in_ok-count_pair.ensures.here))
      (λ (rest : is_among mark proc c.next.new.self ≡ true). inl rest)
      (active.or-cases (is_at (triple_cmp (mark.count, mark.head, proc)) c.in-Some.pair.now) (is_among mark proc c.next.new.self) (sym (ap (is_among mark proc) c.in-Some.ensures.steps) ∙ was)))
      (λ (there : has c.loop-pair.counted (wide mark) proc ≡ true). inr (c.count_pair.ensures.kept (wide mark) proc there))
      (c.loop-pair.invariant.1 mark proc e),
)

pub returns-clause-all : goal.returns-clause-all
returns-clause-all c = λ mark proc e. ⊎_elim
    (λ (was : is_among mark proc c.loop-pair.pair-iterator ≡ true). absurd (let t : false ≡ true = sym (ap (is_among mark proc) c.in-None.ensures.steps.0) ∙ was in cc))
    (λ (there : has c.loop-pair.counted (wide mark) proc ≡ true). there)
    (c.loop-pair.invariant.1 mark proc e)
