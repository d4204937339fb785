use Rattle.std.proofs.Common.{rules, tests, ◌≡◌, ◌==◌, ℕ, List, [], ◌∷◌, ◌++◌, subst, sym, arith, true, length-append}
use Rattle.std.specs.List.{All}
use Rattle.std.proofs.lemmas.Iterator.Consumers.{YieldsList-at}
use Rattle.std.proofs.lemmas.Iterator.Splits.{YieldsList-from_slice_split}
use Rattle.std.proofs.lemmas.List.Elements.{All-push}
use Rattle.tb_feed.specs.Feeds.{MayBeFed, Says, SayAll, is_full, IsFeedOf}
use Rattle.tb_feed.specs.Helpers.OneLine.{IsSaid}
use Rattle.tb_feed.proofs.FeedLemmas.{full-by, next-bad, read_lines, read-more}
use Rattle.tb_feed.proofs.LineLemmas.{says-may}
use Rattle.tb_feed.proofs.Roads.{next-part, last-part}
use Rattle.tb_feed.proofs.reading.read.Goals as goal

pub loop-line-preserved : goal.loop-line-preserved
loop-line-preserved c =
    let lines = c.loop-line.yielded in
    let line = c.in-Some.line in
    let inputs = c.loop-line.inputs.items in
    let input = c.in-Some-2.input in
    let items : c.push.new.self.items ≡ inputs ++ input ∷ [] = c.in_ok-push-in-Some-2.ensures.items in
    let said : Says line.now input = subst (IsSaid line.now) c.in-Some-2.is c.in_ok-input.ensures in
    let full : is_full line.now ≡ true = full-by line.now (c.is_empty.ensures) c.if-is_empty.false in
    record {
      can = search rules;
      finite = tt;
      counted = omega (arith, c.loop-line.invariant.counted, length-append lines (line ∷ []));
      said = subst (SayAll (read_lines (lines ++ line ∷ []))) (sym items) (read-more lines line inputs input c.loop-line.invariant.said full said);
      fed = subst (All MayBeFed) (sym items) (All-push MayBeFed inputs input c.loop-line.invariant.fed (says-may line.now input said));
    }

pub returns-in-None-2-clause-fault : goal.returns-in-None-2-clause-fault
returns-in-None-2-clause-fault c =
    let text = c.args.bytes.now in
    let lines = c.loop-line.yielded in
    let line = c.in-Some.line in
    let at = next-part lines _ c.loop-line.yielded_by _ _ line c.in-Some.is c.next.ensures.steps
    (YieldsList-at c.into_iter-line-iterator.ensures.into_iter_gives (YieldsList-from_slice_split _ (λ b. b == 10) text c.split-line-items.ensures.rest c.split-line-items.ensures.done c.split-line-items.ensures.closure (λ x r q k. search (rules, tests)))) in
    next-bad text lines line c.loop-line.number c.loop-line.inputs.items at.0 at.1 c.loop-line.invariant.counted c.loop-line.invariant.said
    (full-by line.now c.is_empty.ensures c.if-is_empty.false) (subst (IsSaid line.now) c.in-None-2.is c.in_ok-input.ensures)

pub returns-clause-ok : goal.returns-clause-ok
returns-clause-ok c =
    let text = c.args.bytes.now in
    let lines = c.loop-line.yielded in
    let all = last-part lines _ c.loop-line.yielded_by _ _ c.in-None.is c.next.ensures.steps
    (YieldsList-at c.into_iter-line-iterator.ensures.into_iter_gives (YieldsList-from_slice_split _ (λ b. b == 10) text c.split-line-items.ensures.rest c.split-line-items.ensures.done c.split-line-items.ensures.closure (λ x r q k. search (rules, tests)))) in
    subst (IsFeedOf text) (sym c.new.ensures) (subst (λ (ls : List (List ℕ)). SayAll ls c.loop-line.inputs.items) all c.loop-line.invariant.said)
