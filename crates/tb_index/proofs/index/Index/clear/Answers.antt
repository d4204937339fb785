use Rattle.std.proofs.Common.{◌≡◌, ap, sym, ◌∙◌, subst, ◌==◌, List, []}
use Rattle.tb_index.specs.Indexes.{IsCleared, sends, receives}
use Rattle.tb_index.specs.Helpers.Pairs.{has, AreRemoved}
use Rattle.tb_index.specs.Marks.{has_mark}
use Rattle.tb_index.specs.declared.mark.Mark.{Mark}
use Rattle.tb_index.proofs.ActiveLemmas as active
use Rattle.tb_index.proofs.PairLemmas as pairs
use Rattle.tb_index.proofs.IndexLemmas as indexes
use Rattle.tb_index.proofs.index.Index.clear.Goals as goal

pub quiet_side-requires : goal.quiet_side-requires
quiet_side-requires c = λ is_sends t. active.left-counted c.self.inside.sending c.remove_but.new.self c.args.proc c.as_slice.result.now [] c.remove_but.ensures
    c.self.inside.counts.pairs c.uncount.new.counts.pairs (c.self.invariant.counts (sym c.uncount.ensures.opened ∙ t)) c.uncount.ensures.still
    (λ mark e. absurd (active.not-both (has c.remove_but.new.self mark c.args.proc) e
    (pairs.gone-own (has c.remove_but.new.self mark c.args.proc) (has c.self.inside.sending mark c.args.proc) (has_mark c.as_slice.result.now mark) (c.args.proc == c.args.proc)
    (c.remove_but.ensures mark c.args.proc) (active.same-number c.args.proc)
    ((indexes.own-sends c.self.inside.sending c.self.inside.receiving c.self.inside.counts.opened c.self.inside.counts.pairs c.self.inside.awake c.self.inside.active.items c.args.proc c.args.old.now.sends.items
    (subst (λ index. (m : Mark) → sends index m c.args.proc ≡ has_mark c.args.old.now.sends.items m) (sym c.self.view_is) c.requires.sends)) mark ∙ ap (λ (marks : List Mark). has_mark marks mark) (sym c.as_slice.ensures.value)))))

pub invariant_of-self : goal.invariant_of-self
invariant_of-self c = record {
  told = λ mark its e is_open. c.uncount.ensures.opened ∙ c.self.invariant.told mark its
      (active.left c.self.inside.receiving c.remove_but-2.new.self c.args.proc c.as_slice-2.result.now [] c.remove_but-2.ensures mark its e) is_open;
  counts = λ t. (active.left-counted c.self.inside.sending c.remove_but.new.self c.args.proc c.as_slice.result.now [] c.remove_but.ensures
      c.self.inside.counts.pairs c.uncount.new.counts.pairs (c.self.invariant.counts (sym c.uncount.ensures.opened ∙ t)) c.uncount.ensures.still
      (λ mark e. absurd (active.not-both (has c.remove_but.new.self mark c.args.proc) e
      (pairs.gone-own (has c.remove_but.new.self mark c.args.proc) (has c.self.inside.sending mark c.args.proc) (has_mark c.as_slice.result.now mark) (c.args.proc == c.args.proc)
      (c.remove_but.ensures mark c.args.proc) (active.same-number c.args.proc)
      ((indexes.own-sends c.self.inside.sending c.self.inside.receiving c.self.inside.counts.opened c.self.inside.counts.pairs c.self.inside.awake c.self.inside.active.items c.args.proc c.args.old.now.sends.items
      (subst (λ index. (m : Mark) → sends index m c.args.proc ≡ has_mark c.args.old.now.sends.items m) (sym c.self.view_is) c.requires.sends)) mark ∙ ap (λ (marks : List Mark). has_mark marks mark) (sym c.as_slice.ensures.value))))));
  heard = active.left-heard c.self.inside.sending c.remove_but.new.self c.self.inside.receiving c.remove_but-2.new.self
      c.self.inside.active.items c.quiet_side.new.active.items c.quiet_side-2.new.active.items c.self.invariant.heard
      (active.left c.self.inside.sending c.remove_but.new.self c.args.proc c.as_slice.result.now [] c.remove_but.ensures)
      (active.left c.self.inside.receiving c.remove_but-2.new.self c.args.proc c.as_slice-2.result.now [] c.remove_but-2.ensures)
      c.quiet_side.ensures c.quiet_side-2.ensures;
}

pub returns : goal.returns
returns c = subst (λ old. IsCleared old (indexes.state c.remove_but.new.self c.remove_but-2.new.self c.uncount.new.counts.opened c.uncount.new.counts.pairs c.remove.new.self c.quiet_side-2.new.active.items) c.args.proc) c.self.view_is
    (indexes.cleared c.self.inside.sending c.self.inside.receiving c.self.inside.counts.opened c.self.inside.counts.pairs c.self.inside.awake c.self.inside.active.items c.remove_but.new.self c.remove_but-2.new.self c.uncount.new.counts.opened c.uncount.new.counts.pairs c.remove.new.self c.quiet_side-2.new.active.items
    c.args.proc c.args.old.now.sends.items c.args.old.now.receives.items
    (indexes.own-sends c.self.inside.sending c.self.inside.receiving c.self.inside.counts.opened c.self.inside.counts.pairs c.self.inside.awake c.self.inside.active.items c.args.proc c.args.old.now.sends.items
    (subst (λ index. (m : Mark) → sends index m c.args.proc ≡ has_mark c.args.old.now.sends.items m) (sym c.self.view_is) c.requires.sends))
    (indexes.own-receives c.self.inside.sending c.self.inside.receiving c.self.inside.counts.opened c.self.inside.counts.pairs c.self.inside.awake c.self.inside.active.items c.args.proc c.args.old.now.receives.items
    (subst (λ index. (m : Mark) → receives index m c.args.proc ≡ has_mark c.args.old.now.receives.items m) (sym c.self.view_is) c.requires.receives))
    (subst (λ marks. AreRemoved c.self.inside.sending c.remove_but.new.self marks [] c.args.proc) c.as_slice.ensures.value c.remove_but.ensures)
    (subst (λ marks. AreRemoved c.self.inside.receiving c.remove_but-2.new.self marks [] c.args.proc) c.as_slice-2.ensures.value c.remove_but-2.ensures)
    c.remove.ensures.here c.remove.ensures.others c.remove.ensures.long)
