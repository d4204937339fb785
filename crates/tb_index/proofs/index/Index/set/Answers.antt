use Rattle.std.proofs.Common.{◌≡◌, refl, ap, sym, ◌∙◌, subst, ◌==◌, List}
use Rattle.tb_index.specs.Indexes.{IsSet, SameIndex, sends, receives}
use Rattle.tb_index.specs.Helpers.Pairs.{has, AreCountedStill}
use Rattle.tb_index.specs.Marks.{has_mark}
use Rattle.tb_index.specs.declared.mark.Mark.{Mark}
use Rattle.tb_index.proofs.ActiveLemmas as active
use Rattle.tb_index.proofs.PairLemmas as pairs
use Rattle.tb_index.proofs.IndexLemmas as indexes
use Rattle.tb_index.proofs.index.Index.set.Goals as goal

pub come-requires-clause-sends : goal.come-requires-clause-sends
come-requires-clause-sends c = (indexes.own-sends c.self.inside.sending c.self.inside.receiving c.self.inside.counts.opened c.self.inside.counts.pairs c.self.inside.awake c.self.inside.active.items c.args.proc c.args.old.now.sends.items
    (subst (λ index. (m : Mark) → sends index m c.args.proc ≡ has_mark c.args.old.now.sends.items m) (sym c.self.view_is) c.requires.sends))

pub come-requires-clause-receives : goal.come-requires-clause-receives
come-requires-clause-receives c = (indexes.own-receives c.self.inside.sending c.self.inside.receiving c.self.inside.counts.opened c.self.inside.counts.pairs c.self.inside.awake c.self.inside.active.items c.args.proc c.args.old.now.receives.items
    (subst (λ index. (m : Mark) → receives index m c.args.proc ≡ has_mark c.args.old.now.receives.items m) (sym c.self.view_is) c.requires.receives))

pub returns-in_err-come-clause-err : goal.returns-in_err-come-clause-err
returns-in_err-come-clause-err c = indexes.on-err c.from_residual-in_err-come.result (subst (λ old. SameIndex old (indexes.state c.come.new.sending c.come.new.receiving c.come.new.counts.opened c.come.new.counts.pairs c.self.inside.awake c.come.new.active.items)) c.self.view_is
    (indexes.same-pairs c.self.inside.sending c.self.inside.receiving c.self.inside.counts.opened c.self.inside.counts.pairs c.self.inside.awake c.self.inside.active.items c.come.new.sending c.come.new.receiving c.come.new.counts.opened c.come.new.counts.pairs c.come.new.active.items c.in_err-come.ensures.same_sends c.in_err-come.ensures.same_receives))

pub quiet_side-requires : goal.quiet_side-requires
quiet_side-requires c = λ is_sends t. active.left-counted c.come.new.sending c.remove_both.new.sending c.args.proc c.args.old.now.sends.items c.args.new.now.sends.items c.remove_both.ensures.sends
    c.come.new.counts.pairs c.uncount.new.counts.pairs (c.in_ok-come.ensures.counted (sym c.uncount.ensures.opened ∙ t))
    (subst (λ marks. AreCountedStill c.come.new.counts.pairs c.uncount.new.counts.pairs marks c.args.proc) c.as_slice-3.ensures.value c.uncount.ensures.still)
    (λ mark e. sym (pairs.set-own (has c.remove_both.new.sending mark c.args.proc) (has c.come.new.sending mark c.args.proc) (has c.self.inside.sending mark c.args.proc)
    (has_mark c.args.new.now.sends.items mark) (has_mark c.args.old.now.sends.items mark) (c.args.proc == c.args.proc)
    (c.remove_both.ensures.sends mark c.args.proc) (c.in_ok-come.ensures.sends mark c.args.proc) (active.same-number c.args.proc) ((indexes.own-sends c.self.inside.sending c.self.inside.receiving c.self.inside.counts.opened c.self.inside.counts.pairs c.self.inside.awake c.self.inside.active.items c.args.proc c.args.old.now.sends.items
    (subst (λ index. (m : Mark) → sends index m c.args.proc ≡ has_mark c.args.old.now.sends.items m) (sym c.self.view_is) c.requires.sends)) mark)) ∙ e)

pub invariant_of-self-2 : goal.invariant_of-self-2
invariant_of-self-2 c = record {
  told = λ mark its e is_open. active.come-opened c.self.inside.counts.opened c.uncount.new.counts.opened c.self.inside.receiving c.come.new.receiving c.args.proc c.args.new.now.receives.items
      c.self.invariant.told
      (λ t. c.uncount.ensures.opened ∙ c.come.ensures.opened ∙ c.open_up.ensures.kept t)
      (λ other there its_open. c.uncount.ensures.opened ∙ c.come.ensures.opened ∙ c.in_ok-open_up.ensures.marks other (ap (λ (marks : List Mark). has_mark marks other) c.as_slice.ensures.value ∙ there) its_open)
      c.in_ok-come.ensures.receives mark its
      (active.left c.come.new.receiving c.remove_both.new.receiving c.args.proc c.args.old.now.receives.items c.args.new.now.receives.items c.remove_both.ensures.receives mark its e) is_open;
  counts = λ t. active.left-counted c.come.new.sending c.remove_both.new.sending c.args.proc c.args.old.now.sends.items c.args.new.now.sends.items c.remove_both.ensures.sends
      c.come.new.counts.pairs c.uncount.new.counts.pairs (c.in_ok-come.ensures.counted (sym c.uncount.ensures.opened ∙ t))
      (subst (λ marks. AreCountedStill c.come.new.counts.pairs c.uncount.new.counts.pairs marks c.args.proc) c.as_slice-3.ensures.value c.uncount.ensures.still)
      (λ mark e. sym (pairs.set-own (has c.remove_both.new.sending mark c.args.proc) (has c.come.new.sending mark c.args.proc) (has c.self.inside.sending mark c.args.proc)
      (has_mark c.args.new.now.sends.items mark) (has_mark c.args.old.now.sends.items mark) (c.args.proc == c.args.proc)
      (c.remove_both.ensures.sends mark c.args.proc) (c.in_ok-come.ensures.sends mark c.args.proc) (active.same-number c.args.proc) ((indexes.own-sends c.self.inside.sending c.self.inside.receiving c.self.inside.counts.opened c.self.inside.counts.pairs c.self.inside.awake c.self.inside.active.items c.args.proc c.args.old.now.sends.items
      (subst (λ index. (m : Mark) → sends index m c.args.proc ≡ has_mark c.args.old.now.sends.items m) (sym c.self.view_is) c.requires.sends)) mark)) ∙ e);
  heard = active.left-heard c.come.new.sending c.remove_both.new.sending c.come.new.receiving c.remove_both.new.receiving
      c.come.new.active.items c.quiet_side.new.active.items c.quiet_side-2.new.active.items c.in_ok-come.ensures.heard
      (active.left c.come.new.sending c.remove_both.new.sending c.args.proc c.args.old.now.sends.items c.args.new.now.sends.items c.remove_both.ensures.sends)
      (active.left c.come.new.receiving c.remove_both.new.receiving c.args.proc c.args.old.now.receives.items c.args.new.now.receives.items c.remove_both.ensures.receives)
      c.quiet_side.ensures c.quiet_side-2.ensures;
}

pub returns-clause-ok : goal.returns-clause-ok
returns-clause-ok c = subst (λ old. IsSet old (indexes.state c.remove_both.new.sending c.remove_both.new.receiving c.uncount.new.counts.opened c.uncount.new.counts.pairs c.self.inside.awake c.quiet_side-2.new.active.items) c.args.proc c.args.new.now.sends.items c.args.new.now.receives.items) c.self.view_is
    (indexes.is-set c.self.inside.sending c.self.inside.receiving c.self.inside.counts.opened c.self.inside.counts.pairs c.self.inside.awake c.self.inside.active.items
    c.come.new.sending c.come.new.receiving c.remove_both.new.sending c.remove_both.new.receiving c.uncount.new.counts.opened c.uncount.new.counts.pairs c.quiet_side-2.new.active.items c.args.proc
    c.args.old.now.sends.items c.args.new.now.sends.items c.args.old.now.receives.items c.args.new.now.receives.items
    (indexes.own-sends c.self.inside.sending c.self.inside.receiving c.self.inside.counts.opened c.self.inside.counts.pairs c.self.inside.awake c.self.inside.active.items c.args.proc c.args.old.now.sends.items
    (subst (λ index. (m : Mark) → sends index m c.args.proc ≡ has_mark c.args.old.now.sends.items m) (sym c.self.view_is) c.requires.sends)) (indexes.own-receives c.self.inside.sending c.self.inside.receiving c.self.inside.counts.opened c.self.inside.counts.pairs c.self.inside.awake c.self.inside.active.items c.args.proc c.args.old.now.receives.items
    (subst (λ index. (m : Mark) → receives index m c.args.proc ≡ has_mark c.args.old.now.receives.items m) (sym c.self.view_is) c.requires.receives))
    c.in_ok-come.ensures.sends c.in_ok-come.ensures.receives c.remove_both.ensures.sends c.remove_both.ensures.receives)

pub returns-in_err-open_up-clause-err : goal.returns-in_err-open_up-clause-err
returns-in_err-open_up-clause-err c = indexes.on-err c.from_residual.result (subst (λ old. SameIndex old (indexes.state c.self.inside.sending c.self.inside.receiving c.open_up.new.counts.opened c.open_up.new.counts.pairs c.self.inside.awake c.self.inside.active.items)) c.self.view_is
    (indexes.same-pairs c.self.inside.sending c.self.inside.receiving c.self.inside.counts.opened c.self.inside.counts.pairs c.self.inside.awake c.self.inside.active.items
    c.self.inside.sending c.self.inside.receiving c.open_up.new.counts.opened c.open_up.new.counts.pairs c.self.inside.active.items (λ mark o. refl) (λ mark o. refl)))
