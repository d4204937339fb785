use Rattle.std.proofs.Common.{◌≡◌, true, false, List, subst, sym, ◌∙◌}
use Rattle.tb_index.specs.declared.mark.Mark.{Mark}
use Rattle.tb_index.specs.Marks.{has_mark, wide}
use Rattle.tb_index.specs.Helpers.Pairs.{has}
use Rattle.tb_index.proofs.ActiveLemmas as active
use Rattle.tb_index.proofs.IndexLemmas as indexes
use Rattle.tb_index.proofs.coming.come.Goals as goal

pub returns-in-Err-clause-counted : goal.returns-in-Err-clause-counted
returns-in-Err-clause-counted c = λ t mark its e. c.count.ensures.kept (wide mark) its ((c.requires.counted (sym c.count.ensures.opened ∙ t)) mark its e)

pub returns-in-Err-add_both-clause-counted : goal.returns-in-Err-add_both-clause-counted
returns-in-Err-add_both-clause-counted c = λ t. active.same-counted c.args.sending.now c.add_both.new.sending c.args.counts.now.pairs c.count.new.counts.pairs
    c.in-Err-add_both.ensures.same_sends (c.requires.counted (sym c.count.ensures.opened ∙ t)) c.count.ensures.kept

pub activate-requires-clause-counted : goal.activate-requires-clause-counted
activate-requires-clause-counted c = λ t. active.come-counted c.args.sending.now c.add_both.new.sending c.args.proc c.args.old.now.sends.items c.args.new.now.sends.items
    c.requires.sends c.in-Ok-add_both.ensures.sends c.args.counts.now.pairs c.count.new.counts.pairs (c.requires.counted (sym c.count.ensures.opened ∙ t)) c.count.ensures.kept
    (subst (λ (marks : List Mark). (k : Mark) → has_mark marks k ≡ true → has_mark c.args.old.now.sends.items k ≡ false → has c.count.new.counts.pairs (wide k) c.args.proc ≡ true) c.as_slice.ensures.value
    (subst (λ (marks : List Mark). (k : Mark) → has_mark c.as_slice.result.now k ≡ true → has_mark marks k ≡ false → has c.count.new.counts.pairs (wide k) c.args.proc ≡ true) c.as_slice-2.ensures.value (c.in-Ok.ensures.all (sym c.count.ensures.opened ∙ t))))

pub returns-in-Ok-activate-clause-counted : goal.returns-in-Ok-activate-clause-counted
returns-in-Ok-activate-clause-counted c = λ t. active.come-counted c.args.sending.now c.add_both.new.sending c.args.proc c.args.old.now.sends.items c.args.new.now.sends.items
    c.requires.sends c.in-Ok-add_both.ensures.sends c.args.counts.now.pairs c.count.new.counts.pairs (c.requires.counted (sym c.count.ensures.opened ∙ t)) c.count.ensures.kept
    (subst (λ (marks : List Mark). (k : Mark) → has_mark marks k ≡ true → has_mark c.args.old.now.sends.items k ≡ false → has c.count.new.counts.pairs (wide k) c.args.proc ≡ true) c.as_slice.ensures.value
    (subst (λ (marks : List Mark). (k : Mark) → has_mark c.as_slice.result.now k ≡ true → has_mark marks k ≡ false → has c.count.new.counts.pairs (wide k) c.args.proc ≡ true) c.as_slice-2.ensures.value (c.in-Ok.ensures.all (sym c.count.ensures.opened ∙ t))))

pub returns-in-Err-activate-clause-counted : goal.returns-in-Err-activate-clause-counted
returns-in-Err-activate-clause-counted c = λ t. active.same-counted c.args.sending.now c.remove_both.new.sending c.args.counts.now.pairs c.count.new.counts.pairs
    (indexes.undone-pairs c.args.sending.now c.add_both.new.sending c.remove_both.new.sending c.args.proc c.args.old.now.sends.items c.args.new.now.sends.items
    c.requires.sends c.in-Ok-add_both.ensures.sends c.remove_both.ensures.sends)
    (c.requires.counted (sym c.count.ensures.opened ∙ t)) c.count.ensures.kept

pub activate-requires-clause-told : goal.activate-requires-clause-told
activate-requires-clause-told c = active.come-opened c.args.counts.now.opened c.count.new.counts.opened c.args.receiving.now c.add_both.new.receiving c.args.proc c.args.new.now.receives.items
    c.requires.told (λ t. c.count.ensures.opened ∙ t) (λ mark e is_open. c.count.ensures.opened ∙ c.requires.opened mark e is_open) c.in-Ok-add_both.ensures.receives
