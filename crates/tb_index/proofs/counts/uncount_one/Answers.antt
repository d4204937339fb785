use Rattle.std.proofs.Common.{◌≡◌, ◌∙◌, ◌&&◌, ℕ, not, sym, subst}
use Rattle.tb_index.specs.declared.mark.Mark.{Mark}
use Rattle.tb_index.specs.Helpers.Pairs.{has, is_pair}
use Rattle.tb_index.proofs.ActiveLemmas as active
use Rattle.tb_index.proofs.counts.uncount_one.Goals as goal

pub returns-then-not-has_count : goal.returns-then-not-has_count
returns-then-not-has_count c = active.count-kept c.args.counted.now c.remove.new.self c.args.mark c.args.others.now c.args.proc (sym c.has_count.ensures ∙ c.if-not-has_count.true)
    (subst (λ (mark : Mark). (k : Mark) (its : ℕ) → has c.remove.new.self k its ≡ (has c.args.counted.now k its && not (is_pair mark c.args.proc k its))) c.wide.ensures c.remove.ensures)
