use Rattle.std.proofs.Common.{◌≡◌, ◌∙◌, ◌+◌, List, ℕ, ap, sym, sum_by, take, arith}
use Rattle.std.proofs.lemmas.List.{take_all}
use Rattle.std.proofs.lemmas.List.Sums.{sum_by_push}
use Rattle.tb_log.specs.declared.entry.Entry.{Entry}
use Rattle.tb_log.specs.Seens.{entry_seen}
use Rattle.tb_log.proofs.ReadLemmas.{read_on}
use Rattle.tb_top.specs.Ring.{steps_in}
use Rattle.tb_top.proofs.ring.step_count.Goals as goal

pub loop-at-preserved : goal.loop-at-preserved
loop-at-preserved c =
    let entries = c.args.log.now.entries in
    let entry = entry_seen c.at.result in
    let more : sum_by steps_in (take (c.loop-at.at + 1) entries) ≡ sum_by steps_in (take c.loop-at.at entries) + steps_in entry =
    ap (sum_by steps_in) (read_on entries c.loop-at.at entry c.at.ensures) ∙ sum_by_push steps_in (take c.loop-at.at entries) entry in
    record {
      sum = omega (arith, more, c.loop-at.invariant.sum, c.steps_in-count.ensures.value);
      small = omega (arith, c.loop-at.invariant.small, c.steps_in-count.ensures.one);
    }

pub returns : goal.returns
returns c =
    let entries = c.args.log.now.entries in
    c.loop-at.invariant.sum ∙ ap (sum_by steps_in) (take_all c.loop-at.at entries (omega arith))
