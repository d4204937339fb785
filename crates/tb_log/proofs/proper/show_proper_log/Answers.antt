use Rattle.std.proofs.Common.{◌≡◌, true, subst, arith, List}
use Rattle.std.specs.List.{list_all}
use Rattle.std.proofs.lemmas.List.{take_all}
use Rattle.tb_log.specs.declared.entry.Entry.{Entry}
use Rattle.tb_log.specs.Proper.{is_proper_entry}
use Rattle.tb_log.specs.Seens.{entry_seen}
use Rattle.tb_log.proofs.ReadLemmas.{all_read}
use Rattle.tb_log.proofs.proper.show_proper_log.Goals as goal

pub loop-at-preserved : goal.loop-at-preserved
loop-at-preserved c = all_read is_proper_entry c.args.log.now.entries c.loop-at.at (entry_seen c.at.result) c.at.ensures c.loop-at.invariant c.show_seen.ensures

pub returns : goal.returns
returns c =
    let entries = c.args.log.now.entries in
    subst (λ (es : List Entry). list_all is_proper_entry es ≡ true) (take_all c.loop-at.at entries (omega arith)) c.loop-at.invariant
