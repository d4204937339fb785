use Rattle.std.proofs.Common.{◌≡◌, ◌∙◌, ◌+◌, List, [], ℕ, ap, sym, drop, fold, arith}
use Rattle.std.proofs.lemmas.List.{drop_all}
use Rattle.tb_log.specs.declared.entry.Entry.{Entry}
use Rattle.tb_log.specs.Seens.{entry_seen}
use Rattle.tb_log.proofs.ReadLemmas.{read_left}
use Rattle.tb_top.specs.Ring.{word_after}
use Rattle.tb_top.proofs.ring.last_word.Goals as goal

pub loop-at-preserved : goal.loop-at-preserved
loop-at-preserved c =
    let entries = c.args.log.now.entries in
    let rest = drop (c.loop-at.at + 1) entries in
    ap (λ (word : List ℕ). fold word_after word rest) c.word_after-word.ensures
    ∙ ap (λ (es : List Entry). fold word_after c.loop-at.word.now es) (sym (read_left entries c.loop-at.at (entry_seen c.at.result) c.at.ensures))
    ∙ c.loop-at.invariant

pub returns : goal.returns
returns c =
    let entries = c.args.log.now.entries in
    ap (λ (es : List Entry). fold word_after c.loop-at.word.now es) (sym (drop_all c.loop-at.at entries (omega arith))) ∙ c.loop-at.invariant
