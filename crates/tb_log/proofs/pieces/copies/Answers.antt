use Rattle.std.proofs.Common.{◌∙◌, ◌++◌, [], ◌∷◌, List, ap, sym, take, drop}
use Rattle.tb_log.specs.declared.entry.Entry.{Entry}
use Rattle.tb_log.specs.Seens.{entry_seen}
use Rattle.tb_log.proofs.ReadLemmas.{read_behind}
use Rattle.tb_log.proofs.pieces.copies.Goals as goal

pub loop-position-preserved : goal.loop-position-preserved
loop-position-preserved c =
    let entries = c.args.log.now.entries in
    let before = take c.loop-position.position (drop c.args.before entries) in
    c.in_ok-push.ensures.items ∙ ap (λ (es : List Entry). es ++ c.in_ok-copy.field-0 ∷ []) c.loop-position.invariant ∙ ap (λ (e : Entry). before ++ e ∷ []) c.in_ok-copy.ensures
    ∙ sym (read_behind entries c.args.before c.loop-position.position (entry_seen c.at-entry.result) c.at-entry.ensures)
