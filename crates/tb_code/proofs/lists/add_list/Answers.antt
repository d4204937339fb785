use Rattle.std.proofs.Common.{◌≡◌, List, length, ap, sym, subst, ◌∙◌, arith}
use Rattle.tb_process_steps.specs.Processes.{fresh}
use Rattle.tb_code.specs.Entries.{AreLists}
use Rattle.tb_code.specs.Positions.{size}
use Rattle.tb_code.specs.declared.entry.Span.{Span}
use Rattle.tb_code.proofs.EntryLemmas.{list_more}
use Rattle.tb_code.proofs.Parts.{length-positions}
use Rattle.tb_code.proofs.lists.add_list.Goals as goal

pub list_at-requires-clause-lists : goal.list_at-requires-clause-lists
list_at-requires-clause-lists c =
    subst (λ (l : List Span). AreLists c.args.body.now.atoms (fresh c.args.body.now.tree) c.args.entries.now l) (sym c.as_slice.ensures) c.requires.lists

pub set-requires : goal.set-requires
set-requires c =
    let same : length c.args.nodes.now ≡ size (fresh c.args.body.now.tree) = ap length c.requires.numbered ∙ length-positions (fresh c.args.body.now.tree) in
    let long = c.requires.lists.0 in
    let within = c.requires.within in
    omega arith

pub returns : goal.returns
returns c =
    list_more c.args.body.now.atoms (fresh c.args.body.now.tree) c.args.entries.now c.list_at.new.entries c.args.spans.now c.set.new.self c.args.at c.in_ok-span.span
    c.requires.lists c.in_ok-span.ensures.grows c.in_ok-span.ensures.list c.set.ensures
