use Rattle.std.proofs.Common.{◌≡◌, length, ap, ◌∙◌}
use Rattle.tb_process_steps.specs.Processes.{fresh}
use Rattle.tb_code.specs.Positions.{size}
use Rattle.tb_code.proofs.EntryLemmas.{blank_lists}
use Rattle.tb_code.proofs.Parts.{length-positions}
use Rattle.tb_code.proofs.lists.add_lists.Goals as goal

pub loop-back-init : goal.loop-back-init
loop-back-init c =
    let whole = fresh c.args.body.now.tree in
    let same : length c.args.nodes.now ≡ size whole = ap length c.requires.numbered ∙ length-positions whole in
    blank_lists c.args.body.now.atoms whole c.args.entries.now c.args.nodes.now c.args.spans.now c.add_blanks.new.spans same c.requires.empty c.in_ok-add_blanks.ensures
