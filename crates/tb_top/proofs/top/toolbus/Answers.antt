use Rattle.std.proofs.Common.{map, string_bytes}
use Rattle.tb_cli.specs.Words.{asked}
use Rattle.tb_top.specs.Outcomes.{files_of}
use Rattle.tb_top.proofs.Headlines.{has-headline}
use Rattle.tb_top.proofs.Parts.{asks-some}
use Rattle.tb_top.proofs.top.toolbus.Goals as goal

pub returns-clause-asks : goal.returns-clause-asks
returns-clause-asks g c =
    asks-some (g.F.Files.held c.args.files.now) (files_of (asked (map (string_bytes {Z = Rattle.std.proofs.Common.Global}) c.args.words.now.items))) (g.F.Files.asked c.args.files.now)
    (g.F.Files.asked c.answer-answer.new.files) c.answer-answer.result c.answer-answer.ensures.asks

pub returns-clause-headline : goal.returns-clause-headline
returns-clause-headline g c = (
  c.answer-answer.result,
  has-headline (map (string_bytes {Z = Rattle.std.proofs.Common.Global}) c.args.words.now.items) _ _ c.answer-answer.result c.answer-answer.ensures.outcome,
  c.report.ensures.reports,
)
