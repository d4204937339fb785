use Rattle.std.proofs.Common.{map, string_bytes}
use Rattle.tb_cli.specs.Words.{asked_pair}
use Rattle.tb_pair_top.proofs.Headlines.{has-headline}
use Rattle.tb_pair_top.proofs.Parts.{asks-some}
use Rattle.tb_pair_top.proofs.top.pair.Goals as goal

pub returns-clause-asks : goal.returns-clause-asks
returns-clause-asks g c =
    asks-some (asked_pair (map (string_bytes {Z = Rattle.std.proofs.Common.Global}) c.args.words.now.items)) _ _ c.answer-answer.result c.answer-answer.ensures.comes

pub returns-clause-headline : goal.returns-clause-headline
returns-clause-headline g c = (
  c.answer-answer.result,
  has-headline (map (string_bytes {Z = Rattle.std.proofs.Common.Global}) c.args.words.now.items) _ _ c.answer-answer.result c.answer-answer.ensures.comes,
  c.report.ensures.reports,
)
