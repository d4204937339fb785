use Rattle.tb_why.proofs.FormatLemmas.{too-many}
use Rattle.tb_why.proofs.formats.at_end.Goals as goal

pub returns-then-reading-terms : goal.returns-then-reading-terms
returns-then-reading-terms c = too-many c.args.reading c.args.terms.now c.if-reading.false c.if-reading-terms.true
