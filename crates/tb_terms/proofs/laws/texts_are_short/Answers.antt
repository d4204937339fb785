use Rattle.tb_terms.proofs.TextLengths.{text-short, texts-short}
use Rattle.tb_terms.proofs.laws.texts_are_short.Goals as goal

pub returns : goal.returns
returns c = record { term = text-short; terms = texts-short }
