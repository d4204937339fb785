use Rattle.std.proofs.Common.{◌∙◌, sym, length}
use Rattle.std.proofs.lemmas.Bool.{eqb-true}
use Rattle.std.proofs.lemmas.List.{nil_from_length}
use Rattle.tb_index.proofs.ActiveLemmas as active
use Rattle.tb_index.proofs.pairs.Pairs.remove_but.Goals as goal

pub returns-then-is_empty : goal.returns-then-is_empty
returns-then-is_empty c = active.none-removed c.args.self.now c.args.marks.now c.args.but.now c.args.proc (nil_from_length c.args.marks.now (eqb-true (length c.args.marks.now) 0 (sym c.is_empty.ensures ∙ c.if-is_empty.true)))
