use Rattle.std.proofs.Common.{false}
use Rattle.tb_index.proofs.IndexLemmas as indexes
use Rattle.tb_index.proofs.index.Index.new.Goals as goal

pub returns : goal.returns
returns c = indexes.empty c.new.result c.new-2.result false c.new-3.result c.new-4.result c.new-5.result.items c.new.ensures c.new-2.ensures c.new-4.ensures
