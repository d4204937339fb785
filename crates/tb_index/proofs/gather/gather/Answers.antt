use Rattle.std.proofs.Common.{subst}
use Rattle.tb_index.specs.Helpers.Pairs.{in_few, AreGathered}
use Rattle.tb_index.proofs.GatherLemmas.{gathered-has}
use Rattle.tb_index.proofs.gather.gather.Goals as goal

pub returns : goal.returns
returns c = gathered-has c.args.pairs.now c.args.found.now c.gather_few.new.found c.gather_many.new.found c.args.sent
    (subst (λ few. AreGathered c.args.found.now c.gather_few.new.found c.args.sent (in_few few)) c.as_slice.ensures.value c.in_ok-gather_few.ensures)
    c.in_ok-gather_many.ensures
