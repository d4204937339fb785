use Rattle.std.proofs.Common.{List, subst, sym}
use Rattle.tb_index.specs.Indexes.{is_receiver, IsNext}
use Rattle.tb_search.specs.Candidates.{Row, row_at, rows_of}
use Rattle.tb_search.specs.Indexed.{IsNextPlace}
use Rattle.tb_search.specs.declared.living.Living.{Living}
use Rattle.tb_search.proofs.PlaceLemmas.{row-is}
use Rattle.tb_living.proofs.ReadLemmas.{read-through}
use Rattle.tb_core.proofs.bus.LiveBus.next_marked.Goals as goal

pub returns : goal.returns
returns g c =
    let bus = c.args.self.now in
    let all = bus.living.items in
    let row = row-is all c.args.from c.get.result.now c.requires.within (read-through c.args.self.now.living.items c.args.from _ _ c.get.ensures c.index.ensures) in
    let next = subst (λ (r : Row). IsNext (is_receiver bus.index c.args.mark) r.number c.next_receiver-found.result) (sym row) c.next_receiver-found.ensures in
    subst (λ (xs : List (Living _)). IsNextPlace (is_receiver bus.index c.args.mark) (rows_of xs) c.args.from c.place_of.result) c.as_slice.ensures.value
    (c.place_of.ensures.next (is_receiver bus.index c.args.mark)
    (subst (λ (xs : List (Living _)). IsNext (is_receiver bus.index c.args.mark) (row_at (rows_of xs) c.args.from).number c.next_receiver-found.result) (sym c.as_slice.ensures.value) next))
