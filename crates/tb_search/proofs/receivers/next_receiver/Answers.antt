use Rattle.std.proofs.Common.{◌≡◌, false, subst, sym}
use Rattle.tb_index.specs.Indexes.{IsNext, is_receiver}
use Rattle.tb_search.specs.Candidates.{Row, partner_in, row_at, rows_of}
use Rattle.tb_search.proofs.PlaceLemmas.{row-got, next-of}
use Rattle.tb_search.proofs.IndexLemmas.{partner-deaf, indexed-at}
use Rattle.tb_search.proofs.receivers.next_receiver.Goals as goal

pub returns : goal.returns
returns g c = λ number terms same.
    let all = c.args.all.now in
    let rows = rows_of all in
    let index = c.args.index.now in
    let from = c.args.from in
    let mark = c.args.mark in
    let next = subst (λ (row : Row). IsNext (is_receiver index mark) row.number c.next_receiver-found.result)
    (sym (row-got all from c.index-all-from.result c.get.result.now c.requires.within c.get.ensures c.index-all-from.is)) c.next_receiver-found.ensures in
    next-of (is_receiver index mark) (partner_in number terms) rows from
    (λ place within deaf. partner-deaf index terms number place (row_at rows place) (indexed-at index rows place c.requires.index.each within)
    (subst (λ m. is_receiver index m (row_at rows place).number ≡ false) same deaf))
    c.place_of.result (c.place_of.ensures.next (is_receiver index mark) next)
