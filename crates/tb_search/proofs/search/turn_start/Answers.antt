use Rattle.std.proofs.Common.{◌∙◌, ap, sym, length, nat_le, rules}
use Rattle.std.proofs.lemmas.Bool.{eqb-true}
use Rattle.std.proofs.lemmas.List.{nil_from_length}
use Rattle.tb_search.specs.Candidates.{rows_of, up_to}
use Rattle.std.proofs.lemmas.List.Sorted.{IsPartitionPoint-from_clause}
use Rattle.tb_search.proofs.TurnLemmas.{partitioned-by_number, up_to-point}
use Rattle.tb_search.proofs.PlaceLemmas.{number-got, upto-exact}
use Rattle.tb_search.proofs.search.turn_start.Goals as goal

pub returns-then-is_empty-clause-count : goal.returns-then-is_empty-clause-count
returns-then-is_empty-clause-count g c =
    let all = c.args.all.now in
    ap (λ xs. up_to c.args.last (rows_of xs)) (sym (nil_from_length all (eqb-true (length all) 0 (sym c.is_empty.ensures ∙ c.if-is_empty.true))))

pub returns-then-get-last-clause-count : goal.returns-then-get-last-clause-count
returns-then-get-last-clause-count g c =
    upto-exact c.args.all.now c.args.last c.saturating_sub-place.result c.index-all-place.result c.requires c.if-place-all.true
    (number-got c.args.all.now c.saturating_sub-place.result c.index-all-place.result c.get-then-place-all.result.now c.get-then-place-all.ensures c.index-all-place.is ∙ c.if-get-last.true)

pub returns-clause-count : goal.returns-clause-count
returns-clause-count g c =
    let point = IsPartitionPoint-from_clause (λ living. nat_le living.number c.args.last) c.args.all.now c.partition_point.result c.partition_point.ensures.partitioned
    (partitioned-by_number c.args.all.now c.args.last c.requires) (λ a r f h. search rules) in
    up_to-point c.args.last c.args.all.now c.partition_point.result (search rules) point
