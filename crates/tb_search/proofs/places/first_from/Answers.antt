use Rattle.std.proofs.Common.{◌∙◌, ap, arith, rules, nat_lt}
use Rattle.std.proofs.lemmas.List.{length-map}
use Rattle.std.proofs.lemmas.List.Sorted.{IsPartitionPoint-from_clause}
use Rattle.tb_search.specs.Candidates.{Row, row_of, rows_of}
use Rattle.tb_search.proofs.PlaceLemmas.{row-got, partitioned-below_number, point-of-rows, place-exact}
use Rattle.tb_search.proofs.places.first_from.Goals as goal

pub returns-then-get-number-clause-below : goal.returns-then-get-number-clause-below
returns-then-get-number-clause-below g c =
    let all = c.args.all.now in
    let guess = c.saturating_add-guess.result in
    let many = length-map all row_of in
    let within = c.if-guess-all.true in
    let has = ap (λ (row : Row). row.number) (row-got all guess c.index-all-guess.result c.get-then-guess-all.result.now (omega (arith, within)) c.get-then-guess-all.ensures c.index-all-guess.is) ∙ c.if-get-number.true in
    (place-exact (rows_of all) c.args.number guess c.requires.ascend (omega (arith, many, within)) has).0

pub returns-then-get-number-clause-above : goal.returns-then-get-number-clause-above
returns-then-get-number-clause-above g c =
    let all = c.args.all.now in
    let guess = c.saturating_add-guess.result in
    let many = length-map all row_of in
    let within = c.if-guess-all.true in
    let has = ap (λ (row : Row). row.number) (row-got all guess c.index-all-guess.result c.get-then-guess-all.result.now (omega (arith, within)) c.get-then-guess-all.ensures c.index-all-guess.is) ∙ c.if-get-number.true in
    (place-exact (rows_of all) c.args.number guess c.requires.ascend (omega (arith, many, within)) has).1

pub returns-clause-below : goal.returns-clause-below
returns-clause-below g c =
    let all = c.args.all.now in
    let number = c.args.number in
    let place = c.partition_point.result in
    let most = c.partition_point.ensures.bound in
    let point = IsPartitionPoint-from_clause (λ living. nat_lt living.number number) all place c.partition_point.ensures.partitioned
    (partitioned-below_number all number c.requires.ascend) (λ a r f h. search rules) in
    (point-of-rows all number place c.index-all-from.result (omega (arith, most)) point).0

pub returns-clause-above : goal.returns-clause-above
returns-clause-above g c =
    let all = c.args.all.now in
    let number = c.args.number in
    let place = c.partition_point.result in
    let most = c.partition_point.ensures.bound in
    let point = IsPartitionPoint-from_clause (λ living. nat_lt living.number number) all place c.partition_point.ensures.partitioned
    (partitioned-below_number all number c.requires.ascend) (λ a r f h. search rules) in
    (point-of-rows all number place c.index-all-from.result (omega (arith, most)) point).1
