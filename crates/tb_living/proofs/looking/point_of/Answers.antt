use Rattle.std.proofs.Common.{◌∙◌, sym, length, arith, nat_lt, refl, rules}
use Rattle.std.proofs.lemmas.Bool.{eqb-true}
use Rattle.std.proofs.lemmas.List.Sorted.{IsPartitionPoint-from_clause}
use Rattle.tb_search.proofs.PlaceLemmas.{number-got}
use Rattle.tb_living.proofs.NumberLemmas.{partitioned-below, where-exact}
use Rattle.tb_living.proofs.looking.point_of.Goals as goal

pub returns-then-is_empty : goal.returns-then-is_empty
returns-then-is_empty g c =
    let none = eqb-true (length c.args.all.now) 0 (sym c.is_empty.ensures ∙ c.if-is_empty.true) in
    (λ k d low less. absurd (omega (arith, less)), λ k d low long. absurd (omega (arith, none, long)))

pub returns-then-get-number : goal.returns-then-get-number
returns-then-get-number g c =
    where-exact c.args.number c.saturating_sub-guess.result c.args.all.now c.index-all-guess.result c.requires c.if-guess-all.true
    (number-got c.args.all.now c.saturating_sub-guess.result c.index-all-guess.result c.get-then-guess-all.result.now c.get-then-guess-all.ensures c.index-all-guess.is ∙ c.if-get-number.true)

pub returns : goal.returns
returns g c =
    let all = c.args.all.now in
    let number = c.args.number in
    IsPartitionPoint-from_clause (λ living. nat_lt living.number number) all c.partition_point.result c.partition_point.ensures.partitioned
    (partitioned-below number all all refl c.requires) (λ a r f h. search rules)
