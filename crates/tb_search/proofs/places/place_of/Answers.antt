use Rattle.std.proofs.Common.{◌∙◌, ◌-◌, length, subst, arith, sym, refl, Some, None}
use Rattle.std.proofs.lemmas.List.{length-map}
use Rattle.tb_index.specs.Indexes.{IsNext}
use Rattle.tb_search.specs.Candidates.{row_at, row_of, rows_of}
use Rattle.tb_search.proofs.PlaceLemmas.{last-read, number-got, place-none, place-behind, place-found, place-within, place-past}
use Rattle.tb_search.specs.Indexed.{IsPlaceIf}
use Rattle.tb_search.proofs.places.place_of.Goals as goal

pub returns-then-number-last-clause-next : goal.returns-then-number-last-clause-next
returns-then-number-last-clause-next g c = λ holds next.
    let all = c.args.all.now in
    let rows = rows_of all in
    let number = c.in-Some.number in
    let place = c.first_from.result in
    let any = c.index-all-all.result in
    let last = c.get.result.now.number in
    let many = length-map all row_of in
    let some = c.requires.within in
    let upto = c.if-number-last.true in
    let most = c.first_from.ensures.most in
    place-found holds rows c.args.from c.requires.ascend (omega (arith, many, some)) last (last-read all any (omega (arith, some)) ∙ number-got all (length all - 1) any c.get.result.now c.get.ensures c.index-all-all.is)
    number place (omega (arith, upto)) (omega (arith, many, most)) c.first_from.ensures.below c.first_from.ensures.above
    (subst (λ found. IsNext holds (row_at rows c.args.from).number found) c.in-Some.is next)

pub returns-else-number-last-clause-next : goal.returns-else-number-last-clause-next
returns-else-number-last-clause-next g c = λ holds next.
    let all = c.args.all.now in
    let rows = rows_of all in
    let any = c.index-all-all.result in
    let last = c.get.result.now.number in
    let many = length-map all row_of in
    let some = c.requires.within in
    let past = c.if-number-last.false in
    place-behind holds rows c.args.from c.requires.ascend (omega (arith, many, some)) last (last-read all any (omega (arith, some)) ∙ number-got all (length all - 1) any c.get.result.now c.get.ensures c.index-all-all.is)
    c.in-Some.number (omega (arith, past)) (subst (λ found. IsNext holds (row_at rows c.args.from).number found) c.in-Some.is next)

pub returns-in-None-clause-next : goal.returns-in-None-clause-next
returns-in-None-clause-next g c = λ holds next.
    let all = c.args.all.now in
    let rows = rows_of all in
    let any = c.index-all-all.result in
    let last = c.get.result.now.number in
    let many = length-map all row_of in
    let some = c.requires.within in
    place-none holds rows c.args.from c.requires.ascend (omega (arith, many, some)) last (last-read all any (omega (arith, some)) ∙ number-got all (length all - 1) any c.get.result.now c.get.ensures c.index-all-all.is)
    (omega arith) (subst (λ found. IsNext holds (row_at rows c.args.from).number found) c.in-None.is next)

pub returns-then-number-last-clause-place : goal.returns-then-number-last-clause-place
returns-then-number-last-clause-place g c =
    let all = c.args.all.now in
    let rows = rows_of all in
    let any = c.index-all-all.result in
    let last = c.get.result.now.number in
    let many = length-map all row_of in
    let some = c.requires.within in
    let upto = c.if-number-last.true in
    let most = c.first_from.ensures.most in
    subst (λ found. IsPlaceIf rows found (Some c.first_from.result)) (sym c.in-Some.is)
    (place-within rows last c.in-Some.number c.first_from.result (omega (arith, many, some)) (last-read all any (omega (arith, some)) ∙ number-got all (length all - 1) any c.get.result.now c.get.ensures c.index-all-all.is)
    (omega (arith, upto)) (omega (arith, many, most)) c.first_from.ensures.below c.first_from.ensures.above)

pub returns-else-number-last-clause-place : goal.returns-else-number-last-clause-place
returns-else-number-last-clause-place g c =
    let all = c.args.all.now in
    let rows = rows_of all in
    let any = c.index-all-all.result in
    let last = c.get.result.now.number in
    let some = c.requires.within in
    let past = c.if-number-last.false in
    subst (λ found. IsPlaceIf rows found None) (sym c.in-Some.is)
    (place-past rows last c.in-Some.number c.requires.ascend (last-read all any (omega (arith, some)) ∙ number-got all (length all - 1) any c.get.result.now c.get.ensures c.index-all-all.is) (omega (arith, past)))

pub returns-in-None-clause-place : goal.returns-in-None-clause-place
returns-in-None-clause-place g c = subst (λ found. IsPlaceIf (rows_of c.args.all.now) found None) (sym c.in-None.is) refl
