use Rattle.std.proofs.Common.{◌∙◌, ap, sym, subst, refl, arith}
use Rattle.std.proofs.lemmas.List.{length-map}
use Rattle.tb_search.specs.Candidates.{Row, partner_in, partners, row_of, rows_of}
use Rattle.tb_bus.specs.Steps.{first}
use Rattle.tb_search.specs.Indexed.{IsNextOf}
use Rattle.tb_search.proofs.PlaceLemmas.{row-got, led-none, led-found, led-passed}
use Rattle.tb_search.proofs.receivers.first_partner.Goals as goal

pub bounds-all-place : goal.bounds-all-place
bounds-all-place g c =
    let all = c.args.all.now in
    let many = length-map all row_of in
    let next = subst (IsNextOf (partner_in c.args.number c.args.terms.now) (rows_of all) c.loop-at.at) c.in-Some.is (c.next_receiver.ensures c.args.number c.args.terms.now c.sent_mark-mark.ensures) in
    let within = next.1 in
    omega (arith, many, within)

pub offset_bounds-all-place : goal.offset_bounds-all-place
offset_bounds-all-place g c =
    let all = c.args.all.now in
    let many = length-map all row_of in
    let next = subst (IsNextOf (partner_in c.args.number c.args.terms.now) (rows_of all) c.loop-at.at) c.in-Some.is (c.next_receiver.ensures c.args.number c.args.terms.now c.sent_mark-mark.ensures) in
    let within = next.1 in
    omega (arith, many, within)

pub overflow_add-at : goal.overflow_add-at
overflow_add-at g c =
    let all = c.args.all.now in
    let many = length-map all row_of in
    let next = subst (IsNextOf (partner_in c.args.number c.args.terms.now) (rows_of all) c.loop-at.at) c.in-Some.is (c.next_receiver.ensures c.args.number c.args.terms.now c.sent_mark-mark.ensures) in
    let within = next.1 in
    omega (arith, many, within)

pub loop-at-smaller : goal.loop-at-smaller
loop-at-smaller g c =
    let all = c.args.all.now in
    let many = length-map all row_of in
    let next = subst (IsNextOf (partner_in c.args.number c.args.terms.now) (rows_of all) c.loop-at.at) c.in-Some.is (c.next_receiver.ensures c.args.number c.args.terms.now c.sent_mark-mark.ensures) in
    let within = next.1 in
    let behind = next.0 in
    omega (arith, many, within, behind)

pub loop-at-preserved : goal.loop-at-preserved
loop-at-preserved g c =
    let all = c.args.all.now in
    let number = c.args.number in
    let terms = c.args.terms.now in
    let place = c.in-Some.place in
    let many = length-map all row_of in
    let next = subst (IsNextOf (partner_in number terms) (rows_of all) c.loop-at.at) c.in-Some.is (c.next_receiver.ensures number terms c.sent_mark-mark.ensures) in
    let within = next.1 in
    let row = row-got all place c.index-all-place.result c.get.result.now (omega (arith, many, within)) c.get.ensures c.index-all-place.is in
    led-passed (partner_in number terms) (partners number terms) (λ at. refl) (λ at row rows. refl) (rows_of all) c.loop-at.at place next
    (sym c.in-None-2.is ∙ c.in_ok-partner-in-Some.ensures ∙ ap (λ (row : Row). first (partner_in number terms place row)) (sym row))
    ∙ c.loop-at.invariant

pub returns-in-Some-2 : goal.returns-in-Some-2
returns-in-Some-2 g c =
    let all = c.args.all.now in
    let number = c.args.number in
    let terms = c.args.terms.now in
    let place = c.in-Some.place in
    let many = length-map all row_of in
    let next = subst (IsNextOf (partner_in number terms) (rows_of all) c.loop-at.at) c.in-Some.is (c.next_receiver.ensures number terms c.sent_mark-mark.ensures) in
    let within = next.1 in
    let row = row-got all place c.index-all-place.result c.get.result.now (omega (arith, many, within)) c.get.ensures c.index-all-place.is in
    led-found (partner_in number terms) (partners number terms) (λ at. refl) (λ at row rows. refl) (rows_of all) c.loop-at.at place c.in-Some-2.partner next
    (sym c.in-Some-2.is ∙ c.in_ok-partner-in-Some.ensures ∙ ap (λ (row : Row). first (partner_in number terms place row)) (sym row))
    ∙ c.loop-at.invariant

pub returns-in-None : goal.returns-in-None
returns-in-None g c =
    let all = c.args.all.now in
    let number = c.args.number in
    let terms = c.args.terms.now in
    let many = length-map all row_of in
    let test = c.loop-at-test.true in
    let next = subst (IsNextOf (partner_in number terms) (rows_of all) c.loop-at.at) c.in-None.is (c.next_receiver.ensures number terms c.sent_mark-mark.ensures) in
    sym (ap first (led-none (partner_in number terms) (partners number terms) (λ at. refl) (λ at row rows. refl) (rows_of all) c.loop-at.at (omega (arith, many, test)) next))
    ∙ c.loop-at.invariant
