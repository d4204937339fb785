use Rattle.std.proofs.Common.{◌∙◌, take, ap, sym, subst, refl, arith}
use Rattle.std.proofs.lemmas.List.{length-map, length-take-le, get_or-take}
use Rattle.tb_search.specs.Candidates.{Row, no_row, candidates_of, candidates_from, scene_of, row_of, rows_of}
use Rattle.tb_bus.specs.Steps.{first}
use Rattle.tb_search.specs.Indexed.{IsNextOf}
use Rattle.tb_search.proofs.PlaceLemmas.{row-read, led-none, led-found, led-passed}
use Rattle.tb_search.proofs.search.first_between.Goals as goal

pub loop-at-preserved : goal.loop-at-preserved
loop-at-preserved g c =
    let all = c.args.searched.now.all.now in
    let scene = scene_of c.args.searched.now.program.now.bodies c.args.searched.now.program.now.tools c.args.searched.now.bench.now (rows_of all) c.args.searched.now.marks in
    let rows = take c.args.end (rows_of all) in
    let place = c.in-Some.place in
    let many = length-map all row_of in
    let most = c.requires.within in
    let long = length-take-le c.args.end (rows_of all) (omega (arith, many, most)) in
    let next = subst (IsNextOf (candidates_of scene) rows c.loop-at.at) c.in-Some.is c.next_starter.ensures in
    let within = next.1 in
    let row = get_or-take c.args.end (rows_of all) place no_row (omega (arith, long, within))
    ∙ row-read all place c.index-searched-place.result (omega (arith, long, within, most)) ∙ ap row_of (sym c.get.ensures) in
    led-passed (candidates_of scene) (candidates_from scene) (λ at. refl) (λ at row rows. refl) rows c.loop-at.at place next
    (sym c.in-None-2.is ∙ c.in_ok-found-in-Some.ensures ∙ ap (λ (row : Row). first (candidates_of scene place row)) (sym row))
    ∙ c.loop-at.invariant

pub returns-in-Some-2 : goal.returns-in-Some-2
returns-in-Some-2 g c =
    let all = c.args.searched.now.all.now in
    let scene = scene_of c.args.searched.now.program.now.bodies c.args.searched.now.program.now.tools c.args.searched.now.bench.now (rows_of all) c.args.searched.now.marks in
    let rows = take c.args.end (rows_of all) in
    let place = c.in-Some.place in
    let many = length-map all row_of in
    let most = c.requires.within in
    let long = length-take-le c.args.end (rows_of all) (omega (arith, many, most)) in
    let next = subst (IsNextOf (candidates_of scene) rows c.loop-at.at) c.in-Some.is c.next_starter.ensures in
    let within = next.1 in
    let row = get_or-take c.args.end (rows_of all) place no_row (omega (arith, long, within))
    ∙ row-read all place c.index-searched-place.result (omega (arith, long, within, most)) ∙ ap row_of (sym c.get.ensures) in
    led-found (candidates_of scene) (candidates_from scene) (λ at. refl) (λ at row rows. refl) rows c.loop-at.at place c.in-Some-2.found next
    (sym c.in-Some-2.is ∙ c.in_ok-found-in-Some.ensures ∙ ap (λ (row : Row). first (candidates_of scene place row)) (sym row))
    ∙ c.loop-at.invariant

pub returns-in-None : goal.returns-in-None
returns-in-None g c =
    let all = c.args.searched.now.all.now in
    let scene = scene_of c.args.searched.now.program.now.bodies c.args.searched.now.program.now.tools c.args.searched.now.bench.now (rows_of all) c.args.searched.now.marks in
    let rows = take c.args.end (rows_of all) in
    let many = length-map all row_of in
    let most = c.requires.within in
    let long = length-take-le c.args.end (rows_of all) (omega (arith, many, most)) in
    let test = c.loop-at-test.true in
    let next = subst (IsNextOf (candidates_of scene) rows c.loop-at.at) c.in-None.is c.next_starter.ensures in
    sym (ap first (led-none (candidates_of scene) (candidates_from scene) (λ at. refl) (λ at row rows. refl) rows c.loop-at.at (omega (arith, long, test)) next))
    ∙ c.loop-at.invariant
