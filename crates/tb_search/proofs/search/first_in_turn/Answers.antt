use Rattle.std.proofs.Common.{◌∙◌, ap, sym, drop, length, arith}
use Rattle.std.proofs.lemmas.List.{length-map, take_all}
use Rattle.tb_search.specs.Candidates.{candidates_from, scene_of, row_of, rows_of}
use Rattle.tb_bus.specs.Steps.{first}
use Rattle.tb_search.proofs.TurnLemmas.{none-behind, turn-found, turn-again}
use Rattle.tb_search.proofs.search.first_in_turn.Goals as goal

pub returns-in-Some : goal.returns-in-Some
returns-in-Some g c =
    let all = c.args.searched.now.all.now in
    let marks = c.args.searched.now.marks in
    let scene = scene_of c.args.searched.now.program.now.bodies c.args.searched.now.program.now.tools c.args.searched.now.bench.now (rows_of all) marks in
    let start = c.turn_start-start.result in
    let many = length-map all row_of in
    turn-found scene marks.last_starter start c.in-Some.found c.turn_start-start.ensures.count
    (sym c.in-Some.is ∙ c.in_ok-found.ensures ∙ ap (λ rows. first (candidates_from scene start (drop start rows))) (take_all (length all) (rows_of all) (omega (arith, many))))

pub returns-in-None : goal.returns-in-None
returns-in-None g c =
    let all = c.args.searched.now.all.now in
    let marks = c.args.searched.now.marks in
    let scene = scene_of c.args.searched.now.program.now.bodies c.args.searched.now.program.now.tools c.args.searched.now.bench.now (rows_of all) marks in
    let start = c.turn_start-start.result in
    let many = length-map all row_of in
    rw (← turn-again scene marks.last_starter start c.turn_start-start.ensures.count
    (sym c.in-None.is ∙ c.in_ok-found.ensures ∙ ap (λ rows. first (candidates_from scene start (drop start rows))) (take_all (length all) (rows_of all) (omega (arith, many))))) c.first_between-in-None.ensures

pub returns-then-start-end : goal.returns-then-start-end
returns-then-start-end g c =
    let all = c.args.searched.now.all.now in
    let marks = c.args.searched.now.marks in
    let scene = scene_of c.args.searched.now.program.now.bodies c.args.searched.now.program.now.tools c.args.searched.now.bench.now (rows_of all) marks in
    let start = c.turn_start-start.result in
    let many = length-map all row_of in
    rw (← turn-again scene marks.last_starter start c.turn_start-start.ensures.count
    (none-behind scene start (omega (arith, many, c.if-start-end.true)))) c.first_between.ensures
