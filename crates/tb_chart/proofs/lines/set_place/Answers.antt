use Rattle.std.proofs.Common.{◌≡◌, Some, None, length, rules}
use Rattle.tb_chart.specs.Numbers.{index_of}
use Rattle.tb_chart.proofs.PlaceLemmas.{index_within, puts_none, puts_some}
use Rattle.tb_chart.proofs.lines.set_place.Goals as goal

pub bounds-places-index : goal.bounds-places-index
bounds-places-index c =
    let found : Some c.in-Some.index ≡ index_of c.args.number = search rules in
    index_within c.args.number c.in-Some.index (length c.args.places.now) found c.requires

pub returns-in-Some : goal.returns-in-Some
returns-in-Some c =
    let found : Some c.in-Some.index ≡ index_of c.args.number = search rules in
    puts_some c.args.number c.in-Some.index c.args.line c.args.places.now found c.requires

pub returns-in-None : goal.returns-in-None
returns-in-None c =
    let none : None ≡ index_of c.args.number = search rules in
    puts_none c.args.number c.args.line c.args.places.now none
