use Rattle.std.proofs.Common.{◌≡◌, List, IfOk, IfSome, subst, option_map}
use Rattle.std.proofs.lemmas.Result.{IfOk-weaker}
use Rattle.tb_bus.specs.Buses.{Bus}
use Rattle.tb_bus.specs.Steps.{moves, first}
use Rattle.tb_search.specs.Candidates.{rows_of, scene_of}
use Rattle.tb_search.specs.Views.{IsCandidateIn, IsSearchedFor, move_of}
use Rattle.tb_search.specs.declared.living.Living.{Living}
use Rattle.tb_core.specs.Helpers.LiveBuses.{bus_of, settings_in}
use Rattle.tb_core.proofs.RowsLemmas.{searched-for}
use Rattle.tb_living.proofs.RestLemmas.{right-rows}
use Rattle.tb_core.proofs.bus.LiveBus.first_candidate.Goals as goal

pub first_candidate-requires-clause-index : goal.first_candidate-requires-clause-index
first_candidate-requires-clause-index g c =
    let fields = c.args.self.now in
    right-rows (settings_in fields) fields.stirred fields.index fields.living.items c.as_slice.result.now c.as_slice.ensures.value c.requires.settled c.requires.sound.indexed c.requires.sound.rested c.requires.fresh

pub returns-clause-found : goal.returns-clause-found
returns-clause-found g c =
    let fields = c.args.self.now in
    let program = fields.origin.program in
    let on_bus = subst (λ (all : List (Living _)). IfOk c.first_candidate.result
    (λ found. (bus : Bus) → IsSearchedFor bus (scene_of program.bodies program.tools fields.bench (rows_of all) fields.marks) fields.marks → option_map (move_of bus (rows_of all)) found ≡ first (moves bus)))
    c.as_slice.ensures.value c.first_candidate.ensures.on_bus in
    IfOk-weaker c.first_candidate.result _ _ (λ found h. h (bus_of g.W.Walker.view fields) (searched-for g.W.Walker.view fields c.requires.sound c.requires.fresh)) on_bus

pub returns-clause-stands : goal.returns-clause-stands
returns-clause-stands g c =
    let fields = c.args.self.now in
    let program = fields.origin.program in
    subst (λ (all : List (Living _)). IfOk c.first_candidate.result (λ found. IfSome found (IsCandidateIn (scene_of program.bodies program.tools fields.bench (rows_of all) fields.marks))))
    c.as_slice.ensures.value c.first_candidate.ensures.stands
