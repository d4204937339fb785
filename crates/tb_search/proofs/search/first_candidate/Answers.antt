use Rattle.std.proofs.Common.{◌∙◌, sym, Some, None}
use Rattle.tb_search.specs.Candidates.{rows_of, scene_of}
use Rattle.tb_search.specs.declared.candidate.Candidate.TheVariants.{Finish}
use Rattle.tb_search.proofs.CandidateLemmas.{move_first, stands_first}
use Rattle.tb_search.proofs.TurnLemmas.{nobody-is, first_all-down, first_all-finish, first_all-some, first_all-none}
use Rattle.tb_search.proofs.search.first_candidate.Goals as goal

pub returns-then-marks : goal.returns-then-marks
returns-then-marks g c =
    let marks = c.args.marks in
    let scene = scene_of c.args.program.now.bodies c.args.program.now.tools c.args.bench.now (rows_of c.args.all.now) marks in
    let e = first_all-down scene marks c.if-marks.true in
    record {
      found = e;
      on_bus = move_first scene marks None c.requires.ascend e;
      stands = stands_first scene marks None e;
    }

pub returns-then-is_empty : goal.returns-then-is_empty
returns-then-is_empty g c =
    let marks = c.args.marks in
    let scene = scene_of c.args.program.now.bodies c.args.program.now.tools c.args.bench.now (rows_of c.args.all.now) marks in
    let e = first_all-finish scene marks c.if-marks.false (nobody-is c.args.all.now ∙ sym c.is_empty.ensures ∙ c.if-is_empty.true) in
    record {
      found = e;
      on_bus = move_first scene marks (Some Finish) c.requires.ascend e;
      stands = stands_first scene marks (Some Finish) e;
    }

pub returns-in-Some : goal.returns-in-Some
returns-in-Some g c =
    let marks = c.args.marks in
    let scene = scene_of c.args.program.now.bodies c.args.program.now.tools c.args.bench.now (rows_of c.args.all.now) marks in
    let e = first_all-some scene marks c.in-Some.found c.if-marks.false (nobody-is c.args.all.now ∙ sym c.is_empty.ensures ∙ c.if-is_empty.false) (sym c.in-Some.is ∙ c.in_ok-found.ensures) in
    record {
      found = e;
      on_bus = move_first scene marks (Some c.in-Some.found) c.requires.ascend e;
      stands = stands_first scene marks (Some c.in-Some.found) e;
    }

pub returns-in-None : goal.returns-in-None
returns-in-None g c =
    let marks = c.args.marks in
    let scene = scene_of c.args.program.now.bodies c.args.program.now.tools c.args.bench.now (rows_of c.args.all.now) marks in
    let e = c.halt_if.ensures ∙ first_all-none scene marks c.if-marks.false (nobody-is c.args.all.now ∙ sym c.is_empty.ensures ∙ c.if-is_empty.false) (sym c.in-None.is ∙ c.in_ok-found.ensures) in
    record {
      found = e;
      on_bus = move_first scene marks c.halt_if.result c.requires.ascend e;
      stands = stands_first scene marks c.halt_if.result e;
    }
