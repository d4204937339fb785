use Rattle.std.proofs.Common.{subst, sym, take, arith, IsTrue}
use Rattle.std.proofs.lemmas.List.{length-take-le, take-map}
use Rattle.std.proofs.lemmas.List.Elements.{All-take}
use Rattle.std.specs.List.{All}
use Rattle.tb_index.specs.Indexes.{MayBegin, NobodyPassed}
use Rattle.tb_search.specs.Candidates.{Row, ascend, candidates_of, scene_of, row_at, row_of, rows_of}
use Rattle.tb_search.specs.Indexed.{IsIndexed, IsNextOf, SleepsAtRest}
use Rattle.tb_bus.specs.Exchanges.{setting_by}
use Rattle.tb_search.proofs.PlaceLemmas.{ahead-next, ahead-none, ascend-take, is_ahead, row-got, next-of}
use Rattle.tb_search.proofs.IndexLemmas.{of-asleep, indexed-at, asleep-at}
use Rattle.tb_search.proofs.search.next_starter.Goals as goal

pub place_of-requires-clause-ascend : goal.place_of-requires-clause-ascend
place_of-requires-clause-ascend g c =
    let all = c.args.searched.now.all.now in
    subst (λ rows. IsTrue (ascend 0 rows)) (take-map row_of c.args.end all) (ascend-take 0 c.args.end (rows_of all) c.requires.ascend)

pub returns : goal.returns
returns g c =
    let all = c.args.searched.now.all.now in
    let index = c.args.searched.now.index.now in
    let scene = scene_of c.args.searched.now.program.now.bodies c.args.searched.now.program.now.tools c.args.searched.now.bench.now (rows_of all) c.args.searched.now.marks in
    let from = c.args.from in
    let asked = take c.args.end all in
    let some = c.requires.some in
    let many = length-take-le c.args.end all c.requires.within in
    let same = take-map row_of c.args.end all in
    let start = (row_at (rows_of asked) from).number in
    let found = c.next_starter-found.result in
    let passed = subst (λ (row : Row). NobodyPassed (MayBegin index) row.number found)
    (sym (row-got asked from c.index-asked-from.result c.get.result.now (omega (arith, many, some)) c.get.ensures c.index-asked-from.is)) c.next_starter-found.ensures in
    let settings = setting_by scene.bodies scene.kinds scene.bench in
    let each = subst (λ rows. All (IsIndexed index) rows) same (All-take (IsIndexed index) c.args.end (rows_of all) c.requires.index.each) in
    let asleep = subst (λ rows. All (SleepsAtRest settings index) rows) same (All-take (SleepsAtRest settings index) c.args.end (rows_of all) c.requires.index.asleep) in
    subst (λ rows. IsNextOf (candidates_of scene) rows from c.place_of.result) (sym same)
    (next-of (is_ahead start found) (candidates_of scene) (rows_of asked) from
    (λ place within behind. of-asleep index scene c.requires.index.each
    (row_at (rows_of asked) place) (ahead-none (MayBegin index) start found passed (row_at (rows_of asked) place).number behind) place (indexed-at index (rows_of asked) place each within) (asleep-at settings index (rows_of asked) place asleep within))
    c.place_of.result (c.place_of.ensures.next (is_ahead start found) (ahead-next (MayBegin index) start found passed)))
