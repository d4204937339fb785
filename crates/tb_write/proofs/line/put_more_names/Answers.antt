use Rattle.std.proofs.Common.{ℕ, List, ◌∷◌, ◌∙◌, ap}
use Rattle.std.specs.List.{flat_map}
use Rattle.tb_edge.proofs.Puts.{Owes-piece, WritesPrefix-piece}
use Rattle.tb_write.proofs.line.put_more_names.Goals as goal

pub returns-in-Err-clause-prefix : goal.returns-in-Err-clause-prefix
returns-in-Err-clause-prefix g c =
    let piece : List ℕ → List ℕ = λ name. 44 ∷ name in
    WritesPrefix-piece piece (g.E.Sink.taken c.args.err.now) (g.E.Sink.taken c.loop-name.err) (g.E.Sink.taken c.put_both.new.err) (flat_map piece c.args.names.now) c.args.names.now c.loop-name.name-index
    c.name-item.result (44 ∷ c.as_bytes.result.now) c.loop-name-test.true (ap piece (c.as_bytes.ensures.value ∙ c.name-item.is)) c.loop-name.invariant.owed c.in-Err.ensures.prefix

pub loop-name-preserved : goal.loop-name-preserved
loop-name-preserved g c =
    let piece : List ℕ → List ℕ = λ name. 44 ∷ name in
    record {
      owed = Owes-piece piece (g.E.Sink.taken c.args.err.now) (g.E.Sink.taken c.loop-name.err) (g.E.Sink.taken c.put_both.new.err) (flat_map piece c.args.names.now) c.args.names.now c.loop-name.name-index
          c.name-item.result (44 ∷ c.as_bytes.result.now) c.loop-name-test.true (ap piece (c.as_bytes.ensures.value ∙ c.name-item.is)) c.loop-name.invariant.owed c.in-Ok.ensures.ok;
      calm = c.in-Ok.ensures.calm ∙ c.loop-name.invariant.calm;
    }
