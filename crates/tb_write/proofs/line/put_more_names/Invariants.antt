use Rattle.std.proofs.Common.{◌≡◌, ◌∷◌, drop}
use Rattle.std.specs.List.{flat_map}
use Rattle.tb_edge.specs.Sinks.{Owes}
use Rattle.tb_write.proofs.line.put_more_names.Given as goal

-- the remaining names are still to be written
abbrev pub invariant-loop-name : goal.invariant-loop-name
invariant-loop-name g l = record {
  owed : Owes (g.E.Sink.taken l.initial.err) (g.E.Sink.taken l.err) (flat_map (λ name. 44 ∷ name) l.names) (flat_map (λ name. 44 ∷ name) (drop l.name-index l.names));
  calm : g.E.Sink.faults l.err ≡ g.E.Sink.faults l.initial.err;
}
