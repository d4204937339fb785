use Rattle.std.proofs.Common.{◌≡◌, ℕ, List, ◌∷◌, ◌++◌, ◌∙◌, OnOk, OnErr, ap, sym, subst}
use Rattle.std.specs.List.{flat_map, join_with_byte}
use Rattle.std.proofs.lemmas.Result.{on_ok_weaker, on_err_weaker}
use Rattle.tb_edge.specs.Sinks.{Writes, WritesPrefix}
use Rattle.tb_edge.proofs.Puts.{Writes-append, WritesPrefix-append, WritesPrefix-more}
use Rattle.tb_write.proofs.NameLemmas.{joined-more}
use Rattle.tb_write.proofs.line.put_names.Goals as goal

whole : (names : List (List ℕ)) (first put : List ℕ) (others : List (List ℕ)) → names ≡ first ∷ others → put ≡ first → put ++ flat_map (λ (name : List ℕ). 44 ∷ name) others ≡ join_with_byte 44 names
whole names first put others is same =
    ap (λ (x : List ℕ). x ++ flat_map (λ (name : List ℕ). 44 ∷ name) others) same ∙ (joined-more first others ∙ ap (join_with_byte 44) (sym is))

pub returns-in-Ok-clause-ok : goal.returns-in-Ok-clause-ok
returns-in-Ok-clause-ok g c =
    let old = g.E.Sink.taken c.args.err.now in
    let new = g.E.Sink.taken c.put_more_names.new.err in
    subst (λ (bytes : List ℕ). OnOk c.put_more_names.result (Writes old new bytes)) (whole c.args.names.now c.in-Some.first.now c.as_bytes.result.now c.in-Some.others.now c.in-Some.ensures.cases.0 c.as_bytes.ensures.value)
    (on_ok_weaker c.put_more_names.result (Writes-append old (g.E.Sink.taken c.put.new.self) new c.as_bytes.result.now (flat_map (λ (name : List ℕ). 44 ∷ name) c.in-Some.others.now) c.in-Ok.ensures.ok) c.put_more_names.ensures.ok)

pub returns-in-Ok-clause-prefix : goal.returns-in-Ok-clause-prefix
returns-in-Ok-clause-prefix g c =
    let old = g.E.Sink.taken c.args.err.now in
    let new = g.E.Sink.taken c.put_more_names.new.err in
    subst (λ (bytes : List ℕ). OnErr c.put_more_names.result (WritesPrefix old new bytes)) (whole c.args.names.now c.in-Some.first.now c.as_bytes.result.now c.in-Some.others.now c.in-Some.ensures.cases.0 c.as_bytes.ensures.value)
    (on_err_weaker c.put_more_names.result (WritesPrefix-append old (g.E.Sink.taken c.put.new.self) new c.as_bytes.result.now (flat_map (λ (name : List ℕ). 44 ∷ name) c.in-Some.others.now) c.in-Ok.ensures.ok) c.put_more_names.ensures.prefix)

pub returns-in-Err-clause-prefix : goal.returns-in-Err-clause-prefix
returns-in-Err-clause-prefix g c =
    let old = g.E.Sink.taken c.args.err.now in
    let new = g.E.Sink.taken c.put.new.self in
    subst (λ (bytes : List ℕ). WritesPrefix old new bytes) (whole c.args.names.now c.in-Some.first.now c.as_bytes.result.now c.in-Some.others.now c.in-Some.ensures.cases.0 c.as_bytes.ensures.value)
    (WritesPrefix-more old new c.as_bytes.result.now (flat_map (λ (name : List ℕ). 44 ∷ name) c.in-Some.others.now) c.in-Err.ensures.prefix)
