use Rattle.std.proofs.Common.{◌≡◌, ℕ, ◌+◌, ◌-◌, ◌≤◌, List, [], ◌∷◌, ◌++◌, length, map, replicate, ap, ◌∙◌, append_assoc, arith}
use Rattle.std.proofs.lemmas.List.{replicate_more}
use Rattle.tb_tools.specs.Lanes.{Lane, started, unused}
use Rattle.tb_tools.proofs.bench.Bench.new.Goals as goal

-- one unused lane more
padded-more : (prefix now pushed : List Lane) (lane : Lane) (count len : ℕ) → len ≤ count → now ≡ prefix ++ replicate (count - len) unused → lane ≡ unused
    → pushed ≡ now ++ lane ∷ [] → pushed ≡ prefix ++ replicate (count + 1 - len) unused
padded-more prefix now pushed lane count len l e f g =
    let next : count - len + 1 ≡ count + 1 - len = omega arith in
    g
    ∙ ap (λ (xs : List Lane). xs ++ lane ∷ []) e
    ∙ ap (λ (x : Lane). (prefix ++ replicate (count - len) unused) ++ x ∷ []) f
    ∙ append_assoc prefix (replicate (count - len) unused) (unused ∷ [])
    ∙ ap (λ (xs : List Lane). prefix ++ xs) (replicate_more (count - len) unused)
    ∙ ap (λ (n : ℕ). prefix ++ replicate n unused) next

pub loop-preserved : goal.loop-preserved
loop-preserved c =
    let within : length c.args.connects.now ≤ c.loop.counter = omega arith in
    padded-more (map (λ command. started command unused) c.args.connects.now) c.loop.lanes.items c.push.new.self.items c.in_ok-unused.field-0 c.loop.counter (length c.args.connects.now)
    within c.loop.invariant c.in_ok-unused.ensures c.in_ok-push.ensures.items
