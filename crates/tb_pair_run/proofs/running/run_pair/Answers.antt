use Rattle.std.proofs.Common.{rules, arith, ◌≡◌, length, ◌∙◌}
use Rattle.std.proofs.lemmas.List.{length-map}
use Rattle.tb_pair_run.proofs.OutsideLemmas.{not_begun_so, pair_was_run}
use Rattle.tb_pair_run.proofs.running.run_pair.Goals as goal

pub returns-in_default-clause-runs : goal.returns-in_default-clause-runs
returns-in_default-clause-runs g c =
    let n = c.requires.lanes in
    let m = c.requires.others in
    let k = c.args.lanes.now.ok.0 in
    let l = c.args.others.now.ok.0 in
    let i : length c.args.lanes.now.items ≡ 16 = omega (arith, n, k) in
    let j : length c.args.others.now.items ≡ 16 = omega (arith, m, l) in
    not_begun_so c.args.ticks 15 15 _ _ _ _ _ c.args.first c.args.second (length-map c.args.lanes.now.items _ ∙ i) (length-map c.args.others.now.items _ ∙ j) c.requires.log c.requires.other_log

pub returns-in_default-make_boxes-clause-runs : goal.returns-in_default-make_boxes-clause-runs
returns-in_default-make_boxes-clause-runs g c =
    let n = c.requires.lanes in
    let m = c.requires.others in
    let k = c.args.lanes.now.ok.0 in
    let l = c.args.others.now.ok.0 in
    let i : length c.args.lanes.now.items ≡ 16 = omega (arith, n, k) in
    let j : length c.args.others.now.items ≡ 16 = omega (arith, m, l) in
    not_begun_so c.args.ticks 15 15 _ _ _ _ _ c.args.first c.args.second (length-map c.args.lanes.now.items _ ∙ i) (length-map c.args.others.now.items _ ∙ j) c.requires.log c.requires.other_log

pub returns-clause-runs : goal.returns-clause-runs
returns-clause-runs g c =
    let taken = c.take_first-unused.result in
    let others_taken = c.take_first-others_unused.result in
    let unused = c.close_unused-unused in
    let others_unused = c.close_unused-others_unused in
    let ran = c.run_ends-ran.result in
    pair_was_run _ _ _ _ (λ pair. pair.inlet) (λ pair. pair.outlet) c.args.ticks _ _ _ _ _ _ c.args.first.origin c.args.second.origin ran.core ran.others_core ran.why
    c.args.lanes.now.items c.give_back.new.pairs.items c.args.others.now.items c.give_back-2.new.pairs.items
    taken.0.inlet unused.result.inlet others_taken.0.inlet others_unused.result.inlet taken.0.outlet unused.result.outlet others_taken.0.outlet others_unused.result.outlet
    taken.1.inlets.items ran.lanes.inlets.items others_taken.1.inlets.items ran.others.inlets.items taken.1.outlets.items ran.lanes.outlets.items others_taken.1.outlets.items ran.others.outlets.items
    (record { inlets = search rules; outlets = search rules }) (record { inlets = c.give_back.ensures.inlets; outlets = c.give_back.ensures.outlets })
    (record { inlets = search rules; outlets = search rules }) (record { inlets = c.give_back-2.ensures.inlets; outlets = c.give_back-2.ensures.outlets })
    unused.ensures.inlet unused.ensures.took unused.ensures.never_falls
    others_unused.ensures.inlet others_unused.ensures.took others_unused.ensures.never_falls
    c.run_ends-ran.ensures.runs
