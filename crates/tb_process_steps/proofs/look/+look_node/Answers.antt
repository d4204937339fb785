use Rattle.std.proofs.Common.{◌≡◌, Bool, true, false, Option, Some, None, List, ◌++◌, map, slice_get, ap, sym, subst, ◌∙◌, OnOk, arith}
use Rattle.tb_func.specs.declared.slot.Slot.{Slot}
use Rattle.tb_process_steps.specs.declared.node.Node.TheVariants.{At, Seq, If, Let}
use Rattle.tb_process_steps.specs.declared.running.Entry.{Entry}
use Rattle.tb_process_steps.specs.Settings.{tested, with_settings}
use Rattle.tb_process_steps.specs.Helpers.OfferViews.{OfferView, shown, or_own, offer_views}
use Rattle.tb_process_steps.specs.Helpers.Runnings.{entered_term}
use Rattle.tb_process_steps.proofs.PlanLemmas.{both_before, one_before, if_before, sides_before}
use Rattle.tb_process_steps.proofs.OfferViewLemmas.{offer_views_at, offer_views_seq, offer_views_sides, offer_views_true, offer_views_false, offer_views_absent, offer_views_untold, offer_views_set, offer_views_unset, nothing_more, both_more}
use Rattle.tb_process_steps.proofs.look.+look_node.Goals as goal

pub look_node-requires : goal.look_node-requires
look_node-requires t c =
    let node : slice_get c.args.plan.now.nodes c.args.node ≡ Some (Seq c.in-Seq.x c.in-Seq.field-1) = c.node.ensures.node ∙ ap Some c.in-Seq.is in
    let before = both_before c.in-Seq.x c.in-Seq.field-1 c.args.node (c.node.ensures.behind c.args.node (Seq c.in-Seq.x c.in-Seq.field-1) node) in
    let within = c.requires in
    let d = c.decreases in
    (omega arith, omega arith)

pub look_node-requires-in-Some-true : goal.look_node-requires-in-Some-true
look_node-requires-in-Some-true t c =
    let node : slice_get c.args.plan.now.nodes c.args.node ≡ Some (If c.in-If.test c.in-If.x c.in-If.y) = c.node.ensures.node ∙ ap Some c.in-If.is in
    let before = if_before c.in-If.test c.in-If.x c.in-If.y c.args.node (c.node.ensures.behind c.args.node (If c.in-If.test c.in-If.x c.in-If.y) node) in
    let within = c.requires in
    let d = c.decreases in
    (omega arith, omega arith)

pub look_node-requires-in-Some : goal.look_node-requires-in-Some
look_node-requires-in-Some t c =
    let node : slice_get c.args.plan.now.nodes c.args.node ≡ Some (If c.in-If.test c.in-If.x (Some c.in-Some.y)) = c.node.ensures.node ∙ ap Some (c.in-If.is ∙ ap (If c.in-If.test c.in-If.x) c.in-Some.is) in
    let before = both_before c.in-If.x c.in-Some.y c.args.node (c.node.ensures.behind c.args.node (If c.in-If.test c.in-If.x (Some c.in-Some.y)) node) in
    let within = c.requires in
    let d = c.decreases in
    (omega arith, omega arith)

pub look_node-requires-in-Some-2 : goal.look_node-requires-in-Some-2
look_node-requires-in-Some-2 t c =
    let node : slice_get c.args.plan.now.nodes c.args.node ≡ Some (Let c.in-Let.settings c.in-Let.x) = c.node.ensures.node ∙ ap Some c.in-Let.is in
    let before = one_before c.in-Let.x c.args.node (c.node.ensures.behind c.args.node (Let c.in-Let.settings c.in-Let.x) node) in
    let within = c.requires in
    let d = c.decreases in
    (omega arith, omega arith)

pub returns-in-At : goal.returns-in-At
returns-in-At t c =
    let node : slice_get c.args.plan.now.nodes c.args.node ≡ Some (At c.in-At.atom) = c.node.ensures.node ∙ ap Some c.in-At.is in
    let e = offer_views_at c.args.plan.now.body.atoms c.args.clock.now c.args.plan.now.nodes c.args.clock.ticks (record { node = c.args.node; entered = c.args.clock.entered }) c.node.ensures.behind c.in-At.atom (or_own c.args.own.now c.args.base.now) node in
    subst (λ (l : List OfferView). OnOk c.look_atom.result (map (shown c.args.base.now) c.look_atom.new.found ≡ map (shown c.args.base.now) c.args.found.now ++ l)) (sym e) c.look_atom.ensures

pub returns-in-Seq : goal.returns-in-Seq
returns-in-Seq t c =
    let node : slice_get c.args.plan.now.nodes c.args.node ≡ Some (Seq c.in-Seq.x c.in-Seq.field-1) = c.node.ensures.node ∙ ap Some c.in-Seq.is in
    let e = offer_views_seq c.args.plan.now.body.atoms c.args.clock.now c.args.plan.now.nodes c.args.clock.ticks (record { node = c.args.node; entered = c.args.clock.entered }) c.node.ensures.behind c.in-Seq.x c.in-Seq.field-1 (or_own c.args.own.now c.args.base.now) node in
    subst (λ (l : List OfferView). OnOk c.look_node.result (map (shown c.args.base.now) c.look_node.new.found ≡ map (shown c.args.base.now) c.args.found.now ++ l)) (sym e) c.look_node.ensures

pub returns-in-Some-true : goal.returns-in-Some-true
returns-in-Some-true t c =
    let node : slice_get c.args.plan.now.nodes c.args.node ≡ Some (If c.in-If.test c.in-If.x c.in-If.y) = c.node.ensures.node ∙ ap Some c.in-If.is in
    let found : c.in_ok-tested-in-If.field-0 ≡ tested c.store_of.result.now c.in-If.test = c.in_ok-tested-in-If.ensures in
    let says : ◌≡◌ {A = Option Bool} (tested (or_own c.args.own.now c.args.base.now) c.in-If.test) (Some true) = ap (λ (s : List Slot). tested s c.in-If.test) (sym c.store_of.ensures) ∙ sym found ∙ c.in-Some-true.is ∙ ap Some c.in-Some-true.field-0-test in
    let e = offer_views_true c.args.plan.now.body.atoms c.args.clock.now c.args.plan.now.nodes c.args.clock.ticks (record { node = c.args.node; entered = c.args.clock.entered }) c.node.ensures.behind c.in-If.test c.in-If.x c.in-If.y (or_own c.args.own.now c.args.base.now) node says in
    subst (λ (l : List OfferView). OnOk c.look_node-in-Some-true.result (map (shown c.args.base.now) c.look_node-in-Some-true.new.found ≡ map (shown c.args.base.now) c.args.found.now ++ l)) (sym e) c.look_node-in-Some-true.ensures

pub returns-in-Some : goal.returns-in-Some
returns-in-Some t c =
    let node : slice_get c.args.plan.now.nodes c.args.node ≡ Some (If c.in-If.test c.in-If.x (Some c.in-Some.y)) = c.node.ensures.node ∙ ap Some (c.in-If.is ∙ ap (If c.in-If.test c.in-If.x) c.in-Some.is) in
    let found : c.in_ok-tested-in-If.field-0 ≡ tested c.store_of.result.now c.in-If.test = c.in_ok-tested-in-If.ensures in
    let says : ◌≡◌ {A = Option Bool} (tested (or_own c.args.own.now c.args.base.now) c.in-If.test) (Some false) = ap (λ (s : List Slot). tested s c.in-If.test) (sym c.store_of.ensures) ∙ sym found ∙ c.in-Some-false.is ∙ ap Some c.in-Some-false.field-0-test in
    let e = offer_views_false c.args.plan.now.body.atoms c.args.clock.now c.args.plan.now.nodes c.args.clock.ticks (record { node = c.args.node; entered = c.args.clock.entered }) c.node.ensures.behind c.in-If.test c.in-If.x c.in-Some.y (or_own c.args.own.now c.args.base.now) node says in
    subst (λ (l : List OfferView). OnOk c.look_node-in-Some.result (map (shown c.args.base.now) c.look_node-in-Some.new.found ≡ map (shown c.args.base.now) c.args.found.now ++ l)) (sym e) c.look_node-in-Some.ensures

pub returns-in-None-y : goal.returns-in-None-y
returns-in-None-y t c =
    let node : slice_get c.args.plan.now.nodes c.args.node ≡ Some (If c.in-If.test c.in-If.x None) = c.node.ensures.node ∙ ap Some (c.in-If.is ∙ ap (If c.in-If.test c.in-If.x) c.in-None-y.is) in
    let found : c.in_ok-tested-in-If.field-0 ≡ tested c.store_of.result.now c.in-If.test = c.in_ok-tested-in-If.ensures in
    let says : ◌≡◌ {A = Option Bool} (tested (or_own c.args.own.now c.args.base.now) c.in-If.test) (Some false) = ap (λ (s : List Slot). tested s c.in-If.test) (sym c.store_of.ensures) ∙ sym found ∙ c.in-Some-false.is ∙ ap Some c.in-Some-false.field-0-test in
    nothing_more (map (shown c.args.base.now) c.args.found.now) _ (offer_views_absent c.args.plan.now.body.atoms c.args.clock.now c.args.plan.now.nodes c.args.clock.ticks (record { node = c.args.node; entered = c.args.clock.entered }) c.node.ensures.behind c.in-If.test c.in-If.x (or_own c.args.own.now c.args.base.now) node says)

pub returns-in-None : goal.returns-in-None
returns-in-None t c =
    let node : slice_get c.args.plan.now.nodes c.args.node ≡ Some (If c.in-If.test c.in-If.x c.in-If.y) = c.node.ensures.node ∙ ap Some c.in-If.is in
    let found : c.in_ok-tested-in-If.field-0 ≡ tested c.store_of.result.now c.in-If.test = c.in_ok-tested-in-If.ensures in
    let says : ◌≡◌ {A = Option Bool} (tested (or_own c.args.own.now c.args.base.now) c.in-If.test) (None) = ap (λ (s : List Slot). tested s c.in-If.test) (sym c.store_of.ensures) ∙ sym found ∙ c.in-None.is in
    nothing_more (map (shown c.args.base.now) c.args.found.now) _ (offer_views_untold c.args.plan.now.body.atoms c.args.clock.now c.args.plan.now.nodes c.args.clock.ticks (record { node = c.args.node; entered = c.args.clock.entered }) c.node.ensures.behind c.in-If.test c.in-If.x c.in-If.y (or_own c.args.own.now c.args.base.now) node says)

pub returns-in-Some-2 : goal.returns-in-Some-2
returns-in-Some-2 t c =
    let node : slice_get c.args.plan.now.nodes c.args.node ≡ Some (Let c.in-Let.settings c.in-Let.x) = c.node.ensures.node ∙ ap Some c.in-Let.is in
    let found : c.in_ok-store-in-Let.field-0 ≡ with_settings c.store_of-in-Let.result.now c.in-Let.settings = c.in_ok-store-in-Let.ensures in
    let after : ◌≡◌ {A = Option (List Slot)} (with_settings (or_own c.args.own.now c.args.base.now) c.in-Let.settings) (Some c.in-Some-2.store) = ap (λ (s : List Slot). with_settings s c.in-Let.settings) (sym c.store_of-in-Let.ensures) ∙ sym found ∙ c.in-Some-2.is in
    let e = offer_views_set c.args.plan.now.body.atoms c.args.clock.now c.args.plan.now.nodes c.args.clock.ticks (record { node = c.args.node; entered = c.args.clock.entered }) c.node.ensures.behind c.in-Let.settings c.in-Let.x (or_own c.args.own.now c.args.base.now) c.in-Some-2.store node after in
    subst (λ (l : List OfferView). OnOk c.look_node-in-Some-2.result (map (shown c.args.base.now) c.look_node-in-Some-2.new.found ≡ map (shown c.args.base.now) c.args.found.now ++ l)) (sym e) c.look_node-in-Some-2.ensures

pub returns-in-None-2 : goal.returns-in-None-2
returns-in-None-2 t c =
    let node : slice_get c.args.plan.now.nodes c.args.node ≡ Some (Let c.in-Let.settings c.in-Let.x) = c.node.ensures.node ∙ ap Some c.in-Let.is in
    let found : c.in_ok-store-in-Let.field-0 ≡ with_settings c.store_of-in-Let.result.now c.in-Let.settings = c.in_ok-store-in-Let.ensures in
    let after : ◌≡◌ {A = Option (List Slot)} (with_settings (or_own c.args.own.now c.args.base.now) c.in-Let.settings) (None) = ap (λ (s : List Slot). with_settings s c.in-Let.settings) (sym c.store_of-in-Let.ensures) ∙ sym found ∙ c.in-None-2.is in
    nothing_more (map (shown c.args.base.now) c.args.found.now) _ (offer_views_unset c.args.plan.now.body.atoms c.args.clock.now c.args.plan.now.nodes c.args.clock.ticks (record { node = c.args.node; entered = c.args.clock.entered }) c.node.ensures.behind c.in-Let.settings c.in-Let.x (or_own c.args.own.now c.args.base.now) node after)

pub look_node-requires-in-Alt : goal.look_node-requires-in-Alt
look_node-requires-in-Alt t c =
    let before = sides_before c.node.result.now c.in-Alt.x c.in-Alt.y c.args.node c.in-Alt.is (c.node.ensures.behind c.args.node c.node.result.now c.node.ensures.node) in
    let within = c.requires in
    let d = c.decreases in
    (omega arith, omega arith)

pub look_node-requires-in-Alt-2 : goal.look_node-requires-in-Alt-2
look_node-requires-in-Alt-2 t c =
    let before = sides_before c.node.result.now c.in-Alt.x c.in-Alt.y c.args.node c.in-Alt.is (c.node.ensures.behind c.args.node c.node.result.now c.node.ensures.node) in
    let within = c.requires in
    let d = c.decreases in
    (omega arith, omega arith)

pub returns-in_ok-look_node-in-Alt : goal.returns-in_ok-look_node-in-Alt
returns-in_ok-look_node-in-Alt t c =
    let base = c.args.base.now in
    let store = or_own c.args.own.now base in
    let entry : Entry = record { node = c.args.node; entered = c.args.clock.entered } in
    let whole = offer_views_sides c.args.plan.now.body.atoms c.args.clock.now c.args.plan.now.nodes c.args.clock.ticks entry c.node.ensures.behind c.node.result.now c.in-Alt.x c.in-Alt.y store c.node.ensures.node c.in-Alt.is in
    let old = map (shown base) c.args.found.now in
    let middle = map (shown base) c.look_node-in-Alt.new.found in
    let first = offer_views c.args.plan.now.body.atoms c.args.clock.now (entered_term c.args.plan.now.nodes c.args.clock.ticks (record { node = c.in-Alt.x; entered = c.args.clock.entered })) store in
    let second = offer_views c.args.plan.now.body.atoms c.args.clock.now (entered_term c.args.plan.now.nodes c.args.clock.ticks (record { node = c.in-Alt.y; entered = c.args.clock.entered })) store in
    let all = offer_views c.args.plan.now.body.atoms c.args.clock.now (entered_term c.args.plan.now.nodes c.args.clock.ticks entry) store in
    let one : middle ≡ old ++ first = c.in_ok-look_node-in-Alt.ensures in
    let both = both_more old middle first all second one whole in
    subst (λ (l : List OfferView). OnOk c.look_node-in-Alt-2.result (map (shown base) c.look_node-in-Alt-2.new.found ≡ l)) both c.look_node-in-Alt-2.ensures
