use Rattle.std.proofs.Common.{◌≡◌, ℕ, ◌-◌, ◌<◌, true, nat_lt, nat_le, Option, Some, None, List, length, slice_get, ap, sym, subst, ◌∙◌, IsTrue, IfSome, option_map, arith}
use Rattle.std.proofs.lemmas.Result.{IfOk-weaker}
use Rattle.std.proofs.lemmas.Bool.{and_from, lt-ltb, le-leb}
use Rattle.tb_process_steps.specs.declared.running.Entry.{Entry}
use Rattle.tb_func.specs.declared.slot.Slot.{Slot}
use Rattle.tb_process_steps.specs.declared.node.Node.TheVariants.{At, Seq, Alt, Star, Par, Disrupt, If, Let}
use Rattle.tb_process_steps.specs.declared.fired.Fired.{Fired}
use Rattle.tb_process_steps.specs.Settings.{tested, with_settings}
use Rattle.tb_process_steps.specs.Helpers.Selections.{Selected, Past, On, chosen, selected, selected_of, selected_with, or_past, is_fired_on}
use Rattle.tb_process_steps.specs.Helpers.Plans.{process_at}
use Rattle.tb_process_steps.specs.Processes.{Process}
use Rattle.tb_process_steps.specs.Helpers.OfferViews.{or_own}
use Rattle.tb_process_steps.specs.Helpers.Runnings.{entered_term, is_entry, term_of}
use Rattle.tb_process_steps.proofs.PlanLemmas.{both_before, one_before, chosen_before}
use Rattle.tb_process_steps.proofs.SelectedLemmas.{hit_atom, hit_seq, hit_alt, hit_star, hit_par, hit_disrupt, of_part, hit_chosen, hit_set, hit_unset, then, beside, along, held}
use Rattle.tb_process_steps.proofs.TermLemmas.{term-Whole, on_whole}
use Rattle.tb_process_steps.proofs.fire.+fire_node.Goals as goal

pub fire_node-requires : goal.fire_node-requires
fire_node-requires t c =
    let node : slice_get c.args.plan.now.nodes c.args.node ≡ Some (Seq c.in-Seq.x c.in-Seq.y) = c.node.ensures.node ∙ ap Some c.in-Seq.is in
    let before = both_before c.in-Seq.x c.in-Seq.y c.args.node (c.node.ensures.behind c.args.node (Seq c.in-Seq.x c.in-Seq.y) node) in
    let there = c.requires.there in
    let d = c.decreases in
    (omega arith, (omega arith, c.requires.entered))

pub fire_node-requires-in-Alt : goal.fire_node-requires-in-Alt
fire_node-requires-in-Alt t c =
    let node : slice_get c.args.plan.now.nodes c.args.node ≡ Some (Alt c.in-Alt.x c.in-Alt.y) = c.node.ensures.node ∙ ap Some c.in-Alt.is in
    let before = both_before c.in-Alt.x c.in-Alt.y c.args.node (c.node.ensures.behind c.args.node (Alt c.in-Alt.x c.in-Alt.y) node) in
    let there = c.requires.there in
    let d = c.decreases in
    (omega arith, (omega arith, c.requires.entered))

pub fire_node-requires-in-Past : goal.fire_node-requires-in-Past
fire_node-requires-in-Past t c =
    let node : slice_get c.args.plan.now.nodes c.args.node ≡ Some (Alt c.in-Alt.x c.in-Alt.y) = c.node.ensures.node ∙ ap Some c.in-Alt.is in
    let before = both_before c.in-Alt.x c.in-Alt.y c.args.node (c.node.ensures.behind c.args.node (Alt c.in-Alt.x c.in-Alt.y) node) in
    let there = c.requires.there in
    let d = c.decreases in
    (omega arith, (omega arith, c.requires.entered))

pub fire_node-requires-in-Star : goal.fire_node-requires-in-Star
fire_node-requires-in-Star t c =
    let node : slice_get c.args.plan.now.nodes c.args.node ≡ Some (Star c.in-Star.x c.in-Star.y) = c.node.ensures.node ∙ ap Some c.in-Star.is in
    let before = both_before c.in-Star.x c.in-Star.y c.args.node (c.node.ensures.behind c.args.node (Star c.in-Star.x c.in-Star.y) node) in
    let there = c.requires.there in
    let d = c.decreases in
    (omega arith, (omega arith, c.requires.entered))

pub fire_node-requires-in-Past-2 : goal.fire_node-requires-in-Past-2
fire_node-requires-in-Past-2 t c =
    let node : slice_get c.args.plan.now.nodes c.args.node ≡ Some (Star c.in-Star.x c.in-Star.y) = c.node.ensures.node ∙ ap Some c.in-Star.is in
    let before = both_before c.in-Star.x c.in-Star.y c.args.node (c.node.ensures.behind c.args.node (Star c.in-Star.x c.in-Star.y) node) in
    let there = c.requires.there in
    let d = c.decreases in
    (omega arith, (omega arith, c.requires.entered))

pub fire_node-requires-in-Par : goal.fire_node-requires-in-Par
fire_node-requires-in-Par t c =
    let node : slice_get c.args.plan.now.nodes c.args.node ≡ Some (Par c.in-Par.x c.in-Par.y) = c.node.ensures.node ∙ ap Some c.in-Par.is in
    let before = both_before c.in-Par.x c.in-Par.y c.args.node (c.node.ensures.behind c.args.node (Par c.in-Par.x c.in-Par.y) node) in
    let there = c.requires.there in
    let d = c.decreases in
    (omega arith, (omega arith, c.requires.entered))

pub fire_node-requires-in-Past-3 : goal.fire_node-requires-in-Past-3
fire_node-requires-in-Past-3 t c =
    let node : slice_get c.args.plan.now.nodes c.args.node ≡ Some (Par c.in-Par.x c.in-Par.y) = c.node.ensures.node ∙ ap Some c.in-Par.is in
    let before = both_before c.in-Par.x c.in-Par.y c.args.node (c.node.ensures.behind c.args.node (Par c.in-Par.x c.in-Par.y) node) in
    let there = c.requires.there in
    let d = c.decreases in
    (omega arith, (omega arith, c.requires.entered))

pub fire_node-requires-in-Some : goal.fire_node-requires-in-Some
fire_node-requires-in-Some t c =
    let node : slice_get c.args.plan.now.nodes c.args.node ≡ Some (If c.in-If.test c.in-If.x c.in-If.y) = c.node.ensures.node ∙ ap Some c.in-If.is in
    let found : c.in_ok-part-in-If.field-0 ≡ chosen (tested c.store_of.result.now c.in-If.test) c.in-If.x c.in-If.y = c.in_ok-part-in-If.ensures in
    let says : ◌≡◌ {A = Option ℕ} (chosen (tested (or_own c.args.own.now c.args.base.now) c.in-If.test) c.in-If.x c.in-If.y) (Some c.in-Some.part) = ap (λ (s : List Slot). chosen (tested s c.in-If.test) c.in-If.x c.in-If.y) (sym c.store_of.ensures) ∙ sym found ∙ c.in-Some.is in
    let all = chosen_before (tested (or_own c.args.own.now c.args.base.now) c.in-If.test) c.in-If.test c.in-If.x c.in-If.y c.args.node (c.node.ensures.behind c.args.node (If c.in-If.test c.in-If.x c.in-If.y) node) in
    let before : c.in-Some.part < c.args.node = subst (λ (o : Option ℕ). IfSome o (λ (part : ℕ). part < c.args.node)) says all in
    let there = c.requires.there in
    let d = c.decreases in
    (omega arith, (omega arith, c.requires.entered))

pub fire_node-requires-in-Some-2 : goal.fire_node-requires-in-Some-2
fire_node-requires-in-Some-2 t c =
    let node : slice_get c.args.plan.now.nodes c.args.node ≡ Some (Let c.in-Let.settings c.in-Let.x) = c.node.ensures.node ∙ ap Some c.in-Let.is in
    let before = one_before c.in-Let.x c.args.node (c.node.ensures.behind c.args.node (Let c.in-Let.settings c.in-Let.x) node) in
    let there = c.requires.there in
    let d = c.decreases in
    (omega arith, (omega arith, c.requires.entered))

pub returns-in-At-clause-selected : goal.returns-in-At-clause-selected
returns-in-At-clause-selected t c =
    let node : slice_get c.args.plan.now.nodes c.args.node ≡ Some (At c.in-At.field-0) = c.node.ensures.node ∙ ap Some c.in-At.is in
    let e = hit_atom c.args.plan.now.nodes c.args.since.ticks (record { node = c.args.node; entered = c.args.since.entered }) c.node.ensures.behind c.in-At.field-0 (or_own c.args.own.now c.args.base.now) c.args.k node in
    IfOk-weaker c.fire_atom.result _ _ (λ fired p. p c.args.plan.now.nodes c.args.since.ticks c.args.base.now c.in-At.field-0 (c.args.since.ticks - c.args.since.entered) ∙ sym e) c.fire_atom.ensures.selected

pub returns-in_ok-fired-in-Seq-clause-selected : goal.returns-in_ok-fired-in-Seq-clause-selected
returns-in_ok-fired-in-Seq-clause-selected t c =
    let node : slice_get c.args.plan.now.nodes c.args.node ≡ Some (Seq c.in-Seq.x c.in-Seq.y) = c.node.ensures.node ∙ ap Some c.in-Seq.is in
    let e = hit_seq c.args.plan.now.nodes c.args.since.ticks (record { node = c.args.node; entered = c.args.since.entered }) c.node.ensures.behind c.in-Seq.x c.in-Seq.y (or_own c.args.own.now c.args.base.now) c.args.k node in
    let first : selected_of c.args.plan.now.nodes c.args.since.ticks c.args.base.now c.in_ok-fired-in-Seq.fired ≡ selected (entered_term c.args.plan.now.nodes c.args.since.ticks (record { node = c.in-Seq.x; entered = c.args.since.entered })) (or_own c.args.own.now c.args.base.now) c.args.k = c.in_ok-fired-in-Seq.ensures.selected in
    IfOk-weaker c.followed.result _ _ (λ whole p. p c.args.plan.now.nodes c.args.base.now ∙ ap (selected_with (then (process_at c.args.plan.now.nodes c.in-Seq.y))) first ∙ sym e) c.followed.ensures.selected

pub returns-in_ok-fired-in-Seq-clause-on : goal.returns-in_ok-fired-in-Seq-clause-on
returns-in_ok-fired-in-Seq-clause-on t c =
    let node : slice_get c.args.plan.now.nodes c.args.node ≡ Some (Seq c.in-Seq.x c.in-Seq.y) = c.node.ensures.node ∙ ap Some c.in-Seq.is in
    let before = both_before c.in-Seq.x c.in-Seq.y c.args.node (c.node.ensures.behind c.args.node (Seq c.in-Seq.x c.in-Seq.y) node) in
    let there = c.requires.there in
    let within : c.in-Seq.y < length c.args.plan.now.nodes = omega arith in
    IfOk-weaker c.followed.result _ _ (λ whole p. p c.args.plan.now.nodes within c.in_ok-fired-in-Seq.ensures.on) c.followed.ensures.on

pub returns-in-Past-clause-selected : goal.returns-in-Past-clause-selected
returns-in-Past-clause-selected t c =
    let node : slice_get c.args.plan.now.nodes c.args.node ≡ Some (Alt c.in-Alt.x c.in-Alt.y) = c.node.ensures.node ∙ ap Some c.in-Alt.is in
    let e = hit_alt c.args.plan.now.nodes c.args.since.ticks (record { node = c.args.node; entered = c.args.since.entered }) c.node.ensures.behind c.in-Alt.x c.in-Alt.y (or_own c.args.own.now c.args.base.now) c.args.k node in
    let first : selected_of c.args.plan.now.nodes c.args.since.ticks c.args.base.now c.in_ok-rest-in-Alt.field-0 ≡ selected (entered_term c.args.plan.now.nodes c.args.since.ticks (record { node = c.in-Alt.x; entered = c.args.since.entered })) (or_own c.args.own.now c.args.base.now) c.args.k = c.in_ok-rest-in-Alt.ensures.selected in
    let past : Past c.in-Past.rest ≡ selected (entered_term c.args.plan.now.nodes c.args.since.ticks (record { node = c.in-Alt.x; entered = c.args.since.entered })) (or_own c.args.own.now c.args.base.now) c.args.k = sym (ap (selected_of c.args.plan.now.nodes c.args.since.ticks c.args.base.now) c.in-Past.is) ∙ first in
    let eq = ap (λ (h : Selected). or_past h (λ (rest : ℕ). selected (entered_term c.args.plan.now.nodes c.args.since.ticks (record { node = c.in-Alt.y; entered = c.args.since.entered })) (or_own c.args.own.now c.args.base.now) rest)) past ∙ sym e in
    IfOk-weaker c.fire_node-in-Past.result _ _ (λ fired p. p ∙ eq) c.fire_node-in-Past.ensures.selected

pub returns-in-Taken-clause-selected : goal.returns-in-Taken-clause-selected
returns-in-Taken-clause-selected t c =
    let node : slice_get c.args.plan.now.nodes c.args.node ≡ Some (Alt c.in-Alt.x c.in-Alt.y) = c.node.ensures.node ∙ ap Some c.in-Alt.is in
    let e = hit_alt c.args.plan.now.nodes c.args.since.ticks (record { node = c.args.node; entered = c.args.since.entered }) c.node.ensures.behind c.in-Alt.x c.in-Alt.y (or_own c.args.own.now c.args.base.now) c.args.k node in
    let first : selected_of c.args.plan.now.nodes c.args.since.ticks c.args.base.now c.in_ok-rest-in-Alt.field-0 ≡ selected (entered_term c.args.plan.now.nodes c.args.since.ticks (record { node = c.in-Alt.x; entered = c.args.since.entered })) (or_own c.args.own.now c.args.base.now) c.args.k = c.in_ok-rest-in-Alt.ensures.selected in
    let on : On (option_map (term_of c.args.plan.now.nodes c.args.since.ticks) c.in-Taken.left) (or_own c.in-Taken.own c.args.base.now) ≡ selected (entered_term c.args.plan.now.nodes c.args.since.ticks (record { node = c.in-Alt.x; entered = c.args.since.entered })) (or_own c.args.own.now c.args.base.now) c.args.k = sym (ap (selected_of c.args.plan.now.nodes c.args.since.ticks c.args.base.now) c.in-Taken.is) ∙ first in
    ap (λ (h : Selected). or_past h (λ (rest : ℕ). selected (entered_term c.args.plan.now.nodes c.args.since.ticks (record { node = c.in-Alt.y; entered = c.args.since.entered })) (or_own c.args.own.now c.args.base.now) rest)) on ∙ sym e

pub returns-in-Past-2-clause-selected : goal.returns-in-Past-2-clause-selected
returns-in-Past-2-clause-selected t c =
    let node : slice_get c.args.plan.now.nodes c.args.node ≡ Some (Star c.in-Star.x c.in-Star.y) = c.node.ensures.node ∙ ap Some c.in-Star.is in
    let e = hit_star c.args.plan.now.nodes c.args.since.ticks (record { node = c.args.node; entered = c.args.since.entered }) c.node.ensures.behind c.in-Star.x c.in-Star.y (or_own c.args.own.now c.args.base.now) c.args.k node in
    let first : selected_of c.args.plan.now.nodes c.args.since.ticks c.args.base.now c.in_ok-rest-in-Star.field-0 ≡ selected (entered_term c.args.plan.now.nodes c.args.since.ticks (record { node = c.in-Star.x; entered = c.args.since.entered })) (or_own c.args.own.now c.args.base.now) c.args.k = c.in_ok-rest-in-Star.ensures.selected in
    let past : Past c.in-Past-2.rest ≡ selected (entered_term c.args.plan.now.nodes c.args.since.ticks (record { node = c.in-Star.x; entered = c.args.since.entered })) (or_own c.args.own.now c.args.base.now) c.args.k = sym (ap (selected_of c.args.plan.now.nodes c.args.since.ticks c.args.base.now) c.in-Past-2.is) ∙ first in
    let eq = ap (λ (h : Selected). or_past (selected_with (then (process_at c.args.plan.now.nodes c.args.node)) h) (λ (rest : ℕ). selected (entered_term c.args.plan.now.nodes c.args.since.ticks (record { node = c.in-Star.y; entered = c.args.since.entered })) (or_own c.args.own.now c.args.base.now) rest)) past ∙ sym e in
    IfOk-weaker c.fire_node-in-Past-2.result _ _ (λ fired p. p ∙ eq) c.fire_node-in-Past-2.ensures.selected

pub returns-in-Taken-2-clause-selected : goal.returns-in-Taken-2-clause-selected
returns-in-Taken-2-clause-selected t c =
    let node : slice_get c.args.plan.now.nodes c.args.node ≡ Some (Star c.in-Star.x c.in-Star.y) = c.node.ensures.node ∙ ap Some c.in-Star.is in
    let e = hit_star c.args.plan.now.nodes c.args.since.ticks (record { node = c.args.node; entered = c.args.since.entered }) c.node.ensures.behind c.in-Star.x c.in-Star.y (or_own c.args.own.now c.args.base.now) c.args.k node in
    let first : selected_of c.args.plan.now.nodes c.args.since.ticks c.args.base.now c.in_ok-rest-in-Star.field-0 ≡ selected (entered_term c.args.plan.now.nodes c.args.since.ticks (record { node = c.in-Star.x; entered = c.args.since.entered })) (or_own c.args.own.now c.args.base.now) c.args.k = c.in_ok-rest-in-Star.ensures.selected in
    let on : On (option_map (term_of c.args.plan.now.nodes c.args.since.ticks) c.in-Taken-2.left) (or_own c.in-Taken-2.own c.args.base.now) ≡ selected (entered_term c.args.plan.now.nodes c.args.since.ticks (record { node = c.in-Star.x; entered = c.args.since.entered })) (or_own c.args.own.now c.args.base.now) c.args.k = sym (ap (selected_of c.args.plan.now.nodes c.args.since.ticks c.args.base.now) c.in-Taken-2.is) ∙ first in
    let whole = ap (λ (h : Selected). or_past (selected_with (then (process_at c.args.plan.now.nodes c.args.node)) h) (λ (rest : ℕ). selected (entered_term c.args.plan.now.nodes c.args.since.ticks (record { node = c.in-Star.y; entered = c.args.since.entered })) (or_own c.args.own.now c.args.base.now) rest)) on ∙ sym e in
    IfOk-weaker c.taken_then.result _ _ (λ fired p. p c.args.plan.now.nodes c.args.base.now ∙ whole) c.taken_then.ensures.selected

pub returns-in-Taken-2-clause-on : goal.returns-in-Taken-2-clause-on
returns-in-Taken-2-clause-on t c =
    let left = subst (λ (f : Fired). IsTrue (is_fired_on c.args.plan.now.nodes c.args.since.ticks f)) c.in-Taken-2.is c.in_ok-rest-in-Star.ensures.on in
    IfOk-weaker c.taken_then.result _ _ (λ fired p. p c.args.plan.now.nodes c.requires.there left) c.taken_then.ensures.on

pub returns-in_ok-fired-in-Past-3-clause-selected : goal.returns-in_ok-fired-in-Past-3-clause-selected
returns-in_ok-fired-in-Past-3-clause-selected t c =
    let node : slice_get c.args.plan.now.nodes c.args.node ≡ Some (Par c.in-Par.x c.in-Par.y) = c.node.ensures.node ∙ ap Some c.in-Par.is in
    let e = hit_par c.args.plan.now.nodes c.args.since.ticks (record { node = c.args.node; entered = c.args.since.entered }) c.node.ensures.behind c.in-Par.x c.in-Par.y (or_own c.args.own.now c.args.base.now) c.args.k node in
    let first : selected_of c.args.plan.now.nodes c.args.since.ticks c.args.base.now c.in_ok-rest-in-Par.field-0 ≡ selected (entered_term c.args.plan.now.nodes c.args.since.ticks (record { node = c.in-Par.x; entered = c.args.since.entered })) (or_own c.args.own.now c.args.base.now) c.args.k = c.in_ok-rest-in-Par.ensures.selected in
    let past : Past c.in-Past-3.rest ≡ selected (entered_term c.args.plan.now.nodes c.args.since.ticks (record { node = c.in-Par.x; entered = c.args.since.entered })) (or_own c.args.own.now c.args.base.now) c.args.k = sym (ap (selected_of c.args.plan.now.nodes c.args.since.ticks c.args.base.now) c.in-Past-3.is) ∙ first in
    let eq = ap (λ (h : Selected). or_past (selected_with (beside (entered_term c.args.plan.now.nodes c.args.since.ticks (record { node = c.in-Par.y; entered = c.args.since.entered }))) h) (λ (rest : ℕ). selected_with (along (entered_term c.args.plan.now.nodes c.args.since.ticks (record { node = c.in-Par.x; entered = c.args.since.entered }))) (selected (entered_term c.args.plan.now.nodes c.args.since.ticks (record { node = c.in-Par.y; entered = c.args.since.entered })) (or_own c.args.own.now c.args.base.now) rest))) past ∙ sym e in
    let second : selected_of c.args.plan.now.nodes c.args.since.ticks c.args.base.now c.in_ok-fired-in-Past-3.fired ≡ selected (entered_term c.args.plan.now.nodes c.args.since.ticks (record { node = c.in-Par.y; entered = c.args.since.entered })) (or_own c.args.own.now c.args.base.now) c.in-Past-3.rest = c.in_ok-fired-in-Past-3.ensures.selected in
    let waits : term_of c.args.plan.now.nodes c.args.since.ticks c.whole.result ≡ (entered_term c.args.plan.now.nodes c.args.since.ticks (record { node = c.in-Par.x; entered = c.args.since.entered })) = ap (term_of c.args.plan.now.nodes c.args.since.ticks) c.whole.ensures ∙ term-Whole c.args.plan.now.nodes c.args.since.ticks (record { node = c.in-Par.x; entered = c.args.since.entered }) in
    let fired = selected_of c.args.plan.now.nodes c.args.since.ticks c.args.base.now c.in_ok-fired-in-Past-3.fired in
    IfOk-weaker c.on_the_right.result _ _ (λ whole p. p c.args.plan.now.nodes c.args.since.ticks c.args.base.now ∙ ap (λ (w : Process). selected_with (along w) fired) waits ∙ ap (selected_with (along (entered_term c.args.plan.now.nodes c.args.since.ticks (record { node = c.in-Par.x; entered = c.args.since.entered })))) second ∙ eq) c.on_the_right.ensures.selected

pub returns-in_ok-fired-in-Past-3-clause-on : goal.returns-in_ok-fired-in-Past-3-clause-on
returns-in_ok-fired-in-Past-3-clause-on t c =
    let node : slice_get c.args.plan.now.nodes c.args.node ≡ Some (Par c.in-Par.x c.in-Par.y) = c.node.ensures.node ∙ ap Some c.in-Par.is in
    let before = both_before c.in-Par.x c.in-Par.y c.args.node (c.node.ensures.behind c.args.node (Par c.in-Par.x c.in-Par.y) node) in
    let there = c.requires.there in
    let within : c.in-Par.x < length c.args.plan.now.nodes = omega arith in
    let waits = on_whole c.args.plan.now.nodes c.args.since.ticks c.whole.result (record { node = c.in-Par.x; entered = c.args.since.entered }) c.whole.ensures within c.requires.entered in
    IfOk-weaker c.on_the_right.result _ _ (λ whole p. p c.args.plan.now.nodes c.args.since.ticks waits c.in_ok-fired-in-Past-3.ensures.on) c.on_the_right.ensures.on

pub returns-in-Taken-3-clause-selected : goal.returns-in-Taken-3-clause-selected
returns-in-Taken-3-clause-selected t c =
    let node : slice_get c.args.plan.now.nodes c.args.node ≡ Some (Par c.in-Par.x c.in-Par.y) = c.node.ensures.node ∙ ap Some c.in-Par.is in
    let e = hit_par c.args.plan.now.nodes c.args.since.ticks (record { node = c.args.node; entered = c.args.since.entered }) c.node.ensures.behind c.in-Par.x c.in-Par.y (or_own c.args.own.now c.args.base.now) c.args.k node in
    let first : selected_of c.args.plan.now.nodes c.args.since.ticks c.args.base.now c.in_ok-rest-in-Par.field-0 ≡ selected (entered_term c.args.plan.now.nodes c.args.since.ticks (record { node = c.in-Par.x; entered = c.args.since.entered })) (or_own c.args.own.now c.args.base.now) c.args.k = c.in_ok-rest-in-Par.ensures.selected in
    let on : On (option_map (term_of c.args.plan.now.nodes c.args.since.ticks) c.in-Taken-3.left) (or_own c.in-Taken-3.own c.args.base.now) ≡ selected (entered_term c.args.plan.now.nodes c.args.since.ticks (record { node = c.in-Par.x; entered = c.args.since.entered })) (or_own c.args.own.now c.args.base.now) c.args.k = sym (ap (selected_of c.args.plan.now.nodes c.args.since.ticks c.args.base.now) c.in-Taken-3.is) ∙ first in
    let waits : term_of c.args.plan.now.nodes c.args.since.ticks c.whole-in-Taken-3.result ≡ (entered_term c.args.plan.now.nodes c.args.since.ticks (record { node = c.in-Par.y; entered = c.args.since.entered })) = ap (term_of c.args.plan.now.nodes c.args.since.ticks) c.whole-in-Taken-3.ensures ∙ term-Whole c.args.plan.now.nodes c.args.since.ticks (record { node = c.in-Par.y; entered = c.args.since.entered }) in
    let whole = ap (λ (w : Process). On (beside w (option_map (term_of c.args.plan.now.nodes c.args.since.ticks) c.in-Taken-3.left)) (or_own c.in-Taken-3.own c.args.base.now)) waits
    ∙ ap (λ (h : Selected). or_past (selected_with (beside (entered_term c.args.plan.now.nodes c.args.since.ticks (record { node = c.in-Par.y; entered = c.args.since.entered }))) h) (λ (rest : ℕ). selected_with (along (entered_term c.args.plan.now.nodes c.args.since.ticks (record { node = c.in-Par.x; entered = c.args.since.entered }))) (selected (entered_term c.args.plan.now.nodes c.args.since.ticks (record { node = c.in-Par.y; entered = c.args.since.entered })) (or_own c.args.own.now c.args.base.now) rest))) on
    ∙ sym e in
    IfOk-weaker c.taken_beside.result _ _ (λ fired p. p c.args.plan.now.nodes c.args.since.ticks c.args.base.now ∙ whole) c.taken_beside.ensures.selected

pub returns-in-Taken-3-clause-on : goal.returns-in-Taken-3-clause-on
returns-in-Taken-3-clause-on t c =
    let node : slice_get c.args.plan.now.nodes c.args.node ≡ Some (Par c.in-Par.x c.in-Par.y) = c.node.ensures.node ∙ ap Some c.in-Par.is in
    let before = both_before c.in-Par.x c.in-Par.y c.args.node (c.node.ensures.behind c.args.node (Par c.in-Par.x c.in-Par.y) node) in
    let there = c.requires.there in
    let within : c.in-Par.y < length c.args.plan.now.nodes = omega arith in
    let waits = on_whole c.args.plan.now.nodes c.args.since.ticks c.whole-in-Taken-3.result (record { node = c.in-Par.y; entered = c.args.since.entered }) c.whole-in-Taken-3.ensures within c.requires.entered in
    let left = subst (λ (f : Fired). IsTrue (is_fired_on c.args.plan.now.nodes c.args.since.ticks f)) c.in-Taken-3.is c.in_ok-rest-in-Par.ensures.on in
    IfOk-weaker c.taken_beside.result _ _ (λ fired p. p c.args.plan.now.nodes c.args.since.ticks waits left) c.taken_beside.ensures.on

pub returns-in-Some-clause-selected : goal.returns-in-Some-clause-selected
returns-in-Some-clause-selected t c =
    let node : slice_get c.args.plan.now.nodes c.args.node ≡ Some (If c.in-If.test c.in-If.x c.in-If.y) = c.node.ensures.node ∙ ap Some c.in-If.is in
    let found : c.in_ok-part-in-If.field-0 ≡ chosen (tested c.store_of.result.now c.in-If.test) c.in-If.x c.in-If.y = c.in_ok-part-in-If.ensures in
    let says : ◌≡◌ {A = Option ℕ} (chosen (tested (or_own c.args.own.now c.args.base.now) c.in-If.test) c.in-If.x c.in-If.y) (Some c.in-Some.part) = ap (λ (s : List Slot). chosen (tested s c.in-If.test) c.in-If.x c.in-If.y) (sym c.store_of.ensures) ∙ sym found ∙ c.in-Some.is in
    let e = hit_chosen c.args.plan.now.nodes c.args.since.ticks (record { node = c.args.node; entered = c.args.since.entered }) c.node.ensures.behind c.in-If.test c.in-If.x c.in-If.y (or_own c.args.own.now c.args.base.now) c.args.k node in
    let here = e ∙ ap (λ (o : Option ℕ). of_part c.args.plan.now.nodes c.args.since.ticks (record { node = c.args.node; entered = c.args.since.entered }) c.node.ensures.behind o (or_own c.args.own.now c.args.base.now) c.args.k) says in
    IfOk-weaker c.fire_node-in-Some.result _ _ (λ fired p. p ∙ sym here) c.fire_node-in-Some.ensures.selected

pub returns-in-None-clause-selected : goal.returns-in-None-clause-selected
returns-in-None-clause-selected t c =
    let node : slice_get c.args.plan.now.nodes c.args.node ≡ Some (If c.in-If.test c.in-If.x c.in-If.y) = c.node.ensures.node ∙ ap Some c.in-If.is in
    let found : c.in_ok-part-in-If.field-0 ≡ chosen (tested c.store_of.result.now c.in-If.test) c.in-If.x c.in-If.y = c.in_ok-part-in-If.ensures in
    let says : ◌≡◌ {A = Option ℕ} (chosen (tested (or_own c.args.own.now c.args.base.now) c.in-If.test) c.in-If.x c.in-If.y) None = ap (λ (s : List Slot). chosen (tested s c.in-If.test) c.in-If.x c.in-If.y) (sym c.store_of.ensures) ∙ sym found ∙ c.in-None.is in
    let e = hit_chosen c.args.plan.now.nodes c.args.since.ticks (record { node = c.args.node; entered = c.args.since.entered }) c.node.ensures.behind c.in-If.test c.in-If.x c.in-If.y (or_own c.args.own.now c.args.base.now) c.args.k node in
    sym (e ∙ ap (λ (o : Option ℕ). of_part c.args.plan.now.nodes c.args.since.ticks (record { node = c.args.node; entered = c.args.since.entered }) c.node.ensures.behind o (or_own c.args.own.now c.args.base.now) c.args.k) says)

pub returns-in-Some-2-clause-selected : goal.returns-in-Some-2-clause-selected
returns-in-Some-2-clause-selected t c =
    let node : slice_get c.args.plan.now.nodes c.args.node ≡ Some (Let c.in-Let.settings c.in-Let.x) = c.node.ensures.node ∙ ap Some c.in-Let.is in
    let found : c.in_ok-store-in-Let.field-0 ≡ with_settings c.store_of-in-Let.result.now c.in-Let.settings = c.in_ok-store-in-Let.ensures in
    let after : ◌≡◌ {A = Option (List Slot)} (with_settings (or_own c.args.own.now c.args.base.now) c.in-Let.settings) (Some c.in-Some-2.store) = ap (λ (s : List Slot). with_settings s c.in-Let.settings) (sym c.store_of-in-Let.ensures) ∙ sym found ∙ c.in-Some-2.is in
    let e = hit_set c.args.plan.now.nodes c.args.since.ticks (record { node = c.args.node; entered = c.args.since.entered }) c.node.ensures.behind c.in-Let.settings c.in-Let.x (or_own c.args.own.now c.args.base.now) c.in-Some-2.store c.args.k node after in
    IfOk-weaker c.fire_node-in-Some-2.result _ _ (λ fired p. p ∙ sym e) c.fire_node-in-Some-2.ensures.selected

pub returns-in-None-2-clause-selected : goal.returns-in-None-2-clause-selected
returns-in-None-2-clause-selected t c =
    let node : slice_get c.args.plan.now.nodes c.args.node ≡ Some (Let c.in-Let.settings c.in-Let.x) = c.node.ensures.node ∙ ap Some c.in-Let.is in
    let found : c.in_ok-store-in-Let.field-0 ≡ with_settings c.store_of-in-Let.result.now c.in-Let.settings = c.in_ok-store-in-Let.ensures in
    let after : ◌≡◌ {A = Option (List Slot)} (with_settings (or_own c.args.own.now c.args.base.now) c.in-Let.settings) (None) = ap (λ (s : List Slot). with_settings s c.in-Let.settings) (sym c.store_of-in-Let.ensures) ∙ sym found ∙ c.in-None-2.is in
    sym (hit_unset c.args.plan.now.nodes c.args.since.ticks (record { node = c.args.node; entered = c.args.since.entered }) c.node.ensures.behind c.in-Let.settings c.in-Let.x (or_own c.args.own.now c.args.base.now) c.args.k node after)

pub fire_node-requires-in-Disrupt : goal.fire_node-requires-in-Disrupt
fire_node-requires-in-Disrupt t c =
    let node : slice_get c.args.plan.now.nodes c.args.node ≡ Some (Disrupt c.in-Disrupt.x c.in-Disrupt.y) = c.node.ensures.node ∙ ap Some c.in-Disrupt.is in
    let before = both_before c.in-Disrupt.x c.in-Disrupt.y c.args.node (c.node.ensures.behind c.args.node (Disrupt c.in-Disrupt.x c.in-Disrupt.y) node) in
    let there = c.requires.there in
    let d = c.decreases in
    (omega arith, (omega arith, c.requires.entered))

pub fire_node-requires-in-Past-4 : goal.fire_node-requires-in-Past-4
fire_node-requires-in-Past-4 t c =
    let node : slice_get c.args.plan.now.nodes c.args.node ≡ Some (Disrupt c.in-Disrupt.x c.in-Disrupt.y) = c.node.ensures.node ∙ ap Some c.in-Disrupt.is in
    let before = both_before c.in-Disrupt.x c.in-Disrupt.y c.args.node (c.node.ensures.behind c.args.node (Disrupt c.in-Disrupt.x c.in-Disrupt.y) node) in
    let there = c.requires.there in
    let d = c.decreases in
    (omega arith, (omega arith, c.requires.entered))

pub returns-in-Past-4-clause-selected : goal.returns-in-Past-4-clause-selected
returns-in-Past-4-clause-selected t c =
    let node : slice_get c.args.plan.now.nodes c.args.node ≡ Some (Disrupt c.in-Disrupt.x c.in-Disrupt.y) = c.node.ensures.node ∙ ap Some c.in-Disrupt.is in
    let e = hit_disrupt c.args.plan.now.nodes c.args.since.ticks (record { node = c.args.node; entered = c.args.since.entered }) c.node.ensures.behind c.in-Disrupt.x c.in-Disrupt.y (or_own c.args.own.now c.args.base.now) c.args.k node in
    let first : selected_of c.args.plan.now.nodes c.args.since.ticks c.args.base.now c.in_ok-rest-in-Disrupt.field-0 ≡ selected (entered_term c.args.plan.now.nodes c.args.since.ticks (record { node = c.in-Disrupt.x; entered = c.args.since.entered })) (or_own c.args.own.now c.args.base.now) c.args.k = c.in_ok-rest-in-Disrupt.ensures.selected in
    let past : Past c.in-Past-4.rest ≡ selected (entered_term c.args.plan.now.nodes c.args.since.ticks (record { node = c.in-Disrupt.x; entered = c.args.since.entered })) (or_own c.args.own.now c.args.base.now) c.args.k = sym (ap (selected_of c.args.plan.now.nodes c.args.since.ticks c.args.base.now) c.in-Past-4.is) ∙ first in
    let eq = ap (λ (h : Selected). or_past (selected_with (held (entered_term c.args.plan.now.nodes c.args.since.ticks (record { node = c.in-Disrupt.y; entered = c.args.since.entered }))) h) (λ (rest : ℕ). selected (entered_term c.args.plan.now.nodes c.args.since.ticks (record { node = c.in-Disrupt.y; entered = c.args.since.entered })) (or_own c.args.own.now c.args.base.now) rest)) past ∙ sym e in
    IfOk-weaker c.fire_node-in-Past-4.result _ _ (λ fired p. p ∙ eq) c.fire_node-in-Past-4.ensures.selected

pub returns-in-Taken-4-clause-selected : goal.returns-in-Taken-4-clause-selected
returns-in-Taken-4-clause-selected t c =
    let node : slice_get c.args.plan.now.nodes c.args.node ≡ Some (Disrupt c.in-Disrupt.x c.in-Disrupt.y) = c.node.ensures.node ∙ ap Some c.in-Disrupt.is in
    let e = hit_disrupt c.args.plan.now.nodes c.args.since.ticks (record { node = c.args.node; entered = c.args.since.entered }) c.node.ensures.behind c.in-Disrupt.x c.in-Disrupt.y (or_own c.args.own.now c.args.base.now) c.args.k node in
    let first : selected_of c.args.plan.now.nodes c.args.since.ticks c.args.base.now c.in_ok-rest-in-Disrupt.field-0 ≡ selected (entered_term c.args.plan.now.nodes c.args.since.ticks (record { node = c.in-Disrupt.x; entered = c.args.since.entered })) (or_own c.args.own.now c.args.base.now) c.args.k = c.in_ok-rest-in-Disrupt.ensures.selected in
    let on : On (option_map (term_of c.args.plan.now.nodes c.args.since.ticks) c.in-Taken-4.left) (or_own c.in-Taken-4.own c.args.base.now) ≡ selected (entered_term c.args.plan.now.nodes c.args.since.ticks (record { node = c.in-Disrupt.x; entered = c.args.since.entered })) (or_own c.args.own.now c.args.base.now) c.args.k = sym (ap (selected_of c.args.plan.now.nodes c.args.since.ticks c.args.base.now) c.in-Taken-4.is) ∙ first in
    let waits = ap (λ (entry : Entry). On (held (entered_term c.args.plan.now.nodes c.args.since.ticks entry) (option_map (term_of c.args.plan.now.nodes c.args.since.ticks) c.in-Taken-4.left)) (or_own c.in-Taken-4.own c.args.base.now)) c.entry.ensures in
    let whole = waits ∙ ap (λ (h : Selected). or_past (selected_with (held (entered_term c.args.plan.now.nodes c.args.since.ticks (record { node = c.in-Disrupt.y; entered = c.args.since.entered }))) h) (λ (rest : ℕ). selected (entered_term c.args.plan.now.nodes c.args.since.ticks (record { node = c.in-Disrupt.y; entered = c.args.since.entered })) (or_own c.args.own.now c.args.base.now) rest)) on ∙ sym e in
    IfOk-weaker c.taken_until.result _ _ (λ fired p. p c.args.plan.now.nodes c.args.since.ticks c.args.base.now ∙ whole) c.taken_until.ensures.selected

pub returns-in-Taken-4-clause-on : goal.returns-in-Taken-4-clause-on
returns-in-Taken-4-clause-on t c =
    let node : slice_get c.args.plan.now.nodes c.args.node ≡ Some (Disrupt c.in-Disrupt.x c.in-Disrupt.y) = c.node.ensures.node ∙ ap Some c.in-Disrupt.is in
    let before = both_before c.in-Disrupt.x c.in-Disrupt.y c.args.node (c.node.ensures.behind c.args.node (Disrupt c.in-Disrupt.x c.in-Disrupt.y) node) in
    let there = c.requires.there in
    let within : c.in-Disrupt.y < length c.args.plan.now.nodes = omega arith in
    let waits : is_entry c.args.plan.now.nodes c.args.since.ticks c.entry.result ≡ true = ap (is_entry c.args.plan.now.nodes c.args.since.ticks) c.entry.ensures ∙ and_from (nat_lt c.in-Disrupt.y (length c.args.plan.now.nodes)) (nat_le c.args.since.entered c.args.since.ticks) (lt-ltb c.in-Disrupt.y (length c.args.plan.now.nodes) within) (le-leb c.args.since.entered c.args.since.ticks c.requires.entered) in
    let left = subst (λ (f : Fired). IsTrue (is_fired_on c.args.plan.now.nodes c.args.since.ticks f)) c.in-Taken-4.is c.in_ok-rest-in-Disrupt.ensures.on in
    IfOk-weaker c.taken_until.result _ _ (λ fired p. p c.args.plan.now.nodes c.args.since.ticks waits left) c.taken_until.ensures.on
