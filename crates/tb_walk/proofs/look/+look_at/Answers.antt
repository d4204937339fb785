use Rattle.std.proofs.Common.{◌≡◌, ℕ, suc, Bool, true, false, Option, Some, None, List, ◌++◌, map, refl, ap, sym, subst, ◌∙◌, OnOk}
use Rattle.tb_func.specs.declared.slot.Slot.{Slot}
use Rattle.tb_process_steps.specs.Processes.{fresh}
use Rattle.tb_process_steps.specs.Settings.{tested, with_settings}
use Rattle.tb_process_steps.specs.Helpers.OfferViews.{or_own}
use Rattle.tb_code.specs.Positions.{HasParts}
use Rattle.tb_code.specs.declared.behind.Behind.{Behind}
use Rattle.tb_code.specs.declared.behind.Behind.TheVariants as behind
use Rattle.tb_code.specs.declared.node.Op.TheVariants as op
use Rattle.tb_walk.specs.Helpers.Sights.{Sighting, sighted, looking}
use Rattle.tb_walk.proofs.LookLemmas.{begins_with, begun, seen_at, plain_at, look_atom, look_seq, look_alt, look_star, look_par, look_until, look_wait, look_true, look_false, look_untold, look_when, look_unless, look_unsaid, look_set, look_unset, nothing_more, both_more}
use Rattle.tb_walk.proofs.look.+look_at.Goals as goal

pub look_at-returns-in-At : goal.look_at-returns-in-At
look_at-returns-in-At t c =
    let has : HasParts (fresh c.args.code.now.body.tree) c.args.at (op.At c.in-At.atom) = subst (HasParts (fresh c.args.code.now.body.tree) c.args.at) c.in-At.is c.node.ensures.parts in
    let e = begun (fresh c.args.code.now.body.tree) (looking c.args.code.now.body.atoms c.args.clock.now) c.args.so_far c.args.at (or_own c.args.own.now c.args.base.now) (begins_with (fresh c.args.code.now.body.tree) c.args.at _ (c.node.ensures.op ∙ c.in-At.is) refl)
    ∙ look_atom (fresh c.args.code.now.body.tree) c.args.at c.first-first.result c.first-first.ensures (looking c.args.code.now.body.atoms c.args.clock.now) c.args.so_far c.in-At.atom has.0 (or_own c.args.own.now c.args.base.now) has.1 in
    subst (λ (l : List Sighting). OnOk c.look_atom.result (map (sighted c.args.base.now) c.look_atom.new.found ≡ map (sighted c.args.base.now) c.args.found.now ++ l)) (sym (e)) c.look_atom.ensures

pub look_at-returns-in-Seq : goal.look_at-returns-in-Seq
look_at-returns-in-Seq t c =
    let e = begun (fresh c.args.code.now.body.tree) (looking c.args.code.now.body.atoms c.args.clock.now) c.args.so_far c.args.at (or_own c.args.own.now c.args.base.now) (begins_with (fresh c.args.code.now.body.tree) c.args.at _ (c.node.ensures.op ∙ c.in-Seq.is) refl)
    ∙ look_seq (fresh c.args.code.now.body.tree) c.args.at c.first-first.result c.first-first.ensures (looking c.args.code.now.body.atoms c.args.clock.now) c.args.so_far c.in-Seq.right (or_own c.args.own.now c.args.base.now) (subst (HasParts (fresh c.args.code.now.body.tree) c.args.at) c.in-Seq.is c.node.ensures.parts)
    ∙ ap (λ (b : Behind). seen_at (fresh c.args.code.now.body.tree) c.args.at c.first-first.result c.first-first.ensures (looking c.args.code.now.body.atoms c.args.clock.now) b c.first-first.result (or_own c.args.own.now c.args.base.now)) (sym c.followed-inside.ensures) in
    subst (λ (l : List Sighting). OnOk c.look_at.result (map (sighted c.args.base.now) c.look_at.new.found ≡ map (sighted c.args.base.now) c.args.found.now ++ l)) (sym (e)) c.look_at.ensures

pub look_at-returns-in_ok-look_at-in-Alt : goal.look_at-returns-in_ok-look_at-in-Alt
look_at-returns-in_ok-look_at-in-Alt t c =
    let whole = begun (fresh c.args.code.now.body.tree) (looking c.args.code.now.body.atoms c.args.clock.now) c.args.so_far c.args.at (or_own c.args.own.now c.args.base.now) (begins_with (fresh c.args.code.now.body.tree) c.args.at _ (c.node.ensures.op ∙ c.in-Alt.is) refl)
    ∙ look_alt (fresh c.args.code.now.body.tree) c.args.at c.first-first.result c.first-first.ensures (looking c.args.code.now.body.atoms c.args.clock.now) c.args.so_far c.in-Alt.right (or_own c.args.own.now c.args.base.now) (subst (HasParts (fresh c.args.code.now.body.tree) c.args.at) c.in-Alt.is c.node.ensures.parts) in
    let old = map (sighted c.args.base.now) c.args.found.now in
    let middle = map (sighted c.args.base.now) c.look_at-in-Alt.new.found in
    let first = seen_at (fresh c.args.code.now.body.tree) c.args.at c.first-first.result c.first-first.ensures (looking c.args.code.now.body.atoms c.args.clock.now) c.args.so_far c.first-first.result (or_own c.args.own.now c.args.base.now) in
    let second = seen_at (fresh c.args.code.now.body.tree) c.args.at c.first-first.result c.first-first.ensures (looking c.args.code.now.body.atoms c.args.clock.now) c.args.so_far c.in-Alt.right (or_own c.args.own.now c.args.base.now) in
    let all = seen_at (fresh c.args.code.now.body.tree) c.args.at c.first-first.result c.first-first.ensures (looking c.args.code.now.body.atoms c.args.clock.now) c.args.so_far c.args.at (or_own c.args.own.now c.args.base.now) in
    let one : middle ≡ old ++ first = c.in_ok-look_at-in-Alt.ensures in
    let both = both_more old middle first all second one whole in
    subst (λ (l : List Sighting). OnOk c.look_at-in-Alt-2.result (map (sighted c.args.base.now) c.look_at-in-Alt-2.new.found ≡ l)) both c.look_at-in-Alt-2.ensures

pub look_at-returns-in_ok-look_at-in-Star : goal.look_at-returns-in_ok-look_at-in-Star
look_at-returns-in_ok-look_at-in-Star t c =
    let whole = begun (fresh c.args.code.now.body.tree) (looking c.args.code.now.body.atoms c.args.clock.now) c.args.so_far c.args.at (or_own c.args.own.now c.args.base.now) (begins_with (fresh c.args.code.now.body.tree) c.args.at _ (c.node.ensures.op ∙ c.in-Star.is) refl)
    ∙ look_star (fresh c.args.code.now.body.tree) c.args.at c.first-first.result c.first-first.ensures (looking c.args.code.now.body.atoms c.args.clock.now) c.args.so_far c.in-Star.right (or_own c.args.own.now c.args.base.now) (subst (HasParts (fresh c.args.code.now.body.tree) c.args.at) c.in-Star.is c.node.ensures.parts)
    ∙ ap (λ (b : Behind). seen_at (fresh c.args.code.now.body.tree) c.args.at c.first-first.result c.first-first.ensures (looking c.args.code.now.body.atoms c.args.clock.now) b c.first-first.result (or_own c.args.own.now c.args.base.now) ++ seen_at (fresh c.args.code.now.body.tree) c.args.at c.first-first.result c.first-first.ensures (looking c.args.code.now.body.atoms c.args.clock.now) c.args.so_far c.in-Star.right (or_own c.args.own.now c.args.base.now)) (sym c.followed-inside-in-Star.ensures) in
    let old = map (sighted c.args.base.now) c.args.found.now in
    let middle = map (sighted c.args.base.now) c.look_at-in-Star.new.found in
    let first = seen_at (fresh c.args.code.now.body.tree) c.args.at c.first-first.result c.first-first.ensures (looking c.args.code.now.body.atoms c.args.clock.now) c.followed-inside-in-Star.result c.first-first.result (or_own c.args.own.now c.args.base.now) in
    let second = seen_at (fresh c.args.code.now.body.tree) c.args.at c.first-first.result c.first-first.ensures (looking c.args.code.now.body.atoms c.args.clock.now) c.args.so_far c.in-Star.right (or_own c.args.own.now c.args.base.now) in
    let all = seen_at (fresh c.args.code.now.body.tree) c.args.at c.first-first.result c.first-first.ensures (looking c.args.code.now.body.atoms c.args.clock.now) c.args.so_far c.args.at (or_own c.args.own.now c.args.base.now) in
    let one : middle ≡ old ++ first = c.in_ok-look_at-in-Star.ensures in
    let both = both_more old middle first all second one whole in
    subst (λ (l : List Sighting). OnOk c.look_at-in-Star-2.result (map (sighted c.args.base.now) c.look_at-in-Star-2.new.found ≡ l)) both c.look_at-in-Star-2.ensures

pub look_at-returns-in_ok-look_at-in-Par : goal.look_at-returns-in_ok-look_at-in-Par
look_at-returns-in_ok-look_at-in-Par t c =
    let whole = begun (fresh c.args.code.now.body.tree) (looking c.args.code.now.body.atoms c.args.clock.now) c.args.so_far c.args.at (or_own c.args.own.now c.args.base.now) (begins_with (fresh c.args.code.now.body.tree) c.args.at _ (c.node.ensures.op ∙ c.in-Par.is) refl)
    ∙ look_par (fresh c.args.code.now.body.tree) c.args.at c.first-first.result c.first-first.ensures (looking c.args.code.now.body.atoms c.args.clock.now) c.args.so_far c.in-Par.right (or_own c.args.own.now c.args.base.now) (subst (HasParts (fresh c.args.code.now.body.tree) c.args.at) c.in-Par.is c.node.ensures.parts) in
    let old = map (sighted c.args.base.now) c.args.found.now in
    let middle = map (sighted c.args.base.now) c.look_at-in-Par.new.found in
    let first = seen_at (fresh c.args.code.now.body.tree) c.args.at c.first-first.result c.first-first.ensures (looking c.args.code.now.body.atoms c.args.clock.now) behind.Parted c.first-first.result (or_own c.args.own.now c.args.base.now) in
    let second = seen_at (fresh c.args.code.now.body.tree) c.args.at c.first-first.result c.first-first.ensures (looking c.args.code.now.body.atoms c.args.clock.now) behind.Parted c.in-Par.right (or_own c.args.own.now c.args.base.now) in
    let all = seen_at (fresh c.args.code.now.body.tree) c.args.at c.first-first.result c.first-first.ensures (looking c.args.code.now.body.atoms c.args.clock.now) c.args.so_far c.args.at (or_own c.args.own.now c.args.base.now) in
    let one : middle ≡ old ++ first = c.in_ok-look_at-in-Par.ensures in
    let both = both_more old middle first all second one whole in
    subst (λ (l : List Sighting). OnOk c.look_at-in-Par-2.result (map (sighted c.args.base.now) c.look_at-in-Par-2.new.found ≡ l)) both c.look_at-in-Par-2.ensures

pub look_at-returns-in-Disrupt : goal.look_at-returns-in-Disrupt
look_at-returns-in-Disrupt t c =
    let e = begun (fresh c.args.code.now.body.tree) (looking c.args.code.now.body.atoms c.args.clock.now) c.args.so_far c.args.at (or_own c.args.own.now c.args.base.now) (begins_with (fresh c.args.code.now.body.tree) c.args.at _ (c.node.ensures.op ∙ c.in-Disrupt.is) refl) in
    subst (λ (l : List Sighting). OnOk c.look_until.result (map (sighted c.args.base.now) c.look_until.new.found ≡ map (sighted c.args.base.now) c.args.found.now ++ l)) (sym e) c.look_until.ensures

pub look_at-returns-in-Waits : goal.look_at-returns-in-Waits
look_at-returns-in-Waits t c =
    let has : HasParts (fresh c.args.code.now.body.tree) c.args.at (op.Waits c.in-Waits.field-0) = subst (HasParts (fresh c.args.code.now.body.tree) c.args.at) c.in-Waits.is c.node.ensures.parts in
    let e = look_wait (fresh c.args.code.now.body.tree) c.args.at c.first-first.result c.first-first.ensures (looking c.args.code.now.body.atoms c.args.clock.now) c.args.so_far c.in-Waits.field-0 (or_own c.args.own.now c.args.base.now) (c.node.ensures.op ∙ c.in-Waits.is) has in
    subst (λ (l : List Sighting). OnOk c.look_at-in-Waits.result (map (sighted c.args.base.now) c.look_at-in-Waits.new.found ≡ map (sighted c.args.base.now) c.args.found.now ++ l)) (sym e) c.look_at-in-Waits.ensures

pub look_at-returns-in-If : goal.look_at-returns-in-If
look_at-returns-in-If t c =
    let e = begun (fresh c.args.code.now.body.tree) (looking c.args.code.now.body.atoms c.args.clock.now) c.args.so_far c.args.at (or_own c.args.own.now c.args.base.now) (begins_with (fresh c.args.code.now.body.tree) c.args.at _ (c.node.ensures.op ∙ c.in-If.is) refl) in
    subst (λ (l : List Sighting). OnOk c.look_side.result (map (sighted c.args.base.now) c.look_side.new.found ≡ map (sighted c.args.base.now) c.args.found.now ++ l)) (sym e) c.look_side.ensures

pub look_at-returns-in-When : goal.look_at-returns-in-When
look_at-returns-in-When t c =
    let e = begun (fresh c.args.code.now.body.tree) (looking c.args.code.now.body.atoms c.args.clock.now) c.args.so_far c.args.at (or_own c.args.own.now c.args.base.now) (begins_with (fresh c.args.code.now.body.tree) c.args.at _ (c.node.ensures.op ∙ c.in-When.is) refl) in
    subst (λ (l : List Sighting). OnOk c.look_if_true.result (map (sighted c.args.base.now) c.look_if_true.new.found ≡ map (sighted c.args.base.now) c.args.found.now ++ l)) (sym e) c.look_if_true.ensures

pub look_at-returns-in-Let : goal.look_at-returns-in-Let
look_at-returns-in-Let t c =
    let e = begun (fresh c.args.code.now.body.tree) (looking c.args.code.now.body.atoms c.args.clock.now) c.args.so_far c.args.at (or_own c.args.own.now c.args.base.now) (begins_with (fresh c.args.code.now.body.tree) c.args.at _ (c.node.ensures.op ∙ c.in-Let.is) refl) in
    subst (λ (l : List Sighting). OnOk c.look_with.result (map (sighted c.args.base.now) c.look_with.new.found ≡ map (sighted c.args.base.now) c.args.found.now ++ l)) (sym e) c.look_with.ensures

pub look_until-returns : goal.look_until-returns
look_until-returns t c =
    let old = map (sighted c.args.base.now) c.args.found.now in
    let middle = map (sighted c.args.base.now) c.look_at.new.found in
    let first = seen_at (fresh c.args.code.now.body.tree) c.args.at c.first-first.result c.first-first.ensures (looking c.args.code.now.body.atoms c.args.clock.now) behind.Parted c.first-first.result (or_own c.args.own.now c.args.base.now) in
    let second = seen_at (fresh c.args.code.now.body.tree) c.args.at c.first-first.result c.first-first.ensures (looking c.args.code.now.body.atoms c.args.clock.now) c.args.so_far c.first-second.result (or_own c.args.own.now c.args.base.now) in
    let all = plain_at (fresh c.args.code.now.body.tree) c.args.at c.first-first.result c.first-first.ensures (looking c.args.code.now.body.atoms c.args.clock.now) c.args.so_far c.args.at (or_own c.args.own.now c.args.base.now) in
    let whole = look_until (fresh c.args.code.now.body.tree) c.args.at c.first-first.result c.first-first.ensures (looking c.args.code.now.body.atoms c.args.clock.now) c.args.so_far c.args.waits (or_own c.args.own.now c.args.base.now) c.requires
    ∙ ap (λ (n : ℕ). seen_at (fresh c.args.code.now.body.tree) c.args.at c.first-first.result c.first-first.ensures (looking c.args.code.now.body.atoms c.args.clock.now) behind.Parted c.first-first.result (or_own c.args.own.now c.args.base.now) ++ seen_at (fresh c.args.code.now.body.tree) c.args.at c.first-first.result c.first-first.ensures (looking c.args.code.now.body.atoms c.args.clock.now) c.args.so_far n (or_own c.args.own.now c.args.base.now)) (sym c.first-second.ensures) in
    let one : middle ≡ old ++ first = c.in_ok-look_at.ensures in
    let both = both_more old middle first all second one whole in
    subst (λ (l : List Sighting). OnOk c.look_at-2.result (map (sighted c.args.base.now) c.look_at-2.new.found ≡ l)) both c.look_at-2.ensures

pub look_side-returns-in-Some-true : goal.look_side-returns-in-Some-true
look_side-returns-in-Some-true t c =
    let it_says : ◌≡◌ {A = Option Bool} (tested (or_own c.args.own.now c.args.base.now) c.args.test.now) (Some true) = ap (λ (s : List Slot). tested s c.args.test.now) (sym c.store_of.ensures) ∙ sym c.in_ok-says.ensures ∙ c.in-Some-true.is ∙ ap Some c.in-Some-true.field-0-test in
    let e = look_true (fresh c.args.code.now.body.tree) c.args.at c.first.result c.first.ensures (looking c.args.code.now.body.atoms c.args.clock.now) c.args.so_far c.args.test.now c.args.right (or_own c.args.own.now c.args.base.now) c.requires it_says in
    subst (λ (l : List Sighting). OnOk c.look_at.result (map (sighted c.args.base.now) c.look_at.new.found ≡ map (sighted c.args.base.now) c.args.found.now ++ l)) (sym (e)) c.look_at.ensures

pub look_side-returns-in-Some-false : goal.look_side-returns-in-Some-false
look_side-returns-in-Some-false t c =
    let it_says : ◌≡◌ {A = Option Bool} (tested (or_own c.args.own.now c.args.base.now) c.args.test.now) (Some false) = ap (λ (s : List Slot). tested s c.args.test.now) (sym c.store_of.ensures) ∙ sym c.in_ok-says.ensures ∙ c.in-Some-false.is ∙ ap Some c.in-Some-false.field-0-test in
    let e = look_false (fresh c.args.code.now.body.tree) c.args.at (suc c.args.at) refl (looking c.args.code.now.body.atoms c.args.clock.now) c.args.so_far c.args.test.now c.args.right (or_own c.args.own.now c.args.base.now) c.requires it_says in
    subst (λ (l : List Sighting). OnOk c.look_at-in-Some-false.result (map (sighted c.args.base.now) c.look_at-in-Some-false.new.found ≡ map (sighted c.args.base.now) c.args.found.now ++ l)) (sym (e)) c.look_at-in-Some-false.ensures

pub look_side-returns-in-None : goal.look_side-returns-in-None
look_side-returns-in-None t c =
    let it_says : ◌≡◌ {A = Option Bool} (tested (or_own c.args.own.now c.args.base.now) c.args.test.now) (None) = ap (λ (s : List Slot). tested s c.args.test.now) (sym c.store_of.ensures) ∙ sym c.in_ok-says.ensures ∙ c.in-None.is in
    nothing_more (map (sighted c.args.base.now) c.args.found.now) _ (look_untold (fresh c.args.code.now.body.tree) c.args.at (suc c.args.at) refl (looking c.args.code.now.body.atoms c.args.clock.now) c.args.so_far c.args.test.now c.args.right (or_own c.args.own.now c.args.base.now) c.requires it_says)

pub look_if_true-returns-in-Some-true : goal.look_if_true-returns-in-Some-true
look_if_true-returns-in-Some-true t c =
    let it_says : ◌≡◌ {A = Option Bool} (tested (or_own c.args.own.now c.args.base.now) c.args.test.now) (Some true) = ap (λ (s : List Slot). tested s c.args.test.now) (sym c.store_of.ensures) ∙ sym c.in_ok-says.ensures ∙ c.in-Some-true.is ∙ ap Some c.in-Some-true.field-0-test in
    let e = look_when (fresh c.args.code.now.body.tree) c.args.at c.first.result c.first.ensures (looking c.args.code.now.body.atoms c.args.clock.now) c.args.so_far c.args.test.now (or_own c.args.own.now c.args.base.now) c.requires it_says in
    subst (λ (l : List Sighting). OnOk c.look_at.result (map (sighted c.args.base.now) c.look_at.new.found ≡ map (sighted c.args.base.now) c.args.found.now ++ l)) (sym (e)) c.look_at.ensures

pub look_if_true-returns-in-Some-false : goal.look_if_true-returns-in-Some-false
look_if_true-returns-in-Some-false t c =
    let it_says : ◌≡◌ {A = Option Bool} (tested (or_own c.args.own.now c.args.base.now) c.args.test.now) (Some false) = ap (λ (s : List Slot). tested s c.args.test.now) (sym c.store_of.ensures) ∙ sym c.in_ok-says.ensures ∙ c.in-Some-false.is ∙ ap Some c.in-Some-false.field-0-test in
    nothing_more (map (sighted c.args.base.now) c.args.found.now) _ (look_unless (fresh c.args.code.now.body.tree) c.args.at (suc c.args.at) refl (looking c.args.code.now.body.atoms c.args.clock.now) c.args.so_far c.args.test.now (or_own c.args.own.now c.args.base.now) c.requires it_says)

pub look_if_true-returns-in-None : goal.look_if_true-returns-in-None
look_if_true-returns-in-None t c =
    let it_says : ◌≡◌ {A = Option Bool} (tested (or_own c.args.own.now c.args.base.now) c.args.test.now) (None) = ap (λ (s : List Slot). tested s c.args.test.now) (sym c.store_of.ensures) ∙ sym c.in_ok-says.ensures ∙ c.in-None.is in
    nothing_more (map (sighted c.args.base.now) c.args.found.now) _ (look_unsaid (fresh c.args.code.now.body.tree) c.args.at (suc c.args.at) refl (looking c.args.code.now.body.atoms c.args.clock.now) c.args.so_far c.args.test.now (or_own c.args.own.now c.args.base.now) c.requires it_says)

pub look_with-returns-in-Some : goal.look_with-returns-in-Some
look_with-returns-in-Some t c =
    let after : ◌≡◌ {A = Option (List Slot)} (with_settings (or_own c.args.own.now c.args.base.now) c.args.settings.now) (Some c.in-Some.store) = ap (λ (s : List Slot). with_settings s c.args.settings.now) (sym c.store_of.ensures) ∙ sym c.in_ok-store.ensures ∙ c.in-Some.is in
    let e = look_set (fresh c.args.code.now.body.tree) c.args.at c.first.result c.first.ensures (looking c.args.code.now.body.atoms c.args.clock.now) c.args.so_far c.args.settings.now (or_own c.args.own.now c.args.base.now) c.in-Some.store c.requires after in
    subst (λ (l : List Sighting). OnOk c.look_at.result (map (sighted c.args.base.now) c.look_at.new.found ≡ map (sighted c.args.base.now) c.args.found.now ++ l)) (sym (e)) c.look_at.ensures

pub look_with-returns-in-None : goal.look_with-returns-in-None
look_with-returns-in-None t c =
    let after : ◌≡◌ {A = Option (List Slot)} (with_settings (or_own c.args.own.now c.args.base.now) c.args.settings.now) None = ap (λ (s : List Slot). with_settings s c.args.settings.now) (sym c.store_of.ensures) ∙ sym c.in_ok-store.ensures ∙ c.in-None.is in
    nothing_more (map (sighted c.args.base.now) c.args.found.now) _ (look_unset (fresh c.args.code.now.body.tree) c.args.at (suc c.args.at) refl (looking c.args.code.now.body.atoms c.args.clock.now) c.args.so_far c.args.settings.now (or_own c.args.own.now c.args.base.now) c.requires after)
