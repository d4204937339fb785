use Rattle.std.proofs.Common.{◌≡◌, ◌+◌, ◌≤◌, ◌++◌, suc, Bool, List, length, Result, refl, ◌∙◌, subst, sym, ap, arith}
use Rattle.std.specs.Prelude.{IfOk}
use Rattle.std.proofs.lemmas.Result.{IfOk-weaker}
use Rattle.tb_terms.specs.declared.memory.NoMemory.{NoMemory}
use Rattle.tb_process_steps.specs.Atoms.{times_of}
use Rattle.tb_process_steps.specs.Processes.{fresh, Seq, Alt, Star, Par, If, When, Let}
use Rattle.tb_code.specs.Entries.{HasList, all_led, entry, is_timed, list_of, what_by}
use Rattle.tb_code.specs.Positions.{Begins, HasParts, IsOne, IsTwo, IsUntil, IsWait}
use Rattle.tb_code.specs.declared.behind.Behind.TheVariants as behind
use Rattle.tb_code.specs.declared.entry.Entry.{Entry}
use Rattle.tb_code.specs.declared.entry.What.{What}
use Rattle.tb_code.specs.declared.entry.Span.{Span}
use Rattle.tb_code.specs.declared.lists.Side.{Side}
use Rattle.tb_code.specs.declared.node.Op.TheVariants as op
use Rattle.tb_code.proofs.Parts.{op_here}
use Rattle.tb_code.proofs.EntryLemmas.{begins_at, first_within, list_of_alt, list_of_atom, list_of_if, list_of_let, list_of_par, list_of_seq, list_of_star, list_of_when, list_of_until, list_of_wait, parts_at, second_within}
use Rattle.tb_code.proofs.lists.list_at.Goals as goal

-- what is said of two sides is so of sides that are the same
both_added : (old new : List Entry) (result : Result Span NoMemory) {x y s t : Side} → x ≡ s → y ≡ t →
    ((one other : List Entry) → HasList old x.span one → HasList old y.span other → IfOk result (λ span. HasList new span (all_led x.next one ++ all_led y.next other))) →
    (one other : List Entry) → HasList old s.span one → HasList old t.span other → IfOk result (λ span. HasList new span (all_led s.next one ++ all_led t.next other))
both_added old new result {x} {y} {s} {t} first second given =
    subst (λ (u : Side). (one other : List Entry) → HasList old s.span one → HasList old u.span other → IfOk result (λ span. HasList new span (all_led s.next one ++ all_led u.next other))) second
    (subst (λ (u : Side). (one other : List Entry) → HasList old u.span one → HasList old y.span other → IfOk result (λ span. HasList new span (all_led u.next one ++ all_led y.next other))) first given)

pub returns-in-At-clause-list : goal.returns-in-At-clause-list
returns-in-At-clause-list c =
    let whole = fresh c.args.body.now.tree in
    let atoms = c.args.body.now.atoms in
    let at = c.args.at in
    let atom = c.in-At.atom in
    let here : HasParts whole at (op.At atom) = parts_at whole c.args.nodes.now at c.node_at.result.now (op.At atom) c.requires.numbered c.requires.within c.node_at.ensures c.in-At.is in
    let one : Entry = record { position = at; what = c.what_by.result; behind = behind.Ended } in
    let stands : c.what_by.result ≡ what_by (is_timed (times_of atoms atom)) atom = c.what_by.ensures ∙ ap (λ (b : Bool). what_by b atom) c.is_timed.ensures in
    let is : one ≡ entry atoms at atom = ap (λ (w : What). let e : Entry = record { position = at; what = w; behind = behind.Ended } in e) stands in
    let begins : Begins whole at = begins_at whole c.args.nodes.now at c.node_at.result.now (op.At atom) c.requires.numbered c.node_at.ensures c.in-At.is refl in
    let list = list_of_atom atoms whole at atom here.0 one begins here.1 is in
    IfOk-weaker c.add_one.result _ _ (λ span h. subst (λ (l : List Entry). HasList c.add_one.new.entries span l) list h) c.add_one.ensures.list

pub span_at-requires : goal.span_at-requires
span_at-requires c =
    let whole = fresh c.args.body.now.tree in
    let atoms = c.args.body.now.atoms in
    let at = c.args.at in
    let two : IsTwo whole Seq at c.in-Seq.right = parts_at whole c.args.nodes.now at c.node_at.result.now (op.Seq c.in-Seq.right) c.requires.numbered c.requires.within c.node_at.ensures c.in-Seq.is in
    first_within atoms whole c.args.entries.now c.args.spans.now Seq at c.in-Seq.right c.requires.lists two

pub add_first-requires : goal.add_first-requires
add_first-requires c =
    subst (λ (s : Side). s.span.first + s.span.count ≤ length c.args.entries.now) (sym c.then-first.ensures) (c.requires.lists.1 (c.args.at + 1) c.span_at.result c.span_at.ensures).0

pub returns-in-Seq-clause-list : goal.returns-in-Seq-clause-list
returns-in-Seq-clause-list c =
    let whole = fresh c.args.body.now.tree in
    let atoms = c.args.body.now.atoms in
    let at = c.args.at in
    let two : IsTwo whole Seq at c.in-Seq.right = parts_at whole c.args.nodes.now at c.node_at.result.now (op.Seq c.in-Seq.right) c.requires.numbered c.requires.within c.node_at.ensures c.in-Seq.is in
    let first : at + 1 ≡ suc at = omega arith in
    let begins : Begins whole at = begins_at whole c.args.nodes.now at c.node_at.result.now (op.Seq c.in-Seq.right) c.requires.numbered c.node_at.ensures c.in-Seq.is refl in
    let list = list_of_seq atoms whole at c.in-Seq.right (at + 1) first begins two in
    let added : (one : List Entry) → HasList c.args.entries.now c.span_at.result one → IfOk c.add_first.result (λ span. HasList c.add_first.new.entries span (all_led (behind.Entered c.in-Seq.right) one)) =
    subst (λ (s : Side). (one : List Entry) → HasList c.args.entries.now s.span one → IfOk c.add_first.result (λ span. HasList c.add_first.new.entries span (all_led s.next one))) c.then-first.ensures c.add_first.ensures.list in
    IfOk-weaker c.add_first.result _ _ (λ span h. subst (λ (l : List Entry). HasList c.add_first.new.entries span l) list h)
    (added (list_of atoms whole (at + 1)) (c.requires.lists.1 (at + 1) c.span_at.result c.span_at.ensures))

pub span_at-requires-in-Alt : goal.span_at-requires-in-Alt
span_at-requires-in-Alt c =
    let whole = fresh c.args.body.now.tree in
    let atoms = c.args.body.now.atoms in
    let at = c.args.at in
    let two : IsTwo whole Alt at c.in-Alt.right = parts_at whole c.args.nodes.now at c.node_at.result.now (op.Alt c.in-Alt.right) c.requires.numbered c.requires.within c.node_at.ensures c.in-Alt.is in
    first_within atoms whole c.args.entries.now c.args.spans.now Alt at c.in-Alt.right c.requires.lists two

pub span_at-requires-in-Alt-2 : goal.span_at-requires-in-Alt-2
span_at-requires-in-Alt-2 c =
    let whole = fresh c.args.body.now.tree in
    let atoms = c.args.body.now.atoms in
    let at = c.args.at in
    let two : IsTwo whole Alt at c.in-Alt.right = parts_at whole c.args.nodes.now at c.node_at.result.now (op.Alt c.in-Alt.right) c.requires.numbered c.requires.within c.node_at.ensures c.in-Alt.is in
    second_within atoms whole c.args.entries.now c.args.spans.now Alt at c.in-Alt.right c.requires.lists two

pub add_both-requires-clause-x_within : goal.add_both-requires-clause-x_within
add_both-requires-clause-x_within c =
    subst (λ (s : Side). s.span.first + s.span.count ≤ length c.args.entries.now) (sym c.then-first-in-Alt.ensures) (c.requires.lists.1 (c.args.at + 1) c.span_at-in-Alt.result c.span_at-in-Alt.ensures).0

pub add_both-requires-clause-y_within : goal.add_both-requires-clause-y_within
add_both-requires-clause-y_within c =
    subst (λ (s : Side). s.span.first + s.span.count ≤ length c.args.entries.now) (sym c.then-second.ensures) (c.requires.lists.1 c.in-Alt.right c.span_at-in-Alt-2.result c.span_at-in-Alt-2.ensures).0

pub returns-in-Alt-clause-list : goal.returns-in-Alt-clause-list
returns-in-Alt-clause-list c =
    let whole = fresh c.args.body.now.tree in
    let atoms = c.args.body.now.atoms in
    let at = c.args.at in
    let two : IsTwo whole Alt at c.in-Alt.right = parts_at whole c.args.nodes.now at c.node_at.result.now (op.Alt c.in-Alt.right) c.requires.numbered c.requires.within c.node_at.ensures c.in-Alt.is in
    let right = c.in-Alt.right in
    let first : at + 1 ≡ suc at = omega arith in
    let begins : Begins whole at = begins_at whole c.args.nodes.now at c.node_at.result.now (op.Alt c.in-Alt.right) c.requires.numbered c.node_at.ensures c.in-Alt.is refl in
    let list = list_of_alt atoms whole at right (at + 1) first begins two in
    let added : (one other : List Entry) → HasList c.args.entries.now c.span_at-in-Alt.result one → HasList c.args.entries.now c.span_at-in-Alt-2.result other →
    IfOk c.add_both.result (λ span. HasList c.add_both.new.entries span (all_led behind.Ended one ++ all_led behind.Ended other)) =
    both_added c.args.entries.now c.add_both.new.entries c.add_both.result c.then-first-in-Alt.ensures c.then-second.ensures c.add_both.ensures.list in
    IfOk-weaker c.add_both.result _ _ (λ span h. subst (λ (l : List Entry). HasList c.add_both.new.entries span l) list h)
    (added (list_of atoms whole (at + 1)) (list_of atoms whole right) (c.requires.lists.1 (at + 1) c.span_at-in-Alt.result c.span_at-in-Alt.ensures) (c.requires.lists.1 right c.span_at-in-Alt-2.result c.span_at-in-Alt-2.ensures))

pub span_at-requires-in-Star : goal.span_at-requires-in-Star
span_at-requires-in-Star c =
    let whole = fresh c.args.body.now.tree in
    let atoms = c.args.body.now.atoms in
    let at = c.args.at in
    let two : IsTwo whole Star at c.in-Star.right = parts_at whole c.args.nodes.now at c.node_at.result.now (op.Star c.in-Star.right) c.requires.numbered c.requires.within c.node_at.ensures c.in-Star.is in
    first_within atoms whole c.args.entries.now c.args.spans.now Star at c.in-Star.right c.requires.lists two

pub span_at-requires-in-Star-2 : goal.span_at-requires-in-Star-2
span_at-requires-in-Star-2 c =
    let whole = fresh c.args.body.now.tree in
    let atoms = c.args.body.now.atoms in
    let at = c.args.at in
    let two : IsTwo whole Star at c.in-Star.right = parts_at whole c.args.nodes.now at c.node_at.result.now (op.Star c.in-Star.right) c.requires.numbered c.requires.within c.node_at.ensures c.in-Star.is in
    second_within atoms whole c.args.entries.now c.args.spans.now Star at c.in-Star.right c.requires.lists two

pub add_both-requires-in-Star-clause-x_within : goal.add_both-requires-in-Star-clause-x_within
add_both-requires-in-Star-clause-x_within c =
    subst (λ (s : Side). s.span.first + s.span.count ≤ length c.args.entries.now) (sym c.then-first-in-Star.ensures) (c.requires.lists.1 (c.args.at + 1) c.span_at-in-Star.result c.span_at-in-Star.ensures).0

pub add_both-requires-in-Star-clause-y_within : goal.add_both-requires-in-Star-clause-y_within
add_both-requires-in-Star-clause-y_within c =
    subst (λ (s : Side). s.span.first + s.span.count ≤ length c.args.entries.now) (sym c.then-second-in-Star.ensures) (c.requires.lists.1 c.in-Star.right c.span_at-in-Star-2.result c.span_at-in-Star-2.ensures).0

pub returns-in-Star-clause-list : goal.returns-in-Star-clause-list
returns-in-Star-clause-list c =
    let whole = fresh c.args.body.now.tree in
    let atoms = c.args.body.now.atoms in
    let at = c.args.at in
    let two : IsTwo whole Star at c.in-Star.right = parts_at whole c.args.nodes.now at c.node_at.result.now (op.Star c.in-Star.right) c.requires.numbered c.requires.within c.node_at.ensures c.in-Star.is in
    let right = c.in-Star.right in
    let first : at + 1 ≡ suc at = omega arith in
    let begins : Begins whole at = begins_at whole c.args.nodes.now at c.node_at.result.now (op.Star c.in-Star.right) c.requires.numbered c.node_at.ensures c.in-Star.is refl in
    let list = list_of_star atoms whole at right (at + 1) first begins two in
    let added : (one other : List Entry) → HasList c.args.entries.now c.span_at-in-Star.result one → HasList c.args.entries.now c.span_at-in-Star-2.result other →
    IfOk c.add_both-in-Star.result (λ span. HasList c.add_both-in-Star.new.entries span (all_led (behind.Entered at) one ++ all_led behind.Ended other)) =
    both_added c.args.entries.now c.add_both-in-Star.new.entries c.add_both-in-Star.result c.then-first-in-Star.ensures c.then-second-in-Star.ensures c.add_both-in-Star.ensures.list in
    IfOk-weaker c.add_both-in-Star.result _ _ (λ span h. subst (λ (l : List Entry). HasList c.add_both-in-Star.new.entries span l) list h)
    (added (list_of atoms whole (at + 1)) (list_of atoms whole right) (c.requires.lists.1 (at + 1) c.span_at-in-Star.result c.span_at-in-Star.ensures) (c.requires.lists.1 right c.span_at-in-Star-2.result c.span_at-in-Star-2.ensures))

pub span_at-requires-in-Par : goal.span_at-requires-in-Par
span_at-requires-in-Par c =
    let whole = fresh c.args.body.now.tree in
    let atoms = c.args.body.now.atoms in
    let at = c.args.at in
    let two : IsTwo whole Par at c.in-Par.right = parts_at whole c.args.nodes.now at c.node_at.result.now (op.Par c.in-Par.right) c.requires.numbered c.requires.within c.node_at.ensures c.in-Par.is in
    first_within atoms whole c.args.entries.now c.args.spans.now Par at c.in-Par.right c.requires.lists two

pub span_at-requires-in-Par-2 : goal.span_at-requires-in-Par-2
span_at-requires-in-Par-2 c =
    let whole = fresh c.args.body.now.tree in
    let atoms = c.args.body.now.atoms in
    let at = c.args.at in
    let two : IsTwo whole Par at c.in-Par.right = parts_at whole c.args.nodes.now at c.node_at.result.now (op.Par c.in-Par.right) c.requires.numbered c.requires.within c.node_at.ensures c.in-Par.is in
    second_within atoms whole c.args.entries.now c.args.spans.now Par at c.in-Par.right c.requires.lists two

pub add_both-requires-in-Par-clause-x_within : goal.add_both-requires-in-Par-clause-x_within
add_both-requires-in-Par-clause-x_within c =
    subst (λ (s : Side). s.span.first + s.span.count ≤ length c.args.entries.now) (sym c.then-first-in-Par.ensures) (c.requires.lists.1 (c.args.at + 1) c.span_at-in-Par.result c.span_at-in-Par.ensures).0

pub add_both-requires-in-Par-clause-y_within : goal.add_both-requires-in-Par-clause-y_within
add_both-requires-in-Par-clause-y_within c =
    subst (λ (s : Side). s.span.first + s.span.count ≤ length c.args.entries.now) (sym c.then-second-in-Par.ensures) (c.requires.lists.1 c.in-Par.right c.span_at-in-Par-2.result c.span_at-in-Par-2.ensures).0

pub returns-in-Par-clause-list : goal.returns-in-Par-clause-list
returns-in-Par-clause-list c =
    let whole = fresh c.args.body.now.tree in
    let atoms = c.args.body.now.atoms in
    let at = c.args.at in
    let two : IsTwo whole Par at c.in-Par.right = parts_at whole c.args.nodes.now at c.node_at.result.now (op.Par c.in-Par.right) c.requires.numbered c.requires.within c.node_at.ensures c.in-Par.is in
    let right = c.in-Par.right in
    let first : at + 1 ≡ suc at = omega arith in
    let begins : Begins whole at = begins_at whole c.args.nodes.now at c.node_at.result.now (op.Par c.in-Par.right) c.requires.numbered c.node_at.ensures c.in-Par.is refl in
    let list = list_of_par atoms whole at right (at + 1) first begins two in
    let added : (one other : List Entry) → HasList c.args.entries.now c.span_at-in-Par.result one → HasList c.args.entries.now c.span_at-in-Par-2.result other →
    IfOk c.add_both-in-Par.result (λ span. HasList c.add_both-in-Par.new.entries span (all_led behind.Parted one ++ all_led behind.Parted other)) =
    both_added c.args.entries.now c.add_both-in-Par.new.entries c.add_both-in-Par.result c.then-first-in-Par.ensures c.then-second-in-Par.ensures c.add_both-in-Par.ensures.list in
    IfOk-weaker c.add_both-in-Par.result _ _ (λ span h. subst (λ (l : List Entry). HasList c.add_both-in-Par.new.entries span l) list h)
    (added (list_of atoms whole (at + 1)) (list_of atoms whole right) (c.requires.lists.1 (at + 1) c.span_at-in-Par.result c.span_at-in-Par.ensures) (c.requires.lists.1 right c.span_at-in-Par-2.result c.span_at-in-Par-2.ensures))

pub returns-in-If-clause-list : goal.returns-in-If-clause-list
returns-in-If-clause-list c =
    let whole = fresh c.args.body.now.tree in
    let atoms = c.args.body.now.atoms in
    let at = c.args.at in
    let has : IsTwo whole (If c.in-If.field-0) at c.in-If.field-1 = parts_at whole c.args.nodes.now at c.node_at.result.now (op.If c.in-If.field-0 c.in-If.field-1) c.requires.numbered c.requires.within c.node_at.ensures c.in-If.is in
    let begins : Begins whole at = begins_at whole c.args.nodes.now at c.node_at.result.now (op.If c.in-If.field-0 c.in-If.field-1) c.requires.numbered c.node_at.ensures c.in-If.is refl in
    let list = list_of_if atoms whole c.in-If.field-0 at c.in-If.field-1 c.gate.result begins has c.gate.ensures in
    IfOk-weaker c.add_one-in-If.result _ _ (λ span h. subst (λ (l : List Entry). HasList c.add_one-in-If.new.entries span l) list h) c.add_one-in-If.ensures.list

pub returns-in-When-clause-list : goal.returns-in-When-clause-list
returns-in-When-clause-list c =
    let whole = fresh c.args.body.now.tree in
    let atoms = c.args.body.now.atoms in
    let at = c.args.at in
    let has : IsOne whole (When c.in-When.field-0) at = parts_at whole c.args.nodes.now at c.node_at.result.now (op.When c.in-When.field-0) c.requires.numbered c.requires.within c.node_at.ensures c.in-When.is in
    let begins : Begins whole at = begins_at whole c.args.nodes.now at c.node_at.result.now (op.When c.in-When.field-0) c.requires.numbered c.node_at.ensures c.in-When.is refl in
    let list = list_of_when atoms whole c.in-When.field-0 at c.gate-in-When.result begins has c.gate-in-When.ensures in
    IfOk-weaker c.add_one-in-When.result _ _ (λ span h. subst (λ (l : List Entry). HasList c.add_one-in-When.new.entries span l) list h) c.add_one-in-When.ensures.list

pub returns-in-Let-clause-list : goal.returns-in-Let-clause-list
returns-in-Let-clause-list c =
    let whole = fresh c.args.body.now.tree in
    let atoms = c.args.body.now.atoms in
    let at = c.args.at in
    let has : IsOne whole (Let c.in-Let.field-0) at = parts_at whole c.args.nodes.now at c.node_at.result.now (op.Let c.in-Let.field-0) c.requires.numbered c.requires.within c.node_at.ensures c.in-Let.is in
    let begins : Begins whole at = begins_at whole c.args.nodes.now at c.node_at.result.now (op.Let c.in-Let.field-0) c.requires.numbered c.node_at.ensures c.in-Let.is refl in
    let list = list_of_let atoms whole c.in-Let.field-0 at c.gate-in-Let.result begins has c.gate-in-Let.ensures in
    IfOk-weaker c.add_one-in-Let.result _ _ (λ span h. subst (λ (l : List Entry). HasList c.add_one-in-Let.new.entries span l) list h) c.add_one-in-Let.ensures.list

pub span_at-requires-in-Disrupt : goal.span_at-requires-in-Disrupt
span_at-requires-in-Disrupt c =
    let whole = fresh c.args.body.now.tree in
    let atoms = c.args.body.now.atoms in
    let at = c.args.at in
    let until : IsUntil whole at c.in-Disrupt.waits = parts_at whole c.args.nodes.now at c.node_at.result.now (op.Disrupt c.in-Disrupt.waits) c.requires.numbered c.requires.within c.node_at.ensures c.in-Disrupt.is in
    let long = c.requires.lists.0 in
    let first = until.first in
    omega arith

pub overflow_add-waits : goal.overflow_add-waits
overflow_add-waits c =
    let whole = fresh c.args.body.now.tree in
    let atoms = c.args.body.now.atoms in
    let at = c.args.at in
    let until : IsUntil whole at c.in-Disrupt.waits = parts_at whole c.args.nodes.now at c.node_at.result.now (op.Disrupt c.in-Disrupt.waits) c.requires.numbered c.requires.within c.node_at.ensures c.in-Disrupt.is in
    let long = c.requires.lists.0 in
    let second = until.second in
    omega arith

pub span_at-requires-in-Disrupt-2 : goal.span_at-requires-in-Disrupt-2
span_at-requires-in-Disrupt-2 c =
    let whole = fresh c.args.body.now.tree in
    let atoms = c.args.body.now.atoms in
    let at = c.args.at in
    let until : IsUntil whole at c.in-Disrupt.waits = parts_at whole c.args.nodes.now at c.node_at.result.now (op.Disrupt c.in-Disrupt.waits) c.requires.numbered c.requires.within c.node_at.ensures c.in-Disrupt.is in
    let long = c.requires.lists.0 in
    let second = until.second in
    omega arith

pub add_both-requires-in-Disrupt-clause-x_within : goal.add_both-requires-in-Disrupt-clause-x_within
add_both-requires-in-Disrupt-clause-x_within c =
    subst (λ (s : Side). s.span.first + s.span.count ≤ length c.args.entries.now) (sym c.then-first-in-Disrupt.ensures) (c.requires.lists.1 (c.args.at + 1) c.span_at-in-Disrupt.result c.span_at-in-Disrupt.ensures).0

pub add_both-requires-in-Disrupt-clause-y_within : goal.add_both-requires-in-Disrupt-clause-y_within
add_both-requires-in-Disrupt-clause-y_within c =
    subst (λ (s : Side). s.span.first + s.span.count ≤ length c.args.entries.now) (sym c.then-second-in-Disrupt.ensures) (c.requires.lists.1 (c.in-Disrupt.waits + 1) c.span_at-in-Disrupt-2.result c.span_at-in-Disrupt-2.ensures).0

pub returns-in-Disrupt-clause-list : goal.returns-in-Disrupt-clause-list
returns-in-Disrupt-clause-list c =
    let whole = fresh c.args.body.now.tree in
    let atoms = c.args.body.now.atoms in
    let at = c.args.at in
    let waits = c.in-Disrupt.waits in
    let until : IsUntil whole at waits = parts_at whole c.args.nodes.now at c.node_at.result.now (op.Disrupt c.in-Disrupt.waits) c.requires.numbered c.requires.within c.node_at.ensures c.in-Disrupt.is in
    let begins : Begins whole at = begins_at whole c.args.nodes.now at c.node_at.result.now (op.Disrupt waits) c.requires.numbered c.node_at.ensures c.in-Disrupt.is refl in
    let first : at + 1 ≡ suc at = omega arith in
    let second : waits + 1 ≡ suc waits = omega arith in
    let list = list_of_until atoms whole at waits (at + 1) (waits + 1) first second begins until in
    let added : (one other : List Entry) → HasList c.args.entries.now c.span_at-in-Disrupt.result one → HasList c.args.entries.now c.span_at-in-Disrupt-2.result other →
    IfOk c.add_both-in-Disrupt.result (λ span. HasList c.add_both-in-Disrupt.new.entries span (all_led behind.Parted one ++ all_led behind.Ended other)) =
    both_added c.args.entries.now c.add_both-in-Disrupt.new.entries c.add_both-in-Disrupt.result c.then-first-in-Disrupt.ensures c.then-second-in-Disrupt.ensures c.add_both-in-Disrupt.ensures.list in
    IfOk-weaker c.add_both-in-Disrupt.result _ _ (λ span h. subst (λ (l : List Entry). HasList c.add_both-in-Disrupt.new.entries span l) list h)
    (added (list_of atoms whole (at + 1)) (list_of atoms whole (waits + 1)) (c.requires.lists.1 (at + 1) c.span_at-in-Disrupt.result c.span_at-in-Disrupt.ensures) (c.requires.lists.1 (waits + 1) c.span_at-in-Disrupt-2.result c.span_at-in-Disrupt-2.ensures))

pub span_at-requires-in-Waits : goal.span_at-requires-in-Waits
span_at-requires-in-Waits c =
    let whole = fresh c.args.body.now.tree in
    let atoms = c.args.body.now.atoms in
    let at = c.args.at in
    let wait : IsWait whole at c.in-Waits.field-0 = parts_at whole c.args.nodes.now at c.node_at.result.now (op.Waits c.in-Waits.field-0) c.requires.numbered c.requires.within c.node_at.ensures c.in-Waits.is in
    let long = c.requires.lists.0 in
    let first = wait.first in
    omega arith

pub add_first-requires-in-Waits : goal.add_first-requires-in-Waits
add_first-requires-in-Waits c =
    subst (λ (s : Side). s.span.first + s.span.count ≤ length c.args.entries.now) (sym c.then-first-in-Waits.ensures) (c.requires.lists.1 (c.args.at + 1) c.span_at-in-Waits.result c.span_at-in-Waits.ensures).0

pub returns-in-Waits-clause-list : goal.returns-in-Waits-clause-list
returns-in-Waits-clause-list c =
    let whole = fresh c.args.body.now.tree in
    let atoms = c.args.body.now.atoms in
    let at = c.args.at in
    let wait : IsWait whole at c.in-Waits.field-0 = parts_at whole c.args.nodes.now at c.node_at.result.now (op.Waits c.in-Waits.field-0) c.requires.numbered c.requires.within c.node_at.ensures c.in-Waits.is in
    let first : at + 1 ≡ suc at = omega arith in
    let list = list_of_wait atoms whole at c.in-Waits.field-0 (at + 1) first (op_here whole c.args.nodes.now at c.node_at.result.now c.requires.numbered c.node_at.ensures ∙ c.in-Waits.is) wait in
    let added : (one : List Entry) → HasList c.args.entries.now c.span_at-in-Waits.result one → IfOk c.add_first-in-Waits.result (λ span. HasList c.add_first-in-Waits.new.entries span (all_led behind.Parted one)) =
    subst (λ (s : Side). (one : List Entry) → HasList c.args.entries.now s.span one → IfOk c.add_first-in-Waits.result (λ span. HasList c.add_first-in-Waits.new.entries span (all_led s.next one))) c.then-first-in-Waits.ensures c.add_first-in-Waits.ensures.list in
    IfOk-weaker c.add_first-in-Waits.result _ _ (λ span h. subst (λ (l : List Entry). HasList c.add_first-in-Waits.new.entries span l) list h)
    (added (list_of atoms whole (at + 1)) (c.requires.lists.1 (at + 1) c.span_at-in-Waits.result c.span_at-in-Waits.ensures))
