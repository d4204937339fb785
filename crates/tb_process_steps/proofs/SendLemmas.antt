-- The data of a rewriter and of its plan can go to another thread, and so can the data that both share with other walkers.
use denote.Param.Send.{IsSend, sendable}
use denote.Param.SendFields.{as_row_send, declared_send, variants_send}
use denote.Hole.{as_row}
use denote.Struct.Field.{u32-field, u8-field}
use Rattle.std.proofs.Crossing.{crosses}
use Rattle.std.proofs.option.Option.TheSendSync.{the_send as option_send}
use Rattle.sqlite_items.specs.contracts.items.Items as items
use Rattle.sqlite_items.proofs.items.Items.TheSendSync.{the_send as items_send}
use Rattle.sqlite_items.specs.contracts.boxed.Boxed as boxed
use Rattle.sqlite_items.proofs.boxed.Boxed.TheSendSync.{the_send as boxed_send}
use Rattle.tb_terms.specs.contracts.term.Term as term
use Rattle.tb_terms.specs.contracts.sort.Sort as sort
use Rattle.tb_terms.specs.contracts.expr.Expr as expr
use Rattle.tb_terms.specs.contracts.pattern.Pattern as pattern
use Rattle.tb_terms.proofs.name.Name.TheSendSync.{the_send as name_send}
use Rattle.tb_terms.proofs.text.Text.TheSendSync.{the_send as text_send}
use Rattle.tb_terms.proofs.term.Term.TheLaws.TheKnot as term_knot
use Rattle.tb_terms.proofs.sort.Sort.TheLaws.TheKnot as sort_knot
use Rattle.tb_terms.proofs.expr.Expr.TheLaws.TheKnot as expr_knot
use Rattle.tb_terms.proofs.pattern.Pattern.TheLaws.TheKnot as pattern_knot
use Rattle.tb_body.specs.contracts.act.Act as act
use Rattle.tb_body.specs.contracts.atom.Atom as atom
use Rattle.tb_body.specs.contracts.tree.Tree as tree
use Rattle.tb_body.specs.contracts.tree.Setting as setting
use Rattle.tb_body.specs.contracts.body.Body as body
use Rattle.tb_body.specs.contracts.program.Program as program
use Rattle.tb_body.proofs.tree.Tree.TheLaws.TheKnot as tree_knot
use Rattle.tb_body.specs.contracts.atom.Time as time
use Rattle.tb_match.specs.contracts.bind.Bind as bind
use Rattle.tb_func.specs.contracts.slot.Slot as slot
use Rattle.tb_terms.specs.contracts.text.Text as text
use Rattle.tb_process_steps.specs.contracts.running.Running as running
use Rattle.tb_process_steps.proofs.running.Running.TheLaws.TheKnot as running_knot
use Rattle.tb_process_steps.specs.contracts.found.Found as found
use Rattle.tb_process_steps.specs.contracts.fired.Left as left
use Rattle.tb_process_steps.specs.contracts.node.Node as node
use Rattle.tb_process_steps.specs.contracts.plan.Plan as plan
use Rattle.tb_process_steps.specs.contracts.rewriter.Rewriter as rewriter
use Rattle.tb_func.specs.contracts.store.Store as store

-- numbers
pub number_send : IsSend (as_row u32-field)
number_send = as_row_send u32-field (search sendable depth 20)

pub byte_send : IsSend (as_row u8-field)
byte_send = as_row_send u8-field (search sendable depth 20)

-- terms, sorts, expressions and patterns
pub term_row : IsSend term.the_field.row
term_row = search (sendable, crosses, items_send, name_send, text_send, term_knot.crosses) depth 20

pub term_send : IsSend term.the_row
term_send = as_row_send term.the_field term_row

pub terms_send : IsSend (items.the_row term.the_row)
terms_send = items_send term.the_row term_send

pub texts_send : IsSend (items.the_row text.the_row)
texts_send = items_send text.the_row text_send

pub sort_row : IsSend sort.the_field.row
sort_row = search (sendable, crosses, boxed_send, name_send, sort_knot.crosses) depth 20

pub sort_send : IsSend sort.the_row
sort_send = as_row_send sort.the_field sort_row

pub expr_row : IsSend expr.the_field.row
expr_row = expr_knot.send-Expr (search sendable depth 20) text_send (search sendable depth 20) sort_row name_send items_send (search sendable depth 60)

pub expr_send : IsSend expr.the_row
expr_send = as_row_send expr.the_field expr_row

pub exprs_send : IsSend (items.the_row expr.the_row)
exprs_send = items_send expr.the_row expr_send

pub pattern_row : IsSend pattern.the_field.row
pattern_row = pattern_knot.send-Pattern term_row sort_row (search sendable depth 20) name_send items_send

pub pattern_send : IsSend pattern.the_row
pattern_send = as_row_send pattern.the_field pattern_row

pub patterns_send : IsSend (items.the_row pattern.the_row)
patterns_send = items_send pattern.the_row pattern_send

-- binds
pub bind_send : IsSend bind.the_row
bind_send = declared_send bind.the_type (number_send, (term_send, tt))

pub binds_send : IsSend (items.the_row bind.the_row)
binds_send = items_send bind.the_row bind_send

pub slot_send : IsSend slot.the_row
slot_send = declared_send slot.the_type (sort_send, (term_send, tt))

pub store_send : IsSend store.the_row
store_send = search (sendable, crosses, slot_send) depth 40

-- programs. An act has so many cases that the search for them all would give up
pub act_send : IsSend act.the_row
act_send = let n = number_send in let e = expr_send in let m = exprs_send in variants_send act.enum (tt, (tt, ((m, tt), ((m, tt), ((m, tt), ((m, tt), ((m, tt), ((m, tt), ((m, tt), ((n, (m, (n, tt))), ((n, (e, tt)), ((m, tt), ((n, (n, tt)), ((n, (n, tt)), ((n, (n, tt)), ((e, tt), ((e, (e, tt)), ((e, (e, tt)), ((e, (e, tt)), ((e, (m, tt)), ((e, (m, tt)), ((e, (e, tt)), ((e, tt), tt)))))))))))))))))))))))

pub time_send : IsSend time.the_row
time_send = declared_send time.the_type (search sendable depth 40, (expr_send, tt))

pub atom_send : IsSend atom.the_row
atom_send = declared_send atom.the_type (act_send, (items_send time.the_row time_send, tt))

pub setting_send : IsSend setting.the_row
setting_send = search (sendable, crosses, expr_send) depth 40

pub tree_row : IsSend tree.the_field.row
tree_row = tree_knot.send-Tree (search sendable depth 20) boxed_send expr_row (λ h s. option_send (boxed.the_row h) (boxed_send h s)) (items_send setting.the_row setting_send)

pub tree_send : IsSend tree.the_row
tree_send = as_row_send tree.the_field tree_row

pub body_send : IsSend body.the_row
body_send = declared_send body.the_type (tree_send, (items_send atom.the_row atom_send, (items_send sort.the_row sort_send, (number_send, tt))))

pub program_send : IsSend program.the_row
program_send = search (sendable, crosses, items_send, body_send, term_send, name_send, text_send) depth 40

-- rewriters
pub running_row : IsSend running.the_field.row
running_row = search (sendable, crosses, boxed_send, running_knot.crosses) depth 40

pub found_send : IsSend found.the_row
found_send = search (sendable, crosses, store_send) depth 40

pub left_send : IsSend left.the_row
left_send = search (sendable, crosses, running_row, store_send) depth 40

pub rewriter_send : IsSend rewriter.the_row
rewriter_send = search (sendable, crosses, items_send, running_row, store_send, found_send) depth 40

pub node_send : IsSend node.the_row
node_send = search (sendable, crosses, expr_row, setting_send) depth 40

pub plan_send : IsSend plan.the_row
plan_send = declared_send plan.the_type (body_send, (items_send node.the_row node_send, (search sendable depth 20, tt)))
