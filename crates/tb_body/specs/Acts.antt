-- Which acts are in range of their body: their slots exist, and each argument is allowed at its place.
use Rattle.std.specs.Prelude.{ℕ, Bool, true, false, ◌&&◌, nat_lt, List, [], ◌∷◌}
use Rattle.std.specs.List.{list_all}
use Rattle.tb_terms.specs.declared.expr.Expr.{Expr}
use Rattle.tb_body.specs.Exprs.{is_value, is_test, is_receiving}
use Rattle.tb_body.specs.declared.act.Act.{Act}
use Rattle.tb_body.specs.declared.act.Act.TheVariants.{Delta, Tau, SndMsg, RecMsg, SndNote, RecNote, NoNote, Subscribe, Unsubscribe, Create, Set, Printf, Execute, RecConnect, RecDisconnectAny, RecDisconnect, SndEval, RecValue, SndDo, RecEvent, SndAckEvent, SndTerminate, Shutdown}
use Rattle.tb_body.specs.declared.atom.Atom.{Atom}

-- at least one argument, and each argument is allowed at its place
abbrev pub some_and_all : (Expr → Bool) → List Expr → Bool
some_and_all may_stand [] = false
some_and_all may_stand (expr ∷ exprs) = may_stand expr && list_all may_stand exprs

-- the acts over this many slots. An argument that is sent or computed has neither placeholders nor result variables. An argument that
-- receives can have both. An argument that is only compared with notes can have placeholders.
abbrev pub is_act_in_body : ℕ → Act → Bool
is_act_in_body slots Delta = true
is_act_in_body slots Tau = true
is_act_in_body slots (SndMsg exprs) = some_and_all (is_value slots) exprs
is_act_in_body slots (RecMsg exprs) = some_and_all (is_receiving slots) exprs
is_act_in_body slots (SndNote exprs) = some_and_all (is_value slots) exprs
is_act_in_body slots (RecNote exprs) = some_and_all (is_receiving slots) exprs
is_act_in_body slots (NoNote exprs) = some_and_all (is_test slots) exprs
is_act_in_body slots (Subscribe exprs) = some_and_all (is_test slots) exprs
is_act_in_body slots (Unsubscribe exprs) = some_and_all (is_test slots) exprs
is_act_in_body slots (Create process actuals slot) = list_all (is_value slots) actuals && nat_lt slot slots
is_act_in_body slots (Set slot value) = nat_lt slot slots && is_value slots value
is_act_in_body slots (Printf exprs) = some_and_all (is_value slots) exprs
is_act_in_body slots (Execute tool slot) = nat_lt slot slots
is_act_in_body slots (RecConnect tool slot) = nat_lt slot slots
is_act_in_body slots (RecDisconnectAny tool slot) = nat_lt slot slots
is_act_in_body slots (RecDisconnect tool) = is_value slots tool
is_act_in_body slots (SndEval tool expr) = is_value slots tool && is_value slots expr
is_act_in_body slots (RecValue tool expr) = is_value slots tool && is_receiving slots expr
is_act_in_body slots (SndDo tool expr) = is_value slots tool && is_value slots expr
is_act_in_body slots (RecEvent tool exprs) = is_value slots tool && some_and_all (is_receiving slots) exprs
is_act_in_body slots (SndAckEvent tool exprs) = is_value slots tool && some_and_all (is_value slots) exprs
is_act_in_body slots (SndTerminate tool expr) = is_value slots tool && is_value slots expr
is_act_in_body slots (Shutdown expr) = is_value slots expr

-- the atoms whose act is in range and whose times are values
abbrev pub is_atom_in_body : ℕ → Atom → Bool
is_atom_in_body slots atom = is_act_in_body slots atom.act && list_all (λ time. is_value slots time.value) atom.times
