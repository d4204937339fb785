-- If a call, an atom, or a variable has a spelling, its printed tokens spell it at each position, except for token positions.
use Rattle.std.proofs.Common.{ℕ, ◌+◌, List, length, map, refl}
use Rattle.std.specs.List.{flat_map}
use Rattle.tb_lex.specs.declared.kind.TokenKind.{TokenKind}
use Rattle.tb_syntax.specs.declared.proc.ActDef.{ActDef}
use Rattle.tb_syntax.specs.declared.proc.ActDef.TheVariants as act
use Rattle.tb_syntax.specs.declared.proc.AtomDef.{AtomDef}
use Rattle.tb_syntax.specs.declared.proc.Call.{Call}
use Rattle.tb_syntax.specs.declared.proc.TimeDef.{TimeDef}
use Rattle.tb_syntax.specs.declared.proc.Var.{Var}
use Rattle.tb_syntax.specs.Spelling.{SpellsCall, SpellsAct, SpellsTime, SpellsAtom, SpellsVar}
use Rattle.tb_syntax.specs.Helpers.Canonical.{call_tokens, act_tokens, time_tokens, atom_tokens, var_tokens, expr_tokens, optional}
use Rattle.tb_syntax.specs.Positions.{bare_call, bare_act, bare_time, bare_atom, bare_var}
use Rattle.tb_syntax.proofs.PrintedExprs.{sort_printed, expr_printed, arguments_are_printed}
use Rattle.tb_syntax.proofs.PrintedLists.{IsPrinted, row_printed}

pub call_printed : (at : ℕ) (call : Call) (ks : List TokenKind) → SpellsCall at call ks → IsPrinted bare_call SpellsCall call (call_tokens call)
call_printed at call ks d to =
    let r = arguments_are_printed d.are_actuals (to + 1) in (
      record { name = call.name; actuals = r.0; token = to },
      λ i. record { name = call.name; actuals = r.1 i; token = 0 },
      record { position = refl; actuals = optional (map expr_tokens call.actuals); are_actuals = r.2; is = refl },
    )

act_printed : {at : ℕ} {a : ActDef} {ks : List TokenKind} → SpellsAct at a ks → IsPrinted bare_act SpellsAct a (act_tokens a)
act_printed (SpellsAct.set name d) to = let r = expr_printed d (to + 2) in (act.Set name r.0, (λ i. act.Set name (r.1 i)), SpellsAct.set name r.2)
act_printed (SpellsAct.create {call = call} {variable = variable} d e) to =
    let r = call_printed _ call _ d (to + 2) in
    let s = expr_printed e (to + length (call_tokens call) + 3) in
    (act.Create r.0 s.0, (λ i. act.Create (r.1 i) (s.1 i)), SpellsAct.create r.2 s.2)
act_printed (SpellsAct.named name is_word d) to = let r = arguments_are_printed d (to + 1) in (act.Named name r.0, (λ i. act.Named name (r.1 i)), SpellsAct.named name is_word r.2)

time_printed : (at : ℕ) (time : TimeDef) (ks : List TokenKind) → SpellsTime at time ks → IsPrinted bare_time SpellsTime time (time_tokens time)
time_printed at time ks d to =
    let r = expr_printed d.is_value (to + 2) in (
      record { name = time.name; value = r.0; token = to },
      λ i. record { name = time.name; value = r.1 i; token = 0 },
      record { position = refl; is_word = d.is_word; value = expr_tokens time.value; is_value = r.2; is = refl },
    )

pub atom_printed : {at : ℕ} {atom : AtomDef} {ks : List TokenKind} → SpellsAtom at atom ks → IsPrinted bare_atom SpellsAtom atom (atom_tokens atom)
atom_printed {atom = atom} d to =
    let r = act_printed d.is_act to in
    let s = row_printed bare_time time_tokens SpellsTime time_printed d.are_times (to + length (act_tokens atom.act)) in (
      record { act = r.0; times = s.0; token = to },
      λ i. record { act = r.1 i; times = s.1 i; token = 0 },
      record { position = refl; act = act_tokens atom.act; is_act = r.2; times = flat_map time_tokens atom.times; are_times = s.2; is = refl },
    )

pub var_printed : (at : ℕ) (var : Var) (ks : List TokenKind) → SpellsVar at var ks → IsPrinted bare_var SpellsVar var (var_tokens var)
var_printed at var ks d to =
    let r = sort_printed d.is_sort (to + 2) in (
      record { name = var.name; sort = var.sort; token = to; sort_token = r.0 },
      refl,
      record { position = refl; sort = _; is_sort = r.1; is = refl },
    )
