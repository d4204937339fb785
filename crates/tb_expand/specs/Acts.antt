-- The atom of a body that an atom of a script becomes.
use Rattle.std.specs.Prelude.{ℕ, ◌+◌, List, [], ◌∷◌, map, Option, Some, None, option_map, unwrap_or, if◌then◌else◌}
use Rattle.std.specs.Str.{bytes_eq}
use Rattle.tb_terms.specs.declared.expr.Expr.{Expr}
use Rattle.tb_terms.specs.declared.sort.Sort.{Sort, out-Sort}
use Rattle.tb_terms.specs.declared.sort.Sort.TheOpen as sort
use Rattle.tb_body.specs.declared.act.Act.{Act}
use Rattle.tb_body.specs.declared.act.Act.TheVariants as act
use Rattle.tb_body.specs.declared.atom.Atom.{Atom}
use Rattle.tb_body.specs.declared.atom.Time.{Time}
use Rattle.tb_body.specs.declared.atom.TimeKind.{TimeKind}
use Rattle.tb_body.specs.declared.atom.TimeKind.TheVariants as time
use Rattle.tb_syntax.specs.declared.ast.Ast.{Ast}
use Rattle.tb_syntax.specs.declared.ast.AstKind.{AstKind, out-AstKind}
use Rattle.tb_syntax.specs.declared.ast.AstKind.TheOpen as ast
use Rattle.tb_syntax.specs.declared.atom_words.AtomWord.{AtomWord}
use Rattle.tb_syntax.specs.declared.atom_words.AtomWord.TheVariants as atom
use Rattle.tb_syntax.specs.declared.atom_words.TimeWord.{TimeWord}
use Rattle.tb_syntax.specs.declared.atom_words.TimeWord.TheVariants as times
use Rattle.tb_syntax.specs.declared.proc.ActDef.{ActDef}
use Rattle.tb_syntax.specs.declared.proc.ActDef.TheVariants as def
use Rattle.tb_syntax.specs.declared.proc.AtomDef.{AtomDef}
use Rattle.tb_syntax.specs.declared.proc.TimeDef.{TimeDef}
use Rattle.tb_syntax.specs.declared.script.ProcDef.{ProcDef}
use Rattle.tb_syntax.specs.declared.script.Script.{Script}
use Rattle.tb_syntax.specs.declared.script.ToolDef.{ToolDef}
use Rattle.tb_syntax.specs.AtomWords.{time_word}
use Rattle.tb_types.specs.Atoms.{word_of}
use Rattle.tb_expand.specs.Scopes.{Scope, slot_of, sort_of}
use Rattle.tb_expand.specs.Exprs.{expr_of, exprs_of}

-- the position of the name's first occurrence in the list, or the length of the list if the name isn't in it
abbrev pub position_of : List ℕ → List (List ℕ) → ℕ
position_of name [] = 0
position_of name (other ∷ others) = if bytes_eq other name then 0 else position_of name others + 1

abbrev pub process_of : Script → List ℕ → ℕ
process_of script name = position_of name (map (λ (d : ProcDef). d.name) script.procs)

abbrev pub tool_of : Script → List ℕ → ℕ
tool_of script name = position_of name (map (λ (d : ToolDef). d.name) script.tools)

-- the position of the tool of a type, or 0 for another type; in a well-formed script, only types of tools are looked up
abbrev pub tool_of_open : Script → sort.Sort-F Sort → ℕ
tool_of_open script sort.Bool = 0
tool_of_open script sort.Int = 0
tool_of_open script sort.Str = 0
tool_of_open script (sort.List s) = 0
tool_of_open script sort.Any = 0
tool_of_open script (sort.Tool name) = tool_of script name

abbrev pub tool_of_sort : Script → Sort → ℕ
tool_of_sort script s = tool_of_open script (out-Sort s)

-- the name of an application, a variable, or a result variable; empty for other expressions
abbrev pub name_in : ast.AstKind-F AstKind Ast → List ℕ
name_in (ast.Int number) = []
name_in (ast.Str text) = []
name_in (ast.Appl name parts) = name
name_in (ast.Var name) = name
name_in (ast.Result name) = name
name_in (ast.Hole s) = []
name_in (ast.List parts) = []

abbrev pub name_of : Ast → List ℕ
name_of e = name_in (out-AstKind e.kind)

-- The arguments of an atom as expressions, or `None` if their number is wrong. In a well-formed script, their number is right.
-- one or more arguments
abbrev pub some_exprs : Scope → List Ast → Option (List Expr)
some_exprs scope [] = None
some_exprs scope (e ∷ es) = Some (exprs_of scope (e ∷ es))

-- two arguments
abbrev pub two_exprs : Scope → List Ast → Option (Expr × Expr)
two_exprs scope [] = None
two_exprs scope (e ∷ []) = None
two_exprs scope (x ∷ y ∷ []) = Some (expr_of scope x, expr_of scope y)
two_exprs scope (x ∷ y ∷ z ∷ es) = None

-- a first argument, and one or more others
abbrev pub more_exprs : Scope → List Ast → Option (Expr × List Expr)
more_exprs scope [] = None
more_exprs scope (e ∷ []) = None
more_exprs scope (x ∷ y ∷ es) = Some (expr_of scope x, exprs_of scope (y ∷ es))

abbrev pub tau : List Ast → Option Act
tau [] = Some act.Tau
tau (e ∷ es) = None

abbrev pub shutdown : Scope → List Ast → Option Act
shutdown scope [] = None
shutdown scope (e ∷ []) = Some (act.Shutdown (expr_of scope e))
shutdown scope (x ∷ y ∷ es) = None

-- the act of `rec-disconnect`: any tool of a result variable's type disconnects, or the tool that the expression names
abbrev pub leaving : Script → Scope → Ast → ast.AstKind-F AstKind Ast → Act
leaving script scope e (ast.Result name) = act.RecDisconnectAny (tool_of_sort script (sort_of scope name)) (slot_of scope name)
leaving script scope e (ast.Int number) = act.RecDisconnect (expr_of scope e)
leaving script scope e (ast.Str text) = act.RecDisconnect (expr_of scope e)
leaving script scope e (ast.Appl name parts) = act.RecDisconnect (expr_of scope e)
leaving script scope e (ast.Var name) = act.RecDisconnect (expr_of scope e)
leaving script scope e (ast.Hole s) = act.RecDisconnect (expr_of scope e)
leaving script scope e (ast.List parts) = act.RecDisconnect (expr_of scope e)

abbrev pub any_connected : Script → Scope → Ast → Act
any_connected script scope e = act.RecConnect (tool_of_sort script (sort_of scope (name_of e))) (slot_of scope (name_of e))

abbrev pub disconnected : Script → Scope → List Ast → Option Act
disconnected script scope [] = None
disconnected script scope (e ∷ []) = Some (leaving script scope e (out-AstKind e.kind))
disconnected script scope (x ∷ y ∷ es) = None

abbrev pub connected : Script → Scope → List Ast → Option Act
connected script scope [] = None
connected script scope (e ∷ []) = Some (any_connected script scope e)
connected script scope (x ∷ y ∷ es) = None

abbrev pub executed : Script → Scope → List Ast → Option Act
executed script scope [] = None
executed script scope (e ∷ []) = None
executed script scope (x ∷ y ∷ []) = Some (act.Execute (tool_of script (name_of x)) (slot_of scope (name_of y)))
executed script scope (x ∷ y ∷ z ∷ es) = None

-- the act of each atom, from its arguments; `None` if their number is wrong, except for `delta`
abbrev pub word_act : Script → Scope → AtomWord → List Ast → Option Act
word_act script scope atom.Delta es = Some act.Delta
word_act script scope atom.Tau es = tau es
word_act script scope atom.Printf es = option_map act.Printf (some_exprs scope es)
word_act script scope atom.SndMsg es = option_map act.SndMsg (some_exprs scope es)
word_act script scope atom.RecMsg es = option_map act.RecMsg (some_exprs scope es)
word_act script scope atom.SndNote es = option_map act.SndNote (some_exprs scope es)
word_act script scope atom.RecNote es = option_map act.RecNote (some_exprs scope es)
word_act script scope atom.NoNote es = option_map act.NoNote (some_exprs scope es)
word_act script scope atom.Subscribe es = option_map act.Subscribe (some_exprs scope es)
word_act script scope atom.Unsubscribe es = option_map act.Unsubscribe (some_exprs scope es)
word_act script scope atom.Execute es = executed script scope es
word_act script scope atom.RecConnect es = connected script scope es
word_act script scope atom.RecDisconnect es = disconnected script scope es
word_act script scope atom.SndEval es = option_map (λ both. act.SndEval both.0 both.1) (two_exprs scope es)
word_act script scope atom.RecValue es = option_map (λ both. act.RecValue both.0 both.1) (two_exprs scope es)
word_act script scope atom.SndDo es = option_map (λ both. act.SndDo both.0 both.1) (two_exprs scope es)
word_act script scope atom.RecEvent es = option_map (λ both. act.RecEvent both.0 both.1) (more_exprs scope es)
word_act script scope atom.SndAckEvent es = option_map (λ both. act.SndAckEvent both.0 both.1) (more_exprs scope es)
word_act script scope atom.SndTerminate es = option_map (λ both. act.SndTerminate both.0 both.1) (two_exprs scope es)
word_act script scope atom.Shutdown es = shutdown scope es

-- the act of an atom; `Delta` if the number of arguments is wrong, which doesn't occur in a well-formed script
abbrev pub act_of_word : Script → Scope → AtomWord → List Ast → Act
act_of_word script scope word es = unwrap_or (word_act script scope word es) act.Delta

abbrev pub act_of_name : Script → Scope → List ℕ → List Ast → Act
act_of_name script scope name es = act_of_word script scope (word_of name) es

abbrev pub act_of : Script → Scope → ActDef → Act
act_of script scope (def.Set name value) = act.Set (slot_of scope name) (expr_of scope value)
act_of script scope (def.Create call variable) =
    act.Create (process_of script call.name) (exprs_of scope call.actuals) (slot_of scope (name_of variable))
act_of script scope (def.Named name arguments) = act_of_name script scope name arguments

abbrev pub kind_of_time : TimeWord → TimeKind
kind_of_time times.Delay = time.Delay
kind_of_time times.Timeout = time.Timeout
kind_of_time times.AbsDelay = time.AbsDelay
kind_of_time times.AbsTimeout = time.AbsTimeout

-- the kind of a time condition. No source parses as a time with another name; such a name counts as `AbsTimeout`.
abbrev pub time_kind : List ℕ → TimeKind
time_kind name = kind_of_time (unwrap_or (time_word name) times.AbsTimeout)

abbrev pub time_of : Scope → TimeDef → Time
time_of scope def = record { kind = time_kind def.name; value = expr_of scope def.value }

abbrev pub atom_of : Script → Scope → AtomDef → Atom
atom_of script scope def = record { act = act_of script scope def.act; times = map (time_of scope) def.times }
