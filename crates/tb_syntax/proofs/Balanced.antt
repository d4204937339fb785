-- The parentheses of each spelling are balanced.
use Rattle.std.proofs.Common.{◌≡◌, ℕ, zero, suc, ◌+◌, ◌-◌, ◌<◌, ◌≤◌, ◌⊎◌, Bool, true, false, cond, List, [], ◌∷◌, ◌++◌, length, take, Option, Some, None, codes, refl, ap, sym, ◌∙◌, subst, inl, inr, arith, append_assoc, min}
use Rattle.std.proofs.Math.Seq.{take-append-add}
use Rattle.std.proofs.lemmas.Bool.{cases_lt}
use Rattle.std.proofs.lemmas.List.{take-append-le, length-append, length-take}
use Rattle.std.proofs.lemmas.List.Sums.{sum_by-append, count_by-le-length}
use Rattle.tb_terms.specs.declared.sort.Sort.{Sort}
use Rattle.tb_lex.specs.declared.kind.TokenKind.{TokenKind}
use Rattle.tb_lex.specs.declared.kind.TokenKind.TheVariants.{Int, Str, Lower, Upper, Symbol as Sign}
use Rattle.tb_lex.specs.declared.symbol.Symbol.TheVariants.{LeftParen, RightParen, LeftBracket, RightBracket, LeftBrace, RightBrace, Comma, Point, Colon, Assign, Equals, Question, Plus, Star, Bars, Angles, Less, Greater}
use Rattle.tb_syntax.specs.declared.ast.Ast.{Ast}
use Rattle.tb_syntax.specs.declared.ast.AstKind.{AstKind}
use Rattle.tb_syntax.specs.declared.level.Level.{Level}
use Rattle.tb_syntax.specs.declared.proc.ActDef.{ActDef}
use Rattle.tb_syntax.specs.declared.proc.AtomDef.{AtomDef}
use Rattle.tb_syntax.specs.declared.proc.Call.{Call}
use Rattle.tb_syntax.specs.declared.proc.Proc.{Proc}
use Rattle.tb_syntax.specs.declared.proc.TimeDef.{TimeDef}
use Rattle.tb_syntax.specs.declared.proc.Var.{Var}
use Rattle.tb_syntax.specs.declared.script.Formal.{Formal}
use Rattle.tb_syntax.specs.declared.script.ProcDef.{ProcDef}
use Rattle.tb_syntax.specs.declared.script.Script.{Script}
use Rattle.tb_syntax.specs.declared.script.ToolDef.{ToolDef}
use Rattle.tb_syntax.specs.Parens.{is_left_paren, is_right_paren, left_parens, right_parens, IsBalanced, IsEnclosed}
use Rattle.tb_syntax.specs.Spelling.{in_parens, Parted, InRow, InParens, SpellsSort, SpellsKind, SpellsExpr, SpellsArguments, SpellsExprs, SpellsCall, SpellsAct, SpellsTime, SpellsAtom, SpellsVar, SpellsProc, mark, SpellsFormal, SpellsProcDef, command_tokens, SpellsToolDef, SpellsDefinitions, SpellsRoots, Spells}

-- Concatenated sequences.

left-append : (a b : List TokenKind) → left_parens (a ++ b) ≡ left_parens a + left_parens b
left-append a b = sum_by-append (λ k. cond (is_left_paren k) 1 0) a b

right-append : (a b : List TokenKind) → right_parens (a ++ b) ≡ right_parens a + right_parens b
right-append a b = sum_by-append (λ k. cond (is_right_paren k) 1 0) a b

abbrev NoneEarly : List TokenKind → Type 0
NoneEarly ks = right_parens ks ≤ left_parens ks

behind_balanced : (a b : List TokenKind) → right_parens a ≡ left_parens a → NoneEarly b → NoneEarly (a ++ b)
behind_balanced a b e h = rw (right-append a b, left-append a b, e) (omega arith)

-- a prefix that contains all of the first sequence, and a prefix of the other
take_both : (a b : List TokenKind) (count : ℕ) → length a < count → take count (a ++ b) ≡ a ++ take (count - length a) b
take_both a b count h =
    let is : count ≡ length a + (count - length a) = omega arith in
    ap (λ n. take n (a ++ b)) is ∙ take-append-add a b (count - length a)

joined_early : (a b : List TokenKind) → IsBalanced a → IsBalanced b → (count : ℕ) → (length a < count) ⊎ (count ≤ length a) → NoneEarly (take count (a ++ b))
joined_early a b p q count (inl h) = rw (take_both a b count h) (behind_balanced a (take (count - length a) b) p.all_close (q.none_early (count - length a)))
joined_early a b p q count (inr h) = rw (take-append-le count a b h) (p.none_early count)

joined : (a b : List TokenKind) → IsBalanced a → IsBalanced b → IsBalanced (a ++ b)
joined a b p q = record {
  all_close = rw (right-append a b, left-append a b, p.all_close, q.all_close) refl;
  none_early = λ count. joined_early a b p q count (cases_lt (length a) count);
}

empty : IsBalanced []
empty = record { all_close = refl; none_early = λ count. none count } where
  none : (count : ℕ) → NoneEarly (take count [])
  none zero = omega arith
  none (suc count) = omega arith

-- a token that is no parenthesis
abbrev IsOther : TokenKind → Type 0
IsOther k = (is_left_paren k ≡ false) × (is_right_paren k ≡ false)

single_early : (k : TokenKind) → IsOther k → (count : ℕ) → NoneEarly (take count (k ∷ []))
single_early k p zero = omega arith
single_early k p (suc zero) = rw (p.0, p.1) (omega arith)
single_early k p (suc (suc count)) = rw (p.0, p.1) (omega arith)

single : (k : TokenKind) → IsOther k → IsBalanced (k ∷ [])
single k p = record { all_close = rw (p.0, p.1) refl; none_early = single_early k p }

behind : (k : TokenKind) (ks : List TokenKind) → IsOther k → IsBalanced ks → IsBalanced (k ∷ ks)
behind k ks p q = joined (k ∷ []) ks (single k p) q

apart : (a : List TokenKind) (k : TokenKind) (b : List TokenKind) → IsOther k → IsBalanced a → IsBalanced b → IsBalanced (a ++ k ∷ b)
apart a k b p q r = joined a (k ∷ b) q (behind k b p r)

-- Tokens in parentheses.

abbrev closed : List TokenKind → List TokenKind
closed ks = ks ++ Sign RightParen ∷ []

left-open : (ks : List TokenKind) → left_parens (Sign LeftParen ∷ ks) ≡ 1 + left_parens ks
left-open ks = left-append (Sign LeftParen ∷ []) ks

-- at most one parenthesis closes without an open one
closed_by : (ks : List TokenKind) → IsBalanced ks → (count : ℕ) → (length ks < count) ⊎ (count ≤ length ks) → right_parens (take count (closed ks)) ≤ 1 + left_parens (take count (closed ks))
closed_by ks p count (inl h) =
    let rest = take (count - length ks) (Sign RightParen ∷ []) in
    let most : right_parens rest ≤ length rest = count_by-le-length is_right_paren rest in
    let short : length rest ≡ min (count - length ks) 1 = length-take (count - length ks) (Sign RightParen ∷ []) in
    let few : right_parens rest ≤ 1 = omega arith in
    rw (take_both ks (Sign RightParen ∷ []) count h, right-append ks rest, left-append ks rest, p.all_close) (omega arith)
closed_by ks p count (inr h) =
    let early : NoneEarly (take count ks) = p.none_early count in
    rw (take-append-le count ks (Sign RightParen ∷ []) h) (omega arith)

parens_early : (ks : List TokenKind) → IsBalanced ks → (count : ℕ) → NoneEarly (take count (in_parens ks))
parens_early ks p zero = omega arith
parens_early ks p (suc count) = rw (left-open (take count (closed ks))) (closed_by ks p count (cases_lt (length ks) count))

parens_close : (ks : List TokenKind) → IsBalanced ks → right_parens (in_parens ks) ≡ left_parens (in_parens ks)
parens_close ks p = rw (left-open (closed ks), right-append ks (Sign RightParen ∷ []), left-append ks (Sign RightParen ∷ []), p.all_close) (omega arith)

in_parens_balanced : (ks : List TokenKind) → IsBalanced ks → IsBalanced (in_parens ks)
in_parens_balanced ks p = record { all_close = parens_close ks p; none_early = parens_early ks p }

parens_open : (ks : List TokenKind) → IsBalanced ks → (count : ℕ) → 0 < count → count < length (in_parens ks) → right_parens (take count (in_parens ks)) < left_parens (take count (in_parens ks))
parens_open ks p zero h i = absurd (omega arith)
parens_open ks p (suc count) h i =
    let long : length (closed ks) ≡ length ks + 1 = length-append ks (Sign RightParen ∷ []) in
    let within : count ≤ length ks = omega arith in
    let early : NoneEarly (take count ks) = p.none_early count in
    rw (left-open (take count (closed ks)), take-append-le count ks (Sign RightParen ∷ []) within) (omega arith)

pub in_parens_enclosed : (ks : List TokenKind) → IsBalanced ks → IsEnclosed (in_parens ks)
in_parens_enclosed ks p = record { all_close = parens_close ks p; open_between = parens_open ks p }

-- Each construct.

abbrev Balances : {A : Type 0} → (ℕ → A → List TokenKind → Type 0) → Type 0
Balances {A} Spells = (at : ℕ) (x : A) (ks : List TokenKind) → Spells at x ks → IsBalanced ks

parted_balanced : {A : Type 0} {Spells : ℕ → A → List TokenKind → Type 0} {at : ℕ} {xs : List A} {ks : List TokenKind} → Balances Spells → Parted Spells at xs ks → IsBalanced ks
parted_balanced h (Parted.last d) = h _ _ _ d
parted_balanced h (Parted.more {ks = ks} {rest = rest} d ds) = apart ks (Sign Comma) rest (refl, refl) (h _ _ _ d) (parted_balanced h ds)

in_row_balanced : {A : Type 0} {Spells : ℕ → A → List TokenKind → Type 0} {at : ℕ} {xs : List A} {ks : List TokenKind} → Balances Spells → InRow Spells at xs ks → IsBalanced ks
in_row_balanced h (InRow.none at) = empty
in_row_balanced h (InRow.more {ks = ks} {rest = rest} d ds) = joined ks rest (h _ _ _ d) (in_row_balanced h ds)

some_balanced : {A : Type 0} {Spells : ℕ → A → List TokenKind → Type 0} {at : ℕ} {xs : List A} {ks : List TokenKind} → Balances Spells → InParens Spells at xs ks → IsBalanced ks
some_balanced h (InParens.none at) = empty
some_balanced h (InParens.some {ks = ks} d) = in_parens_balanced ks (parted_balanced h d)

sort_balanced : {at : ℕ} {s : Sort} {inner : ℕ} {ks : List TokenKind} → SpellsSort at s inner ks → IsBalanced ks
sort_balanced (SpellsSort.plain {name = name} at w) = single (Lower name) (refl, refl)
sort_balanced (SpellsSort.list_of {ks = ks} d) = behind (Lower (codes "list")) (in_parens ks) (refl, refl) (in_parens_balanced ks (sort_balanced d))
sort_balanced (SpellsSort.tool at name free other) = single (Lower name) (refl, refl)

mutual
  kind_balanced : {at : ℕ} {kind : AstKind} {ks : List TokenKind} → SpellsKind at kind ks → IsBalanced ks
  kind_balanced (SpellsKind.numeral at n) = single (Int n) (refl, refl)
  kind_balanced (SpellsKind.string at text) = single (Str text) (refl, refl)
  kind_balanced (SpellsKind.appl {ks = ks} name free d) = behind (Lower name) ks (refl, refl) (arguments_balanced d)
  kind_balanced (SpellsKind.variable at name) = single (Upper name) (refl, refl)
  kind_balanced (SpellsKind.result at name) = behind (Upper name) _ (refl, refl) (single (Sign Question) (refl, refl))
  kind_balanced (SpellsKind.empty at) = behind (Sign LeftBracket) _ (refl, refl) (single (Sign RightBracket) (refl, refl))
  kind_balanced (SpellsKind.list {ks = ks} d) = behind (Sign LeftBracket) _ (refl, refl) (apart ks (Sign RightBracket) [] (refl, refl) (exprs_balanced d) empty)
  kind_balanced (SpellsKind.hole {name = name} at w) = behind (Sign Less) _ (refl, refl) (behind (Lower name) _ (refl, refl) (single (Sign Greater) (refl, refl)))

  expr_balanced : {at : ℕ} {x : Ast} {ks : List TokenKind} → SpellsExpr at x ks → IsBalanced ks
  expr_balanced (SpellsExpr.expr d) = kind_balanced d

  arguments_balanced : {at : ℕ} {xs : List Ast} {ks : List TokenKind} → SpellsArguments at xs ks → IsBalanced ks
  arguments_balanced (SpellsArguments.none at) = empty
  arguments_balanced (SpellsArguments.some {ks = ks} d) = in_parens_balanced ks (exprs_balanced d)

  exprs_balanced : {at : ℕ} {xs : List Ast} {ks : List TokenKind} → SpellsExprs at xs ks → IsBalanced ks
  exprs_balanced (SpellsExprs.last d) = expr_balanced d
  exprs_balanced (SpellsExprs.more {ks = ks} {rest = rest} d ds) = apart ks (Sign Comma) rest (refl, refl) (expr_balanced d) (exprs_balanced ds)

call_balanced : (at : ℕ) (call : Call) (ks : List TokenKind) → SpellsCall at call ks → IsBalanced ks
call_balanced at call ks d = subst IsBalanced (sym d.is) (behind (Upper call.name) d.actuals (refl, refl) (arguments_balanced d.are_actuals))

act_balanced : {at : ℕ} {act : ActDef} {ks : List TokenKind} → SpellsAct at act ks → IsBalanced ks
act_balanced (SpellsAct.set {ks = ks} name d) = behind (Upper name) _ (refl, refl) (behind (Sign Assign) ks (refl, refl) (expr_balanced d))
act_balanced (SpellsAct.create {cs = cs} {ks = ks} c d) =
    let inner : IsBalanced (cs ++ Sign Comma ∷ ks) = apart cs (Sign Comma) ks (refl, refl) (call_balanced _ _ _ c) (expr_balanced d) in
    behind (Lower (codes "create")) _ (refl, refl)
    (subst IsBalanced (ap (λ ms. Sign LeftParen ∷ ms) (append_assoc cs (Sign Comma ∷ ks) (Sign RightParen ∷ []))) (in_parens_balanced (cs ++ Sign Comma ∷ ks) inner))
act_balanced (SpellsAct.named {ks = ks} name w d) = behind (Lower name) ks (refl, refl) (arguments_balanced d)

time_balanced : (at : ℕ) (time : TimeDef) (ks : List TokenKind) → SpellsTime at time ks → IsBalanced ks
time_balanced at time ks d = subst IsBalanced (sym d.is) (behind (Lower time.name) _ (refl, refl) (in_parens_balanced d.value (expr_balanced d.is_value)))

atom_balanced : (at : ℕ) (atom : AtomDef) (ks : List TokenKind) → SpellsAtom at atom ks → IsBalanced ks
atom_balanced at atom ks d = subst IsBalanced (sym d.is) (joined d.act d.times (act_balanced d.is_act) (in_row_balanced time_balanced d.are_times))

var_balanced : (at : ℕ) (var : Var) (ks : List TokenKind) → SpellsVar at var ks → IsBalanced ks
var_balanced at var ks d = subst IsBalanced (sym d.is) (behind (Upper var.name) _ (refl, refl) (behind (Sign Colon) d.sort (refl, refl) (sort_balanced d.is_sort)))

pub proc_balanced : {at : Level} {position : ℕ} {p : Proc} {kinds : List TokenKind} → SpellsProc at position p kinds → IsBalanced kinds
proc_balanced (SpellsProc.one_par d) = proc_balanced d
proc_balanced (SpellsProc.disrupt {xs = xs} {ys = ys} d f) = apart xs (Sign Angles) ys (refl, refl) (proc_balanced d) (proc_balanced f)
proc_balanced (SpellsProc.one_alt d) = proc_balanced d
proc_balanced (SpellsProc.par {xs = xs} {ys = ys} d f) = apart xs (Sign Bars) ys (refl, refl) (proc_balanced d) (proc_balanced f)
proc_balanced (SpellsProc.one_seq d) = proc_balanced d
proc_balanced (SpellsProc.choice {xs = xs} {ys = ys} d f) = apart xs (Sign Plus) ys (refl, refl) (proc_balanced d) (proc_balanced f)
proc_balanced (SpellsProc.one_star d) = proc_balanced d
proc_balanced (SpellsProc.sequence {xs = xs} {ys = ys} d f) = apart xs (Sign Point) ys (refl, refl) (proc_balanced d) (proc_balanced f)
proc_balanced (SpellsProc.one_prim d) = proc_balanced d
proc_balanced (SpellsProc.turns {xs = xs} {ys = ys} d f) = apart xs (Sign Star) ys (refl, refl) (proc_balanced d) (proc_balanced f)
proc_balanced (SpellsProc.parens {xs = xs} d) = in_parens_balanced xs (proc_balanced d)
proc_balanced (SpellsProc.atom d) = atom_balanced _ _ _ d
proc_balanced (SpellsProc.call d) = call_balanced _ _ _ d
proc_balanced (SpellsProc.block {vs = vs} {xs = xs} v d) =
    behind (Lower (codes "let")) _ (refl, refl)
    (apart vs (Lower (codes "in")) _ (refl, refl) (parted_balanced var_balanced v) (apart xs (Lower (codes "endlet")) [] (refl, refl) (proc_balanced d) empty))
proc_balanced (SpellsProc.test {es = es} {xs = xs} e d) =
    behind (Lower (codes "if")) _ (refl, refl)
    (apart es (Lower (codes "then")) _ (refl, refl) (expr_balanced e) (apart xs (Lower (codes "fi")) [] (refl, refl) (proc_balanced d) empty))
proc_balanced (SpellsProc.test_else {es = es} {xs = xs} {ys = ys} e d f) =
    behind (Lower (codes "if")) _ (refl, refl)
    (apart es (Lower (codes "then")) _ (refl, refl) (expr_balanced e) (apart xs (Lower (codes "else")) _ (refl, refl) (proc_balanced d) (apart ys (Lower (codes "fi")) [] (refl, refl) (proc_balanced f) empty)))

mark_balanced : (result : Bool) → IsBalanced (mark result)
mark_balanced true = single (Sign Question) (refl, refl)
mark_balanced false = empty

formal_balanced : (at : ℕ) (formal : Formal) (ks : List TokenKind) → SpellsFormal at formal ks → IsBalanced ks
formal_balanced at formal ks d =
    subst IsBalanced (sym d.is)
    (behind (Upper formal.name) _ (refl, refl) (behind (Sign Colon) _ (refl, refl) (joined d.sort (mark formal.result) (sort_balanced d.is_sort) (mark_balanced formal.result))))

proc_def_balanced : (at : ℕ) (definition : ProcDef) (ks : List TokenKind) → SpellsProcDef at definition ks → IsBalanced ks
proc_def_balanced at definition ks d =
    subst IsBalanced (sym d.is)
    (behind (Lower (codes "process")) _ (refl, refl)
    (behind (Upper definition.name) _ (refl, refl)
    (apart d.formals (Lower (codes "is")) d.body (refl, refl) (some_balanced formal_balanced d.are_formals) (proc_balanced d.is_body))))

command_balanced : (command : Option (List ℕ)) → IsBalanced (command_tokens command)
command_balanced None = empty
command_balanced (Some text) = behind (Lower (codes "command")) _ (refl, refl) (behind (Sign Equals) _ (refl, refl) (single (Str text) (refl, refl)))

tool_def_balanced : (at : ℕ) (definition : ToolDef) (ks : List TokenKind) → SpellsToolDef at definition ks → IsBalanced ks
tool_def_balanced at definition ks d =
    subst IsBalanced (sym d.is)
    (behind (Lower (codes "tool")) _ (refl, refl)
    (behind (Lower definition.name) _ (refl, refl)
    (behind (Lower (codes "is")) _ (refl, refl)
    (behind (Sign LeftBrace) _ (refl, refl) (apart (command_tokens definition.command) (Sign RightBrace) [] (refl, refl) (command_balanced definition.command) empty)))))

definitions_balanced : {at : ℕ} {procs : List ProcDef} {tools : List ToolDef} {ks : List TokenKind} → SpellsDefinitions at procs tools ks → IsBalanced ks
definitions_balanced (SpellsDefinitions.none at) = empty
definitions_balanced (SpellsDefinitions.process {ks = ks} {rest = rest} d ds) = joined ks rest (proc_def_balanced _ _ _ d) (definitions_balanced ds)
definitions_balanced (SpellsDefinitions.tool {ks = ks} {rest = rest} d ds) = joined ks rest (tool_def_balanced _ _ _ d) (definitions_balanced ds)

roots_balanced : {at : ℕ} {calls : List Call} {ks : List TokenKind} → SpellsRoots at calls ks → IsBalanced ks
roots_balanced (SpellsRoots.none at) = empty
roots_balanced (SpellsRoots.some d) = parted_balanced call_balanced d

pub each_proc_balances : (at : Level) (position : ℕ) (p : Proc) (kinds : List TokenKind) → SpellsProc at position p kinds → IsBalanced kinds
each_proc_balances at position p kinds d = proc_balanced d

pub each_script_balances : (script : Script) (kinds : List TokenKind) → Spells script kinds → IsBalanced kinds
each_script_balances script kinds d =
    subst IsBalanced (sym d.is)
    (apart d.definitions (Lower (codes "toolbus")) (in_parens d.roots) (refl, refl) (definitions_balanced d.are_definitions) (in_parens_balanced d.roots (roots_balanced d.are_roots)))
