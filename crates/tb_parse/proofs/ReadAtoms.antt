-- The parser reads each spelling of an atom with its time conditions, or of a variable, as this construct.
use Rattle.std.proofs.Common.{◌≡◌, ℕ, zero, suc, ◌+◌, ◌≤◌, ◌<◌, Bool, true, false, List, [], ◌∷◌, ◌++◌, length, refl, ap, sym, ◌∙◌, subst, arith, append_assoc, codes}
use Rattle.std.proofs.lemmas.List.{length-append}
use Rattle.std.specs.Str.{bytes_eq}
use Rattle.tb_lex.specs.declared.kind.TokenKind.{TokenKind}
use Rattle.tb_lex.specs.declared.kind.TokenKind.TheVariants.{Lower, Upper, Symbol as Sign}
use Rattle.tb_lex.specs.declared.symbol.Symbol.TheVariants.{LeftParen, RightParen, Comma, Question, Colon, Assign}
use Rattle.tb_syntax.specs.declared.ast.Ast.{Ast}
use Rattle.tb_syntax.specs.declared.proc.ActDef.{ActDef}
use Rattle.tb_syntax.specs.declared.proc.ActDef.TheVariants as act
use Rattle.tb_syntax.specs.declared.proc.AtomDef.{AtomDef}
use Rattle.tb_syntax.specs.declared.proc.Call.{Call}
use Rattle.tb_syntax.specs.declared.proc.Proc.{Proc}
use Rattle.tb_syntax.specs.declared.proc.Proc.TheVariants as tree
use Rattle.tb_syntax.specs.declared.proc.TimeDef.{TimeDef}
use Rattle.tb_syntax.specs.declared.proc.Var.{Var}
use Rattle.tb_syntax.specs.Spelling.{InRow, SpellsExpr, SpellsArguments, SpellsCall, SpellsAct, SpellsTime, SpellsAtom, SpellsVar}
use Rattle.tb_syntax.specs.AtomWords.{is_atom_word}
use Rattle.tb_parse.specs.Helpers.Parsing.{Parser, Found, after, mapped, begins, is_sign, in_parens, sort, expr, call, create, time, times, timed, is_time, var, upper_proc, lower_proc, prim_of}
use Rattle.tb_parse.proofs.Signs.{same_name}
use Rattle.tb_parse.proofs.ReadParts.{neither, arrives, read, read_last, read_mapped, ReadsIn, Reads}
use Rattle.tb_parse.proofs.ReadSorts.{sort_reads}
use Rattle.tb_parse.proofs.ReadExprs.{on_expr, expr_reads, actuals_read, call_reads}

-- Times.

time_by : (t : TimeDef) (at : ℕ) (vs : List TokenKind) → t.token ≡ at → SpellsExpr (at + 2) t.value vs → (room : ℕ) → length vs ≤ room → (more : List TokenKind)
    → time room at (Lower t.name ∷ Sign LeftParen ∷ ((vs ++ Sign RightParen ∷ []) ++ more)) ≡ Found t (at + length (Lower t.name ∷ Sign LeftParen ∷ (vs ++ Sign RightParen ∷ []))) more
unfolding time
time_by t at vs position d room h more =
    let sum = length-append vs (Sign RightParen ∷ []) in
    let same : record { name = t.name; value = t.value; token = at } ≡ t = ap (λ n. record { name = t.name; value = t.value; token = n }) (sym position) in
    read (expr room) _ {at = at + 2} vs (Sign RightParen ∷ []) more (omega arith) ((expr_reads d).reads room h (Sign RightParen ∷ more) refl) (arrives (omega arith))
    ∙ ap (λ t'. Found t' (at + length (Lower t.name ∷ Sign LeftParen ∷ (vs ++ Sign RightParen ∷ []))) more) same

time_reads : {at : ℕ} {t : TimeDef} {ks : List TokenKind} → SpellsTime at t ks → (room : ℕ) → length ks ≤ room → (more : List TokenKind) → time room at (ks ++ more) ≡ Found t (at + length ks) more
time_reads {at = at} {t = t} {ks = ks} d room h more =
    subst (λ ks. time room at (ks ++ more) ≡ Found t (at + length ks) more) (sym d.is)
    (time_by t at d.value d.position d.is_value room (let sum = length-append d.value (Sign RightParen ∷ []) in let all = ap length d.is in omega arith) more)

time_begins : {at : ℕ} {t : TimeDef} {ks : List TokenKind} → SpellsTime at t ks → (more : List TokenKind) → begins is_time (ks ++ more) ≡ true
time_begins d more = rw d.is d.is_word

time_some : {at : ℕ} {t : TimeDef} {ks : List TokenKind} → SpellsTime at t ks → 1 ≤ length ks
time_some d = let all = ap length d.is in omega arith

pub times_read : {at : ℕ} {ts : List TimeDef} {ks : List TokenKind} → InRow SpellsTime at ts ks → (inner room : ℕ) → length ks < inner → length ks < room → (more : List TokenKind) → begins is_time more ≡ false
    → times inner room at (ks ++ more) ≡ Found ts (at + length ks) more
unfolding times
times_read (InRow.none at) inner zero h i more e = absurd (omega arith)
times_read (InRow.more d ds) inner zero h i more e = absurd (omega arith)
times_read (InRow.none at) inner (suc room) h i more e = rw e (arrives (omega arith))
times_read (InRow.more {at = at} {x = x} {ks = ks} {rest = rest} d ds) inner (suc room) h i more e =
    let sum = length-append ks rest in
    let some = time_some d in
    let starts : begins is_time ((ks ++ rest) ++ more) ≡ true = ap (begins is_time) (append_assoc ks rest more) ∙ time_begins d (rest ++ more) in
    rw starts (read (time inner) _ ks rest more refl (time_reads d inner (omega arith) (rest ++ more))
    (read_mapped (times inner room) (λ ts. x ∷ ts) rest more refl (times_read ds inner room (omega arith) (omega arith) more e) (omega arith)))

-- no time goes on with an expression
times_open : {at : ℕ} {ts : List TimeDef} {ks : List TokenKind} → InRow SpellsTime at ts ks → (more : List TokenKind) → begins on_expr more ≡ false → begins on_expr (ks ++ more) ≡ false
times_open (InRow.none at) more e = e
times_open (InRow.more {ks = ks} {rest = rest} d ds) more e = rw (append_assoc ks rest more, d.is) refl

-- Atoms.

abbrev ActReads : ℕ → ActDef → List TokenKind → Type 0
ActReads at a ks = (whole : Parser Proc) (room : ℕ) → length ks ≤ room → (more : List TokenKind) → begins on_expr more ≡ false → prim_of whole room at (ks ++ more) ≡ timed room at a (at + length ks) more

positioned_timed : (room at : ℕ) (a : ActDef) (more : List TokenKind) {x y : ℕ} → x ≡ y → timed room at a x more ≡ timed room at a y more
positioned_timed room at a more e = ap (λ n. timed room at a n more) e

set_reads : (at : ℕ) (name : List ℕ) (value : Ast) (ks : List TokenKind) → SpellsExpr (at + 2) value ks → ActReads at (act.Set name value) (Upper name ∷ Sign Assign ∷ ks)
unfolding prim_of upper_proc
set_reads at name value ks d whole room h more e =
    let p : Parser ActDef = λ at ks. mapped (act.Set name) (expr room at ks) in
    read_last p (timed room at) {at = at + 2} ks more (omega arith) (ap (λ o. mapped (act.Set name) o) ((expr_reads d).reads room (omega arith) more e)) (positioned_timed room at _ more (omega arith))

create_reads : (at : ℕ) (c : Call) (cs : List TokenKind) (variable : Ast) (ks : List TokenKind) → SpellsCall (at + 2) c cs → SpellsExpr (at + length cs + 3) variable ks → (room : ℕ) → length cs ≤ room → length ks ≤ room
    → (more : List TokenKind) → create room (at + 1) (Sign LeftParen ∷ ((cs ++ Sign Comma ∷ (ks ++ Sign RightParen ∷ [])) ++ more)) ≡ Found (act.Create c variable) (at + length cs + 3 + length ks + 1) more
unfolding create
create_reads at c cs variable ks d f room h i more =
    read (call room) _ {at = at + 2} cs (Sign Comma ∷ (ks ++ Sign RightParen ∷ [])) more (omega arith) ((call_reads d).reads room h (Sign Comma ∷ ((ks ++ Sign RightParen ∷ []) ++ more)) refl)
    (read (expr room) _ {at = at + length cs + 3} ks (Sign RightParen ∷ []) more (omega arith) ((expr_reads f).reads room i (Sign RightParen ∷ more) refl) refl)

abbrev IsOther : List ℕ → Type 0
IsOther name = (bytes_eq name (codes "let") ≡ false) × (bytes_eq name (codes "if") ≡ false) × (bytes_eq name (codes "create") ≡ false)

other_by : (name word : List ℕ) → is_atom_word name ≡ true → is_atom_word word ≡ false → (b : Bool) → bytes_eq name word ≡ b → b ≡ false
other_by name word e f false same = refl
other_by name word e f true same = sym e ∙ ap is_atom_word (same_name name word same) ∙ f

is_other : (name : List ℕ) → is_atom_word name ≡ true → IsOther name
is_other name e = (
  other_by name (codes "let") e refl (bytes_eq name (codes "let")) refl,
  other_by name (codes "if") e refl (bytes_eq name (codes "if")) refl,
  other_by name (codes "create") e refl (bytes_eq name (codes "create")) refl,
)

named_reads : (at : ℕ) (name : List ℕ) (arguments : List Ast) (ks : List TokenKind) → is_atom_word name ≡ true → IsOther name → SpellsArguments (at + 1) arguments ks → ActReads at (act.Named name arguments) (Lower name ∷ ks)
unfolding prim_of lower_proc
named_reads at name arguments ks w n d whole room h more e =
    let p : Parser ActDef = λ at ks. mapped (act.Named name) (in_parens (expr room) room at ks) in
    rw (n.0, n.1, n.2, w)
    (read_last p (timed room at) ks more refl (ap (λ o. mapped (act.Named name) o) (actuals_read d room (omega arith) more (neither (is_sign LeftParen) (is_sign Question) more e).0)) (positioned_timed room at _ more (omega arith)))

act_reads : {at : ℕ} {a : ActDef} {ks : List TokenKind} → SpellsAct at a ks → ActReads at a ks
unfolding prim_of lower_proc
act_reads (SpellsAct.set {at = at} {value = value} {ks = ks} name d) whole room h more e = set_reads at name value ks d whole room h more e
act_reads (SpellsAct.create {at = at} {call = c} {cs = cs} {variable = v} {ks = ks} d f) whole room h more e =
    let sum = length-append cs (Sign Comma ∷ (ks ++ Sign RightParen ∷ [])) in
    let inner = length-append ks (Sign RightParen ∷ []) in
    ap (λ o. after o (timed room at)) (create_reads at c cs v ks d f room (omega arith) (omega arith) more) ∙ positioned_timed room at (act.Create c v) more (omega arith)
act_reads (SpellsAct.named {at = at} {arguments = arguments} {ks = ks} name w d) whole room h more e = named_reads at name arguments ks w (is_other name w) d whole room h more e

act_some : {at : ℕ} {a : ActDef} {ks : List TokenKind} → SpellsAct at a ks → 1 ≤ length ks
act_some (SpellsAct.set name d) = omega arith
act_some (SpellsAct.create d f) = omega arith
act_some (SpellsAct.named name w d) = omega arith

atom_by : (at : ℕ) (a : AtomDef) (bs : List TokenKind) (ts : List TokenKind) → a.token ≡ at → SpellsAct at a.act bs → InRow SpellsTime (at + length bs) a.times ts → (whole : Parser Proc) (room : ℕ) → length bs + length ts ≤ room
    → (more : List TokenKind) → begins on_expr more ≡ false → begins is_time more ≡ false → prim_of whole room at ((bs ++ ts) ++ more) ≡ Found (tree.Atom a) (at + length (bs ++ ts)) more
unfolding timed
atom_by at a bs ts position d f whole room h more e g =
    let some = act_some d in
    let sum = length-append bs ts in
    let made : List TimeDef → Proc = λ found. tree.Atom (record { act = a.act; times = found; token = at }) in
    let same : made a.times ≡ tree.Atom a = ap (λ n. tree.Atom (record { act = a.act; times = a.times; token = n })) (sym position) in
    ap (prim_of whole room at) (append_assoc bs ts more) ∙ act_reads d whole room (omega arith) (ts ++ more) (times_open f more e)
    ∙ read_mapped (times room room) made ts more refl (times_read f room room (omega arith) (omega arith) more g) (omega arith)
    ∙ ap (λ p. Found p (at + length (bs ++ ts)) more) same

-- an atom is read as a whole
pub atom_reads : {at : ℕ} {a : AtomDef} {ks : List TokenKind} → SpellsAtom at a ks → (whole : Parser Proc) (room : ℕ) → length ks ≤ room → (more : List TokenKind) → begins on_expr more ≡ false → begins is_time more ≡ false
    → prim_of whole room at (ks ++ more) ≡ Found (tree.Atom a) (at + length ks) more
atom_reads {at = at} {a = a} {ks = ks} d whole room h more e g =
    let sum = length-append d.act d.times in
    let all = ap length d.is in
    subst (λ ks. prim_of whole room at (ks ++ more) ≡ Found (tree.Atom a) (at + length ks) more) (sym d.is) (atom_by at a d.act d.times d.position d.is_act d.are_times whole room (omega arith) more e g)

pub atom_some : {at : ℕ} {a : AtomDef} {ks : List TokenKind} → SpellsAtom at a ks → 1 ≤ length ks
atom_some d = let some = act_some d.is_act in let sum = length-append d.act d.times in let all = ap length d.is in omega arith

-- Variables.

var_by : (v : Var) (at : ℕ) (ks : List TokenKind) → v.token ≡ at → ((room : ℕ) → length ks ≤ room → (more : List TokenKind) → begins (is_sign LeftParen) more ≡ false → sort room (at + 2) (ks ++ more) ≡ Found (v.sort, v.sort_token) (at + 2 + length ks) more)
    → ReadsIn var (is_sign LeftParen) at v (Upper v.name ∷ Sign Colon ∷ ks)
unfolding var
var_by v at ks position d room h more e =
    let same : record { name = v.name; sort = v.sort; token = at; sort_token = v.sort_token } ≡ v = ap (λ n. record { name = v.name; sort = v.sort; token = n; sort_token = v.sort_token }) (sym position) in
    ap (λ n. mapped (λ found. record { name = v.name; sort = found.0; token = at; sort_token = found.1 }) (sort room n (ks ++ more))) (omega arith)
    ∙ ap (λ o. mapped (λ found. record { name = v.name; sort = found.0; token = at; sort_token = found.1 }) o) (d room (omega arith) more e)
    ∙ arrives (omega arith)
    ∙ ap (λ v'. Found v' (at + length (Upper v.name ∷ Sign Colon ∷ ks)) more) same

pub var_reads : {at : ℕ} {v : Var} {ks : List TokenKind} → SpellsVar at v ks → Reads var (is_sign LeftParen) at v ks
var_reads {at = at} {v = v} d = subst (Reads var (is_sign LeftParen) at v) (sym d.is) (record { some = omega arith; reads = var_by v at d.sort d.position (sort_reads d.is_sort) })
