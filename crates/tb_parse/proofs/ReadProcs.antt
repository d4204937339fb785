-- The parser reads each spelling of a process, at each level, as this process.
use Rattle.std.proofs.Common.{◌≡◌, ℕ, zero, suc, ◌+◌, ◌≤◌, ◌<◌, Bool, false, List, [], ◌∷◌, ◌++◌, length, Some, None, refl, ap, sym, ◌∙◌, subst, arith, append_assoc, codes}
use Rattle.std.proofs.lemmas.List.{length-append}
use Rattle.tb_lex.specs.declared.kind.TokenKind.{TokenKind}
use Rattle.tb_lex.specs.declared.kind.TokenKind.TheVariants.{Lower, Upper, Symbol as Sign}
use Rattle.tb_lex.specs.declared.symbol.Symbol.{Symbol}
use Rattle.tb_lex.specs.declared.symbol.Symbol.TheVariants.{LeftParen, RightParen, Point, Question, Assign, Plus, Star, Bars, Angles}
use Rattle.tb_syntax.specs.declared.ast.Ast.{Ast}
use Rattle.tb_syntax.specs.declared.level.Level.{Level}
use Rattle.tb_syntax.specs.declared.level.Level.TheVariants as level
use Rattle.tb_syntax.specs.declared.proc.AtomDef.{AtomDef}
use Rattle.tb_syntax.specs.declared.proc.Call.{Call}
use Rattle.tb_syntax.specs.declared.proc.Proc.{Proc}
use Rattle.tb_syntax.specs.declared.proc.Proc.TheVariants as tree
use Rattle.tb_syntax.specs.declared.proc.Var.{Var}
use Rattle.tb_syntax.specs.Spelling.{Parted, SpellsExpr, SpellsArguments, SpellsCall, SpellsAtom, SpellsProc}
use Rattle.tb_parse.specs.Helpers.Parsing.{Parser, Found, after, mapped, begins, is_sign, parted, expr, is_time, var, upper_proc, block, sides, conditional, lower_proc, prim_of, rightward, leftward, turns, sequence, choice, merge, transfer, prim, proc}
use Rattle.tb_parse.proofs.Signs.{its_own}
use Rattle.tb_parse.proofs.ReadParts.{either, neither, arrives, read, read_last, Reads, parted_map, parted_reads}
use Rattle.tb_parse.proofs.ReadExprs.{on_expr, expr_reads, call_of_reads}
use Rattle.tb_parse.proofs.ReadAtoms.{atom_reads, var_reads}

-- The tokens that can continue a process, at each level.

abbrev on_prim : TokenKind → Bool
on_prim = either on_expr (either (is_sign Assign) is_time)

abbrev on_star : TokenKind → Bool
on_star = either (is_sign Star) on_prim

abbrev on_seq : TokenKind → Bool
on_seq = either (is_sign Point) on_star

abbrev on_alt : TokenKind → Bool
on_alt = either (is_sign Plus) on_seq

abbrev on_par : TokenKind → Bool
on_par = either (is_sign Bars) on_alt

abbrev pub on_proc : TokenKind → Bool
on_proc = either (is_sign Angles) on_par

-- Processes with an operator between them.

right_last : (sign : Symbol) (join : Proc → Proc → Proc) (item : Parser Proc) (at : ℕ) (x : Proc) (xs : List TokenKind) (room : ℕ) → length xs < room → (more : List TokenKind)
    → item at (xs ++ more) ≡ Found x (at + length xs) more → begins (is_sign sign) more ≡ false → rightward sign join item room at (xs ++ more) ≡ Found x (at + length xs) more
unfolding rightward
right_last sign join item at x xs zero h more e f = absurd (omega arith)
right_last sign join item at x xs (suc room) h more e f = read_last item _ xs more refl e (rw f refl)

right_more : (sign : Symbol) (join : Proc → Proc → Proc) (item : Parser Proc) (at : ℕ) (x y : Proc) (xs ys : List TokenKind) (room : ℕ) → length (xs ++ Sign sign ∷ ys) < room → (more : List TokenKind)
    → item at (xs ++ Sign sign ∷ (ys ++ more)) ≡ Found x (at + length xs) (Sign sign ∷ (ys ++ more))
    → ((n : ℕ) → length ys < n → rightward sign join item n (at + length xs + 1) (ys ++ more) ≡ Found y (at + length xs + 1 + length ys) more)
    → rightward sign join item room at ((xs ++ Sign sign ∷ ys) ++ more) ≡ Found (join x y) (at + length (xs ++ Sign sign ∷ ys)) more
unfolding rightward
right_more sign join item at x y xs ys zero h more e f = absurd (omega arith)
right_more sign join item at x y xs ys (suc room) h more e f =
    let sum = length-append xs (Sign sign ∷ ys) in
    read item _ xs (Sign sign ∷ ys) more refl e (rw (its_own sign) (ap (λ o. mapped (join x) o) (f room (omega arith)) ∙ arrives (omega arith)))

-- With enough room, and no token after it that can continue it, a process is read at its level. For one with stars, the claim says
-- what is left to read.
abbrev At : Level → ℕ → Proc → List TokenKind → Type 0
At level.Prim at x xs = (room : ℕ) → length xs < room → (more : List TokenKind) → begins on_prim more ≡ false → prim room at (xs ++ more) ≡ Found x (at + length xs) more
At level.Star at x xs = (inner room : ℕ) → length xs < inner → length xs < room → (more : List TokenKind) → begins on_prim more ≡ false
    → (left : ℕ) × (room ≤ left + length xs) × (turns (prim inner) room at (xs ++ more) ≡ leftward (prim inner) left x (at + length xs) more)
At level.Seq at x xs = (inner wide room : ℕ) → length xs < inner → length xs < wide → length xs < room → (more : List TokenKind) → begins on_seq more ≡ false
    → rightward Point tree.Seq (turns (prim inner) wide) room at (xs ++ more) ≡ Found x (at + length xs) more
At level.Alt at x xs = (inner wide room : ℕ) → length xs < inner → length xs < wide → length xs < room → (more : List TokenKind) → begins on_alt more ≡ false
    → rightward Plus tree.Alt (sequence (prim inner) wide) room at (xs ++ more) ≡ Found x (at + length xs) more
At level.Par at x xs = (inner wide room : ℕ) → length xs < inner → length xs < wide → length xs < room → (more : List TokenKind) → begins on_par more ≡ false
    → rightward Bars tree.Par (choice (prim inner) wide) room at (xs ++ more) ≡ Found x (at + length xs) more
At level.Proc at x xs = (inner wide room : ℕ) → length xs < inner → length xs < wide → length xs < room → (more : List TokenKind) → begins on_proc more ≡ false
    → rightward Angles tree.Disrupt (merge (prim inner) wide) room at (xs ++ more) ≡ Found x (at + length xs) more

-- one with stars, as a whole
ended : (item : Parser Proc) (left n m : ℕ) (x : Proc) (at : ℕ) (more : List TokenKind) → n < m → m ≤ left + n → begins (is_sign Star) more ≡ false → leftward item left x at more ≡ Found x at more
unfolding leftward
ended item zero n m x at more h i e = absurd (omega arith)
ended item (suc left) n m x at more h i e = rw e refl

star_whole : (at : ℕ) (x : Proc) (xs : List TokenKind) → At level.Star at x xs → (inner room : ℕ) → length xs < inner → length xs < room → (more : List TokenKind) → begins on_star more ≡ false
    → turns (prim inner) room at (xs ++ more) ≡ Found x (at + length xs) more
star_whole at x xs d inner room h i more e =
    let parts = neither (is_sign Star) on_prim more e in
    let r = d inner room h i more parts.1 in
    r.2 ∙ ended (prim inner) r.0 (length xs) room x (at + length xs) more i r.1 parts.0

turned : (inner left : ℕ) (at : ℕ) (x y : Proc) (xs ys : List TokenKind) (room : ℕ) → length (xs ++ Sign Star ∷ ys) < inner → length (xs ++ Sign Star ∷ ys) < room → (more : List TokenKind) → begins on_prim more ≡ false
    → room ≤ left + length xs → turns (prim inner) room at (xs ++ Sign Star ∷ (ys ++ more)) ≡ leftward (prim inner) left x (at + length xs) (Sign Star ∷ (ys ++ more)) → At level.Prim (at + length xs + 1) y ys
    → (l : ℕ) × (room ≤ l + length (xs ++ Sign Star ∷ ys)) × (turns (prim inner) room at ((xs ++ Sign Star ∷ ys) ++ more) ≡ leftward (prim inner) l (tree.Star x y) (at + length (xs ++ Sign Star ∷ ys)) more)
unfolding leftward
turned inner zero at x y xs ys room h i more e b eq d = let sum = length-append xs (Sign Star ∷ ys) in absurd (omega arith)
turned inner (suc left) at x y xs ys room h i more e b eq d =
    let sum = length-append xs (Sign Star ∷ ys) in (
      left,
      omega arith,
      ap (turns (prim inner) room at) (append_assoc xs (Sign Star ∷ ys) more) ∙ eq
          ∙ ap (λ o. after o (λ z. leftward (prim inner) left (tree.Star x z))) (d inner (omega arith) more e)
          ∙ ap (λ n. leftward (prim inner) left (tree.Star x y) n more) (omega arith),
    )

star_more : (at : ℕ) (x y : Proc) (xs ys : List TokenKind) → At level.Star at x xs → At level.Prim (at + length xs + 1) y ys → At level.Star at (tree.Star x y) (xs ++ Sign Star ∷ ys)
star_more at x y xs ys d f inner room h i more e =
    let sum = length-append xs (Sign Star ∷ ys) in
    let r = d inner room (omega arith) (omega arith) (Sign Star ∷ (ys ++ more)) refl in
    turned inner r.0 at x y xs ys room h i more e r.1 r.2 f

star_one : (at : ℕ) (x : Proc) (xs : List TokenKind) → At level.Prim at x xs → At level.Star at x xs
unfolding turns
star_one at x xs d inner room h i more e = (room, omega arith, ap (λ o. after o (leftward (prim inner) room)) (d inner h more e))

seq_one : (at : ℕ) (x : Proc) (xs : List TokenKind) → At level.Star at x xs → At level.Seq at x xs
seq_one at x xs d inner wide room h i j more e =
    let parts = neither (is_sign Point) on_star more e in
    right_last Point tree.Seq (turns (prim inner) wide) at x xs room j more (star_whole at x xs d inner wide h i more parts.1) parts.0

seq_more : (at : ℕ) (x y : Proc) (xs ys : List TokenKind) → At level.Star at x xs → At level.Seq (at + length xs + 1) y ys → At level.Seq at (tree.Seq x y) (xs ++ Sign Point ∷ ys)
seq_more at x y xs ys d f inner wide room h i j more e =
    let sum = length-append xs (Sign Point ∷ ys) in
    right_more Point tree.Seq (turns (prim inner) wide) at x y xs ys room j more (star_whole at x xs d inner wide (omega arith) (omega arith) (Sign Point ∷ (ys ++ more)) refl)
    (λ n k. f inner wide n (omega arith) (omega arith) k more e)

seq_whole : (at : ℕ) (x : Proc) (xs : List TokenKind) → At level.Seq at x xs → (inner wide : ℕ) → length xs < inner → length xs < wide → (more : List TokenKind) → begins on_seq more ≡ false
    → sequence (prim inner) wide at (xs ++ more) ≡ Found x (at + length xs) more
unfolding sequence
seq_whole at x xs d inner wide h i more e = d inner wide wide h i i more e

alt_one : (at : ℕ) (x : Proc) (xs : List TokenKind) → At level.Seq at x xs → At level.Alt at x xs
alt_one at x xs d inner wide room h i j more e =
    let parts = neither (is_sign Plus) on_seq more e in
    right_last Plus tree.Alt (sequence (prim inner) wide) at x xs room j more (seq_whole at x xs d inner wide h i more parts.1) parts.0

alt_more : (at : ℕ) (x y : Proc) (xs ys : List TokenKind) → At level.Seq at x xs → At level.Alt (at + length xs + 1) y ys → At level.Alt at (tree.Alt x y) (xs ++ Sign Plus ∷ ys)
alt_more at x y xs ys d f inner wide room h i j more e =
    let sum = length-append xs (Sign Plus ∷ ys) in
    right_more Plus tree.Alt (sequence (prim inner) wide) at x y xs ys room j more (seq_whole at x xs d inner wide (omega arith) (omega arith) (Sign Plus ∷ (ys ++ more)) refl)
    (λ n k. f inner wide n (omega arith) (omega arith) k more e)

alt_whole : (at : ℕ) (x : Proc) (xs : List TokenKind) → At level.Alt at x xs → (inner wide : ℕ) → length xs < inner → length xs < wide → (more : List TokenKind) → begins on_alt more ≡ false
    → choice (prim inner) wide at (xs ++ more) ≡ Found x (at + length xs) more
unfolding choice
alt_whole at x xs d inner wide h i more e = d inner wide wide h i i more e

par_one : (at : ℕ) (x : Proc) (xs : List TokenKind) → At level.Alt at x xs → At level.Par at x xs
par_one at x xs d inner wide room h i j more e =
    let parts = neither (is_sign Bars) on_alt more e in
    right_last Bars tree.Par (choice (prim inner) wide) at x xs room j more (alt_whole at x xs d inner wide h i more parts.1) parts.0

par_more : (at : ℕ) (x y : Proc) (xs ys : List TokenKind) → At level.Alt at x xs → At level.Par (at + length xs + 1) y ys → At level.Par at (tree.Par x y) (xs ++ Sign Bars ∷ ys)
par_more at x y xs ys d f inner wide room h i j more e =
    let sum = length-append xs (Sign Bars ∷ ys) in
    right_more Bars tree.Par (choice (prim inner) wide) at x y xs ys room j more (alt_whole at x xs d inner wide (omega arith) (omega arith) (Sign Bars ∷ (ys ++ more)) refl)
    (λ n k. f inner wide n (omega arith) (omega arith) k more e)

par_whole : (at : ℕ) (x : Proc) (xs : List TokenKind) → At level.Par at x xs → (inner wide : ℕ) → length xs < inner → length xs < wide → (more : List TokenKind) → begins on_par more ≡ false
    → merge (prim inner) wide at (xs ++ more) ≡ Found x (at + length xs) more
unfolding merge
par_whole at x xs d inner wide h i more e = d inner wide wide h i i more e

proc_one : (at : ℕ) (x : Proc) (xs : List TokenKind) → At level.Par at x xs → At level.Proc at x xs
proc_one at x xs d inner wide room h i j more e =
    let parts = neither (is_sign Angles) on_par more e in
    right_last Angles tree.Disrupt (merge (prim inner) wide) at x xs room j more (par_whole at x xs d inner wide h i more parts.1) parts.0

proc_more : (at : ℕ) (x y : Proc) (xs ys : List TokenKind) → At level.Par at x xs → At level.Proc (at + length xs + 1) y ys → At level.Proc at (tree.Disrupt x y) (xs ++ Sign Angles ∷ ys)
proc_more at x y xs ys d f inner wide room h i j more e =
    let sum = length-append xs (Sign Angles ∷ ys) in
    right_more Angles tree.Disrupt (merge (prim inner) wide) at x y xs ys room j more (par_whole at x xs d inner wide (omega arith) (omega arith) (Sign Angles ∷ (ys ++ more)) refl)
    (λ n k. f inner wide n (omega arith) (omega arith) k more e)

transfer_reads : (at : ℕ) (x : Proc) (xs : List TokenKind) → At level.Proc at x xs → (inner wide : ℕ) → length xs < inner → length xs < wide → (more : List TokenKind) → begins on_proc more ≡ false
    → transfer (prim inner) wide at (xs ++ more) ≡ Found x (at + length xs) more
unfolding transfer
transfer_reads at x xs d inner wide h i more e = d inner wide wide h i i more e

-- Constructs of level `Prim`.

prim_by : (at : ℕ) (x : Proc) (xs : List TokenKind)
    → ((room : ℕ) → length xs ≤ room → (more : List TokenKind) → begins on_prim more ≡ false → prim_of (transfer (prim room) room) room at (xs ++ more) ≡ Found x (at + length xs) more) → At level.Prim at x xs
unfolding prim
prim_by at x xs h zero i more e = absurd (omega arith)
prim_by at x xs h (suc room) i more e = h room (omega arith) more e

abbrev Whole : ℕ → Parser Proc
Whole room = transfer (prim room) room

abbrev PrimOf : ℕ → Proc → List TokenKind → Type 0
PrimOf at x xs = (room : ℕ) → length xs ≤ room → (more : List TokenKind) → begins on_prim more ≡ false → prim_of (Whole room) room at (xs ++ more) ≡ Found x (at + length xs) more

abbrev parens : List TokenKind → List TokenKind
parens xs = Sign LeftParen ∷ (xs ++ Sign RightParen ∷ [])

abbrev block_tokens : List TokenKind → List TokenKind → List TokenKind
block_tokens vs xs = Lower (codes "let") ∷ (vs ++ Lower (codes "in") ∷ (xs ++ Lower (codes "endlet") ∷ []))

abbrev test_tokens : List TokenKind → List TokenKind → List TokenKind
test_tokens es xs = Lower (codes "if") ∷ (es ++ Lower (codes "then") ∷ (xs ++ Lower (codes "fi") ∷ []))

abbrev else_tokens : List TokenKind → List TokenKind → List TokenKind → List TokenKind
else_tokens es xs ys = Lower (codes "if") ∷ (es ++ Lower (codes "then") ∷ (xs ++ Lower (codes "else") ∷ (ys ++ Lower (codes "fi") ∷ [])))

parens_reads : (at : ℕ) (x : Proc) (xs : List TokenKind) → At level.Proc (at + 1) x xs → PrimOf at x (parens xs)
unfolding prim_of
parens_reads at x xs d room h more e =
    let sum = length-append xs (Sign RightParen ∷ []) in
    read (Whole room) _ xs (Sign RightParen ∷ []) more refl (transfer_reads (at + 1) x xs d room room (omega arith) (omega arith) (Sign RightParen ∷ more) refl) (arrives (omega arith))

arguments_open : {at : ℕ} {xs : List Ast} {ks : List TokenKind} → SpellsArguments at xs ks → (more : List TokenKind) → begins (is_sign Assign) more ≡ false → begins (is_sign Assign) (ks ++ more) ≡ false
arguments_open (SpellsArguments.none at) more e = e
arguments_open (SpellsArguments.some ds) more e = refl

call_by : (at : ℕ) (c : Call) (ks : List TokenKind) → c.token ≡ at → SpellsArguments (at + 1) c.actuals ks → PrimOf at (tree.Call c) (Upper c.name ∷ ks)
unfolding prim_of upper_proc
call_by at c ks position d room h more e =
    let parts = neither on_expr (either (is_sign Assign) is_time) more e in
    let assign = neither (is_sign Assign) is_time more parts.1 in
    let paren = neither (is_sign LeftParen) (is_sign Question) more parts.0 in
    rw (arguments_open d more assign.0) (ap (λ o. mapped tree.Call o) (call_of_reads c at ks position d room (omega arith) more paren.0))

call_reads : (at : ℕ) (c : Call) (ks : List TokenKind) → SpellsCall at c ks → PrimOf at (tree.Call c) ks
call_reads at c ks d = subst (PrimOf at (tree.Call c)) (sym d.is) (call_by at c d.actuals d.position d.are_actuals)

block_reads : (at : ℕ) (vars : List Var) (vs : List TokenKind) (x : Proc) (xs : List TokenKind) → Parted (Reads var (is_sign LeftParen)) (at + 1) vars vs → At level.Proc (at + length vs + 2) x xs
    → PrimOf at (tree.Let vars x) (block_tokens vs xs)
unfolding prim_of lower_proc block
block_reads at vars vs x xs d f room h more e =
    let inner = length-append xs (Lower (codes "endlet") ∷ []) in
    let sum = length-append vs (Lower (codes "in") ∷ (xs ++ Lower (codes "endlet") ∷ [])) in
    read (parted (var room) room) _ vs (Lower (codes "in") ∷ (xs ++ Lower (codes "endlet") ∷ [])) more refl
    (parted_reads var (is_sign LeftParen) refl d room room (omega arith) (omega arith) (Lower (codes "in") ∷ ((xs ++ Lower (codes "endlet") ∷ []) ++ more)) refl refl)
    (read (Whole room) _ {at = at + length vs + 2} xs (Lower (codes "endlet") ∷ []) more (omega arith)
    (transfer_reads (at + length vs + 2) x xs f room room (omega arith) (omega arith) (Lower (codes "endlet") ∷ more) refl) (arrives (omega arith)))

test_reads : (at : ℕ) (t : Ast) (es : List TokenKind) (x : Proc) (xs : List TokenKind) → SpellsExpr (at + 1) t es → At level.Proc (at + length es + 2) x xs
    → PrimOf at (tree.If t x None) (test_tokens es xs)
unfolding prim_of lower_proc conditional sides
test_reads at t es x xs d f room h more e =
    let inner = length-append xs (Lower (codes "fi") ∷ []) in
    let sum = length-append es (Lower (codes "then") ∷ (xs ++ Lower (codes "fi") ∷ [])) in
    read (expr room) _ es (Lower (codes "then") ∷ (xs ++ Lower (codes "fi") ∷ [])) more refl
    ((expr_reads d).reads room (omega arith) (Lower (codes "then") ∷ ((xs ++ Lower (codes "fi") ∷ []) ++ more)) refl)
    (read (Whole room) (sides (Whole room) t) {at = at + length es + 2} xs (Lower (codes "fi") ∷ []) more (omega arith)
    (transfer_reads (at + length es + 2) x xs f room room (omega arith) (omega arith) (Lower (codes "fi") ∷ more) refl) (arrives (omega arith)))

else_reads : (at : ℕ) (t : Ast) (es : List TokenKind) (x y : Proc) (xs ys : List TokenKind) → SpellsExpr (at + 1) t es → At level.Proc (at + length es + 2) x xs → At level.Proc (at + length es + length xs + 3) y ys
    → PrimOf at (tree.If t x (Some y)) (else_tokens es xs ys)
unfolding prim_of lower_proc conditional sides
else_reads at t es x y xs ys d f g room h more e =
    let last = length-append ys (Lower (codes "fi") ∷ []) in
    let inner = length-append xs (Lower (codes "else") ∷ (ys ++ Lower (codes "fi") ∷ [])) in
    let sum = length-append es (Lower (codes "then") ∷ (xs ++ Lower (codes "else") ∷ (ys ++ Lower (codes "fi") ∷ []))) in
    read (expr room) _ es (Lower (codes "then") ∷ (xs ++ Lower (codes "else") ∷ (ys ++ Lower (codes "fi") ∷ []))) more refl
    ((expr_reads d).reads room (omega arith) (Lower (codes "then") ∷ ((xs ++ Lower (codes "else") ∷ (ys ++ Lower (codes "fi") ∷ [])) ++ more)) refl)
    (read (Whole room) (sides (Whole room) t) {at = at + length es + 2} xs (Lower (codes "else") ∷ (ys ++ Lower (codes "fi") ∷ [])) more (omega arith)
    (transfer_reads (at + length es + 2) x xs f room room (omega arith) (omega arith) (Lower (codes "else") ∷ ((ys ++ Lower (codes "fi") ∷ []) ++ more)) refl)
    (read (Whole room) _ {at = at + length es + length xs + 3} ys (Lower (codes "fi") ∷ []) more (omega arith)
    (transfer_reads (at + length es + length xs + 3) y ys g room room (omega arith) (omega arith) (Lower (codes "fi") ∷ more) refl) (arrives (omega arith))))

prim_at : (at : ℕ) (x : Proc) (xs : List TokenKind) → PrimOf at x xs → At level.Prim at x xs
prim_at at x xs h = prim_by at x xs h

atom_at : (at : ℕ) (a : AtomDef) (ks : List TokenKind) → SpellsAtom at a ks → PrimOf at (tree.Atom a) ks
atom_at at a ks d room h more e =
    let parts = neither on_expr (either (is_sign Assign) is_time) more e in
    atom_reads d (Whole room) room h more parts.0 (neither (is_sign Assign) is_time more parts.1).1

at_level : {l : Level} {at : ℕ} {p : Proc} {ks : List TokenKind} → SpellsProc l at p ks → At l at p ks
at_level (SpellsProc.one_par {at = at} {x = x} {xs = xs} d) = proc_one at x xs (at_level d)
at_level (SpellsProc.disrupt {at = at} {x = x} {y = y} {xs = xs} {ys = ys} d f) = proc_more at x y xs ys (at_level d) (at_level f)
at_level (SpellsProc.one_alt {at = at} {x = x} {xs = xs} d) = par_one at x xs (at_level d)
at_level (SpellsProc.par {at = at} {x = x} {y = y} {xs = xs} {ys = ys} d f) = par_more at x y xs ys (at_level d) (at_level f)
at_level (SpellsProc.one_seq {at = at} {x = x} {xs = xs} d) = alt_one at x xs (at_level d)
at_level (SpellsProc.choice {at = at} {x = x} {y = y} {xs = xs} {ys = ys} d f) = alt_more at x y xs ys (at_level d) (at_level f)
at_level (SpellsProc.one_star {at = at} {x = x} {xs = xs} d) = seq_one at x xs (at_level d)
at_level (SpellsProc.sequence {at = at} {x = x} {y = y} {xs = xs} {ys = ys} d f) = seq_more at x y xs ys (at_level d) (at_level f)
at_level (SpellsProc.one_prim {at = at} {x = x} {xs = xs} d) = star_one at x xs (at_level d)
at_level (SpellsProc.turns {at = at} {x = x} {y = y} {xs = xs} {ys = ys} d f) = star_more at x y xs ys (at_level d) (at_level f)
at_level (SpellsProc.parens {at = at} {x = x} {xs = xs} d) = prim_at at x (parens xs) (parens_reads at x xs (at_level d))
at_level (SpellsProc.atom {at = at} {a = a} {ks = ks} d) = prim_at at (tree.Atom a) ks (atom_at at a ks d)
at_level (SpellsProc.call {at = at} {c = c} {ks = ks} d) = prim_at at (tree.Call c) ks (call_reads at c ks d)
at_level (SpellsProc.block {at = at} {vars = vars} {vs = vs} {x = x} {xs = xs} d f) = prim_at at (tree.Let vars x) (block_tokens vs xs) (block_reads at vars vs x xs (parted_map (λ at v ks e. var_reads e) d) (at_level f))
at_level (SpellsProc.test {at = at} {e = t} {es = es} {x = x} {xs = xs} d f) = prim_at at (tree.If t x None) (test_tokens es xs) (test_reads at t es x xs d (at_level f))
at_level (SpellsProc.test_else {at = at} {e = t} {es = es} {x = x} {y = y} {xs = xs} {ys = ys} d f g) = prim_at at (tree.If t x (Some y)) (else_tokens es xs ys) (else_reads at t es x y xs ys d (at_level f) (at_level g))

pub proc_reads : {at : ℕ} {p : Proc} {ks : List TokenKind} → SpellsProc level.Proc at p ks → (room : ℕ) → length ks < room → (more : List TokenKind) → begins on_proc more ≡ false → proc room at (ks ++ more) ≡ Found p (at + length ks) more
unfolding proc
proc_reads {at = at} {p = p} {ks = ks} d room h more e = transfer_reads at p ks (at_level d) room room h h more e
