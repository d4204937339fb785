-- The ring's tokens spell its tree.
use Rattle.std.proofs.Common.{◌≡◌, ℕ, zero, suc, ◌+◌, ◌-◌, ◌*◌, pos, true, List, [], ◌∷◌, ◌++◌, length, map, refl, ap, sym, subst, arith, codes}
use Rattle.tb_lex.specs.declared.kind.TokenKind.{TokenKind}
use Rattle.tb_lex.specs.declared.kind.TokenKind.TheVariants.{Int, Lower, Upper, Symbol as Sign}
use Rattle.tb_lex.specs.declared.symbol.Symbol.TheVariants as sign
use Rattle.tb_syntax.specs.declared.level.Level.TheVariants as level
use Rattle.tb_syntax.specs.declared.ast.Ast.{Ast}
use Rattle.tb_syntax.specs.declared.ast.AstKind.TheVariants as ast
use Rattle.tb_syntax.specs.declared.proc.Call.{Call}
use Rattle.tb_syntax.specs.declared.proc.Proc.{Proc}
use Rattle.tb_syntax.specs.declared.proc.Proc.TheVariants as tree
use Rattle.tb_syntax.specs.Spelling.{in_parens, word, Parted, InRow, InParens, IsSortWord, SpellsSort, SpellsKind, SpellsExpr, SpellsArguments, SpellsExprs, SpellsCall, SpellsAct, SpellsVar, SpellsProc, SpellsFormal, SpellsProcDef, SpellsDefinitions, SpellsRoots, Spells}
use Rattle.tb_syntax.specs.AtomWords.{is_atom_word}
use Rattle.tb_syntax.specs.Words.{is_free}
use Rattle.tb_ring_law.specs.Helpers.Pieces.{kinds_in, node_pieces, first_pieces, links, ring_links, links_kinds, ring_kinds}
use Rattle.tb_ring_law.specs.Helpers.Trees.{at, number_at, var_at, result_at, add_at, less_at, atom_at, var_t, int_formal, node_body, node_def, test_part, first_body, first_def, first_call, node_call, link_call, ring_script}

abbrev comma : TokenKind
comma = Sign sign.Comma

abbrev Kinds : Type 0
Kinds = List TokenKind

-- expressions

number-spelt : (token n : ℕ) → SpellsExpr token (number_at token n) (Int (pos n) ∷ [])
number-spelt token n = SpellsExpr.expr (SpellsKind.numeral token (pos n))

var-spelt : (token : ℕ) (name : List ℕ) → SpellsExpr token (var_at token name) (Upper name ∷ [])
var-spelt token name = SpellsExpr.expr (SpellsKind.variable token name)

result-spelt : (token : ℕ) → SpellsExpr token (result_at token) (Upper (codes "T") ∷ Sign sign.Question ∷ [])
result-spelt token = SpellsExpr.expr (SpellsKind.result token (codes "T"))

one-argument : (token : ℕ) (x : Ast) (xs : Kinds) → SpellsExpr (token + 1) x xs → SpellsArguments token (x ∷ []) (in_parens xs)
one-argument token x xs s = SpellsArguments.some (SpellsExprs.last s)

two-arguments : (token : ℕ) (x y : Ast) (xs ys : Kinds) → SpellsExpr (token + 1) x xs → SpellsExpr (token + 1 + length xs + 1) y ys → SpellsArguments token (x ∷ y ∷ []) (in_parens (xs ++ comma ∷ ys))
two-arguments token x y xs ys s t = SpellsArguments.some (SpellsExprs.more s (SpellsExprs.last t))

-- a function of T and a number
abbrev of_t : List ℕ → ℕ → Kinds
of_t name n = Lower name ∷ Sign sign.LeftParen ∷ Upper (codes "T") ∷ comma ∷ Int (pos n) ∷ Sign sign.RightParen ∷ []

of-t-spelt : (token n : ℕ) (name : List ℕ) → is_free name ≡ true → SpellsExpr token (at token (ast.Appl name (var_at (token + 2) (codes "T") ∷ number_at (token + 4) n ∷ []))) (of_t name n)
of-t-spelt token n name free =
    let second : token + 1 + 1 ≡ token + 2 = omega arith in
    let fourth : token + 1 + 1 + 1 + 1 ≡ token + 4 = omega arith in
    let t : SpellsExpr (token + 1 + 1) (var_at (token + 2) (codes "T")) (Upper (codes "T") ∷ []) = subst (λ (p : ℕ). SpellsExpr p (var_at (token + 2) (codes "T")) (Upper (codes "T") ∷ [])) (sym second) (var-spelt (token + 2) (codes "T")) in
    let m : SpellsExpr (token + 1 + 1 + 1 + 1) (number_at (token + 4) n) (Int (pos n) ∷ []) = subst (λ (p : ℕ). SpellsExpr p (number_at (token + 4) n) (Int (pos n) ∷ [])) (sym fourth) (number-spelt (token + 4) n) in
    SpellsExpr.expr (SpellsKind.appl name free (two-arguments (token + 1) (var_at (token + 2) (codes "T")) (number_at (token + 4) n) (Upper (codes "T") ∷ []) (Int (pos n) ∷ []) t m))

-- atoms

atom-spelt : (token : ℕ) (name : List ℕ) (arguments : List Ast) (ks : Kinds) → is_atom_word name ≡ true → SpellsArguments (token + 1) arguments ks → SpellsProc level.Prim token (atom_at token name arguments) (Lower name ∷ ks)
atom-spelt token name arguments ks e s =
    SpellsProc.atom (record { position = refl; act = Lower name ∷ ks; is_act = SpellsAct.named name e s; times = []; are_times = InRow.none _; is = sym (append-nil' (Lower name ∷ ks)) }) where
      append-nil' : (xs : Kinds) → xs ++ [] ≡ xs
      append-nil' [] = refl
      append-nil' (x ∷ xs) = ap (λ (ys : Kinds). x ∷ ys) (append-nil' xs)

abbrev delta : Kinds
delta = Lower (codes "delta") ∷ []

delta-spelt : (token : ℕ) → SpellsProc level.Prim token (atom_at token (codes "delta") []) delta
delta-spelt token = atom-spelt token (codes "delta") [] [] refl (SpellsArguments.none (token + 1))

seq-whole : {token : ℕ} {x : Proc} {xs : Kinds} → SpellsProc level.Seq token x xs → SpellsProc level.Proc token x xs
seq-whole s = SpellsProc.one_par (SpellsProc.one_alt (SpellsProc.one_seq s))

seq-spelt : (token : ℕ) (x y : Proc) (xs ys : Kinds) → SpellsProc level.Prim token x xs → SpellsProc level.Prim (token + length xs + 1) y ys → SpellsProc level.Proc token (tree.Seq x y) (xs ++ Sign sign.Point ∷ ys)
seq-spelt token x y xs ys s t =
    seq-whole (SpellsProc.sequence {x = x} {y = y} {xs = xs} {ys = ys} (SpellsProc.one_prim s) (SpellsProc.one_star (SpellsProc.one_prim t)))

star-spelt : (token : ℕ) (x y : Proc) (xs ys : Kinds) → SpellsProc level.Prim token x xs → SpellsProc level.Prim (token + length xs + 1) y ys → SpellsProc level.Star token (tree.Star x y) (xs ++ Sign sign.Star ∷ ys)
star-spelt token x y xs ys s t = SpellsProc.turns {x = x} {y = y} {xs = xs} {ys = ys} (SpellsProc.one_prim s) t

var-t-spelt : (token : ℕ) → SpellsVar token (var_t token) (Upper (codes "T") ∷ Sign sign.Colon ∷ word (codes "int"))
var-t-spelt token = record { position = refl; sort = word (codes "int"); is_sort = SpellsSort.plain (token + 2) IsSortWord.int; is = refl }

-- let T : int in .. endlet
abbrev in_let : Kinds → Kinds
in_let ks = Lower (codes "let") ∷ ((Upper (codes "T") ∷ Sign sign.Colon ∷ word (codes "int")) ++ Lower (codes "in") ∷ (ks ++ Lower (codes "endlet") ∷ []))

let-spelt : (token : ℕ) (x : Proc) (xs : Kinds) → SpellsProc level.Proc (token + 3 + 2) x xs → SpellsProc level.Proc token (tree.Let (var_t (token + 1) ∷ []) x) (in_let xs)
let-spelt token x xs s =
    seq-whole
    (SpellsProc.one_star
    (SpellsProc.one_prim
    (SpellsProc.block {vars = var_t (token + 1) ∷ []} {vs = Upper (codes "T") ∷ Sign sign.Colon ∷ word (codes "int")} {x = x} {xs = xs}
    (Parted.last (var-t-spelt (token + 1)))
    s)))

abbrev rec_msg : TokenKind → Kinds
rec_msg from = Lower (codes "rec-msg") ∷ in_parens ((from ∷ []) ++ comma ∷ (Upper (codes "T") ∷ Sign sign.Question ∷ []))

abbrev snd_msg : TokenKind → Kinds → Kinds
snd_msg to ks = Lower (codes "snd-msg") ∷ in_parens ((to ∷ []) ++ comma ∷ ks)

-- Node

abbrev node_turn : Kinds
node_turn = rec_msg (Upper (codes "I")) ++ Sign sign.Point ∷ snd_msg (Upper (codes "J")) (of_t (codes "add") 1)

abbrev node_loop : Kinds
node_loop = in_parens node_turn ++ Sign sign.Star ∷ delta

node-receives : SpellsProc level.Prim 18 (atom_at 18 (codes "rec-msg") (var_at 20 (codes "I") ∷ result_at 22 ∷ [])) (rec_msg (Upper (codes "I")))
node-receives = atom-spelt 18 (codes "rec-msg") _ _ refl (two-arguments 19 _ _ (Upper (codes "I") ∷ []) (Upper (codes "T") ∷ Sign sign.Question ∷ []) (var-spelt 20 (codes "I")) (result-spelt 22))

node-sends : SpellsProc level.Prim 26 (atom_at 26 (codes "snd-msg") (var_at 28 (codes "J") ∷ add_at 30 ∷ [])) (snd_msg (Upper (codes "J")) (of_t (codes "add") 1))
node-sends = atom-spelt 26 (codes "snd-msg") _ _ refl (two-arguments 27 _ _ (Upper (codes "J") ∷ []) (of_t (codes "add") 1) (var-spelt 28 (codes "J")) (of-t-spelt 30 1 (codes "add") refl))

abbrev node_turn_tree : Proc
node_turn_tree = tree.Seq (atom_at 18 (codes "rec-msg") (var_at 20 (codes "I") ∷ result_at 22 ∷ [])) (atom_at 26 (codes "snd-msg") (var_at 28 (codes "J") ∷ add_at 30 ∷ []))

node-turn : SpellsProc level.Prim 17 node_turn_tree (in_parens node_turn)
node-turn = SpellsProc.parens {x = node_turn_tree} {xs = node_turn} (seq-spelt 18 _ _ (rec_msg (Upper (codes "I"))) (snd_msg (Upper (codes "J")) (of_t (codes "add") 1)) node-receives node-sends)

node-loop : SpellsProc level.Proc 17 (tree.Star node_turn_tree (atom_at 39 (codes "delta") [])) node_loop
node-loop = seq-whole (SpellsProc.one_star (star-spelt 17 _ _ (in_parens node_turn) delta node-turn (delta-spelt 39)))

node-body : SpellsProc level.Proc 12 node_body (in_let node_loop)
node-body = let-spelt 12 _ node_loop node-loop

formal-spelt : (token : ℕ) (name : List ℕ) → SpellsFormal token (int_formal name token) (Upper name ∷ Sign sign.Colon ∷ word (codes "int"))
formal-spelt token name = record { position = refl; sort = word (codes "int"); is_sort = SpellsSort.plain (token + 2) IsSortWord.int; is = refl }

abbrev int_kinds : List ℕ → Kinds
int_kinds name = Upper name ∷ Sign sign.Colon ∷ word (codes "int")

abbrev formals_kinds : Kinds
formals_kinds = int_kinds (codes "I") ++ comma ∷ int_kinds (codes "J")

formals-spelt : InParens SpellsFormal 2 (int_formal (codes "I") 3 ∷ int_formal (codes "J") 7 ∷ []) (in_parens formals_kinds)
formals-spelt =
    InParens.some {xs = int_formal (codes "I") 3 ∷ int_formal (codes "J") 7 ∷ []} {ks = formals_kinds}
    (Parted.more {ks = int_kinds (codes "I")} {rest = int_kinds (codes "J")} (formal-spelt 3 (codes "I")) (Parted.last (formal-spelt 7 (codes "J"))))

node-def : SpellsProcDef 0 node_def (kinds_in node_pieces)
node-def = record { position = refl; formals = in_parens formals_kinds; are_formals = formals-spelt; body = in_let node_loop; is_body = node-body; is = refl }

-- First

module _ (messages : ℕ) where
  abbrev shutdown : Kinds
  shutdown = Lower (codes "shutdown") ∷ in_parens (Lower (codes "done") ∷ [])

  abbrev sends_on : Kinds
  sends_on = snd_msg (Int (pos 2)) (of_t (codes "add") 1)

  abbrev test_kinds : Kinds
  test_kinds = Lower (codes "if") ∷ (of_t (codes "less") messages ++ Lower (codes "then") ∷ (sends_on ++ Lower (codes "else") ∷ (shutdown ++ Lower (codes "fi") ∷ [])))

  first-sends-on : SpellsProc level.Proc 73 (atom_at 73 (codes "snd-msg") (number_at 75 2 ∷ add_at 77 ∷ [])) sends_on
  first-sends-on =
      seq-whole
      (SpellsProc.one_star
      (SpellsProc.one_prim (atom-spelt 73 (codes "snd-msg") _ _ refl (two-arguments 74 _ _ (Int (pos 2) ∷ []) (of_t (codes "add") 1) (number-spelt 75 2) (of-t-spelt 77 1 (codes "add") refl)))))

  done-spelt : SpellsExpr 87 (at 87 (ast.Appl (codes "done") [])) (Lower (codes "done") ∷ [])
  done-spelt = SpellsExpr.expr (SpellsKind.appl (codes "done") refl (SpellsArguments.none 88))

  first-ends : SpellsProc level.Proc 85 (atom_at 85 (codes "shutdown") (at 87 (ast.Appl (codes "done") []) ∷ [])) shutdown
  first-ends =
      seq-whole
      (SpellsProc.one_star
      (SpellsProc.one_prim (atom-spelt 85 (codes "shutdown") _ _ refl (one-argument 86 _ (Lower (codes "done") ∷ []) done-spelt))))

  first-tests : SpellsProc level.Prim 65 (test_part messages) test_kinds
  first-tests =
      SpellsProc.test_else {e = less_at 66 messages} {es = of_t (codes "less") messages} {xs = sends_on} {ys = shutdown}
      (of-t-spelt 66 messages (codes "less") refl)
      first-sends-on
      first-ends

  first-receives : SpellsProc level.Prim 57 (atom_at 57 (codes "rec-msg") (number_at 59 1 ∷ result_at 61 ∷ [])) (rec_msg (Int (pos 1)))
  first-receives = atom-spelt 57 (codes "rec-msg") _ _ refl (two-arguments 58 _ _ (Int (pos 1) ∷ []) (Upper (codes "T") ∷ Sign sign.Question ∷ []) (number-spelt 59 1) (result-spelt 61))

  abbrev first_turn : Kinds
  first_turn = rec_msg (Int (pos 1)) ++ Sign sign.Point ∷ test_kinds

  abbrev first_turn_tree : Proc
  first_turn_tree = tree.Seq (atom_at 57 (codes "rec-msg") (number_at 59 1 ∷ result_at 61 ∷ [])) (test_part messages)

  first-turn : SpellsProc level.Prim 56 first_turn_tree (in_parens first_turn)
  first-turn = SpellsProc.parens {x = first_turn_tree} {xs = first_turn} (seq-spelt 57 _ _ (rec_msg (Int (pos 1))) test_kinds first-receives first-tests)

  abbrev first_loop : Kinds
  first_loop = in_parens first_turn ++ Sign sign.Star ∷ delta

  first-loop : SpellsProc level.Seq 56 (tree.Star first_turn_tree (atom_at 92 (codes "delta") [])) first_loop
  first-loop = SpellsProc.one_star (star-spelt 56 _ _ (in_parens first_turn) delta first-turn (delta-spelt 92))

  abbrev begins : Kinds
  begins = snd_msg (Int (pos 2)) (Int (pos 1) ∷ [])

  first-begins : SpellsProc level.Star 49 (atom_at 49 (codes "snd-msg") (number_at 51 2 ∷ number_at 53 1 ∷ [])) begins
  first-begins = SpellsProc.one_prim (atom-spelt 49 (codes "snd-msg") _ _ refl (two-arguments 50 _ _ (Int (pos 2) ∷ []) (Int (pos 1) ∷ []) (number-spelt 51 2) (number-spelt 53 1)))

  abbrev first_all : Kinds
  first_all = begins ++ Sign sign.Point ∷ first_loop

  first-body : SpellsProc level.Proc 44 (first_body messages) (in_let first_all)
  first-body = let-spelt 44 _ first_all (seq-whole (SpellsProc.sequence {xs = begins} {ys = first_loop} first-begins first-loop))

  first-def : SpellsProcDef 41 (first_def messages) (kinds_in (first_pieces messages))
  first-def = record { position = refl; formals = []; are_formals = InParens.none 43; body = in_let first_all; is_body = first-body; is = refl }

  abbrev definitions_kinds : Kinds
  definitions_kinds = kinds_in node_pieces ++ (kinds_in (first_pieces messages) ++ [])

  definitions-spelt : SpellsDefinitions 0 (node_def ∷ first_def messages ∷ []) [] definitions_kinds
  definitions-spelt = SpellsDefinitions.process {ks = kinds_in node_pieces} {rest = kinds_in (first_pieces messages) ++ []} node-def (SpellsDefinitions.process {ks = kinds_in (first_pieces messages)} {rest = []} first-def (SpellsDefinitions.none _))

-- calls

abbrev call_kinds : ℕ → ℕ → Kinds
call_kinds process next = Upper (codes "Node") ∷ in_parens ((Int (pos process) ∷ []) ++ comma ∷ (Int (pos next) ∷ []))

call-spelt : (token process next : ℕ) → SpellsCall token (node_call token process next) (call_kinds process next)
call-spelt token process next =
    let second : token + 1 + 1 ≡ token + 2 = omega arith in
    let fourth : token + 1 + 1 + 1 + 1 ≡ token + 4 = omega arith in
    let x = number_at (token + 2) process in
    let y = number_at (token + 4) next in
    let s : SpellsExpr (token + 1 + 1) x (Int (pos process) ∷ []) = subst (λ (p : ℕ). SpellsExpr p x (Int (pos process) ∷ [])) (sym second) (number-spelt (token + 2) process) in
    let t : SpellsExpr (token + 1 + 1 + 1 + 1) y (Int (pos next) ∷ []) = subst (λ (p : ℕ). SpellsExpr p y (Int (pos next) ∷ [])) (sym fourth) (number-spelt (token + 4) next) in
    record { position = refl; actuals = in_parens ((Int (pos process) ∷ []) ++ comma ∷ (Int (pos next) ∷ [])); are_actuals = two-arguments (token + 1) x y (Int (pos process) ∷ []) (Int (pos next) ∷ []) s t; is = refl }

abbrev link_token : ℕ → ℕ
link_token process = 7 * process + 84

calls-spelt : (token : ℕ) (x : Call) (xk : Kinds) (i count : ℕ) → SpellsCall token x xk → token + length xk + 1 ≡ link_token i → Parted SpellsCall token (x ∷ map link_call (links i count)) (xk ++ links_kinds (links i count))
calls-spelt token x xk i zero s e =
    let last : Parted SpellsCall (token + length xk + 1) (node_call (link_token i) i 1 ∷ []) (call_kinds i 1) =
    subst (λ (p : ℕ). Parted SpellsCall p (node_call (link_token i) i 1 ∷ []) (call_kinds i 1)) (sym e) (Parted.last (call-spelt (link_token i) i 1)) in
    Parted.more {x = x} {ks = xk} {xs = node_call (link_token i) i 1 ∷ []} {rest = call_kinds i 1} s last
calls-spelt token x xk i (suc count) s e =
    let y = node_call (link_token i) i (i + 1) in
    let ys = map link_call (links (i + 1) count) in
    let ks = call_kinds i (i + 1) ++ links_kinds (links (i + 1) count) in
    let behind : Parted SpellsCall (link_token i) (y ∷ ys) ks = calls-spelt (link_token i) y (call_kinds i (i + 1)) (i + 1) count (call-spelt (link_token i) i (i + 1)) (omega arith) in
    Parted.more {x = x} {ks = xk} {xs = y ∷ ys} {rest = ks} s (subst (λ (p : ℕ). Parted SpellsCall p (y ∷ ys) ks) (sym e) behind)

first-called : SpellsCall 96 first_call (Upper (codes "First") ∷ [])
first-called = record { position = refl; actuals = []; are_actuals = SpellsArguments.none 97; is = refl }

-- The ring's tokens spell its tree.
pub ring-spelt : (n messages : ℕ) → Spells (ring_script n messages) (ring_kinds n messages)
ring-spelt n messages = record {
  definitions = definitions_kinds messages;
  are_definitions = definitions-spelt messages;
  roots = (Upper (codes "First") ∷ []) ++ links_kinds (ring_links n);
  are_roots = SpellsRoots.some (calls-spelt 96 first_call (Upper (codes "First") ∷ []) 2 (n - 2) first-called refl);
  is = refl;
}
