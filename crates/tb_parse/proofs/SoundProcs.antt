-- The tokens that are read as a process spell it.
use Rattle.std.proofs.Common.{◌≡◌, ℕ, zero, suc, ◌+◌, Bool, true, false, List, [], ◌∷◌, ◌++◌, length, Some, if◌then◌else◌, refl, sym, subst, arith, codes, append_assoc}
use Rattle.std.proofs.lemmas.List.{length-append}
use Rattle.std.specs.Str.{bytes_eq}
use Rattle.tb_lex.specs.declared.kind.TokenKind.{TokenKind}
use Rattle.tb_lex.specs.declared.kind.TokenKind.TheVariants.{Int, Str, Lower, Upper, Symbol as Sign}
use Rattle.tb_lex.specs.declared.symbol.Symbol.{Symbol}
use Rattle.tb_lex.specs.declared.symbol.Symbol.TheVariants.{LeftParen, RightParen, Point, Assign, Plus, Star, Bars, Angles}
use Rattle.tb_syntax.specs.declared.level.Level.{Level}
use Rattle.tb_syntax.specs.declared.level.Level.TheVariants as level
use Rattle.tb_syntax.specs.declared.proc.ActDef.TheVariants as act
use Rattle.tb_syntax.specs.declared.proc.Proc.{Proc}
use Rattle.tb_syntax.specs.declared.proc.Proc.TheVariants as tree
use Rattle.tb_syntax.specs.Spelling.{SpellsArguments, SpellsVar, SpellsAct, SpellsProc}
use Rattle.tb_syntax.specs.AtomWords.{is_atom_word}
use Rattle.tb_parse.specs.Helpers.Parsing.{Parser, Outcome, Stops, after, mapped, is_sign, is_word, expect, in_parens, expr, create, timed, var, upper_proc, block, sides, conditional, lower_proc, prim_of, rightward, leftward, turns, sequence, choice, merge, transfer, prim, proc}
use Rattle.tb_parse.proofs.Signs.{is_that_sign, same_name}
use Rattle.tb_parse.proofs.Fits.{Fits, Opens, found, stops, opens, token, behind, mapping, weaker, with_sign, with_word, skip_word, expect_sign, expect_word}
use Rattle.tb_parse.proofs.SoundLists.{Sound, nothing_more, parted_sound}
use Rattle.tb_parse.proofs.SoundExprs.{expr_sound, arguments_sound, call_of_sound}
use Rattle.tb_parse.proofs.SoundAtoms.{at_expr, create_sound, timed_sound, var_sound}

pub at_proc : {l : Level} {at to : ℕ} {p : Proc} {ks : List TokenKind} → at ≡ to → SpellsProc l at p ks → SpellsProc l to p ks
at_proc {l = l} {p = p} {ks = ks} e d = subst (λ n. SpellsProc l n p ks) e d

-- Processes with an operator between them.

rightward_sound : (sign : Symbol) (join : Proc → Proc → Proc) (S R : ℕ → Proc → List TokenKind → Type 0)
    → ((at : ℕ) (x : Proc) (xs : List TokenKind) → S at x xs → R at x xs)
    → ((at : ℕ) (x y : Proc) (xs ys : List TokenKind) → S at x xs → R (at + length xs + 1) y ys → R at (join x y) (xs ++ Sign sign ∷ ys))
    → (item : Parser Proc) → Sound S item → (room : ℕ) → Sound R (rightward sign join item room)
unfolding rightward
rightward_sound sign join S R one two item h zero at ks = let least = opens (h at []) in stops (least.0, least.1, one at least.1 least.0 least.2)
rightward_sound sign join S R one two item h (suc room) at ks = behind _ (h at ks) (λ x xs rest s.
    with_sign sign (λ next ks. mapped (join x) (rightward sign join item room next ks))
    (λ rest. mapping _ (rightward_sound sign join S R one two item h room (at + length xs + 1) rest) (λ y ys d. two at x y xs ys s d))
    (found (nothing_more (R at) x xs (one at x xs s))))

leftward_sound : (item : Parser Proc) → Sound (SpellsProc level.Prim) item → (room at : ℕ) (x : Proc) (xs : List TokenKind) → SpellsProc level.Star at x xs → (here : ℕ) → here ≡ at + length xs → (ks : List TokenKind)
    → Fits (λ y ys. SpellsProc level.Star at y (xs ++ ys)) here ks (leftward item room x here ks)
unfolding leftward
leftward_sound item h zero at x xs d here e ks = stops ([], x, nothing_more (SpellsProc level.Star at) x xs d)
leftward_sound item h (suc room) at x xs d here e ks =
    with_sign Star (λ next ks. after (item next ks) (λ y. leftward item room (tree.Star x y)))
    (λ rest. behind _ (h (here + 1) rest) (λ y ys rest f.
    let t : SpellsProc level.Star at (tree.Star x y) (xs ++ Sign Star ∷ ys) = SpellsProc.turns d (at_proc (omega arith) f) in
    let more = length-append xs (Sign Star ∷ ys) in
    weaker (leftward_sound item h room at (tree.Star x y) (xs ++ Sign Star ∷ ys) t (here + 1 + length ys) (omega arith) rest)
    (λ z zs g. subst (SpellsProc level.Star at z) (append_assoc xs (Sign Star ∷ ys) zs) g)))
    (found (nothing_more (SpellsProc level.Star at) x xs d))

turns_sound : (item : Parser Proc) → Sound (SpellsProc level.Prim) item → (room : ℕ) → Sound (SpellsProc level.Star) (turns item room)
unfolding turns
turns_sound item h room at ks = behind _ (h at ks) (λ x xs rest d. leftward_sound item h room at x xs (SpellsProc.one_prim d) (at + length xs) refl rest)

sequence_sound : (item : Parser Proc) → Sound (SpellsProc level.Prim) item → (room : ℕ) → Sound (SpellsProc level.Seq) (sequence item room)
unfolding sequence
sequence_sound item h room =
    rightward_sound Point tree.Seq (SpellsProc level.Star) (SpellsProc level.Seq) (λ at x xs d. SpellsProc.one_star d) (λ at x y xs ys d e. SpellsProc.sequence d e) (turns item room) (turns_sound item h room) room

choice_sound : (item : Parser Proc) → Sound (SpellsProc level.Prim) item → (room : ℕ) → Sound (SpellsProc level.Alt) (choice item room)
unfolding choice
choice_sound item h room =
    rightward_sound Plus tree.Alt (SpellsProc level.Seq) (SpellsProc level.Alt) (λ at x xs d. SpellsProc.one_seq d) (λ at x y xs ys d e. SpellsProc.choice d e) (sequence item room) (sequence_sound item h room) room

merge_sound : (item : Parser Proc) → Sound (SpellsProc level.Prim) item → (room : ℕ) → Sound (SpellsProc level.Par) (merge item room)
unfolding merge
merge_sound item h room =
    rightward_sound Bars tree.Par (SpellsProc level.Alt) (SpellsProc level.Par) (λ at x xs d. SpellsProc.one_alt d) (λ at x y xs ys d e. SpellsProc.par d e) (choice item room) (choice_sound item h room) room

transfer_sound : (item : Parser Proc) → Sound (SpellsProc level.Prim) item → (room : ℕ) → Sound (SpellsProc level.Proc) (transfer item room)
unfolding transfer
transfer_sound item h room =
    rightward_sound Angles tree.Disrupt (SpellsProc level.Par) (SpellsProc level.Proc) (λ at x xs d. SpellsProc.one_par d) (λ at x y xs ys d e. SpellsProc.disrupt d e) (merge item room) (merge_sound item h room) room

-- Constructs of level `Prim`.

upper_proc_sound : (room : ℕ) (name : List ℕ) (position : ℕ) (ks : List TokenKind) → Fits (λ p ns. SpellsProc level.Prim position p (Upper name ∷ ns)) (position + 1) ks (upper_proc room name position (position + 1) ks)
unfolding upper_proc
upper_proc_sound room name position ks =
    with_sign Assign (λ at ks. after (mapped (act.Set name) (expr room at ks)) (timed room position))
    (λ rest. behind _ (mapping {T = λ a ns. SpellsAct position a (Upper name ∷ Sign Assign ∷ ns)} _ (expr_sound room (position + 1 + 1) rest) (λ v ns d. SpellsAct.set name (at_expr (omega arith) d)))
    (λ a bs rest d. timed_sound room position a (Upper name ∷ Sign Assign ∷ bs) d (position + 1 + 1 + length bs) (omega arith) rest))
    (mapping _ (call_of_sound room position name ks) (λ c ns d. SpellsProc.call d))

block_sound : (whole : Parser Proc) → Sound (SpellsProc level.Proc) whole → (room position : ℕ) (ks : List TokenKind)
    → Fits (λ p ns. SpellsProc level.Prim position p (Lower (codes "let") ∷ ns)) (position + 1) ks (block whole room (position + 1) ks)
unfolding block
block_sound whole h room position ks = behind _ (parted_sound SpellsVar (var room) (var_sound room) room (position + 1) ks) (λ vars vs rest d.
    skip_word (codes "in") (λ at ks. after (whole at ks) (λ x. expect (is_word (codes "endlet")) (tree.Let vars x))) (λ rest. behind _ (h (position + 1 + length vs + 1) rest) (λ x xs rest e.
    expect_word (codes "endlet") _ (SpellsProc.block d (at_proc (omega arith) e)))))

test_sound : (whole : Parser Proc) → Sound (SpellsProc level.Proc) whole → (room position : ℕ) (ks : List TokenKind)
    → Fits (λ p ns. SpellsProc level.Prim position p (Lower (codes "if") ∷ ns)) (position + 1) ks (conditional whole room (position + 1) ks)
unfolding conditional sides
test_sound whole h room position ks = behind _ (expr_sound room (position + 1) ks) (λ v vs rest d.
    skip_word (codes "then") (λ at ks. after (whole at ks) (sides whole v)) (λ rest. behind _ (h (position + 1 + length vs + 1) rest) (λ x xs rest e.
    with_word (codes "else") (λ at ks. after (whole at ks) (λ y. expect (is_word (codes "fi")) (tree.If v x (Some y))))
    (λ rest. behind _ (h (position + 1 + length vs + 1 + length xs + 1) rest) (λ y ys rest f.
    expect_word (codes "fi") _ (SpellsProc.test_else d (at_proc (omega arith) e) (at_proc (omega arith) f))))
    (expect_word (codes "fi") _ (SpellsProc.test d (at_proc (omega arith) e))))))

-- a call can be there
no_prim : (at : ℕ) → Opens (SpellsProc level.Prim at) []
no_prim at = (
  Upper (codes "A") ∷ [],
  tree.Call (record { name = codes "A"; actuals = []; token = at }),
  SpellsProc.call (record { position = refl; actuals = []; are_actuals = SpellsArguments.none (at + 1); is = refl }),
)

abbrev LowerSound : ℕ → List ℕ → List TokenKind → Outcome Proc → Type 0
LowerSound position name ks o = Fits (SpellsProc level.Prim position) position (Lower name ∷ ks) o

named_sound : (room position : ℕ) (name : List ℕ) (ks : List TokenKind) (b : Bool) → is_atom_word name ≡ b
    → LowerSound position name ks (if b then after (mapped (act.Named name) (in_parens (expr room) room (position + 1) ks)) (timed room position) else Stops position)
named_sound room position name ks true e =
    token (behind _ (mapping {T = λ a ns. SpellsAct position a (Lower name ∷ ns)} _ (arguments_sound room (position + 1) ks) (λ xs ns d. SpellsAct.named name e d))
    (λ a bs rest d. timed_sound room position a (Lower name ∷ bs) d (position + 1 + length bs) (omega arith) rest))
named_sound room position name ks false e = stops (no_prim position)

create_by : (room position : ℕ) (name : List ℕ) (ks : List TokenKind) (other : Outcome Proc) → LowerSound position name ks other → (b : Bool) → bytes_eq name (codes "create") ≡ b
    → LowerSound position name ks (if b then after (create room (position + 1) ks) (timed room position) else other)
create_by room position name ks other h true e =
    rw (same_name name (codes "create") e) (token (behind _ (create_sound room position ks) (λ a bs rest d. timed_sound room position a (Lower (codes "create") ∷ bs) d (position + 1 + length bs) (omega arith) rest)))
create_by room position name ks other h false e = h

word_by : (position : ℕ) (name word : List ℕ) (ks : List TokenKind) (one other : Outcome Proc) → LowerSound position word ks one → LowerSound position name ks other → (b : Bool) → bytes_eq name word ≡ b
    → LowerSound position name ks (if b then one else other)
word_by position name word ks one other g h true e = subst (λ n. LowerSound position n ks one) (sym (same_name name word e)) g
word_by position name word ks one other g h false e = h

lower_proc_sound : (whole : Parser Proc) → Sound (SpellsProc level.Proc) whole → (room : ℕ) (name : List ℕ) (position : ℕ) (ks : List TokenKind) → LowerSound position name ks (lower_proc whole room name position (position + 1) ks)
unfolding lower_proc
lower_proc_sound whole h room name position ks =
    word_by position name (codes "let") ks _ _ (token (block_sound whole h room position ks))
    (word_by position name (codes "if") ks _ _ (token (test_sound whole h room position ks))
    (create_by room position name ks _ (named_sound room position name ks (is_atom_word name) refl) (bytes_eq name (codes "create")) refl)
    (bytes_eq name (codes "if")) refl)
    (bytes_eq name (codes "let")) refl

parens_by : (whole : Parser Proc) → Sound (SpellsProc level.Proc) whole → (at : ℕ) (symbol : Symbol) (ks : List TokenKind) (b : Bool) → is_sign LeftParen (Sign symbol) ≡ b
    → Fits (SpellsProc level.Prim at) at (Sign symbol ∷ ks) (if b then after (whole (at + 1) ks) (expect (is_sign RightParen)) else Stops at)
parens_by whole h at symbol ks true e =
    token (rw (is_that_sign LeftParen (Sign symbol) e) (behind _ (h (at + 1) ks) (λ x xs rest d. expect_sign RightParen x (SpellsProc.parens d))))
parens_by whole h at symbol ks false e = stops (no_prim at)

prim_of_sound : (whole : Parser Proc) → Sound (SpellsProc level.Proc) whole → (room : ℕ) → Sound (SpellsProc level.Prim) (prim_of whole room)
unfolding prim_of
prim_of_sound whole h room at [] = stops (no_prim at)
prim_of_sound whole h room at (Int n ∷ ks) = stops (no_prim at)
prim_of_sound whole h room at (Str text ∷ ks) = stops (no_prim at)
prim_of_sound whole h room at (Lower name ∷ ks) = lower_proc_sound whole h room name at ks
prim_of_sound whole h room at (Upper name ∷ ks) = token (upper_proc_sound room name at ks)
prim_of_sound whole h room at (Sign symbol ∷ ks) = parens_by whole h at symbol ks (is_sign LeftParen (Sign symbol)) refl

prim_sound : (room : ℕ) → Sound (SpellsProc level.Prim) (prim room)
unfolding prim
prim_sound zero at ks = stops (no_prim at)
prim_sound (suc room) at ks = prim_of_sound (transfer (prim room) room) (transfer_sound (prim room) (prim_sound room) room) room at ks

pub proc_sound : (room : ℕ) → Sound (SpellsProc level.Proc) (proc room)
unfolding proc
proc_sound room = transfer_sound (prim room) (prim_sound room) room
