-- Atoms and processes are read alike if tokens begin alike.
use Rattle.std.proofs.Common.{ℕ, zero, suc, ◌+◌, ◌-◌, ◌≤◌, List, [], ◌∷◌, ◌++◌, length, Some, None, refl, arith, codes}
use Rattle.std.specs.Str.{bytes_eq}
use Rattle.tb_lex.specs.declared.kind.TokenKind.{TokenKind}
use Rattle.tb_lex.specs.declared.kind.TokenKind.TheVariants.{Int, Str, Lower, Upper, Symbol as Sign}
use Rattle.tb_lex.specs.declared.symbol.Symbol.{Symbol}
use Rattle.tb_lex.specs.declared.symbol.Symbol.TheVariants.{LeftParen, RightParen, Comma, Point, Colon, Assign, Plus, Star, Bars, Angles}
use Rattle.tb_syntax.specs.declared.ast.Ast.{Ast}
use Rattle.tb_syntax.specs.declared.proc.ActDef.{ActDef}
use Rattle.tb_syntax.specs.declared.proc.ActDef.TheVariants as act
use Rattle.tb_syntax.specs.declared.proc.Call.{Call}
use Rattle.tb_syntax.specs.declared.proc.Proc.{Proc}
use Rattle.tb_syntax.specs.declared.proc.Proc.TheVariants as tree
use Rattle.tb_syntax.specs.declared.proc.TimeDef.{TimeDef}
use Rattle.tb_syntax.specs.AtomWords.{is_atom_word, is_time_word}
use Rattle.tb_parse.specs.Helpers.Parsing.{Parser, Found, after, mapped, is_sign, is_word, expect, skip, expr, create, time, times, timed, var, upper_proc, block, sides, conditional, lower_proc, prim_of, rightward, leftward, turns, sequence, choice, merge, transfer, prim, proc}
use Rattle.tb_parse.proofs.Alike.{Alike, Same, fewer, moved, if_alike, after_alike, finding, branch, skipped, expected, roomless, by_token, next_alike, mapping, behind}
use Rattle.tb_parse.proofs.AlikeParts.{stops_there, upper_alike, parted_alike, in_parens_alike, sort_alike}
use Rattle.tb_parse.proofs.AlikeExprs.{expr_alike, call_of_alike, call_alike}

-- Atoms.

module _ (room more count : ℕ) (h : count ≤ room) (i : room ≤ more) where
  exprs : Same count (expr room) (expr more)
  exprs = expr_alike room more count h i

  closed : (made : Call) (variable : Ast) → Same count (expect (is_sign RightParen) (act.Create made variable)) (expect (is_sign RightParen) (act.Create made variable))
  closed made variable = expected (is_sign RightParen) (act.Create made variable) count

  create_alike : Same count (create room) (create more)
  unfolding create
  create_alike = skipped (is_sign LeftParen) _ _ count (behind _ _ count (call_alike room more count h i) (λ made. skipped (is_sign Comma) _ _ count (behind _ _ count exprs (λ variable. closed made variable))))

  -- what stands behind the name of a time
  time_alike : (make : Ast → TimeDef)
      → Same count (skip (is_sign LeftParen) (λ at ks. after (expr room at ks) (λ value. expect (is_sign RightParen) (make value)))) (skip (is_sign LeftParen) (λ at ks. after (expr more at ks) (λ value. expect (is_sign RightParen) (make value))))
  time_alike make = skipped (is_sign LeftParen) _ _ count (behind _ _ count exprs (λ value. expected (is_sign RightParen) (make value) count))

  pub var_alike : Same count (var room) (var more)
  unfolding var
  var_alike = record {
    alike = λ at us vs ws j.
        after_alike _ _ count (omega arith) (λ name. skipped (is_sign Colon) _ _ count (mapping count _ (sort_alike room more count h i))) ((upper_alike count).alike at us vs ws j);
  }

none_there : {A : Type 0} (x : A) (k : TokenKind) (at : ℕ) (us vs ws : List TokenKind) → Alike at (at + 1 + length us) vs ws (Found x at (k ∷ (us ++ vs))) (Found x at (k ∷ (us ++ ws)))
none_there x k at us vs ws = Alike.found (k ∷ us) (omega arith) (omega arith)

times_by : (inner outer room more count : ℕ) → count ≤ inner → inner ≤ outer → Same count (times inner room) (times outer more) → (k : TokenKind) (at : ℕ) (us vs ws : List TokenKind) → length us ≤ count
    → Alike at (at + 1 + length us) vs ws (times inner (suc room) at (k ∷ (us ++ vs))) (times outer (suc more) at (k ∷ (us ++ ws)))
unfolding times time
times_by inner outer room more count h i s (Int n) at us vs ws j = none_there [] (Int n) at us vs ws
times_by inner outer room more count h i s (Str bytes) at us vs ws j = none_there [] (Str bytes) at us vs ws
times_by inner outer room more count h i s (Upper name) at us vs ws j = none_there [] (Upper name) at us vs ws
times_by inner outer room more count h i s (Sign symbol) at us vs ws j = none_there [] (Sign symbol) at us vs ws
times_by inner outer room more count h i s (Lower name) at us vs ws j =
    if_alike (is_time_word name)
    (moved (omega arith) refl (after_alike {at = at + 1} _ _ count (omega arith) (λ first. mapping count _ s) ((time_alike inner outer count h i (λ value. record { name = name; value = value; token = at })).alike (at + 1) us vs ws j)))
    (none_there [] (Lower name) at us vs ws)

times_alike : (inner outer room more count : ℕ) → count ≤ inner → inner ≤ outer → count ≤ room → room ≤ more → Same count (times inner room) (times outer more)
unfolding times
times_alike inner outer zero more count h i j k = roomless (times outer more) count j
times_alike inner outer (suc room) zero count h i j k = absurd (omega arith)
times_alike inner outer (suc room) (suc more) count h i j k =
    by_token (count - 1) count (omega arith) (λ at. omega arith)
    (times_by inner outer room more (count - 1) (omega arith) i (times_alike inner outer room more (count - 1) (omega arith) i (omega arith) (omega arith)))

-- Processes with an operator between them.

rightward_alike : {item same : Parser Proc} (sign : Symbol) (join : Proc → Proc → Proc) (room more count : ℕ) → count ≤ room → room ≤ more → Same count item same → Same count (rightward sign join item room) (rightward sign join same more)
unfolding rightward
rightward_alike {same = same} sign join zero more count h i s = roomless (rightward sign join same more) count h
rightward_alike sign join (suc room) zero count h i s = absurd (omega arith)
rightward_alike {item = item} {same = same} sign join (suc room) (suc more) count h i s = behind _ _ count s (λ x.
    branch (is_sign sign) (λ at ks. mapped (join x) (rightward sign join item room at ks)) (λ at ks. mapped (join x) (rightward sign join same more at ks)) (count - 1) count (omega arith)
    (mapping (count - 1) _ (rightward_alike sign join room more (count - 1) (omega arith) (omega arith) (fewer (count - 1) (omega arith) s)))
    (finding count x))

leftward_alike : {item same : Parser Proc} (room more count : ℕ) → count ≤ room → room ≤ more → Same count item same → (x : Proc) → Same count (leftward item room x) (leftward same more x)
unfolding leftward
leftward_alike {same = same} zero more count h i s x = roomless (leftward same more x) count h
leftward_alike (suc room) zero count h i s x = absurd (omega arith)
leftward_alike {item = item} {same = same} (suc room) (suc more) count h i s x =
    branch (is_sign Star) (λ at ks. after (item at ks) (λ y. leftward item room (tree.Star x y))) (λ at ks. after (same at ks) (λ y. leftward same more (tree.Star x y))) (count - 1) count (omega arith)
    (behind _ _ (count - 1) (fewer (count - 1) (omega arith) s) (λ y. leftward_alike room more (count - 1) (omega arith) (omega arith) (fewer (count - 1) (omega arith) s) (tree.Star x y)))
    (finding count x)

module _ {item same : Parser Proc} (room more count : ℕ) (h : count ≤ room) (i : room ≤ more) (s : Same count item same) where
  turns_alike : Same count (turns item room) (turns same more)
  unfolding turns
  turns_alike = behind _ _ count s (λ x. leftward_alike room more count h i s x)

  sequence_alike : Same count (sequence item room) (sequence same more)
  unfolding sequence
  sequence_alike = rightward_alike Point tree.Seq room more count h i turns_alike

  choice_alike : Same count (choice item room) (choice same more)
  unfolding choice
  choice_alike = rightward_alike Plus tree.Alt room more count h i sequence_alike

  merge_alike : Same count (merge item room) (merge same more)
  unfolding merge
  merge_alike = rightward_alike Bars tree.Par room more count h i choice_alike

  transfer_alike : Same count (transfer item room) (transfer same more)
  unfolding transfer
  transfer_alike = rightward_alike Angles tree.Disrupt room more count h i merge_alike

-- Constructs of level `Prim`.

module _ (room more count : ℕ) (h : count ≤ room) (i : room ≤ more) where
  timed_alike : (position : ℕ) (what : ActDef) → Same count (timed room position what) (timed more position what)
  unfolding timed
  timed_alike position what = mapping count _ (times_alike room more room more count h i h i)

  upper_proc_alike : (name : List ℕ) (position : ℕ) → Same count (upper_proc room name position) (upper_proc more name position)
  unfolding upper_proc
  upper_proc_alike name position =
      branch (is_sign Assign) (λ at ks. after (mapped (act.Set name) (expr room at ks)) (timed room position)) (λ at ks. after (mapped (act.Set name) (expr more at ks)) (timed more position)) count count (omega arith)
      (behind _ _ count (mapping count _ (exprs room more count h i)) (timed_alike position))
      (mapping count tree.Call (call_of_alike room more count h i name position))

module _ {whole same : Parser Proc} (room more count : ℕ) (h : count ≤ room) (i : room ≤ more) (s : Same count whole same) where
  block_alike : Same count (block whole room) (block same more)
  unfolding block
  block_alike = behind _ _ count (parted_alike room more count h i (var_alike room more count h i)) (λ vars.
      skipped (is_word (codes "in")) _ _ count (behind _ _ count s (λ x. expected (is_word (codes "endlet")) (tree.Let vars x) count)))

  sides_alike : (value : Ast) (x : Proc) → Same count (sides whole value x) (sides same value x)
  unfolding sides
  sides_alike value x =
      branch (is_word (codes "else")) (λ at ks. after (whole at ks) (λ y. expect (is_word (codes "fi")) (tree.If value x (Some y)))) (λ at ks. after (same at ks) (λ y. expect (is_word (codes "fi")) (tree.If value x (Some y)))) count count (omega arith)
      (behind _ _ count s (λ y. expected (is_word (codes "fi")) (tree.If value x (Some y)) count))
      (expected (is_word (codes "fi")) (tree.If value x None) count)

  test_alike : Same count (conditional whole room) (conditional same more)
  unfolding conditional
  test_alike = behind _ _ count (exprs room more count h i) (λ value. skipped (is_word (codes "then")) _ _ count (behind _ _ count s (sides_alike value)))

  lower_proc_by : (name : List ℕ) (at : ℕ) (us vs ws : List TokenKind) → length us ≤ count → Alike at (at + 1 + length us) vs ws (lower_proc whole room name at (at + 1) (us ++ vs)) (lower_proc same more name at (at + 1) (us ++ ws))
  unfolding lower_proc
  lower_proc_by name at us vs ws j =
      if_alike (bytes_eq name (codes "let")) (next_alike count at us vs ws j block_alike)
      (if_alike (bytes_eq name (codes "if")) (next_alike count at us vs ws j test_alike)
      (if_alike (bytes_eq name (codes "create")) (next_alike count at us vs ws j (behind _ _ count (create_alike room more count h i) (timed_alike room more count h i at)))
      (if_alike (is_atom_word name) (next_alike count at us vs ws j (behind _ _ count (mapping count (act.Named name) (in_parens_alike room more count h i (exprs room more count h i))) (timed_alike room more count h i at)))
      (stops_there at us vs ws))))

  prim_of_by : (k : TokenKind) (at : ℕ) (us vs ws : List TokenKind) → length us ≤ count → Alike at (at + 1 + length us) vs ws (prim_of whole room at (k ∷ (us ++ vs))) (prim_of same more at (k ∷ (us ++ ws)))
  unfolding prim_of
  prim_of_by (Int n) at us vs ws j = stops_there at us vs ws
  prim_of_by (Str bytes) at us vs ws j = stops_there at us vs ws
  prim_of_by (Lower name) at us vs ws j = lower_proc_by name at us vs ws j
  prim_of_by (Upper name) at us vs ws j = next_alike count at us vs ws j (upper_proc_alike room more count h i name at)
  prim_of_by (Sign symbol) at us vs ws j = if_alike (is_sign LeftParen (Sign symbol)) (next_alike count at us vs ws j (behind _ _ count s (λ x. expected (is_sign RightParen) x count))) (stops_there at us vs ws)

  prim_of_alike : Same (count + 1) (prim_of whole room) (prim_of same more)
  unfolding prim_of
  prim_of_alike = by_token count (count + 1) (omega arith) (λ at. omega arith) prim_of_by

prim_alike : (room more count : ℕ) → count ≤ room → room ≤ more → Same count (prim room) (prim more)
unfolding prim
prim_alike zero more count h i = roomless (prim more) count h
prim_alike (suc room) zero count h i = absurd (omega arith)
prim_alike (suc room) (suc more) count h i =
    let less : count - 1 ≤ room = omega arith in
    let inner : room ≤ more = omega arith in
    fewer count (omega arith) (prim_of_alike room more (count - 1) less inner (transfer_alike room more (count - 1) less inner (prim_alike room more (count - 1) less inner)))

pub proc_alike : (room more count : ℕ) → count ≤ room → room ≤ more → Same count (proc room) (proc more)
unfolding proc
proc_alike room more count h i = transfer_alike room more count h i (prim_alike room more count h i)
