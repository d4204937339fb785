-- Scripts are read alike if tokens begin alike: no script's spelling begins with the tokens through that of an error.
use Rattle.std.proofs.Common.{◌≡◌, ℕ, zero, suc, ◌+◌, ◌-◌, ◌<◌, ◌≤◌, Bool, true, false, List, [], ◌∷◌, ◌++◌, length, take, drop, Some, None, refl, ap, sym, ◌∙◌, arith, codes}
use Rattle.std.proofs.lemmas.List.{length-append, length-take-le, take-append-drop}
use Rattle.tb_lex.specs.declared.kind.TokenKind.{TokenKind}
use Rattle.tb_lex.specs.declared.symbol.Symbol.TheVariants.{LeftParen, RightParen, LeftBrace, RightBrace, Equals, Question}
use Rattle.tb_syntax.specs.declared.proc.Var.{Var}
use Rattle.tb_syntax.specs.declared.script.Formal.{Formal}
use Rattle.tb_syntax.specs.declared.script.Script.{Script}
use Rattle.tb_parse.specs.Faults.{Begins}
use Rattle.tb_parse.specs.Helpers.Parsing.{Outcome, Found, Stops, after, mapped, is_sign, is_word, skip, text, formal, process, command, tool, with_process, with_tool, definitions, roots, at_end, script}
use Rattle.tb_parse.proofs.ReadScripts.{complete}
use Rattle.tb_parse.proofs.Alike.{Alike, Same, end, branch_alike, finding, branch, skipped, expected, roomless, mapping, behind}
use Rattle.tb_parse.proofs.AlikeParts.{upper_alike, text_alike, free_name_alike, parted_alike, in_parens_alike}
use Rattle.tb_parse.proofs.AlikeExprs.{call_alike}
use Rattle.tb_parse.proofs.AlikeProcs.{var_alike, proc_alike}

-- Definitions.

abbrev formal_of : Var → Bool → Formal
formal_of v result = record { name = v.name; sort = v.sort; result = result; token = v.token; sort_token = v.sort_token }

module _ (room more count : ℕ) (h : count ≤ room) (i : room ≤ more) where
  formal_alike : Same count (formal room) (formal more)
  unfolding formal
  formal_alike = behind _ _ count (var_alike room more count h i) (λ v.
      branch (is_sign Question) (λ at ks. Found (formal_of v true) at ks) (λ at ks. Found (formal_of v true) at ks) count count (omega arith) (finding count (formal_of v true)) (finding count (formal_of v false)))

  process_alike : (position : ℕ) → Same count (process room position) (process more position)
  unfolding process
  process_alike position = behind _ _ count (upper_alike count) (λ name.
      behind _ _ count (in_parens_alike room more count h i formal_alike) (λ formals. skipped (is_word (codes "is")) _ _ count (mapping count _ (proc_alike room more count h i))))

  roots_alike : Same count (roots room) (roots more)
  unfolding roots
  roots_alike =
      branch (is_sign RightParen) (λ at ks. Found [] at ks) (λ at ks. Found [] at ks) count count (omega arith) (finding count [])
      (behind _ _ count (parted_alike room more count h i (call_alike room more count h i)) (λ calls. expected (is_sign RightParen) calls count))

command_alike : (count : ℕ) → Same count command command
unfolding command
command_alike count =
    branch (is_word (codes "command")) (skip (is_sign Equals) (λ at ks. mapped Some (text at ks))) (skip (is_sign Equals) (λ at ks. mapped Some (text at ks))) count count (omega arith)
    (skipped (is_sign Equals) _ _ count (mapping count Some (text_alike count)))
    (finding count None)

tool_alike : (count position : ℕ) → Same count (tool position) (tool position)
unfolding tool
tool_alike count position = behind _ _ count (free_name_alike count) (λ name. skipped (is_word (codes "is")) _ _ count (skipped (is_sign LeftBrace) _ _ count
    (behind _ _ count (command_alike count) (λ found. expected (is_sign RightBrace) (record { name = name; command = found; token = position }) count))))

definitions_alike : (inner outer room more count : ℕ) → count ≤ inner → inner ≤ outer → count ≤ room → room ≤ more → Same count (definitions inner room) (definitions outer more)
unfolding definitions
definitions_alike inner outer zero more count h i j k = roomless (definitions outer more) count j
definitions_alike inner outer (suc room) zero count h i j k = absurd (omega arith)
definitions_alike inner outer (suc room) (suc more) count h i j k =
    let rest = definitions_alike inner outer room more (count - 1) (omega arith) i (omega arith) (omega arith) in
    record {
      alike = λ at us vs ws l.
          branch_alike (is_word (codes "process")) (λ next ks. after (process inner at next ks) (λ d at ks. mapped (with_process d) (definitions inner room at ks)))
          (λ next ks. after (process outer at next ks) (λ d at ks. mapped (with_process d) (definitions outer more at ks))) (count - 1) at us vs ws (omega arith)
          (behind _ _ (count - 1) (process_alike inner outer (count - 1) (omega arith) i at) (λ d. mapping (count - 1) _ rest))
          (branch_alike (is_word (codes "tool")) (λ next ks. after (tool at next ks) (λ d at ks. mapped (with_tool d) (definitions inner room at ks)))
          (λ next ks. after (tool at next ks) (λ d at ks. mapped (with_tool d) (definitions outer more at ks))) (count - 1) at us vs ws (omega arith)
          (behind _ _ (count - 1) (tool_alike (count - 1) at) (λ d. mapping (count - 1) _ rest))
          (Alike.found us (omega arith) refl));
    }

-- Scripts.

at_end_alike : {A : Type 0} (count : ℕ) (x : A) → Same count (at_end x) (at_end x)
at_end_alike count x = record { alike = by } where
  by : (at : ℕ) (us vs ws : List TokenKind) → length us ≤ count → Alike at (at + length us) vs ws (at_end x at (us ++ vs)) (at_end x at (us ++ ws))
  by at [] [] ws h = Alike.beyond (omega arith) (omega arith)
  by at [] (v ∷ vs) ws h = Alike.beyond (omega arith) (omega arith)
  by at (k ∷ us) vs ws h = Alike.stops (omega arith)

script_alike : (room more count : ℕ) → count ≤ room → room ≤ more → Same count (script room) (script more)
unfolding script
script_alike room more count h i = behind _ _ count (definitions_alike room more room more count h i h i) (λ defined.
    skipped (is_word (codes "toolbus")) _ _ count (skipped (is_sign LeftParen) _ _ count
    (behind _ _ count (roots_alike room more count h i) (λ calls. at_end_alike count _))))

stays : {A : Type 0} {at stop position : ℕ} {vs ws : List TokenKind} {o other : Outcome A} → Alike at stop vs ws o other → o ≡ Stops position → position < stop → other ≡ Stops position
stays (Alike.beyond h i) e j = absurd (let f = ap end e in omega arith)
stays (Alike.found us h i) e j = absurd (cc)
stays (Alike.stops h) e j = cc

-- An error's position doesn't depend on the tokens after it.
pub stopped_so : (room : ℕ) (us vs ws : List TokenKind) (position : ℕ) → length us ≤ room → script room 0 (us ++ vs) ≡ Stops position → position < length us → script (room + length ws) 0 (us ++ ws) ≡ Stops position
stopped_so room us vs ws position h e i = stays ((script_alike room (room + length ws) (length us) h (omega arith)).alike 0 us vs ws (omega arith)) e (omega arith)

-- no script's spelling begins with the tokens through the one at which reading stops
pub wrong : (room : ℕ) (ks : List TokenKind) (position : ℕ) → length ks ≤ room → script room 0 ks ≡ Stops position → position < length ks → Begins (take (position + 1) ks) → ⊥
wrong room ks position h e i b =
    let us : List TokenKind = take (position + 1) ks in
    let long : length us ≡ position + 1 = length-take-le (position + 1) ks (omega arith) in
    let whole : script room 0 (us ++ drop (position + 1) ks) ≡ Stops position = ap (script room 0) (take-append-drop (position + 1) ks) ∙ e in
    let stopped = stopped_so room us (drop (position + 1) ks) b.0 position (omega arith) whole (omega arith) in
    let sum = length-append us b.0 in
    let read = complete b.1 (us ++ b.0) b.2 (room + length b.0) (omega arith) in
    apart (sym read ∙ stopped) where
      apart : {s : Script} {at position : ℕ} {rest : List TokenKind} → ◌≡◌ {A = Outcome Script} (Found s at rest) (Stops position) → ⊥
      apart e = cc
