-- The tokens that are read as a script spell it, and the tokens before an error begin some script's spelling.
use Rattle.std.proofs.Common.{◌≡◌, ℕ, zero, suc, ◌+◌, ◌≤◌, Bool, true, false, List, [], ◌∷◌, ◌++◌, length, take, Option, Some, if◌then◌else◌, refl, ap, sym, ◌∙◌, subst, arith, codes, append-nil}
use Rattle.std.proofs.lemmas.List.{length-append}
use Rattle.std.proofs.Math.Seq.{take-append_seam}
use Rattle.tb_lex.specs.declared.kind.TokenKind.{TokenKind}
use Rattle.tb_lex.specs.declared.kind.TokenKind.TheVariants.{Int, Str, Lower, Upper, Symbol as Sign}
use Rattle.tb_lex.specs.declared.symbol.Symbol.TheVariants.{LeftParen, RightParen, LeftBrace, RightBrace, Equals, Question}
use Rattle.tb_syntax.specs.declared.proc.Call.{Call}
use Rattle.tb_syntax.specs.declared.proc.Var.{Var}
use Rattle.tb_syntax.specs.declared.script.Formal.{Formal}
use Rattle.tb_syntax.specs.declared.script.Script.{Script}
use Rattle.tb_syntax.specs.declared.script.ToolDef.{ToolDef}
use Rattle.tb_syntax.specs.Spelling.{InParens, SpellsCall, SpellsFormal, SpellsProcDef, SpellsToolDef, SpellsDefinitions, SpellsRoots, Spells, SpellsVar, mark, command_tokens}
use Rattle.tb_parse.specs.Faults.{Begins}
use Rattle.tb_parse.specs.Helpers.Parsing.{Parser, Outcome, Found, Stops, after, mapped, begins, tail, is_sign, is_word, expect, skip, text, call, proc, formal, process, command, tool, Defined, with_process, with_tool, definitions, roots, at_end, script}
use Rattle.tb_parse.proofs.Fits.{Fits, Opens, found, stops, token, behind, mapping, with_sign, with_word, skip_sign, skip_word, expect_sign, stops_begun}
use Rattle.tb_parse.proofs.SoundLists.{Sound, parted_sound, in_parens_sound}
use Rattle.tb_parse.proofs.SoundSorts.{upper_sound, free_name_sound}
use Rattle.tb_parse.proofs.SoundExprs.{call_sound}
use Rattle.tb_parse.proofs.SoundAtoms.{var_sound}
use Rattle.tb_parse.proofs.SoundProcs.{proc_sound, at_proc}

-- Definitions of processes.

abbrev formal_of : Var → Bool → Formal
formal_of v result = record { name = v.name; sort = v.sort; result = result; token = v.token; sort_token = v.sort_token }

formal_made : (at : ℕ) (v : Var) (xs : List TokenKind) (result : Bool) → SpellsVar at v xs → SpellsFormal at (formal_of v result) (xs ++ mark result)
formal_made at v xs result d = record { position = d.position; sort = d.sort; is_sort = d.is_sort; is = ap (λ l. l ++ mark result) d.is }

formal_sound : (room : ℕ) → Sound SpellsFormal (formal room)
unfolding formal
formal_sound room at ks = behind _ (var_sound room at ks) (λ v xs rest d.
    with_sign Question (λ at ks. Found (formal_of v true) at ks) (λ rest. found (formal_made at v xs true d)) (found (formal_made at v xs false d)))

-- after the word
process_sound : (room position : ℕ) (ks : List TokenKind) → Fits (λ d ns. SpellsProcDef position d (Lower (codes "process") ∷ ns)) (position + 1) ks (process room position (position + 1) ks)
unfolding process
process_sound room position ks = behind _ (upper_sound (position + 1) ks) (λ name xs rest f. rw f
    (behind _ (in_parens_sound SpellsFormal (formal room) (formal_sound room) room (position + 1 + 1) rest) (λ formals fs rest d.
    skip_word (codes "is") (λ at ks. mapped (λ body. record { name = name; formals = formals; body = body; token = position }) (proc room at ks))
    (λ rest. mapping _ (proc_sound room (position + 1 + 1 + length fs + 1) rest) (λ b bs e.
    record { position = refl; formals = fs; are_formals = at_formals (omega arith) d; body = bs; is_body = at_proc (omega arith) e; is = refl }))))) where
      at_formals : {a b : ℕ} {formals : List Formal} {fs : List TokenKind} → a ≡ b → InParens SpellsFormal a formals fs → InParens SpellsFormal b formals fs
      at_formals {formals = formals} {fs = fs} e d = subst (λ n. InParens SpellsFormal n formals fs) e d

-- Definitions of tools.

abbrev IsText : List ℕ → List TokenKind → Type 0
IsText bytes ks = ks ≡ Str bytes ∷ []

-- a string can be there
no_text : Opens IsText []
no_text = (Str [] ∷ [], [], refl)

text_sound : (at : ℕ) (ks : List TokenKind) → Fits IsText at ks (text at ks)
text_sound at [] = stops no_text
text_sound at (Int n ∷ ks) = stops no_text
text_sound at (Str bytes ∷ ks) = token (found refl)
text_sound at (Lower name ∷ ks) = stops no_text
text_sound at (Upper name ∷ ks) = stops no_text
text_sound at (Sign symbol ∷ ks) = stops no_text

abbrev IsCommand : Option (List ℕ) → List TokenKind → Type 0
IsCommand o ks = ks ≡ command_tokens o

command_sound : (at : ℕ) (ks : List TokenKind) → Fits IsCommand at ks (command at ks)
unfolding command
command_sound at ks =
    with_word (codes "command") (skip (is_sign Equals) (λ at ks. mapped Some (text at ks)))
    (λ rest. skip_sign Equals (λ at ks. mapped Some (text at ks)) (λ rest. mapping _ (text_sound (at + 1 + 1) rest) (λ bytes ns e. ap (λ l. Lower (codes "command") ∷ Sign Equals ∷ l) e)))
    (found refl)

-- after the word
tool_sound : (position : ℕ) (ks : List TokenKind) → Fits (λ d ns. SpellsToolDef position d (Lower (codes "tool") ∷ ns)) (position + 1) ks (tool position (position + 1) ks)
unfolding tool
tool_sound position ks = behind _ (free_name_sound (position + 1) ks) (λ name xs rest f. rw f.1
    (skip_word (codes "is") (skip (is_sign LeftBrace) (closed name)) (λ rest.
    skip_sign LeftBrace (closed name) (λ rest. behind _ (command_sound (position + 1 + 1 + 1 + 1) rest) (λ c cs rest e.
    expect_sign RightBrace _ (record { position = refl; is_name = f.0; is = ap (λ l. Lower (codes "tool") ∷ Lower name ∷ Lower (codes "is") ∷ Sign LeftBrace ∷ (l ++ Sign RightBrace ∷ [])) e })))))) where
      closed : List ℕ → Parser ToolDef
      closed name at ks = after (command at ks) (λ found. expect (is_sign RightBrace) (record { name = name; command = found; token = position }))

-- Scripts.

abbrev SpellsDefined : ℕ → Defined → List TokenKind → Type 0
SpellsDefined at defined ks = SpellsDefinitions at defined.procs defined.tools ks

at_defined : {a b : ℕ} {d : Defined} {ks : List TokenKind} → a ≡ b → SpellsDefined a d ks → SpellsDefined b d ks
at_defined {d = d} {ks = ks} e s = subst (λ n. SpellsDefined n d ks) e s

definitions_sound : (inner room : ℕ) → Sound SpellsDefined (definitions inner room)
unfolding definitions
definitions_sound inner zero at ks = stops ([], record { procs = []; tools = [] }, SpellsDefinitions.none at)
definitions_sound inner (suc room) at ks =
    with_word (codes "process") (λ next ks. after (process inner at next ks) (λ d at ks. mapped (with_process d) (definitions inner room at ks)))
    (λ rest. behind _ (process_sound inner at rest) (λ d ds rest p.
    mapping _ (definitions_sound inner room (at + 1 + length ds) rest) (λ x ns e. SpellsDefinitions.process p (at_defined {d = x} (omega arith) e))))
    (with_word (codes "tool") (λ next ks. after (tool at next ks) (λ d at ks. mapped (with_tool d) (definitions inner room at ks)))
    (λ rest. behind _ (tool_sound at rest) (λ d ds rest p.
    mapping _ (definitions_sound inner room (at + 1 + length ds) rest) (λ x ns e. SpellsDefinitions.tool p (at_defined {d = x} (omega arith) e))))
    (found (SpellsDefinitions.none at)))

-- the roots, with the parenthesis after them
abbrev ClosedRoots : ℕ → List Call → List TokenKind → Type 0
ClosedRoots at calls ks = (rs : List TokenKind) × (ks ≡ rs ++ Sign RightParen ∷ []) × SpellsRoots at calls rs

roots_sound : (room : ℕ) → Sound ClosedRoots (roots room)
unfolding roots
roots_sound room at ks =
    with_sign RightParen (λ at ks. Found [] at ks) (λ rest. found ([], refl, SpellsRoots.none at))
    (behind _ (parted_sound SpellsCall (call room) (call_sound room) room at ks) (λ calls cs rest d. expect_sign RightParen calls (cs, refl, SpellsRoots.some d)))

end_sound : {A : Type 0} {S : A → List TokenKind → Type 0} (x : A) → S x [] → (at : ℕ) (ks : List TokenKind) → Fits S at ks (at_end x at ks)
end_sound x s at [] = found s
end_sound x s at (k ∷ ks) = stops ([], x, s)

script_made : (defined : Defined) (ds : List TokenKind) (calls : List Call) (cs : List TokenKind) → SpellsDefined 0 defined ds → ClosedRoots (length ds + 2) calls cs
    → Spells (record { procs = defined.procs; tools = defined.tools; roots = calls }) (ds ++ Lower (codes "toolbus") ∷ Sign LeftParen ∷ (cs ++ []))
script_made defined ds calls cs d r =
    record { definitions = ds; are_definitions = d; roots = r.0; are_roots = r.2; is = ap (λ l. ds ++ Lower (codes "toolbus") ∷ Sign LeftParen ∷ l) (append-nil cs ∙ r.1) }

at_roots : {a b : ℕ} {calls : List Call} {cs : List TokenKind} → a ≡ b → ClosedRoots a calls cs → ClosedRoots b calls cs
at_roots {calls = calls} {cs = cs} e r = subst (λ n. ClosedRoots n calls cs) e r

pub script_fits : (room : ℕ) (ks : List TokenKind) → Fits Spells 0 ks (script room 0 ks)
unfolding script
script_fits room ks = behind _ (definitions_sound room room 0 ks) (λ defined ds rest d.
    skip_word (codes "toolbus") (skip (is_sign LeftParen) (behind_paren defined)) (λ rest.
    skip_sign LeftParen (behind_paren defined) (λ rest. behind _ (roots_sound room (0 + length ds + 1 + 1) rest) (λ calls cs rest r.
    end_sound _ (script_made defined ds calls cs d (at_roots (omega arith) r)) _ rest)))) where
      behind_paren : Defined → Parser Script
      behind_paren defined at ks = after (roots room at ks) (λ calls. at_end (record { procs = defined.procs; tools = defined.tools; roots = calls }))

-- No token is left after a script.

abbrev Ends : {A : Type 0} → Outcome A → Type 0
Ends (Found x at rest) = rest ≡ []
Ends (Stops at) = Unit {0}

after_ends : {A B : Type 0} (next : A → Parser B) → ((x : A) (at : ℕ) (ks : List TokenKind) → Ends (next x at ks)) → (o : Outcome A) → Ends (after o next)
after_ends next h (Found x at ks) = h x at ks
after_ends next h (Stops at) = tt

if_ends : {A : Type 0} (b : Bool) (at : ℕ) (o : Outcome A) → Ends o → Ends (if b then o else Stops at)
if_ends true at o h = h
if_ends false at o h = tt

at_end_ends : {A : Type 0} (x : A) (at : ℕ) (ks : List TokenKind) → Ends (at_end x at ks)
at_end_ends x at [] = refl
at_end_ends x at (k ∷ ks) = tt

script_ends : (room at : ℕ) (ks : List TokenKind) → Ends (script room at ks)
unfolding script
script_ends room at ks = after_ends _ (λ defined at ks. if_ends (begins (is_word (codes "toolbus")) ks) at _
    (if_ends (begins (is_sign LeftParen) (tail ks)) (at + 1) _ (after_ends _ (λ calls at ks. at_end_ends _ at ks) (roots room (at + 1 + 1) (tail (tail ks)))))) (definitions room room at ks)

-- the tokens spell the script that is read, and none are left
pub sound : (room : ℕ) (ks : List TokenKind) (s : Script) (at : ℕ) (rest : List TokenKind) → script room 0 ks ≡ Found s at rest → Spells s ks
sound room ks s at rest e =
    let f : Fits Spells 0 ks (Found s at rest) = subst (Fits Spells 0 ks) e (script_fits room ks) in
    let none : rest ≡ [] = subst Ends e (script_ends room 0 ks) in
    let all : ks ≡ f.fits.0 = f.fits.1 ∙ ap (λ l. f.fits.0 ++ l) none ∙ append-nil f.fits.0 in
    subst (Spells s) (sym all) f.fits.3

-- an error's position is that of a token or the end, and the tokens before it begin some script's spelling
pub begun : (room : ℕ) (ks : List TokenKind) (position : ℕ) → script room 0 ks ≡ Stops position → (position ≤ length ks) × Begins (take position ks)
begun room ks position e =
    let f = stops_begun (script_fits room ks) e in
    let here : position ≡ 0 + length f.0 = f.3 in
    let position_is : position ≡ length f.0 = omega arith in
    let all : length ks ≡ length f.0 + length f.1 = ap length f.2 ∙ length-append f.0 f.1 in
    let prefix : take position ks ≡ f.0 = ap (take position) f.2 ∙ ap (λ n. take n (f.0 ++ f.1)) position_is ∙ take-append_seam f.0 f.1 in
    (omega arith, subst Begins (sym prefix) f.4)
