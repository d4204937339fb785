-- The parser reads each spelling of a script as this script, so its tokens spell no other script.
use Rattle.std.proofs.Common.{◌≡◌, ℕ, zero, suc, ◌+◌, ◌≤◌, ◌<◌, Bool, true, false, List, [], ◌∷◌, ◌++◌, length, Option, Some, None, refl, ap, sym, ◌∙◌, subst, arith, append_assoc, codes}
use Rattle.std.proofs.lemmas.List.{length-append}
use Rattle.tb_lex.specs.declared.kind.TokenKind.{TokenKind}
use Rattle.tb_lex.specs.declared.kind.TokenKind.TheVariants.{Lower, Upper, Symbol as Sign}
use Rattle.tb_lex.specs.declared.symbol.Symbol.TheVariants.{LeftParen, RightParen, LeftBrace, RightBrace, Comma, Colon, Question}
use Rattle.tb_syntax.specs.declared.proc.Call.{Call}
use Rattle.tb_syntax.specs.declared.proc.Proc.{Proc}
use Rattle.tb_syntax.specs.declared.proc.Var.{Var}
use Rattle.tb_syntax.specs.declared.script.Formal.{Formal}
use Rattle.tb_syntax.specs.declared.script.ProcDef.{ProcDef}
use Rattle.tb_syntax.specs.declared.script.Script.{Script}
use Rattle.tb_syntax.specs.declared.script.ToolDef.{ToolDef}
use Rattle.tb_syntax.specs.Spelling.{Parted, InParens, SpellsCall, SpellsVar, SpellsFormal, SpellsProcDef, SpellsToolDef, SpellsDefinitions, SpellsRoots, Spells, mark, command_tokens, in_parens as in_parens_tokens}
use Rattle.tb_syntax.specs.Words.{is_free}
use Rattle.tb_parse.specs.Helpers.Parsing.{Parser, Outcome, Found, Stops, after, begins, is_sign, free_name, parted, in_parens, call, var, proc, formal, process, command, tool, Defined, with_process, with_tool, definitions, roots, at_end, script}
use Rattle.tb_parse.proofs.ReadParts.{neither, arrives, read, read_last, read_mapped, ReadsIn, Reads, parted_map, in_parens_map, parted_reads, in_parens_reads}
use Rattle.tb_parse.proofs.ReadExprs.{on_expr, call_reads}
use Rattle.tb_parse.proofs.ReadAtoms.{var_reads}
use Rattle.tb_parse.proofs.ReadProcs.{on_proc, proc_reads}

-- Parameters.

abbrev formal_with : Formal → Bool → Formal
formal_with f result = record { name = f.name; sort = f.sort; result = result; token = f.token; sort_token = f.sort_token }

abbrev variable : Formal → Var
variable f = record { name = f.name; sort = f.sort; token = f.token; sort_token = f.sort_token }

formal_by : (f : Formal) (at : ℕ) (ks : List TokenKind) → Reads var (is_sign LeftParen) at (variable f) (Upper f.name ∷ Sign Colon ∷ ks) → (b : Bool) → ReadsIn formal on_expr at (formal_with f b) (Upper f.name ∷ Sign Colon ∷ (ks ++ mark b))
unfolding formal
formal_by f at ks d true room h more e =
    let sum = length-append ks (mark true) in
    read (var room) _ (Upper f.name ∷ Sign Colon ∷ ks) (mark true) more refl (d.reads room (omega arith) (Sign Question ∷ more) refl) (arrives (omega arith))
formal_by f at ks d false room h more e =
    let sum = length-append ks (mark false) in
    let parts = neither (is_sign LeftParen) (is_sign Question) more e in
    read (var room) _ (Upper f.name ∷ Sign Colon ∷ ks) (mark false) more refl (d.reads room (omega arith) more parts.0) (rw parts.1 (arrives (omega arith)))

formal_reads : {at : ℕ} {f : Formal} {ks : List TokenKind} → SpellsFormal at f ks → Reads formal on_expr at f ks
formal_reads {at = at} {f = f} d =
    let v : SpellsVar at (variable f) (Upper f.name ∷ Sign Colon ∷ d.sort) = record { position = d.position; sort = d.sort; is_sort = d.is_sort; is = refl } in
    subst (Reads formal on_expr at f) (sym d.is) (record { some = omega arith; reads = formal_by f at d.sort (var_reads v) f.result })

-- Definitions of processes.

-- after the word
process_by : (d : ProcDef) (at : ℕ) (fs bs : List TokenKind) → d.token ≡ at → InParens (Reads formal on_expr) (at + 2) d.formals fs
    → ((room : ℕ) → length bs < room → (more : List TokenKind) → begins on_proc more ≡ false → proc room (at + length fs + 3) (bs ++ more) ≡ Found d.body (at + length fs + 3 + length bs) more)
    → (room : ℕ) → length fs + length bs < room → (more : List TokenKind) → begins on_proc more ≡ false
    → process room at (at + 1) (Upper d.name ∷ ((fs ++ Lower (codes "is") ∷ bs) ++ more)) ≡ Found d (at + 1 + length (Upper d.name ∷ (fs ++ Lower (codes "is") ∷ bs))) more
unfolding process
process_by d at fs bs position f b room h more e =
    let sum = length-append fs (Lower (codes "is") ∷ bs) in
    let made : Proc → ProcDef = λ body. record { name = d.name; formals = d.formals; body = body; token = at } in
    let same : made d.body ≡ d = ap (λ n. record { name = d.name; formals = d.formals; body = d.body; token = n }) (sym position) in
    read (in_parens (formal room) room) _ {at = at + 2} fs (Lower (codes "is") ∷ bs) more (omega arith) (in_parens_reads formal on_expr refl refl f room room (omega arith) (omega arith) (Lower (codes "is") ∷ (bs ++ more)) refl)
    (read_mapped (proc room) made {at = at + length fs + 3} bs more (omega arith) (b room (omega arith) more e) (omega arith))
    ∙ ap (λ d'. Found d' (at + 1 + length (Upper d.name ∷ (fs ++ Lower (codes "is") ∷ bs))) more) same

-- Definitions of tools.

-- after the word
tool_by : (at : ℕ) (name : List ℕ) (c : Option (List ℕ)) → is_free name ≡ true → (more : List TokenKind)
    → tool at (at + 1) (Lower name ∷ Lower (codes "is") ∷ Sign LeftBrace ∷ ((command_tokens c ++ Sign RightBrace ∷ []) ++ more))
    ≡ Found (record { name = name; command = c; token = at }) (at + 1 + length (Lower name ∷ Lower (codes "is") ∷ Sign LeftBrace ∷ (command_tokens c ++ Sign RightBrace ∷ []))) more
unfolding tool free_name command
tool_by at name None free more = rw free (arrives (omega arith))
tool_by at name (Some c) free more = rw free (arrives (omega arith))

tool_read : (d : ToolDef) (at : ℕ) → d.token ≡ at → is_free d.name ≡ true → (more : List TokenKind)
    → tool at (at + 1) (Lower d.name ∷ Lower (codes "is") ∷ Sign LeftBrace ∷ ((command_tokens d.command ++ Sign RightBrace ∷ []) ++ more))
    ≡ Found d (at + 1 + length (Lower d.name ∷ Lower (codes "is") ∷ Sign LeftBrace ∷ (command_tokens d.command ++ Sign RightBrace ∷ []))) more
tool_read d at position free more =
    let end = at + 1 + length (Lower d.name ∷ Lower (codes "is") ∷ Sign LeftBrace ∷ (command_tokens d.command ++ Sign RightBrace ∷ [])) in
    tool_by at d.name d.command free more ∙ ap (λ n. Found (record { name = d.name; command = d.command; token = n }) end more) (sym position)

-- All definitions, behind which the word of the roots stands.

abbrev rest_of : List TokenKind → List TokenKind
rest_of more = Lower (codes "toolbus") ∷ more

definitions_open : {at : ℕ} {procs : List ProcDef} {tools : List ToolDef} {ks : List TokenKind} → SpellsDefinitions at procs tools ks → (more : List TokenKind) → begins on_proc (ks ++ rest_of more) ≡ false
definitions_open (SpellsDefinitions.none at) more = refl
definitions_open (SpellsDefinitions.process {ks = ks} {rest = rest} d ds) more = rw (append_assoc ks rest (rest_of more), d.is) refl
definitions_open (SpellsDefinitions.tool {ks = ks} {rest = rest} d ds) more = rw (append_assoc ks rest (rest_of more), d.is) refl

abbrev defined : List ProcDef → List ToolDef → Defined
defined procs tools = record { procs = procs; tools = tools }

-- a definition in front of others
abbrev Step : ℕ → ℕ → ℕ → Defined → Defined → List TokenKind → List TokenKind → List TokenKind → Type 0
Step inner room at one all ks rest more =
    definitions inner room (at + length ks) (rest ++ more) ≡ Found one (at + length ks + length rest) more → definitions inner (suc room) at ((ks ++ rest) ++ more) ≡ Found all (at + length (ks ++ rest)) more

process_step : (inner room at : ℕ) (d : ProcDef) (procs : List ProcDef) (tools : List ToolDef) (ks rest more : List TokenKind) → process inner at (at + 1) (ks ++ (rest ++ more)) ≡ Found d (at + 1 + length ks) (rest ++ more)
    → Step inner room at (defined procs tools) (defined (d ∷ procs) tools) (Lower (codes "process") ∷ ks) rest more
unfolding definitions
process_step inner room at d procs tools ks rest more e ih =
    let sum = length-append ks rest in
    read (process inner at) _ ks rest more refl e (read_mapped (definitions inner room) (with_process d) {at = at + length (Lower (codes "process") ∷ ks)} rest more (omega arith) ih (omega arith))

tool_step : (inner room at : ℕ) (d : ToolDef) (procs : List ProcDef) (tools : List ToolDef) (ks rest more : List TokenKind) → tool at (at + 1) (ks ++ (rest ++ more)) ≡ Found d (at + 1 + length ks) (rest ++ more)
    → Step inner room at (defined procs tools) (defined procs (d ∷ tools)) (Lower (codes "tool") ∷ ks) rest more
unfolding definitions
tool_step inner room at d procs tools ks rest more e ih =
    let sum = length-append ks rest in
    read (tool at) _ ks rest more refl e (read_mapped (definitions inner room) (with_tool d) {at = at + length (Lower (codes "tool") ∷ ks)} rest more (omega arith) ih (omega arith))

process_reads : {at : ℕ} {d : ProcDef} {ks : List TokenKind} → SpellsProcDef at d ks → (inner room : ℕ) → length ks ≤ inner → (procs : List ProcDef) (tools : List ToolDef) (rest more : List TokenKind) → begins on_proc (rest ++ more) ≡ false
    → Step inner room at (defined procs tools) (defined (d ∷ procs) tools) ks rest more
process_reads {at = at} {d = d} {ks = ks} s inner room h procs tools rest more e =
    let sum = length-append s.formals (Lower (codes "is") ∷ s.body) in
    let all = ap length s.is in
    let one = process_by d at s.formals s.body s.position (in_parens_map (λ at f ks g. formal_reads g) s.are_formals) (proc_reads s.is_body) inner (omega arith) (rest ++ more) e in
    subst (λ ks. Step inner room at (defined procs tools) (defined (d ∷ procs) tools) ks rest more) (sym s.is)
    (process_step inner room at d procs tools (Upper d.name ∷ (s.formals ++ Lower (codes "is") ∷ s.body)) rest more one)

tool_reads : {at : ℕ} {d : ToolDef} {ks : List TokenKind} → SpellsToolDef at d ks → (inner room : ℕ) (procs : List ProcDef) (tools : List ToolDef) (rest more : List TokenKind)
    → Step inner room at (defined procs tools) (defined procs (d ∷ tools)) ks rest more
tool_reads {at = at} {d = d} s inner room procs tools rest more =
    subst (λ ks. Step inner room at (defined procs tools) (defined procs (d ∷ tools)) ks rest more) (sym s.is)
    (tool_step inner room at d procs tools (Lower d.name ∷ Lower (codes "is") ∷ Sign LeftBrace ∷ (command_tokens d.command ++ Sign RightBrace ∷ [])) rest more (tool_read d at s.position s.is_name (rest ++ more)))

process_some : {at : ℕ} {d : ProcDef} {ks : List TokenKind} → SpellsProcDef at d ks → 1 ≤ length ks
process_some s = let all = ap length s.is in omega arith

tool_some : {at : ℕ} {d : ToolDef} {ks : List TokenKind} → SpellsToolDef at d ks → 1 ≤ length ks
tool_some s = let all = ap length s.is in omega arith

definitions_read : {at : ℕ} {procs : List ProcDef} {tools : List ToolDef} {ks : List TokenKind} → SpellsDefinitions at procs tools ks → (inner room : ℕ) → length ks ≤ inner → length ks < room → (more : List TokenKind)
    → definitions inner room at (ks ++ rest_of more) ≡ Found (defined procs tools) (at + length ks) (rest_of more)
unfolding definitions
definitions_read (SpellsDefinitions.none at) inner zero h i more = absurd (omega arith)
definitions_read (SpellsDefinitions.none at) inner (suc room) h i more = arrives (omega arith)
definitions_read (SpellsDefinitions.process d ds) inner zero h i more = absurd (omega arith)
definitions_read (SpellsDefinitions.process {ks = ks} {procs = procs} {tools = tools} {rest = rest} d ds) inner (suc room) h i more =
    let sum = length-append ks rest in
    let some = process_some d in
    process_reads d inner room (omega arith) procs tools rest (rest_of more) (definitions_open ds more) (definitions_read ds inner room (omega arith) (omega arith) more)
definitions_read (SpellsDefinitions.tool d ds) inner zero h i more = absurd (omega arith)
definitions_read (SpellsDefinitions.tool {ks = ks} {procs = procs} {tools = tools} {rest = rest} d ds) inner (suc room) h i more =
    let sum = length-append ks rest in
    let some = tool_some d in
    tool_reads d inner room procs tools rest (rest_of more) (definitions_read ds inner room (omega arith) (omega arith) more)

-- Roots.

calls_open : {at : ℕ} {calls : List Call} {ks : List TokenKind} → Parted SpellsCall at calls ks → (more : List TokenKind) → begins (is_sign RightParen) (ks ++ more) ≡ false
calls_open (Parted.last d) more = rw d.is refl
calls_open (Parted.more {ks = ks} {rest = rest} d ds) more = rw (append_assoc ks (Sign Comma ∷ rest) more, d.is) refl

roots_read : {at : ℕ} {calls : List Call} {ks : List TokenKind} → SpellsRoots at calls ks → (room : ℕ) → length ks ≤ room → (more : List TokenKind)
    → roots room at (ks ++ Sign RightParen ∷ more) ≡ Found calls (at + length ks + 1) more
unfolding roots
roots_read (SpellsRoots.none at) room h more = arrives (omega arith)
roots_read (SpellsRoots.some {ks = ks} ds) room h more =
    rw (calls_open ds (Sign RightParen ∷ more))
    (read_last (parted (call room) room) _ ks (Sign RightParen ∷ more) refl (parted_reads call (is_sign LeftParen) refl (parted_map (λ at c ks d. call_reads d) ds) room room h h (Sign RightParen ∷ more) refl refl) refl)

-- Scripts.

script_by : (s : Script) (ds rs : List TokenKind) → SpellsDefinitions 0 s.procs s.tools ds → SpellsRoots (length ds + 2) s.roots rs → (room : ℕ) → length ds + length rs + 3 ≤ room
    → script room 0 (ds ++ Lower (codes "toolbus") ∷ in_parens_tokens rs) ≡ Found s (length ds + length rs + 3) []
unfolding script
script_by s ds rs d r room h =
    let next : List Call → Parser Script = λ calls. at_end (record { procs = s.procs; tools = s.tools; roots = calls }) in
    read_last (definitions room room) _ ds (Lower (codes "toolbus") ∷ in_parens_tokens rs) refl (definitions_read d room room (omega arith) (omega arith) (in_parens_tokens rs))
    (ap (λ n. after (roots room n (rs ++ Sign RightParen ∷ [])) next) (omega arith) ∙ ap (λ o. after o next) (roots_read r room (omega arith) []) ∙ arrives (omega arith))

pub complete : (s : Script) (ks : List TokenKind) → Spells s ks → (room : ℕ) → length ks ≤ room → script room 0 ks ≡ Found s (length ks) []
complete s ks d room h =
    let all : length ks ≡ length d.definitions + length d.roots + 3 =
    ap length d.is ∙ length-append d.definitions (Lower (codes "toolbus") ∷ in_parens_tokens d.roots) ∙ (let sum = length-append d.roots (Sign RightParen ∷ []) in omega arith) in
    ap (script room 0) d.is ∙ script_by s d.definitions d.roots d.are_definitions d.are_roots room (omega arith) ∙ arrives (sym all)

script_in : Script → Outcome Script → Script
script_in other (Found s at rest) = s
script_in other (Stops at) = other

-- tokens spell at most one script
pub unique : (ks : List TokenKind) (s t : Script) → Spells s ks → Spells t ks → s ≡ t
unfolding script_in
unique ks s t d e = ap (script_in s) (sym (complete s ks d (length ks) (omega arith)) ∙ complete t ks e (length ks) (omega arith))
