-- How the parser reads tokens from the left, and chooses each construct by its first token. Theorems of this crate connect it to
-- the grammar (`Spells`).
use Rattle.std.specs.Prelude.{ℕ, zero, suc, ◌+◌, Bool, true, false, nat_eq, List, [], ◌∷◌, Option, Some, None, codes, if◌then◌else◌}
use Rattle.std.specs.Str.{bytes_eq}
use Rattle.tb_terms.specs.declared.sort.Sort.{Sort}
use Rattle.tb_terms.specs.declared.sort.Sort.TheVariants as sorts
use Rattle.tb_lex.specs.declared.kind.TokenKind.{TokenKind}
use Rattle.tb_lex.specs.declared.kind.TokenKind.TheVariants.{Int, Str, Lower, Upper, Symbol as Sign}
use Rattle.tb_lex.specs.declared.symbol.Symbol.{Symbol}
use Rattle.tb_lex.specs.declared.symbol.Symbol.TheVariants.{LeftParen, RightParen, LeftBracket, RightBracket, LeftBrace, RightBrace, Comma, Point, Colon, Assign, Equals, Question, Plus, Star, Bars, Angles, Less, Greater}
use Rattle.tb_syntax.specs.declared.ast.Ast.{Ast}
use Rattle.tb_syntax.specs.declared.ast.AstKind.{AstKind}
use Rattle.tb_syntax.specs.declared.ast.AstKind.TheVariants as ast
use Rattle.tb_syntax.specs.declared.proc.ActDef.{ActDef}
use Rattle.tb_syntax.specs.declared.proc.ActDef.TheVariants as act
use Rattle.tb_syntax.specs.declared.proc.Call.{Call}
use Rattle.tb_syntax.specs.declared.proc.Proc.{Proc}
use Rattle.tb_syntax.specs.declared.proc.Proc.TheVariants as tree
use Rattle.tb_syntax.specs.declared.proc.TimeDef.{TimeDef}
use Rattle.tb_syntax.specs.declared.proc.Var.{Var}
use Rattle.tb_syntax.specs.declared.script.Formal.{Formal}
use Rattle.tb_syntax.specs.declared.script.ProcDef.{ProcDef}
use Rattle.tb_syntax.specs.declared.script.Script.{Script}
use Rattle.tb_syntax.specs.declared.script.ToolDef.{ToolDef}
use Rattle.tb_syntax.specs.AtomWords.{is_atom_word, is_time_word}
use Rattle.tb_syntax.specs.Words.{is_free}

-- what was read, with the position after it and the tokens that are left; or the position of the token that can't continue
pub data Outcome (A : Type 0) : Type 0 where
  Found : A → ℕ → List TokenKind → Outcome A
  Stops : ℕ → Outcome A

-- from a position and the tokens from there, an outcome
abbrev pub Parser : Type 0 → Type 0
Parser A = ℕ → List TokenKind → Outcome A

abbrev pub after : {A B : Type 0} → Outcome A → (A → Parser B) → Outcome B
after (Found x at ks) next = next x at ks
after (Stops at) next = Stops at

abbrev pub mapped : {A B : Type 0} → (A → B) → Outcome A → Outcome B
mapped f (Found x at ks) = Found (f x) at ks
mapped f (Stops at) = Stops at

abbrev pub sign_code : Symbol → ℕ
sign_code LeftParen = 0
sign_code RightParen = 1
sign_code LeftBracket = 2
sign_code RightBracket = 3
sign_code LeftBrace = 4
sign_code RightBrace = 5
sign_code Comma = 6
sign_code Point = 7
sign_code Colon = 8
sign_code Assign = 9
sign_code Equals = 10
sign_code Question = 11
sign_code Plus = 12
sign_code Star = 13
sign_code Bars = 14
sign_code Angles = 15
sign_code Less = 16
sign_code Greater = 17

abbrev pub is_sign : Symbol → TokenKind → Bool
is_sign sign (Int n) = false
is_sign sign (Str text) = false
is_sign sign (Lower name) = false
is_sign sign (Upper name) = false
is_sign sign (Sign other) = nat_eq (sign_code sign) (sign_code other)

abbrev pub is_word : List ℕ → TokenKind → Bool
is_word word (Int n) = false
is_word word (Str text) = false
is_word word (Lower name) = bytes_eq name word
is_word word (Upper name) = false
is_word word (Sign symbol) = false

-- whether there is a first token, and it passes the test
abbrev pub begins : (TokenKind → Bool) → List TokenKind → Bool
begins test [] = false
begins test (k ∷ ks) = test k

abbrev pub tail : List TokenKind → List TokenKind
tail [] = []
tail (k ∷ ks) = ks

-- one token that must come next
abbrev pub expect : {A : Type 0} → (TokenKind → Bool) → A → Parser A
expect test x at ks = if begins test ks then Found x (at + 1) (tail ks) else Stops at

-- one token that must come next, and then the rest
abbrev pub skip : {A : Type 0} → (TokenKind → Bool) → Parser A → Parser A
skip test next at ks = if begins test ks then next (at + 1) (tail ks) else Stops at

abbrev pub upper : Parser (List ℕ)
upper at [] = Stops at
upper at (Int n ∷ ks) = Stops at
upper at (Str text ∷ ks) = Stops at
upper at (Lower name ∷ ks) = Stops at
upper at (Upper name ∷ ks) = Found name (at + 1) ks
upper at (Sign symbol ∷ ks) = Stops at

abbrev pub lower : Parser (List ℕ)
lower at [] = Stops at
lower at (Int n ∷ ks) = Stops at
lower at (Str text ∷ ks) = Stops at
lower at (Lower name ∷ ks) = Found name (at + 1) ks
lower at (Upper name ∷ ks) = Stops at
lower at (Sign symbol ∷ ks) = Stops at

abbrev pub text : Parser (List ℕ)
text at [] = Stops at
text at (Int n ∷ ks) = Stops at
text at (Str bytes ∷ ks) = Found bytes (at + 1) ks
text at (Lower name ∷ ks) = Stops at
text at (Upper name ∷ ks) = Stops at
text at (Sign symbol ∷ ks) = Stops at

-- a name that a term, a tool, or a type can have
unfoldable pub free_name : Parser (List ℕ)
free_name at ks = after (lower at ks) (λ name behind rest. if is_free name then Found name behind rest else Stops at)

-- Below, a number (`room`) bounds how many constructs can still be read. The number of tokens is always enough.

-- one element or more, with a comma between each two
unfoldable pub parted : {A : Type 0} → Parser A → ℕ → Parser (List A)
parted item zero at ks = Stops at
parted item (suc room) at ks = after (item at ks) (λ x behind rest.
    if begins (is_sign Comma) rest then mapped (λ xs. x ∷ xs) (parted item room (behind + 1) (tail rest)) else Found (x ∷ []) behind rest)

-- elements in parentheses, or none if no parenthesis comes next
unfoldable pub in_parens : {A : Type 0} → Parser A → ℕ → Parser (List A)
in_parens item room at ks =
    if begins (is_sign LeftParen) ks then after (parted item room (at + 1) (tail ks)) (expect (is_sign RightParen)) else Found [] at ks

unfoldable pub word_sort : List ℕ → Option Sort
word_sort name =
    if bytes_eq name (codes "bool") then Some sorts.Bool
    else (if bytes_eq name (codes "int") then Some sorts.Int
    else (if bytes_eq name (codes "str") then Some sorts.Str
    else (if bytes_eq name (codes "list") then Some (sorts.List sorts.Any)
    else (if bytes_eq name (codes "term") then Some sorts.Any else None))))

-- the type that a name represents
abbrev pub named_sort : List ℕ → Option Sort → Sort
named_sort name None = sorts.Tool name
named_sort name (Some s) = s

-- whether the name and the next token begin the type of lists of a given type
abbrev pub is_list : List ℕ → List TokenKind → Bool
is_list name rest = if bytes_eq name (codes "list") then begins (is_sign LeftParen) rest else false

-- a type, and the position of its innermost name
unfoldable pub sort : ℕ → Parser (Sort × ℕ)
sort zero at ks = Stops at
sort (suc room) at ks = after (free_name at ks) (λ name behind rest.
    if is_list name rest
    then after (mapped (λ found. (sorts.List found.0, found.1)) (sort room (behind + 1) (tail rest))) (expect (is_sign RightParen))
    else Found (named_sort name (word_sort name), at) behind rest)

-- a placeholder after its `<`: the word of a type, and `>`
unfoldable pub hole : Parser AstKind
hole at ks = after (lower at ks) (λ name behind rest. after (sorted at behind rest (word_sort name)) (expect (is_sign Greater))) where
  sorted : ℕ → ℕ → List TokenKind → Option Sort → Outcome AstKind
  sorted at behind rest None = Stops at
  sorted at behind rest (Some s) = Found (ast.Hole s) behind rest

unfoldable pub list : Parser Ast → ℕ → Parser AstKind
list item room at ks =
    if begins (is_sign RightBracket) ks then Found (ast.List []) (at + 1) (tail ks)
    else after (mapped (λ parts. ast.List parts) (parted item room at ks)) (expect (is_sign RightBracket))

unfoldable pub kind : Parser Ast → ℕ → Parser AstKind
kind item room at [] = Stops at
kind item room at (Int n ∷ ks) = Found (ast.Int n) (at + 1) ks
kind item room at (Str bytes ∷ ks) = Found (ast.Str bytes) (at + 1) ks
kind item room at (Lower name ∷ ks) = if is_free name then mapped (λ parts. ast.Appl name parts) (in_parens item room (at + 1) ks) else Stops at
kind item room at (Upper name ∷ ks) = if begins (is_sign Question) ks then Found (ast.Result name) (at + 2) (tail ks) else Found (ast.Var name) (at + 1) ks
kind item room at (Sign symbol ∷ ks) =
    if is_sign LeftBracket (Sign symbol) then list item room (at + 1) ks
    else (if is_sign Less (Sign symbol) then hole (at + 1) ks else Stops at)

unfoldable pub expr : ℕ → Parser Ast
expr zero at ks = Stops at
expr (suc room) at ks = mapped (λ found. record { kind = found; token = at }) (kind (expr room) room at ks)

-- the arguments of a call whose name is at this position
unfoldable pub call_of : ℕ → List ℕ → ℕ → Parser Call
call_of room name position at ks = mapped (λ actuals. record { name = name; actuals = actuals; token = position }) (in_parens (expr room) room at ks)

unfoldable pub call : ℕ → Parser Call
call room at ks = after (upper at ks) (λ name. call_of room name at)

unfoldable pub create : ℕ → Parser ActDef
create room = skip (is_sign LeftParen) (λ at ks. after (call room at ks) (λ made. skip (is_sign Comma) (λ at ks.
    after (expr room at ks) (λ variable. expect (is_sign RightParen) (act.Create made variable)))))

unfoldable pub time : ℕ → Parser TimeDef
time room at ks = after (lower at ks) (λ name. skip (is_sign LeftParen) (λ behind rest. after (expr room behind rest) (λ value.
    expect (is_sign RightParen) (record { name = name; value = value; token = at }))))

-- whether the token is the word of a time condition
abbrev pub is_time : TokenKind → Bool
is_time (Int n) = false
is_time (Str bytes) = false
is_time (Lower name) = is_time_word name
is_time (Upper name) = false
is_time (Sign symbol) = false

unfoldable pub times : ℕ → ℕ → Parser (List TimeDef)
times inner zero at ks = Stops at
times inner (suc room) at ks =
    if begins is_time ks then after (time inner at ks) (λ first at ks. mapped (λ rest. first ∷ rest) (times inner room at ks)) else Found [] at ks

-- the time conditions of an atom that begins at this position
unfoldable pub timed : ℕ → ℕ → ActDef → Parser Proc
timed room position what at ks = mapped (λ found. tree.Atom (record { act = what; times = found; token = position })) (times room room at ks)

unfoldable pub var : ℕ → Parser Var
var room at ks = after (upper at ks) (λ name. skip (is_sign Colon) (λ behind rest.
    mapped (λ found. record { name = name; sort = found.0; token = at; sort_token = found.1 }) (sort room behind rest)))

-- the rest of an assignment or of a call after its name, which is at this position
unfoldable pub upper_proc : ℕ → List ℕ → ℕ → Parser Proc
upper_proc room name position at ks =
    if begins (is_sign Assign) ks
    then after (mapped (act.Set name) (expr room (at + 1) (tail ks))) (timed room position)
    else mapped tree.Call (call_of room name position at ks)

unfoldable pub block : Parser Proc → ℕ → Parser Proc
block whole room at ks = after (parted (var room) room at ks) (λ vars. skip (is_word (codes "in")) (λ at ks.
    after (whole at ks) (λ x. expect (is_word (codes "endlet")) (tree.Let vars x))))

-- the rest of an `if` after its first process
unfoldable pub sides : Parser Proc → Ast → Proc → Parser Proc
sides whole test x at ks =
    if begins (is_word (codes "else")) ks
    then after (whole (at + 1) (tail ks)) (λ y. expect (is_word (codes "fi")) (tree.If test x (Some y)))
    else expect (is_word (codes "fi")) (tree.If test x None) at ks

unfoldable pub conditional : Parser Proc → ℕ → Parser Proc
conditional whole room at ks = after (expr room at ks) (λ value. skip (is_word (codes "then")) (λ at ks. after (whole at ks) (sides whole value)))

-- the rest of a process after its first word, which is at this position
unfoldable pub lower_proc : Parser Proc → ℕ → List ℕ → ℕ → Parser Proc
lower_proc whole room name position at ks =
    if bytes_eq name (codes "let") then block whole room at ks
    else (if bytes_eq name (codes "if") then conditional whole room at ks
    else (if bytes_eq name (codes "create") then after (create room at ks) (timed room position)
    else (if is_atom_word name then after (mapped (act.Named name) (in_parens (expr room) room at ks)) (timed room position)
    else Stops position)))

unfoldable pub prim_of : Parser Proc → ℕ → Parser Proc
prim_of whole room at [] = Stops at
prim_of whole room at (Int n ∷ ks) = Stops at
prim_of whole room at (Str bytes ∷ ks) = Stops at
prim_of whole room at (Lower name ∷ ks) = lower_proc whole room name at (at + 1) ks
prim_of whole room at (Upper name ∷ ks) = upper_proc room name at (at + 1) ks
prim_of whole room at (Sign symbol ∷ ks) =
    if is_sign LeftParen (Sign symbol) then after (whole (at + 1) ks) (expect (is_sign RightParen)) else Stops at

-- an element; if the symbol follows, then also all the rest as its right side
unfoldable pub rightward : Symbol → (Proc → Proc → Proc) → Parser Proc → ℕ → Parser Proc
rightward sign join item zero at ks = Stops at
rightward sign join item (suc room) at ks = after (item at ks) (λ x behind rest.
    if begins (is_sign sign) rest then mapped (join x) (rightward sign join item room (behind + 1) (tail rest)) else Found x behind rest)

-- the further elements after `*`, joined from the left to what was read so far
unfoldable pub leftward : Parser Proc → ℕ → Proc → Parser Proc
leftward item zero x at ks = Stops at
leftward item (suc room) x at ks =
    if begins (is_sign Star) ks then after (item (at + 1) (tail ks)) (λ y. leftward item room (tree.Star x y)) else Found x at ks

unfoldable pub turns : Parser Proc → ℕ → Parser Proc
turns item room at ks = after (item at ks) (leftward item room)

unfoldable pub sequence : Parser Proc → ℕ → Parser Proc
sequence item room = rightward Point tree.Seq (turns item room) room

unfoldable pub choice : Parser Proc → ℕ → Parser Proc
choice item room = rightward Plus tree.Alt (sequence item room) room

unfoldable pub merge : Parser Proc → ℕ → Parser Proc
merge item room = rightward Bars tree.Par (choice item room) room

unfoldable pub transfer : Parser Proc → ℕ → Parser Proc
transfer item room = rightward Angles tree.Disrupt (merge item room) room

unfoldable pub prim : ℕ → Parser Proc
prim zero at ks = Stops at
prim (suc room) at ks = prim_of (transfer (prim room) room) room at ks

unfoldable pub proc : ℕ → Parser Proc
proc room = transfer (prim room) room

unfoldable pub formal : ℕ → Parser Formal
formal room at ks = after (var room at ks) (λ found behind rest.
    if begins (is_sign Question) rest then Found (marked found true) (behind + 1) (tail rest) else Found (marked found false) behind rest) where
      marked : Var → Bool → Formal
      marked found result = record { name = found.name; sort = found.sort; result = result; token = found.token; sort_token = found.sort_token }

-- the rest of a definition after the word `process`, which is at this position
unfoldable pub process : ℕ → ℕ → Parser ProcDef
process room position at ks = after (upper at ks) (λ name at ks. after (in_parens (formal room) room at ks) (λ formals.
    skip (is_word (codes "is")) (λ at ks. mapped (λ body. record { name = name; formals = formals; body = body; token = position }) (proc room at ks))))

unfoldable pub command : Parser (Option (List ℕ))
command at ks =
    if begins (is_word (codes "command")) ks
    then skip (is_sign Equals) (λ at ks. mapped Some (text at ks)) (at + 1) (tail ks)
    else Found None at ks

-- the rest of a declaration after the word `tool`, which is at this position
unfoldable pub tool : ℕ → Parser ToolDef
tool position at ks = after (free_name at ks) (λ name. skip (is_word (codes "is")) (skip (is_sign LeftBrace) (λ at ks.
    after (command at ks) (λ found. expect (is_sign RightBrace) (record { name = name; command = found; token = position })))))

-- the definitions, in order
pub record Defined : Type 0 where
  pub procs : List ProcDef
  pub tools : List ToolDef

abbrev pub with_process : ProcDef → Defined → Defined
with_process d defined = record { procs = d ∷ defined.procs; tools = defined.tools }

abbrev pub with_tool : ToolDef → Defined → Defined
with_tool d defined = record { procs = defined.procs; tools = d ∷ defined.tools }

unfoldable pub definitions : ℕ → ℕ → Parser Defined
definitions inner zero at ks = Stops at
definitions inner (suc room) at ks =
    if begins (is_word (codes "process")) ks
    then after (process inner at (at + 1) (tail ks)) (λ d at ks. mapped (with_process d) (definitions inner room at ks))
    else (if begins (is_word (codes "tool")) ks
    then after (tool at (at + 1) (tail ks)) (λ d at ks. mapped (with_tool d) (definitions inner room at ks))
    else Found (record { procs = []; tools = [] }) at ks)

unfoldable pub roots : ℕ → Parser (List Call)
roots room at ks =
    if begins (is_sign RightParen) ks then Found [] (at + 1) (tail ks)
    else after (parted (call room) room at ks) (expect (is_sign RightParen))

-- no token is left
abbrev pub at_end : {A : Type 0} → A → Parser A
at_end x at [] = Found x at []
at_end x at (k ∷ ks) = Stops at

unfoldable pub script : ℕ → Parser Script
script room at ks = after (definitions room room at ks) (λ defined. skip (is_word (codes "toolbus")) (skip (is_sign LeftParen) (λ at ks.
    after (roots room at ks) (λ calls. at_end (record { procs = defined.procs; tools = defined.tools; roots = calls })))))
