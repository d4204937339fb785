-- The token sequences that spell a script: the grammar, one case a line. The position of a construct is that of its first token,
-- counted from 0 in the script's tokens.
use Rattle.std.specs.Prelude.{◌≡◌, ℕ, ◌+◌, ℤ, Bool, true, false, List, [], ◌∷◌, ◌++◌, length, map, Option, Some, None, codes}
use Rattle.tb_terms.specs.declared.sort.Sort.{Sort}
use Rattle.tb_terms.specs.declared.sort.Sort.TheVariants as sort
use Rattle.tb_lex.specs.declared.kind.TokenKind.{TokenKind}
use Rattle.tb_lex.specs.declared.kind.TokenKind.TheVariants.{Int, Str, Lower, Upper, Symbol as Sign}
use Rattle.tb_lex.specs.declared.token.Token.{Token}
use Rattle.tb_lex.specs.declared.symbol.Symbol.TheVariants.{LeftParen, RightParen, LeftBracket, RightBracket, LeftBrace, RightBrace, Comma, Point, Colon, Assign, Equals, Question, Plus, Star, Bars, Angles, Less, Greater}
use Rattle.tb_syntax.specs.declared.ast.Ast.{Ast}
use Rattle.tb_syntax.specs.declared.ast.AstKind.{AstKind}
use Rattle.tb_syntax.specs.declared.ast.AstKind.TheVariants as ast
use Rattle.tb_syntax.specs.declared.level.Level.{Level}
use Rattle.tb_syntax.specs.declared.level.Level.TheVariants as level
use Rattle.tb_syntax.specs.declared.proc.ActDef.{ActDef}
use Rattle.tb_syntax.specs.declared.proc.ActDef.TheVariants as act
use Rattle.tb_syntax.specs.declared.proc.AtomDef.{AtomDef}
use Rattle.tb_syntax.specs.declared.proc.Call.{Call}
use Rattle.tb_syntax.specs.declared.proc.Proc.{Proc}
use Rattle.tb_syntax.specs.declared.proc.Proc.TheVariants as tree
use Rattle.tb_syntax.specs.declared.proc.TimeDef.{TimeDef}
use Rattle.tb_syntax.specs.declared.proc.Var.{Var}
use Rattle.tb_syntax.specs.declared.script.Formal.{Formal}
use Rattle.tb_syntax.specs.declared.script.ProcDef.{ProcDef}
use Rattle.tb_syntax.specs.declared.script.Script.{Script}
use Rattle.tb_syntax.specs.declared.script.ToolDef.{ToolDef}
use Rattle.tb_syntax.specs.AtomWords.{is_atom_word, is_time_word}
use Rattle.tb_syntax.specs.Words.{is_free, is_sort_word}

abbrev pub in_parens : List TokenKind → List TokenKind
in_parens ks = Sign LeftParen ∷ (ks ++ Sign RightParen ∷ [])

abbrev pub word : List ℕ → List TokenKind
word name = Lower name ∷ []

-- one element or more, with a comma between each two
pub data Parted {A : Type 0} (Spells : ℕ → A → List TokenKind → Type 0) : ℕ → List A → List TokenKind → Type 0 where
  last : {at : ℕ} {x : A} {ks : List TokenKind} → Spells at x ks → Parted Spells at (x ∷ []) ks
  more : {at : ℕ} {x : A} {ks : List TokenKind} {xs : List A} {rest : List TokenKind} → Spells at x ks → Parted Spells (at + length ks + 1) xs rest
      → Parted Spells at (x ∷ xs) (ks ++ Sign Comma ∷ rest)

-- any number of elements, one after the other
pub data InRow {A : Type 0} (Spells : ℕ → A → List TokenKind → Type 0) : ℕ → List A → List TokenKind → Type 0 where
  none : (at : ℕ) → InRow Spells at [] []
  more : {at : ℕ} {x : A} {ks : List TokenKind} {xs : List A} {rest : List TokenKind} → Spells at x ks → InRow Spells (at + length ks) xs rest
      → InRow Spells at (x ∷ xs) (ks ++ rest)

-- elements in parentheses, or no tokens if there are no elements
pub data InParens {A : Type 0} (Spells : ℕ → A → List TokenKind → Type 0) : ℕ → List A → List TokenKind → Type 0 where
  none : (at : ℕ) → InParens Spells at [] []
  some : {at : ℕ} {xs : List A} {ks : List TokenKind} → Parted Spells (at + 1) xs ks → InParens Spells at xs (in_parens ks)

-- the types that have a word
pub data IsSortWord : Sort → List ℕ → Type 0 where
  bool : IsSortWord sort.Bool (codes "bool")
  int : IsSortWord sort.Int (codes "int")
  str : IsSortWord sort.Str (codes "str")
  list : IsSortWord (sort.List sort.Any) (codes "list")
  term : IsSortWord sort.Any (codes "term")

-- sort = lower [ "(" sort ")" ]. Only `list` can have the parentheses. The second position is that of the innermost name.
pub data SpellsSort : ℕ → Sort → ℕ → List TokenKind → Type 0 where
  plain : {s : Sort} {name : List ℕ} (at : ℕ) → IsSortWord s name → SpellsSort at s at (word name)
  list_of : {at : ℕ} {s : Sort} {inner : ℕ} {ks : List TokenKind} → SpellsSort (at + 2) s inner ks
      → SpellsSort at (sort.List s) inner (Lower (codes "list") ∷ in_parens ks)
  tool : (at : ℕ) (name : List ℕ) → is_free name ≡ true → is_sort_word name ≡ false → SpellsSort at (sort.Tool name) at (word name)

-- expr = numeral | string | lower [ "(" expr { "," expr } ")" ] | Upper [ "?" ] | "[" [ expr { "," expr } ] "]" | "<" sortword ">"
mutual
  pub data SpellsKind : ℕ → AstKind → List TokenKind → Type 0 where
    numeral : (at : ℕ) (n : ℤ) → SpellsKind at (ast.Int n) (Int n ∷ [])
    string : (at : ℕ) (text : List ℕ) → SpellsKind at (ast.Str text) (Str text ∷ [])
    appl : {at : ℕ} {parts : List Ast} {ks : List TokenKind} (name : List ℕ) → is_free name ≡ true → SpellsArguments (at + 1) parts ks
        → SpellsKind at (ast.Appl name parts) (Lower name ∷ ks)
    variable : (at : ℕ) (name : List ℕ) → SpellsKind at (ast.Var name) (Upper name ∷ [])
    result : (at : ℕ) (name : List ℕ) → SpellsKind at (ast.Result name) (Upper name ∷ Sign Question ∷ [])
    empty : (at : ℕ) → SpellsKind at (ast.List []) (Sign LeftBracket ∷ Sign RightBracket ∷ [])
    list : {at : ℕ} {parts : List Ast} {ks : List TokenKind} → SpellsExprs (at + 1) parts ks
        → SpellsKind at (ast.List parts) (Sign LeftBracket ∷ (ks ++ Sign RightBracket ∷ []))
    hole : {s : Sort} {name : List ℕ} (at : ℕ) → IsSortWord s name → SpellsKind at (ast.Hole s) (Sign Less ∷ Lower name ∷ Sign Greater ∷ [])

  -- the expression with its position
  pub data SpellsExpr : ℕ → Ast → List TokenKind → Type 0 where
    expr : {at : ℕ} {kind : AstKind} {ks : List TokenKind} → SpellsKind at kind ks → SpellsExpr at (record { kind = kind; token = at }) ks

  -- `InParens SpellsExpr` and `Parted SpellsExpr`, which can't be written here
  pub data SpellsArguments : ℕ → List Ast → List TokenKind → Type 0 where
    none : (at : ℕ) → SpellsArguments at [] []
    some : {at : ℕ} {parts : List Ast} {ks : List TokenKind} → SpellsExprs (at + 1) parts ks → SpellsArguments at parts (in_parens ks)

  pub data SpellsExprs : ℕ → List Ast → List TokenKind → Type 0 where
    last : {at : ℕ} {part : Ast} {ks : List TokenKind} → SpellsExpr at part ks → SpellsExprs at (part ∷ []) ks
    more : {at : ℕ} {part : Ast} {ks : List TokenKind} {parts : List Ast} {rest : List TokenKind} → SpellsExpr at part ks
        → SpellsExprs (at + length ks + 1) parts rest → SpellsExprs at (part ∷ parts) (ks ++ Sign Comma ∷ rest)

-- call = Upper [ "(" expr { "," expr } ")" ]
pub record SpellsCall (at : ℕ) (call : Call) (ks : List TokenKind) : Type 0 where
  pub position : call.token ≡ at
  pub actuals : List TokenKind
  pub are_actuals : SpellsArguments (at + 1) call.actuals actuals
  pub is : ks ≡ Upper call.name ∷ actuals

-- atom = Upper ":=" expr | "create" "(" call "," expr ")" | aname [ "(" expr { "," expr } ")" ]
pub data SpellsAct : ℕ → ActDef → List TokenKind → Type 0 where
  set : {at : ℕ} {value : Ast} {ks : List TokenKind} (name : List ℕ) → SpellsExpr (at + 2) value ks
      → SpellsAct at (act.Set name value) (Upper name ∷ Sign Assign ∷ ks)
  create : {at : ℕ} {call : Call} {cs : List TokenKind} {variable : Ast} {ks : List TokenKind} → SpellsCall (at + 2) call cs
      → SpellsExpr (at + length cs + 3) variable ks → SpellsAct at (act.Create call variable) (Lower (codes "create") ∷ Sign LeftParen ∷ (cs ++ Sign Comma ∷ (ks ++ Sign RightParen ∷ [])))
  named : {at : ℕ} {arguments : List Ast} {ks : List TokenKind} (name : List ℕ) → is_atom_word name ≡ true → SpellsArguments (at + 1) arguments ks
      → SpellsAct at (act.Named name arguments) (Lower name ∷ ks)

-- time = ( "delay" | "timeout" | "abs-delay" | "abs-timeout" ) "(" expr ")"
pub record SpellsTime (at : ℕ) (time : TimeDef) (ks : List TokenKind) : Type 0 where
  pub position : time.token ≡ at
  pub is_word : is_time_word time.name ≡ true
  pub value : List TokenKind
  pub is_value : SpellsExpr (at + 2) time.value value
  pub is : ks ≡ Lower time.name ∷ in_parens value

-- atom { time }
pub record SpellsAtom (at : ℕ) (atom : AtomDef) (ks : List TokenKind) : Type 0 where
  pub position : atom.token ≡ at
  pub act : List TokenKind
  pub is_act : SpellsAct at atom.act act
  pub times : List TokenKind
  pub are_times : InRow SpellsTime (at + length act) atom.times times
  pub is : ks ≡ act ++ times

-- Upper ":" sort
pub record SpellsVar (at : ℕ) (var : Var) (ks : List TokenKind) : Type 0 where
  pub position : var.token ≡ at
  pub sort : List TokenKind
  pub is_sort : SpellsSort (at + 2) var.sort var.sort_token sort
  pub is : ks ≡ Upper var.name ∷ Sign Colon ∷ sort

-- a process at a place of this level: without parentheses, it has only operators of this level or tighter ones
pub data SpellsProc : Level → ℕ → Proc → List TokenKind → Type 0 where
  -- proc = par [ ">>" proc ]
  one_par : {at : ℕ} {x : Proc} {xs : List TokenKind} → SpellsProc level.Par at x xs → SpellsProc level.Proc at x xs
  disrupt : {at : ℕ} {x y : Proc} {xs ys : List TokenKind} → SpellsProc level.Par at x xs → SpellsProc level.Proc (at + length xs + 1) y ys
      → SpellsProc level.Proc at (tree.Disrupt x y) (xs ++ Sign Angles ∷ ys)
  -- par = alt [ "||" par ]
  one_alt : {at : ℕ} {x : Proc} {xs : List TokenKind} → SpellsProc level.Alt at x xs → SpellsProc level.Par at x xs
  par : {at : ℕ} {x y : Proc} {xs ys : List TokenKind} → SpellsProc level.Alt at x xs → SpellsProc level.Par (at + length xs + 1) y ys
      → SpellsProc level.Par at (tree.Par x y) (xs ++ Sign Bars ∷ ys)
  -- alt = seq [ "+" alt ]
  one_seq : {at : ℕ} {x : Proc} {xs : List TokenKind} → SpellsProc level.Seq at x xs → SpellsProc level.Alt at x xs
  choice : {at : ℕ} {x y : Proc} {xs ys : List TokenKind} → SpellsProc level.Seq at x xs → SpellsProc level.Alt (at + length xs + 1) y ys
      → SpellsProc level.Alt at (tree.Alt x y) (xs ++ Sign Plus ∷ ys)
  -- seq = star [ "." seq ]
  one_star : {at : ℕ} {x : Proc} {xs : List TokenKind} → SpellsProc level.Star at x xs → SpellsProc level.Seq at x xs
  sequence : {at : ℕ} {x y : Proc} {xs ys : List TokenKind} → SpellsProc level.Star at x xs → SpellsProc level.Seq (at + length xs + 1) y ys
      → SpellsProc level.Seq at (tree.Seq x y) (xs ++ Sign Point ∷ ys)
  -- star = prim { "*" prim }, from the left
  one_prim : {at : ℕ} {x : Proc} {xs : List TokenKind} → SpellsProc level.Prim at x xs → SpellsProc level.Star at x xs
  turns : {at : ℕ} {x y : Proc} {xs ys : List TokenKind} → SpellsProc level.Star at x xs → SpellsProc level.Prim (at + length xs + 1) y ys
      → SpellsProc level.Star at (tree.Star x y) (xs ++ Sign Star ∷ ys)
  -- prim = "(" proc ")"
  parens : {at : ℕ} {x : Proc} {xs : List TokenKind} → SpellsProc level.Proc (at + 1) x xs → SpellsProc level.Prim at x (in_parens xs)
  -- prim = atom { time }
  atom : {at : ℕ} {a : AtomDef} {ks : List TokenKind} → SpellsAtom at a ks → SpellsProc level.Prim at (tree.Atom a) ks
  -- prim = call
  call : {at : ℕ} {c : Call} {ks : List TokenKind} → SpellsCall at c ks → SpellsProc level.Prim at (tree.Call c) ks
  -- prim = "let" Upper ":" sort { "," Upper ":" sort } "in" proc "endlet"
  block : {at : ℕ} {vars : List Var} {vs : List TokenKind} {x : Proc} {xs : List TokenKind} → Parted SpellsVar (at + 1) vars vs
      → SpellsProc level.Proc (at + length vs + 2) x xs
      → SpellsProc level.Prim at (tree.Let vars x) (Lower (codes "let") ∷ (vs ++ Lower (codes "in") ∷ (xs ++ Lower (codes "endlet") ∷ [])))
  -- prim = "if" expr "then" proc "fi"
  test : {at : ℕ} {e : Ast} {es : List TokenKind} {x : Proc} {xs : List TokenKind} → SpellsExpr (at + 1) e es
      → SpellsProc level.Proc (at + length es + 2) x xs
      → SpellsProc level.Prim at (tree.If e x None) (Lower (codes "if") ∷ (es ++ Lower (codes "then") ∷ (xs ++ Lower (codes "fi") ∷ [])))
  -- prim = "if" expr "then" proc "else" proc "fi"
  test_else : {at : ℕ} {e : Ast} {es : List TokenKind} {x y : Proc} {xs ys : List TokenKind} → SpellsExpr (at + 1) e es
      → SpellsProc level.Proc (at + length es + 2) x xs → SpellsProc level.Proc (at + length es + length xs + 3) y ys
      → SpellsProc level.Prim at (tree.If e x (Some y)) (Lower (codes "if") ∷ (es ++ Lower (codes "then") ∷ (xs ++ Lower (codes "else") ∷ (ys ++ Lower (codes "fi") ∷ []))))

-- the mark of a result parameter
abbrev pub mark : Bool → List TokenKind
mark true = Sign Question ∷ []
mark false = []

-- formal = Upper ":" sort [ "?" ]
pub record SpellsFormal (at : ℕ) (formal : Formal) (ks : List TokenKind) : Type 0 where
  pub position : formal.token ≡ at
  pub sort : List TokenKind
  pub is_sort : SpellsSort (at + 2) formal.sort formal.sort_token sort
  pub is : ks ≡ Upper formal.name ∷ Sign Colon ∷ (sort ++ mark formal.result)

-- procdef = "process" Upper [ "(" formal { "," formal } ")" ] "is" proc
pub record SpellsProcDef (at : ℕ) (definition : ProcDef) (ks : List TokenKind) : Type 0 where
  pub position : definition.token ≡ at
  pub formals : List TokenKind
  pub are_formals : InParens SpellsFormal (at + 2) definition.formals formals
  pub body : List TokenKind
  pub is_body : SpellsProc level.Proc (at + length formals + 3) definition.body body
  pub is : ks ≡ Lower (codes "process") ∷ Upper definition.name ∷ (formals ++ Lower (codes "is") ∷ body)

-- the tokens in the braces of a tool
abbrev pub command_tokens : Option (List ℕ) → List TokenKind
command_tokens None = []
command_tokens (Some command) = Lower (codes "command") ∷ Sign Equals ∷ Str command ∷ []

-- tooldef = "tool" lower "is" "{" [ "command" "=" string ] "}"
pub record SpellsToolDef (at : ℕ) (definition : ToolDef) (ks : List TokenKind) : Type 0 where
  pub position : definition.token ≡ at
  pub is_name : is_free definition.name ≡ true
  pub is : ks ≡ Lower (codes "tool") ∷ Lower definition.name ∷ Lower (codes "is") ∷ Sign LeftBrace ∷ (command_tokens definition.command ++ Sign RightBrace ∷ [])

-- { procdef | tooldef }
pub data SpellsDefinitions : ℕ → List ProcDef → List ToolDef → List TokenKind → Type 0 where
  none : (at : ℕ) → SpellsDefinitions at [] [] []
  process : {at : ℕ} {d : ProcDef} {ks : List TokenKind} {procs : List ProcDef} {tools : List ToolDef} {rest : List TokenKind} → SpellsProcDef at d ks
      → SpellsDefinitions (at + length ks) procs tools rest → SpellsDefinitions at (d ∷ procs) tools (ks ++ rest)
  tool : {at : ℕ} {d : ToolDef} {ks : List TokenKind} {procs : List ProcDef} {tools : List ToolDef} {rest : List TokenKind} → SpellsToolDef at d ks
      → SpellsDefinitions (at + length ks) procs tools rest → SpellsDefinitions at procs (d ∷ tools) (ks ++ rest)

-- [ call { "," call } ]
pub data SpellsRoots : ℕ → List Call → List TokenKind → Type 0 where
  none : (at : ℕ) → SpellsRoots at [] []
  some : {at : ℕ} {calls : List Call} {ks : List TokenKind} → Parted SpellsCall at calls ks → SpellsRoots at calls ks

-- script = { procdef | tooldef } "toolbus" "(" [ call { "," call } ] ")"
pub record Spells (script : Script) (ks : List TokenKind) : Type 0 where
  pub definitions : List TokenKind
  pub are_definitions : SpellsDefinitions 0 script.procs script.tools definitions
  pub roots : List TokenKind
  pub are_roots : SpellsRoots (length definitions + 2) script.roots roots
  pub is : ks ≡ definitions ++ Lower (codes "toolbus") ∷ in_parens roots

-- the kinds of the tokens, without their positions in the source
abbrev pub kinds_of : List Token → List TokenKind
kinds_of tokens = map (λ (token : Token). token.kind) tokens
