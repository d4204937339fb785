-- Examples of scripts with spellings, derived by hand from the grammar.
use Rattle.std.proofs.Common.{◌≡◌, ℕ, ◌+◌, List, [], ◌∷◌, ◌++◌, true, refl, subst, sym, codes}
use Rattle.tb_lex.specs.declared.kind.TokenKind.{TokenKind}
use Rattle.tb_lex.specs.declared.kind.TokenKind.TheVariants.{Lower, Upper, Symbol as Sign}
use Rattle.tb_lex.specs.declared.symbol.Symbol.TheVariants.{LeftParen, RightParen, Point, Plus, Bars, Angles}
use Rattle.tb_syntax.specs.declared.level.Level.TheVariants as level
use Rattle.tb_syntax.specs.declared.proc.ActDef.TheVariants as act
use Rattle.tb_syntax.specs.declared.proc.AtomDef.{AtomDef}
use Rattle.tb_syntax.specs.declared.proc.Call.{Call}
use Rattle.tb_syntax.specs.declared.proc.Proc.{Proc}
use Rattle.tb_syntax.specs.declared.proc.Proc.TheVariants as tree
use Rattle.tb_syntax.specs.declared.script.ProcDef.{ProcDef}
use Rattle.tb_syntax.specs.declared.script.ToolDef.{ToolDef}
use Rattle.tb_syntax.specs.Printing.{IsSpelt}
use Rattle.tb_syntax.specs.Spelling.{Spells, SpellsDefinitions, SpellsProcDef, SpellsRoots, SpellsProc, SpellsAct, SpellsArguments, InRow, InParens}
use Rattle.tb_syntax.specs.AtomWords.{is_atom_word}

-- toolbus ( )
pub least_spelt : (procs : List ProcDef) (tools : List ToolDef) (roots : List Call) → procs ≡ [] → tools ≡ [] → roots ≡ [] → IsSpelt (record { procs = procs; tools = tools; roots = roots })
least_spelt procs tools roots p t r = subst IsSpelt (λ i. record { procs = sym p i; tools = sym t i; roots = sym r i }) none where
  none : IsSpelt (record { procs = []; tools = []; roots = [] })
  none = (_, record { definitions = []; are_definitions = SpellsDefinitions.none 0; roots = []; are_roots = SpellsRoots.none _; is = refl })

-- an atom of this word, at this position
abbrev plain : List ℕ → ℕ → AtomDef
plain name at = record { act = act.Named name []; times = []; token = at }

plain_spelt : (name : List ℕ) (at : ℕ) → is_atom_word name ≡ true → SpellsProc level.Prim at (tree.Atom (plain name at)) (Lower name ∷ [])
plain_spelt name at e = SpellsProc.atom (record { position = refl; act = Lower name ∷ []; is_act = SpellsAct.named name e (SpellsArguments.none (at + 1)); times = []; are_times = InRow.none (at + 1); is = refl })

abbrev tau : List TokenKind
tau = Lower (codes "tau") ∷ []

abbrev delta : List TokenKind
delta = Lower (codes "delta") ∷ []

abbrev choice : ℕ → Proc
choice at = tree.Alt (tree.Atom (plain (codes "tau") at)) (tree.Seq (tree.Atom (plain (codes "tau") (at + 2))) (tree.Atom (plain (codes "delta") (at + 4))))

-- tau + tau . delta: the choice is between the first atom and the sequence of the other two
choice_spelt : SpellsProc level.Proc 3 (choice 3) (tau ++ Sign Plus ∷ (tau ++ Sign Point ∷ delta))
choice_spelt =
    let first : SpellsProc level.Seq 3 (tree.Atom (plain (codes "tau") 3)) tau = SpellsProc.one_star (SpellsProc.one_prim (plain_spelt (codes "tau") 3 refl)) in
    let second : SpellsProc level.Star 5 (tree.Atom (plain (codes "tau") 5)) tau = SpellsProc.one_prim (plain_spelt (codes "tau") 5 refl) in
    let third : SpellsProc level.Seq 7 (tree.Atom (plain (codes "delta") 7)) delta = SpellsProc.one_star (SpellsProc.one_prim (plain_spelt (codes "delta") 7 refl)) in
    SpellsProc.one_par (SpellsProc.one_alt (SpellsProc.choice first (SpellsProc.one_seq (SpellsProc.sequence second third))))

abbrev transfer : ℕ → Proc
transfer at = tree.Disrupt (tree.Par (tree.Atom (plain (codes "tau") at)) (tree.Atom (plain (codes "tau") (at + 2)))) (tree.Atom (plain (codes "delta") (at + 4)))

-- tau || tau >> delta: `delta` disrupts the merge
transfer_spelt : SpellsProc level.Proc 3 (transfer 3) ((tau ++ Sign Bars ∷ tau) ++ Sign Angles ∷ delta)
transfer_spelt =
    let first : SpellsProc level.Alt 3 (tree.Atom (plain (codes "tau") 3)) tau = SpellsProc.one_seq (SpellsProc.one_star (SpellsProc.one_prim (plain_spelt (codes "tau") 3 refl))) in
    let second : SpellsProc level.Par 5 (tree.Atom (plain (codes "tau") 5)) tau = SpellsProc.one_alt (SpellsProc.one_seq (SpellsProc.one_star (SpellsProc.one_prim (plain_spelt (codes "tau") 5 refl)))) in
    let third : SpellsProc level.Par 7 (tree.Atom (plain (codes "delta") 7)) delta = SpellsProc.one_alt (SpellsProc.one_seq (SpellsProc.one_star (SpellsProc.one_prim (plain_spelt (codes "delta") 7 refl)))) in
    SpellsProc.disrupt (SpellsProc.par first second) (SpellsProc.one_par third)

-- process A is tau + tau . delta toolbus ( )
pub process_spelt : Spells (record { procs = record { name = codes "A"; formals = []; body = choice 3; token = 0 } ∷ []; tools = []; roots = [] })
    (Lower (codes "process") ∷ Upper (codes "A") ∷ Lower (codes "is") ∷ Lower (codes "tau") ∷ Sign Plus ∷ Lower (codes "tau") ∷ Sign Point ∷ Lower (codes "delta") ∷ Lower (codes "toolbus") ∷ Sign LeftParen ∷ Sign RightParen ∷ [])
process_spelt =
    let definition : SpellsProcDef 0 (record { name = codes "A"; formals = []; body = choice 3; token = 0 }) (Lower (codes "process") ∷ Upper (codes "A") ∷ Lower (codes "is") ∷ (tau ++ Sign Plus ∷ (tau ++ Sign Point ∷ delta))) =
    record { position = refl; formals = []; are_formals = InParens.none 2; body = tau ++ Sign Plus ∷ (tau ++ Sign Point ∷ delta); is_body = choice_spelt; is = refl } in
    record { definitions = _; are_definitions = SpellsDefinitions.process definition (SpellsDefinitions.none 8); roots = []; are_roots = SpellsRoots.none 10; is = refl }

-- ( tau ) at the same position is the same process: its position is that of the name
in_parens_spelt : SpellsProc level.Prim 3 (tree.Atom (plain (codes "tau") 4)) (Sign LeftParen ∷ Lower (codes "tau") ∷ Sign RightParen ∷ [])
in_parens_spelt = SpellsProc.parens (SpellsProc.one_par (SpellsProc.one_alt (SpellsProc.one_seq (SpellsProc.one_star (SpellsProc.one_prim (plain_spelt (codes "tau") 4 refl))))))
