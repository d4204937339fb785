-- The bodies and roots of the ring's program.
use Rattle.std.specs.Prelude.{ℕ, pos, List, [], ◌∷◌, map, Some, None, codes}
use Rattle.tb_terms.specs.declared.term.Term.{Term}
use Rattle.tb_terms.specs.declared.term.Term.TheVariants as term
use Rattle.tb_terms.specs.declared.expr.Expr.{Expr}
use Rattle.tb_terms.specs.declared.expr.Expr.TheVariants as expr
use Rattle.tb_terms.specs.declared.expr.Func.TheVariants.{Add, Less}
use Rattle.tb_terms.specs.declared.sort.Sort.{Sort}
use Rattle.tb_terms.specs.declared.sort.Sort.TheVariants as sort
use Rattle.tb_body.specs.declared.act.Act.{Act}
use Rattle.tb_body.specs.declared.act.Act.TheVariants as act
use Rattle.tb_body.specs.declared.atom.Atom.{Atom}
use Rattle.tb_body.specs.declared.tree.Setting.{Setting}
use Rattle.tb_body.specs.declared.tree.Tree.{Tree}
use Rattle.tb_body.specs.declared.tree.Tree.TheVariants as tree
use Rattle.tb_body.specs.declared.program.Root.{Root}
use Rattle.tb_ring_law.specs.Helpers.Pieces.{Link, ring_links}

-- a number as an expression
abbrev pub number : ℕ → Expr
number n = expr.Int (pos n)

-- the value of a number
abbrev pub worth : ℕ → Term
worth n = term.Int (pos n)

-- an atom without delays and timeouts
abbrev pub plain : Act → Atom
plain does = record { act = does; times = [] }

-- this slot gets the initial value of its type
abbrev pub setting : ℕ → List Setting
setting slot = record { slot = slot; start = None } ∷ []

-- the value of this slot plus one
abbrev pub one_more : ℕ → Expr
one_more slot = expr.Call Add (expr.Var slot ∷ number 1 ∷ [])

abbrev pub int_sorts : List Sort
int_sorts = sort.Int ∷ []

-- let T in (rec-msg(I, T?) . snd-msg(J, add(T, 1))) * delta
abbrev pub node_tree : Tree
node_tree = tree.Let (setting 2) (tree.Star (tree.Seq (tree.At 1) (tree.At 2)) (tree.At 3))

abbrev pub node_receives : List Expr
node_receives = expr.Var 0 ∷ expr.Result 2 ∷ []

abbrev pub node_sends : List Expr
node_sends = expr.Var 1 ∷ one_more 2 ∷ []

abbrev pub node_atoms : List Atom
node_atoms = plain (act.RecMsg node_receives) ∷ plain (act.SndMsg node_sends) ∷ plain act.Delta ∷ []

abbrev pub node_sorts : List Sort
node_sorts = sort.Int ∷ sort.Int ∷ sort.Int ∷ []

-- let T in snd-msg(2, 1) . (rec-msg(1, T?) . if less(T, messages) then snd-msg(2, add(T, 1)) else shutdown(done) fi) * delta
abbrev pub first_test : ℕ → Expr
first_test messages = expr.Call Less (expr.Var 0 ∷ number messages ∷ [])

abbrev pub first_tree : ℕ → Tree
first_tree messages =
    tree.Let (setting 0) (tree.Seq (tree.At 1) (tree.Star (tree.Seq (tree.At 2) (tree.If (first_test messages) (tree.At 3) (Some (tree.At 4)))) (tree.At 5)))

abbrev pub first_begins : List Expr
first_begins = number 2 ∷ number 1 ∷ []

abbrev pub first_receives : List Expr
first_receives = number 1 ∷ expr.Result 0 ∷ []

abbrev pub first_sends : List Expr
first_sends = number 2 ∷ one_more 0 ∷ []

abbrev pub done : Expr
done = expr.Appl (codes "done") []

abbrev pub first_atoms : List Atom
first_atoms = plain (act.SndMsg first_begins) ∷ plain (act.RecMsg first_receives) ∷ plain (act.SndMsg first_sends) ∷ plain (act.Shutdown done) ∷ plain act.Delta ∷ []

abbrev pub first_root : Root
first_root = record { process = 1; actuals = [] }

abbrev pub link_root : Link → Root
link_root link = record { process = 0; actuals = worth link.process ∷ worth link.next ∷ [] }

abbrev pub ring_roots : ℕ → List Root
ring_roots n = first_root ∷ map link_root (ring_links n)
