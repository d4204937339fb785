-- Processes as the parser builds them: a tree with its height if the height is within the limit, and otherwise no tree.
use Rattle.std.specs.Prelude.{ℕ, ◌+◌, ◌||◌, nat_le, nat_lt, max, List, [], ◌∷◌, Option, Some, None, if◌then◌else◌}
use Rattle.tb_lex.specs.declared.symbol.Symbol.{Symbol}
use Rattle.tb_lex.specs.declared.symbol.Symbol.TheVariants as sign
use Rattle.tb_syntax.specs.declared.proc.Proc.{Proc}
use Rattle.tb_syntax.specs.declared.proc.Proc.TheVariants as tree
use Rattle.tb_syntax.specs.Limits.{height, most_height}
use Rattle.tb_parse.specs.declared.built.Built.{Built}
use Rattle.tb_parse.specs.declared.built.Built.TheVariants.{Tree, TooHigh}
use Rattle.tb_parse.specs.declared.built.Sides.{Sides}
use Rattle.tb_parse.specs.declared.built.Chain.{Chain}
use Rattle.tb_parse.specs.declared.built.Chain.TheVariants as chain
use Rattle.tb_parse.specs.Helpers.Parsing.{Parser, after, mapped, create, timed, prim, transfer, merge, choice, sequence, turns}

-- what the parser builds for a process
unfoldable pub built : Proc → Built
built p = if nat_lt most_height (height p) then TooHigh else Tree p (height p)

-- a parser of processes, with the result as it is built
abbrev pub as_built : Parser Proc → Parser Built
as_built parser at ks = mapped built (parser at ks)

-- the rest of an atom after the word `create`, which is at this position
abbrev pub creation : ℕ → ℕ → Parser Proc
creation room position at ks = after (create room at ks) (timed room position)

-- two sides with the height of the whole, or none if the whole would be too high
abbrev pub fitting : Proc → ℕ → Proc → ℕ → Option Sides
fitting x first y second = if nat_le most_height first || nat_le most_height second then None else Some (record { x = x; y = y; height = 1 + max first second })

abbrev pub sides_of : Built → Built → Option Sides
sides_of (Tree x first) (Tree y second) = fitting x first y second
sides_of (Tree x first) TooHigh = None
sides_of TooHigh y = None

abbrev pub side_of : Built → Option (Proc × ℕ)
side_of (Tree x height) = if nat_lt height most_height then Some (x, 1 + height) else None
side_of TooHigh = None

abbrev pub both_sides : (Proc → Proc → Proc) → Option Sides → Built
both_sides join None = TooHigh
both_sides join (Some sides) = Tree (join sides.x sides.y) sides.height

abbrev pub one_side : (Proc → Proc) → Option (Proc × ℕ) → Built
one_side make None = TooHigh
one_side make (Some side) = Tree (make side.0) side.1

-- one process of two, and one process of one
abbrev pub both : (Proc → Proc → Proc) → Built → Built → Built
both join x y = both_sides join (sides_of x y)

abbrev pub one : (Proc → Proc) → Built → Built
one make x = one_side make (side_of x)

abbrev pub join_of : Chain → Proc → Proc → Proc
join_of chain.Disrupt = tree.Disrupt
join_of chain.Par = tree.Par
join_of chain.Alt = tree.Alt
join_of chain.Seq = tree.Seq

-- the members of a chain as one process, joined from the right
abbrev pub joined : (Proc → Proc → Proc) → List Built → Built → Built
joined join [] last = last
joined join (x ∷ prefix) last = both join x (joined join prefix last)

abbrev pub sign_of : Chain → Symbol
sign_of chain.Disrupt = sign.Angles
sign_of chain.Par = sign.Bars
sign_of chain.Alt = sign.Plus
sign_of chain.Seq = sign.Point

-- a whole chain, and a member of a chain
abbrev pub chained : Chain → ℕ → Parser Proc
chained chain.Disrupt room = transfer (prim room) room
chained chain.Par room = merge (prim room) room
chained chain.Alt room = choice (prim room) room
chained chain.Seq room = sequence (prim room) room

abbrev pub member : Chain → ℕ → Parser Proc
member chain.Disrupt room = merge (prim room) room
member chain.Par room = choice (prim room) room
member chain.Alt room = sequence (prim room) room
member chain.Seq room = turns (prim room) room

-- the operators, from the one that binds tightest
abbrev pub rank : Chain → ℕ
rank chain.Seq = 0
rank chain.Alt = 1
rank chain.Par = 2
rank chain.Disrupt = 3
