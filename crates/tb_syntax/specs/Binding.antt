-- How tightly each construct binds, and whether it is too loose for its place.
use Rattle.std.specs.Prelude.{ℕ, Bool, nat_lt}
use Rattle.tb_syntax.specs.declared.level.Level.{Level}
use Rattle.tb_syntax.specs.declared.level.Level.TheVariants as level
use Rattle.tb_syntax.specs.declared.proc.Proc.{Proc, out-Proc}
use Rattle.tb_syntax.specs.declared.proc.Proc.TheOpen as tree

-- the levels, from the loosest to the tightest
abbrev pub rank : Level → ℕ
rank level.Proc = 0
rank level.Par = 1
rank level.Alt = 2
rank level.Seq = 3
rank level.Star = 4
rank level.Prim = 5

abbrev pub is_looser : Level → Level → Bool
is_looser own at = nat_lt (rank own) (rank at)

abbrev pub level_of : tree.Proc-F Proc → Level
level_of (tree.Atom atom) = level.Prim
level_of (tree.Call call) = level.Prim
level_of (tree.Seq x y) = level.Seq
level_of (tree.Alt x y) = level.Alt
level_of (tree.Star x y) = level.Star
level_of (tree.Par x y) = level.Par
level_of (tree.Disrupt x y) = level.Proc
level_of (tree.If test x y) = level.Prim
level_of (tree.Let vars x) = level.Prim

abbrev pub own_level : Proc → Level
own_level p = level_of (out-Proc p)
