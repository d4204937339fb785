-- The script of a small ring, written out.
use Rattle.std.proofs.Common.{◌≡◌, codes, refl}
use Rattle.std.specs.Fmt.{digits}
use Rattle.tb_gen.specs.Ring.{ring_text, toolbus_line}

-- four processes, three rounds
four_thrice : ring_text 4 3 ≡ codes "process Node(I : int, J : int) is let T : int in (rec-msg(I, T?) . snd-msg(J, add(T, 1))) * delta endlet\nprocess First is let T : int in snd-msg(2, 1) . (rec-msg(1, T?) . if less(T, 12) then snd-msg(2, add(T, 1)) else shutdown(done) fi) * delta endlet\ntoolbus(First, Node(2, 3), Node(3, 4), Node(4, 1))\n"
unfolding digits
four_thrice = refl

-- two processes
two : toolbus_line 2 ≡ codes "toolbus(First, Node(2, 1))\n"
unfolding digits
two = refl

-- numbers of two digits
ten : toolbus_line 10 ≡ codes "toolbus(First, Node(2, 3), Node(3, 4), Node(4, 5), Node(5, 6), Node(6, 7), Node(7, 8), Node(8, 9), Node(9, 10), Node(10, 1))\n"
unfolding digits
ten = refl
