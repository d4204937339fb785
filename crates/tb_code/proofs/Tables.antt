-- The growth of a table, and its nodes.
use Rattle.std.proofs.Common.{◌≡◌, ℕ, suc, ◌+◌, List, [], ◌∷◌, ◌++◌, length, slice_set, Option, Some, None, refl, ap, sym, ◌∙◌, arith, append_assoc, length-append}
use Rattle.std.proofs.Math.Seq.{set-append_seam}
use Rattle.tb_process_steps.specs.Processes.{Process, At, Seq, Alt, Star, Par, Disrupt, If, When, Let}
use Rattle.tb_code.specs.Positions.{size, table, positions, node}
use Rattle.tb_code.specs.declared.node.Node.{Node}
use Rattle.tb_code.specs.declared.node.Op.TheVariants as op
use Rattle.tb_code.specs.Helpers.Twos.{joined, frame_of_first, op_of}
use Rattle.tb_code.specs.declared.node.Op.{Op}
use Rattle.tb_code.specs.declared.two.Two.{Two}
use Rattle.tb_code.specs.declared.two.Two.TheVariants as two

length_two : (xs ys : List Node) (s t : ℕ) → length xs ≡ s → length ys ≡ t → suc (length (xs ++ ys)) ≡ suc (s + t)
length_two xs ys s t e f = let l = length-append xs ys in omega arith

-- a table has as many positions as its term
pub length-table : (term : Process) (at : ℕ) (frame : Option ℕ) → length (table term at frame) ≡ size term
length-table (At atom age) at frame = refl
length-table (Seq x y) at frame = length_two (table x (suc at) (Some at)) (table y (suc at + size x) frame) (size x) (size y) (length-table x (suc at) (Some at)) (length-table y (suc at + size x) frame)
length-table (Alt x y) at frame = length_two (table x (suc at) frame) (table y (suc at + size x) frame) (size x) (size y) (length-table x (suc at) frame) (length-table y (suc at + size x) frame)
length-table (Star x y) at frame = length_two (table x (suc at) (Some at)) (table y (suc at + size x) frame) (size x) (size y) (length-table x (suc at) (Some at)) (length-table y (suc at + size x) frame)
length-table (Par x y) at frame = length_two (table x (suc at) frame) (table y (suc at + size x) frame) (size x) (size y) (length-table x (suc at) frame) (length-table y (suc at + size x) frame)
length-table (Disrupt x y) at frame =
    length_two (table x (suc at) (Some at)) (node (op.Waits at) frame ∷ table y (suc (suc at + size x)) frame) (size x) (suc (size y)) (length-table x (suc at) (Some at)) (ap suc (length-table y (suc (suc at + size x)) frame))
length-table (If test x y) at frame = length_two (table x (suc at) frame) (table y (suc at + size x) frame) (size x) (size y) (length-table x (suc at) frame) (length-table y (suc at + size x) frame)
length-table (When test x) at frame = ap suc (length-table x (suc at) frame)
length-table (Let settings x) at frame = ap suc (length-table x (suc at) frame)

-- an operator is added, then its parts, and then the operator is set
set-two : (old : List Node) (first last : Node) (xs ys : List Node) → slice_set (((old ++ first ∷ []) ++ xs) ++ ys) (length old) last ≡ old ++ (last ∷ (xs ++ ys))
set-two old first last xs ys =
    ap (λ (l : List Node). slice_set l (length old) last) (append_assoc (old ++ first ∷ []) xs ys ∙ append_assoc old (first ∷ []) (xs ++ ys))
    ∙ set-append_seam old first (xs ++ ys) last

-- the positions of an operator over two parts
table-joined : (two : Two) (x y : Process) (at : ℕ) (frame : Option ℕ) → table (joined two x y) at frame ≡
    node (op_of two (suc at + size x)) frame ∷ (table x (suc at) (frame_of_first two at frame) ++ table y (suc at + size x) frame)
table-joined two.Seq x y at frame = refl
table-joined two.Alt x y at frame = refl
table-joined two.Star x y at frame = refl
table-joined two.Par x y at frame = refl
table-joined (two.If test) x y at frame = refl

-- The table of an operator is added. The arguments have the nodes before, and the nodes after the operator's position, after its first
-- part, and after its second part.
pub added_two : (two : Two) (old opened behind_x behind_y new : List Node) (first : Node) (made : Op) (x y : Process) (frame_x frame : Option ℕ) (here right : ℕ) →
    here ≡ length old → opened ≡ old ++ first ∷ [] → frame_x ≡ frame_of_first two here frame →
    behind_x ≡ opened ++ table x (length opened) frame_x → right ≡ length behind_x →
    behind_y ≡ behind_x ++ table y (length behind_x) frame → made ≡ op_of two right → new ≡ slice_set behind_y here (node made frame) →
    new ≡ old ++ table (joined two x y) (length old) frame
added_two two old opened behind_x behind_y new first made x y frame_x frame here right eh eo ef ex er ey em en =
    let lo : length opened ≡ suc (length old) = (let l = length-append old (first ∷ []) in let k = ap length eo in omega arith) in
    let lt : length (table x (length opened) frame_x) ≡ size x = length-table x (length opened) frame_x in
    let lx : length behind_x ≡ suc (length old) + size x = (let l = length-append opened (table x (length opened) frame_x) in let k = ap length ex in omega arith) in
    let inner = frame_of_first two (length old) frame in
    let fx : frame_x ≡ inner = ef ∙ ap (λ (n : ℕ). frame_of_first two n frame) eh in
    let xs = table x (suc (length old)) inner in
    let ys = table y (suc (length old) + size x) frame in
    let bx : behind_x ≡ (old ++ first ∷ []) ++ xs =
    ex ∙ ap (λ (n : ℕ). opened ++ table x n frame_x) lo ∙ ap (λ (o : Option ℕ). opened ++ table x (suc (length old)) o) fx ∙ ap (λ (l : List Node). l ++ xs) eo in
    let by : behind_y ≡ ((old ++ first ∷ []) ++ xs) ++ ys = ey ∙ ap (λ (n : ℕ). behind_x ++ table y n frame) lx ∙ ap (λ (l : List Node). l ++ ys) bx in
    let last = node (op_of two (suc (length old) + size x)) frame in
    en ∙ ap (λ (n : ℕ). slice_set behind_y n (node made frame)) eh
    ∙ ap (λ (o : Op). slice_set behind_y (length old) (node o frame)) (em ∙ ap (op_of two) (er ∙ lx))
    ∙ ap (λ (l : List Node). slice_set l (length old) last) by ∙ set-two old first last xs ys
    ∙ ap (λ (l : List Node). old ++ l) (sym (table-joined two x y (length old) frame))

-- The table of a disrupt is added. The arguments have the nodes before, and the nodes after the disrupt's position, after its left side,
-- after the position at which its right side waits, and after its right side.
pub added_until : (old opened behind_x waiting behind_y new : List Node) (first : Node) (x y : Process) (frame : Option ℕ) (here waits : ℕ) →
    here ≡ length old → opened ≡ old ++ first ∷ [] → behind_x ≡ opened ++ table x (length opened) (Some here) → waits ≡ length behind_x →
    waiting ≡ behind_x ++ node (op.Waits here) frame ∷ [] → behind_y ≡ waiting ++ table y (length waiting) frame →
    new ≡ slice_set behind_y here (node (op.Disrupt waits) frame) → new ≡ old ++ table (Disrupt x y) (length old) frame
added_until old opened behind_x waiting behind_y new first x y frame here waits eh eo ex ew eq ey en =
    let at = length old in
    let lo : length opened ≡ suc at = (let l = length-append old (first ∷ []) in let k = ap length eo in omega arith) in
    let lt : length (table x (length opened) (Some here)) ≡ size x = length-table x (length opened) (Some here) in
    let lx : length behind_x ≡ suc at + size x = (let l = length-append opened (table x (length opened) (Some here)) in let k = ap length ex in omega arith) in
    let lw : length waiting ≡ suc (suc at + size x) = (let l = length-append behind_x (node (op.Waits here) frame ∷ []) in let k = ap length eq in omega arith) in
    let xs = table x (suc at) (Some at) in
    let wait = node (op.Waits at) frame in
    let ys = table y (suc (suc at + size x)) frame in
    let bx : behind_x ≡ (old ++ first ∷ []) ++ xs =
    ex ∙ ap (λ (n : ℕ). opened ++ table x n (Some here)) lo ∙ ap (λ (n : ℕ). opened ++ table x (suc at) (Some n)) eh ∙ ap (λ (l : List Node). l ++ xs) eo in
    let bw : waiting ≡ ((old ++ first ∷ []) ++ xs) ++ wait ∷ [] =
    eq ∙ ap (λ (n : ℕ). behind_x ++ node (op.Waits n) frame ∷ []) eh ∙ ap (λ (l : List Node). l ++ wait ∷ []) bx in
    let by : behind_y ≡ ((old ++ first ∷ []) ++ xs) ++ (wait ∷ ys) =
    ey ∙ ap (λ (n : ℕ). waiting ++ table y n frame) lw ∙ ap (λ (l : List Node). l ++ ys) bw ∙ append_assoc ((old ++ first ∷ []) ++ xs) (wait ∷ []) ys in
    let last = node (op.Disrupt (suc at + size x)) frame in
    en ∙ ap (λ (n : ℕ). slice_set behind_y n (node (op.Disrupt waits) frame)) eh
    ∙ ap (λ (n : ℕ). slice_set behind_y at (node (op.Disrupt n) frame)) (ew ∙ lx)
    ∙ ap (λ (l : List Node). slice_set l at last) by ∙ set-two old first last xs (wait ∷ ys)

pub numbered_all : (old new : List Node) (tree whole : Process) → old ≡ [] → new ≡ old ++ table tree (length old) None → tree ≡ whole → new ≡ positions whole
unfolding positions
numbered_all old new tree whole eo en ew =
    en ∙ ap (λ (l : List Node). l ++ table tree (length l) None) eo ∙ ap (λ (p : Process). table p 0 None) ew
