-- Operators with two parts: the term of an operator and its parts, the frame of its first part, and the operator of its position.
use Rattle.std.specs.Prelude.{ℕ, Option, Some}
use Rattle.tb_process_steps.specs.Processes.{Process, Seq, Alt, Star, Par, If}
use Rattle.tb_code.specs.declared.node.Op.{Op}
use Rattle.tb_code.specs.declared.node.Op.TheVariants as op
use Rattle.tb_code.specs.declared.two.Two.{Two}
use Rattle.tb_code.specs.declared.two.Two.TheVariants as two

-- the term of an operator and its two parts
abbrev pub joined : Two → Process → Process → Process
joined two.Seq x y = Seq x y
joined two.Alt x y = Alt x y
joined two.Star x y = Star x y
joined two.Par x y = Par x y
joined (two.If test) x y = If test x y

-- the frame of the first part of an operator at this position with this frame
abbrev pub frame_of_first : Two → ℕ → Option ℕ → Option ℕ
frame_of_first two.Seq here frame = Some here
frame_of_first two.Alt here frame = frame
frame_of_first two.Star here frame = Some here
frame_of_first two.Par here frame = frame
frame_of_first (two.If test) here frame = frame

-- the operator whose second part is at this position
abbrev pub op_of : Two → ℕ → Op
op_of two.Seq right = op.Seq right
op_of two.Alt right = op.Alt right
op_of two.Star right = op.Star right
op_of two.Par right = op.Par right
op_of (two.If test) right = op.If test right
