-- A process that binds looser than its position allows is in parentheses.
use Rattle.std.proofs.Common.{◌≡◌, ℕ, true, false, List, Some, None, ap, ◌∙◌, sym, refl}
use Rattle.tb_lex.specs.declared.kind.TokenKind.{TokenKind}
use Rattle.tb_syntax.specs.declared.level.Level.{Level}
use Rattle.tb_syntax.specs.declared.level.Level.TheVariants as level
use Rattle.tb_syntax.specs.declared.proc.Proc.{Proc}
use Rattle.tb_syntax.specs.declared.proc.Proc.TheVariants.{outs-Atom, outs-Call, outs-Seq, outs-Alt, outs-Star, outs-Par, outs-Disrupt, outs-If, outs-Let}
use Rattle.tb_syntax.specs.Binding.{is_looser, own_level, level_of}
use Rattle.tb_syntax.specs.Parens.{StandsInParens}
use Rattle.tb_syntax.specs.Spelling.{SpellsProc}
use Rattle.tb_syntax.proofs.Balanced.{proc_balanced, in_parens_enclosed}

-- a construct that is looser than a level is looser than each tighter level
proc_par : (own : Level) → is_looser own level.Proc ≡ true → is_looser own level.Par ≡ true
proc_par level.Proc e = refl
proc_par level.Par e = e
proc_par level.Alt e = e
proc_par level.Seq e = e
proc_par level.Star e = e
proc_par level.Prim e = e

par_alt : (own : Level) → is_looser own level.Par ≡ true → is_looser own level.Alt ≡ true
par_alt level.Proc e = refl
par_alt level.Par e = refl
par_alt level.Alt e = e
par_alt level.Seq e = e
par_alt level.Star e = e
par_alt level.Prim e = e

alt_seq : (own : Level) → is_looser own level.Alt ≡ true → is_looser own level.Seq ≡ true
alt_seq level.Proc e = refl
alt_seq level.Par e = refl
alt_seq level.Alt e = refl
alt_seq level.Seq e = e
alt_seq level.Star e = e
alt_seq level.Prim e = e

seq_star : (own : Level) → is_looser own level.Seq ≡ true → is_looser own level.Star ≡ true
seq_star level.Proc e = refl
seq_star level.Par e = refl
seq_star level.Alt e = refl
seq_star level.Seq e = refl
seq_star level.Star e = e
seq_star level.Prim e = e

star_prim : (own : Level) → is_looser own level.Star ≡ true → is_looser own level.Prim ≡ true
star_prim level.Proc e = refl
star_prim level.Par e = refl
star_prim level.Alt e = refl
star_prim level.Seq e = refl
star_prim level.Star e = refl
star_prim level.Prim e = e

not_looser : (own at : Level) → is_looser own at ≡ false → (p : Proc) → own_level p ≡ own → is_looser (own_level p) at ≡ true → ⊥
not_looser own at e p f g =
    let same : false ≡ true = sym e ∙ ap (λ l. is_looser l at) (sym f) ∙ g in
    cc

pub looser_enclosed : {at : Level} {position : ℕ} {p : Proc} {kinds : List TokenKind} → SpellsProc at position p kinds → is_looser (own_level p) at ≡ true → StandsInParens position p kinds
looser_enclosed {p = p} (SpellsProc.one_par d) e = looser_enclosed d (proc_par (own_level p) e)
looser_enclosed {p = p} (SpellsProc.one_alt d) e = looser_enclosed d (par_alt (own_level p) e)
looser_enclosed {p = p} (SpellsProc.one_seq d) e = looser_enclosed d (alt_seq (own_level p) e)
looser_enclosed {p = p} (SpellsProc.one_star d) e = looser_enclosed d (seq_star (own_level p) e)
looser_enclosed {p = p} (SpellsProc.one_prim d) e = looser_enclosed d (star_prim (own_level p) e)
looser_enclosed (SpellsProc.parens {xs = xs} d) e = let within = proc_balanced d in record { inner = xs; is = refl; spells = d; is_balanced = within; is_enclosed = in_parens_enclosed xs within }
looser_enclosed (SpellsProc.disrupt {x = x} {y = y} d f) e = absurd (not_looser level.Proc level.Proc refl _ (ap level_of (outs-Disrupt x y)) e)
looser_enclosed (SpellsProc.par {x = x} {y = y} d f) e = absurd (not_looser level.Par level.Par refl _ (ap level_of (outs-Par x y)) e)
looser_enclosed (SpellsProc.choice {x = x} {y = y} d f) e = absurd (not_looser level.Alt level.Alt refl _ (ap level_of (outs-Alt x y)) e)
looser_enclosed (SpellsProc.sequence {x = x} {y = y} d f) e = absurd (not_looser level.Seq level.Seq refl _ (ap level_of (outs-Seq x y)) e)
looser_enclosed (SpellsProc.turns {x = x} {y = y} d f) e = absurd (not_looser level.Star level.Star refl _ (ap level_of (outs-Star x y)) e)
looser_enclosed (SpellsProc.atom {a = a} d) e = absurd (not_looser level.Prim level.Prim refl _ (ap level_of (outs-Atom a)) e)
looser_enclosed (SpellsProc.call {c = c} d) e = absurd (not_looser level.Prim level.Prim refl _ (ap level_of (outs-Call c)) e)
looser_enclosed (SpellsProc.block {vars = vars} {x = x} d f) e = absurd (not_looser level.Prim level.Prim refl _ (ap level_of (outs-Let vars x)) e)
looser_enclosed (SpellsProc.test {e = t} {x = x} d f) e = absurd (not_looser level.Prim level.Prim refl _ (ap level_of (outs-If t x None)) e)
looser_enclosed (SpellsProc.test_else {e = t} {x = x} {y = y} d f g) e = absurd (not_looser level.Prim level.Prim refl _ (ap level_of (outs-If t x (Some y))) e)

pub each_looser_enclosed : (at : Level) (position : ℕ) (p : Proc) (kinds : List TokenKind) → SpellsProc at position p kinds → is_looser (own_level p) at ≡ true → StandsInParens position p kinds
each_looser_enclosed at position p kinds d e = looser_enclosed d e
