-- What one line says.
use Rattle.std.proofs.Common.{◌≡◌, ◌==◌, ℕ, ◌+◌, ◌≤◌, Bool, true, false, not, if◌then◌else◌, List, [], ◌∷◌, ◌++◌, drop, get_or, inl, inr, None, refl, ap, sym, ◌∙◌, subst, arith, append_assoc, codes}
use Rattle.std.specs.Fmt.{decimal}
use Rattle.std.proofs.lemmas.Fmt.{decimal_injective}
use Rattle.std.proofs.lemmas.Bool.{false≢true, and_parts, and_from, eqb-true}
use Rattle.tb_log.specs.Shapes.{IsLane}
use Rattle.tb_log.specs.declared.entry.ToolLine.{ToolLine}
use Rattle.tb_log.specs.declared.entry.Input.{Input}
use Rattle.tb_log.specs.declared.entry.Input.TheVariants.{Tick, NoTicks, Gone, Cut}
use Rattle.tb_log.specs.declared.entry.Input.TheVariants as input_of
use Rattle.tb_tool_line.specs.ToolLines.{IsToolLine}
use Rattle.tb_tool_line.proofs.Lines.{lines-same, line-in_shape}
use Rattle.tb_feed.specs.Feeds.{MayBeFed, Says}
use Rattle.tb_feed.specs.Helpers.OneLine.{IsSaid, IsNumberOf, lacks_blank}
use Rattle.tb_feed.proofs.LaneNumbers.{lane_digits}

-- what stands before the first blank, and behind it
prefix : List ℕ → List ℕ
prefix [] = []
prefix (byte ∷ bytes) = if byte == 32 then [] else byte ∷ prefix bytes

behind : List ℕ → List ℕ
behind [] = []
behind (byte ∷ bytes) = if byte == 32 then bytes else behind bytes

apart : (b : Bool) → not b ≡ true → b ≡ false
apart true e = absurd (false≢true e)
apart false e = refl

prefix-cut : (xs rest : List ℕ) → lacks_blank xs ≡ true → prefix (xs ++ 32 ∷ rest) ≡ xs
unfolding prefix
prefix-cut [] rest h = refl
prefix-cut (x ∷ xs) rest h =
    let p = and_parts (not (x == 32)) (lacks_blank xs) h in
    rw (apart (x == 32) p.0) (ap (λ (l : List ℕ). x ∷ l) (prefix-cut xs rest p.1))

behind-cut : (xs rest : List ℕ) → lacks_blank xs ≡ true → behind (xs ++ 32 ∷ rest) ≡ rest
unfolding behind
behind-cut [] rest h = refl
behind-cut (x ∷ xs) rest h =
    let p = and_parts (not (x == 32)) (lacks_blank xs) h in
    rw (apart (x == 32) p.0) (behind-cut xs rest p.1)

-- bytes with a blank don't lack it
blank-there : (xs rest : List ℕ) → lacks_blank (xs ++ 32 ∷ rest) ≡ true → ⊥
blank-there [] rest h = absurd (false≢true h)
blank-there (x ∷ xs) rest h = blank-there xs rest (and_parts (not (x == 32)) (lacks_blank (xs ++ 32 ∷ rest)) h).1

digit-lacks : (byte : ℕ) → 48 ≤ byte → not (byte == 32) ≡ true
digit-lacks byte l = by (byte == 32) refl
  where
    by : (b : Bool) → (byte == 32) ≡ b → not b ≡ true
    by true e = let same : byte ≡ 32 = eqb-true byte 32 e in absurd (omega arith)
    by false e = refl

-- the number of a lane has no blank
lane-lacks : (lane : ℕ) → IsLane lane → lacks_blank (decimal lane) ≡ true
lane-lacks lane is =
    elim (lane_digits lane is) [
      | inl one ↦ subst (λ (bytes : List ℕ). lacks_blank bytes ≡ true) (sym one.0) (and_from (not (48 + lane == 32)) true (digit-lacks (48 + lane) (omega arith)) refl)
      | inr two ↦ subst (λ (bytes : List ℕ). lacks_blank bytes ≡ true) (sym two.0) (and_from (not (38 + lane == 32)) true (digit-lacks (38 + lane) (omega (arith, two.1))) refl)
    ]

-- a lane and the bytes of its tool, behind the word and its blank
abbrev IsParted : List ℕ → ℕ → List ℕ → Type 0
IsParted rest lane text = rest ≡ decimal lane ++ 32 ∷ text

parted-prefix : (rest : List ℕ) (lane : ℕ) (text : List ℕ) → IsLane lane → IsParted rest lane text → prefix rest ≡ decimal lane
parted-prefix rest lane text is e = ap prefix e ∙ prefix-cut (decimal lane) text (lane-lacks lane is)

parted-behind : (rest : List ℕ) (lane : ℕ) (text : List ℕ) → IsLane lane → IsParted rest lane text → behind rest ≡ text
parted-behind rest lane text is e = ap behind e ∙ behind-cut (decimal lane) text (lane-lacks lane is)

parted-of : (line : List ℕ) (lane : ℕ) (text : List ℕ) → line ≡ codes "line " ++ decimal lane ++ codes " " ++ text → IsParted (drop 5 line) lane text
parted-of line lane text e = ap (drop 5) e ∙ append_assoc (decimal lane) (codes " ") text

lanes-same : (lane other : ℕ) → IsLane lane → IsLane other → decimal lane ≡ decimal other → lane ≡ other
lanes-same lane other is isn e = decimal_injective lane other (omega (arith, is.1)) (omega (arith, isn.1)) e

-- the first byte of a line that says this
abbrev head_of : Input → ℕ
head_of Tick = 116
head_of NoTicks = 0
head_of (input_of.Line lane said) = 108
head_of (Gone lane) = 103
head_of (Cut lane) = 99

pub head-said : (line : List ℕ) (input : Input) → Says line input → get_or line 0 0 ≡ head_of input
head-said line Tick h = ap (λ (l : List ℕ). get_or l 0 0) h
head-said line NoTicks h = absurd h
head-said line (input_of.Line lane said) h = ap (λ (l : List ℕ). get_or l 0 0) h.1.1
head-said line (Gone lane) h = ap (λ (l : List ℕ). get_or l 0 0) h.1
head-said line (Cut lane) h = ap (λ (l : List ℕ). get_or l 0 0) h.1

heads-same : (line : List ℕ) (input other : Input) → Says line input → Says line other → head_of input ≡ head_of other
heads-same line input other h g = sym (head-said line input h) ∙ head-said line other g

-- a line says one input at most
pub says-one : (line : List ℕ) (input other : Input) → Says line input → Says line other → input ≡ other
says-one line input NoTicks h g = absurd g
says-one line NoTicks other h g = absurd h
says-one line Tick Tick h g = refl
says-one line Tick (input_of.Line lane said) h g = let e : ◌≡◌ {A = ℕ} 116 108 = heads-same line Tick (input_of.Line lane said) h g in absurd (omega arith)
says-one line Tick (Gone lane) h g = let e : ◌≡◌ {A = ℕ} 116 103 = heads-same line Tick (Gone lane) h g in absurd (omega arith)
says-one line Tick (Cut lane) h g = let e : ◌≡◌ {A = ℕ} 116 99 = heads-same line Tick (Cut lane) h g in absurd (omega arith)
says-one line (input_of.Line lane said) Tick h g = let e : ◌≡◌ {A = ℕ} 108 116 = heads-same line (input_of.Line lane said) Tick h g in absurd (omega arith)
says-one line (input_of.Line lane said) (input_of.Line other told) h g =
    let mine : IsParted (drop 5 line) lane h.1.0 = parted-of line lane h.1.0 h.1.1 in
    let its : IsParted (drop 5 line) other g.1.0 = parted-of line other g.1.0 g.1.1 in
    let same : lane ≡ other = lanes-same lane other h.0 g.0 (sym (parted-prefix (drop 5 line) lane h.1.0 h.0 mine) ∙ parted-prefix (drop 5 line) other g.1.0 g.0 its) in
    let text : g.1.0 ≡ h.1.0 = sym (parted-behind (drop 5 line) other g.1.0 g.0 its) ∙ parted-behind (drop 5 line) lane h.1.0 h.0 mine in
    let one : said ≡ told = lines-same h.1.0 said told h.1.2 (subst (λ (bytes : List ℕ). IsToolLine bytes told) text g.1.2) in
    ap (λ (n : ℕ). input_of.Line n said) same ∙ ap (λ (l : ToolLine). input_of.Line other l) one
says-one line (input_of.Line lane said) (Gone other) h g = let e : ◌≡◌ {A = ℕ} 108 103 = heads-same line (input_of.Line lane said) (Gone other) h g in absurd (omega arith)
says-one line (input_of.Line lane said) (Cut other) h g = let e : ◌≡◌ {A = ℕ} 108 99 = heads-same line (input_of.Line lane said) (Cut other) h g in absurd (omega arith)
says-one line (Gone lane) Tick h g = let e : ◌≡◌ {A = ℕ} 103 116 = heads-same line (Gone lane) Tick h g in absurd (omega arith)
says-one line (Gone lane) (input_of.Line other told) h g = let e : ◌≡◌ {A = ℕ} 103 108 = heads-same line (Gone lane) (input_of.Line other told) h g in absurd (omega arith)
says-one line (Gone lane) (Gone other) h g = ap (λ (n : ℕ). Gone n) (lanes-same lane other h.0 g.0 (ap (drop 5) (sym h.1 ∙ g.1)))
says-one line (Gone lane) (Cut other) h g = let e : ◌≡◌ {A = ℕ} 103 99 = heads-same line (Gone lane) (Cut other) h g in absurd (omega arith)
says-one line (Cut lane) Tick h g = let e : ◌≡◌ {A = ℕ} 99 116 = heads-same line (Cut lane) Tick h g in absurd (omega arith)
says-one line (Cut lane) (input_of.Line other told) h g = let e : ◌≡◌ {A = ℕ} 99 108 = heads-same line (Cut lane) (input_of.Line other told) h g in absurd (omega arith)
says-one line (Cut lane) (Gone other) h g = let e : ◌≡◌ {A = ℕ} 99 103 = heads-same line (Cut lane) (Gone other) h g in absurd (omega arith)
says-one line (Cut lane) (Cut other) h g = ap (λ (n : ℕ). Cut n) (lanes-same lane other h.0 g.0 (ap (drop 4) (sym h.1 ∙ g.1)))

-- and one that may be fed
pub says-may : (line : List ℕ) (input : Input) → Says line input → MayBeFed input
says-may line Tick h = (tt, λ e. cc)
says-may line NoTicks h = absurd h
says-may line (input_of.Line lane said) h = ((h.0, line-in_shape h.1.0 said h.1.2), λ e. cc)
says-may line (Gone lane) h = (h.0, λ e. cc)
says-may line (Cut lane) h = (h.0, λ e. cc)

-- what stands behind the word and its blank says nothing where it has no blank
pub no-blank : (rest : List ℕ) → lacks_blank rest ≡ true → IsSaid (codes "line " ++ rest) None
no-blank rest lacks Tick h = let e : ◌≡◌ {A = ℕ} 108 116 = head-said (codes "line " ++ rest) Tick h in absurd (omega arith)
no-blank rest lacks NoTicks h = h
no-blank rest lacks (input_of.Line lane said) h =
    let parted : IsParted rest lane h.1.0 = parted-of (codes "line " ++ rest) lane h.1.0 h.1.1 in
    blank-there (decimal lane) h.1.0 (subst (λ (bytes : List ℕ). lacks_blank bytes ≡ true) parted lacks)
no-blank rest lacks (Gone lane) h = let e : ◌≡◌ {A = ℕ} 108 103 = head-said (codes "line " ++ rest) (Gone lane) h in absurd (omega arith)
no-blank rest lacks (Cut lane) h = let e : ◌≡◌ {A = ℕ} 108 99 = head-said (codes "line " ++ rest) (Cut lane) h in absurd (omega arith)

-- nor where what stands before the first one is the number of no lane
pub no-lane : (rest number text : List ℕ) → lacks_blank number ≡ true → rest ≡ number ++ 32 ∷ text → IsNumberOf number None → IsSaid (codes "line " ++ rest) None
no-lane rest number text lacks e none Tick h = let e : ◌≡◌ {A = ℕ} 108 116 = head-said (codes "line " ++ rest) Tick h in absurd (omega arith)
no-lane rest number text lacks e none NoTicks h = h
no-lane rest number text lacks e none (input_of.Line lane said) h =
    let parted : IsParted rest lane h.1.0 = parted-of (codes "line " ++ rest) lane h.1.0 h.1.1 in
    none lane h.0 (sym (prefix-cut number text lacks) ∙ ap prefix (sym e) ∙ parted-prefix rest lane h.1.0 h.0 parted)
no-lane rest number text lacks e none (Gone lane) h = let e : ◌≡◌ {A = ℕ} 108 103 = head-said (codes "line " ++ rest) (Gone lane) h in absurd (omega arith)
no-lane rest number text lacks e none (Cut lane) h = let e : ◌≡◌ {A = ℕ} 108 99 = head-said (codes "line " ++ rest) (Cut lane) h in absurd (omega arith)

-- where bytes are the number of no lane, no lane is gone by them
pub no-gone : (rest : List ℕ) → IsNumberOf rest None → IsSaid (codes "gone " ++ rest) None
no-gone rest none Tick h = let e : ◌≡◌ {A = ℕ} 103 116 = head-said (codes "gone " ++ rest) Tick h in absurd (omega arith)
no-gone rest none NoTicks h = h
no-gone rest none (input_of.Line lane said) h = let e : ◌≡◌ {A = ℕ} 103 108 = head-said (codes "gone " ++ rest) (input_of.Line lane said) h in absurd (omega arith)
no-gone rest none (Gone lane) h = none lane h.0 (ap (drop 5) h.1)
no-gone rest none (Cut lane) h = let e : ◌≡◌ {A = ℕ} 103 99 = head-said (codes "gone " ++ rest) (Cut lane) h in absurd (omega arith)
