-- A part, and the bytes after its comma.
use Rattle.std.proofs.Common.{◌≡◌, ℕ, Bool, true, false, List, [], ◌∷◌, length, take, drop, refl, ap, sym, ◌∙◌, arith}
use Rattle.tb_log_read.specs.Helpers.Parts.{after, is_cut, part_len, parts_from, parts}
use Rattle.tb_log_read.specs.declared.part.Standing.{Standing}
use Rattle.tb_log_read.specs.declared.part.Standing.TheVariants.{Plain}

-- the parts after the first one, from the bytes that begin with its comma
abbrev pub parts_behind : List ℕ → List (List ℕ)
parts_behind [] = []
parts_behind (comma ∷ bytes) = parts bytes

parted_by : (cuts : Bool) (s : Standing) (b : ℕ) (bytes : List ℕ) → is_cut s b ≡ cuts → parts_from (after s b) bytes ≡ take (part_len (after s b) bytes) bytes ∷ parts_behind (drop (part_len (after s b) bytes) bytes) → parts_from s (b ∷ bytes) ≡ take (part_len s (b ∷ bytes)) (b ∷ bytes) ∷ parts_behind (drop (part_len s (b ∷ bytes)) (b ∷ bytes))
parted_by true s b bytes e h = rw e refl
parted_by false s b bytes e h = rw (e, h) refl

-- the first part, by its length, and the other parts
pub parted : (s : Standing) (bytes : List ℕ) → parts_from s bytes ≡ take (part_len s bytes) bytes ∷ parts_behind (drop (part_len s bytes) bytes)
parted s [] = refl
parted s (b ∷ bytes) = parted_by (is_cut s b) s b bytes refl (parted (after s b) bytes)

pub parted_some : (bytes prefix behind more : List ℕ) (n comma : ℕ) → n ≡ part_len (Plain 0) bytes → prefix ≡ take n bytes → behind ≡ drop n bytes → behind ≡ comma ∷ more → parts bytes ≡ prefix ∷ parts more
parted_some bytes prefix behind more n comma en ef eb em =
    let cut : drop (part_len (Plain 0) bytes) bytes ≡ comma ∷ more = ap (λ k. drop k bytes) (sym en) ∙ sym eb ∙ em in
    let first : take (part_len (Plain 0) bytes) bytes ≡ prefix = ap (λ k. take k bytes) (sym en) ∙ sym ef in
    parted (Plain 0) bytes ∙ ap (λ (l : List ℕ). take (part_len (Plain 0) bytes) bytes ∷ parts_behind l) cut ∙ ap (λ (l : List ℕ). l ∷ parts more) first

empty : (l : List ℕ) → length l ≡ 0 → l ≡ []
empty [] e = refl
empty (x ∷ l) e = absurd (omega arith)

pub parted_none : (bytes prefix behind : List ℕ) (n : ℕ) → n ≡ part_len (Plain 0) bytes → prefix ≡ take n bytes → behind ≡ drop n bytes → length behind ≡ 0 → parts bytes ≡ prefix ∷ []
parted_none bytes prefix behind n en ef eb em =
    let cut : drop (part_len (Plain 0) bytes) bytes ≡ [] = ap (λ k. drop k bytes) (sym en) ∙ sym eb ∙ empty behind em in
    let first : take (part_len (Plain 0) bytes) bytes ≡ prefix = ap (λ k. take k bytes) (sym en) ∙ sym ef in
    parted (Plain 0) bytes ∙ ap (λ (l : List ℕ). take (part_len (Plain 0) bytes) bytes ∷ parts_behind l) cut ∙ ap (λ (l : List ℕ). l ∷ []) first
