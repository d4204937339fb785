-- The printed tokens of a list spell it, except for token positions, if this holds of each element.
use Rattle.std.proofs.Common.{◌≡◌, ℕ, ◌+◌, List, [], ◌∷◌, ◌++◌, length, map, refl, sym, subst}
use Rattle.std.specs.List.{flat_map}
use Rattle.tb_lex.specs.declared.kind.TokenKind.{TokenKind}
use Rattle.tb_lex.specs.declared.kind.TokenKind.TheVariants.{Symbol as Sign}
use Rattle.tb_lex.specs.declared.symbol.Symbol.TheVariants.{Comma}
use Rattle.tb_syntax.specs.Spelling.{in_parens, Parted, InRow, InParens}
use Rattle.tb_syntax.specs.Helpers.Canonical.{parted, optional}

-- at each position, these tokens spell the construct, except for token positions
abbrev pub IsPrinted : {A : Type 0} → (A → A) → (ℕ → A → List TokenKind → Type 0) → A → List TokenKind → Type 0
IsPrinted {A} bare Spells x ks = (to : ℕ) → (y : A) × (bare y ≡ bare x) × Spells to y ks

module _ {A : Type 0} (bare : A → A) (tokens : A → List TokenKind) (Spells : ℕ → A → List TokenKind → Type 0) (each : (at : ℕ) (x : A) (ks : List TokenKind) → Spells at x ks → IsPrinted bare Spells x (tokens x)) where
  parts_printed : {at : ℕ} {xs : List A} {ks : List TokenKind} → Parted Spells at xs ks → (first : List TokenKind) → parted (first ∷ map tokens xs) ≡ first ++ Sign Comma ∷ parted (map tokens xs)
  parts_printed (Parted.last d) first = refl
  parts_printed (Parted.more d ds) first = refl

  some_printed : {at : ℕ} {xs : List A} {ks : List TokenKind} → Parted Spells at xs ks → optional (map tokens xs) ≡ in_parens (parted (map tokens xs))
  some_printed (Parted.last d) = refl
  some_printed (Parted.more d ds) = refl

  pub parted_printed : {at : ℕ} {xs : List A} {ks : List TokenKind} → Parted Spells at xs ks → (to : ℕ) → (ys : List A) × (map bare ys ≡ map bare xs) × Parted Spells to ys (parted (map tokens xs))
  parted_printed (Parted.last {at = at} {x = x} {ks = ks} d) to = let r = each at x ks d to in (r.0 ∷ [], (λ i. r.1 i ∷ []), Parted.last r.2)
  parted_printed (Parted.more {at = at} {x = x} {ks = ks} d ds) to =
      let r = each at x ks d to in
      let rs = parted_printed ds (to + length (tokens x) + 1) in (
        r.0 ∷ rs.0,
        λ i. r.1 i ∷ rs.1 i,
        subst (Parted Spells to (r.0 ∷ rs.0)) (sym (parts_printed ds (tokens x))) (Parted.more r.2 rs.2),
      )

  pub optional_printed : {at : ℕ} {xs : List A} {ks : List TokenKind} → InParens Spells at xs ks → (to : ℕ) → (ys : List A) × (map bare ys ≡ map bare xs) × InParens Spells to ys (optional (map tokens xs))
  optional_printed (InParens.none at) to = ([], refl, InParens.none to)
  optional_printed (InParens.some d) to =
      let r = parted_printed d (to + 1) in (r.0, r.1, subst (InParens Spells to r.0) (sym (some_printed d)) (InParens.some r.2))

  pub row_printed : {at : ℕ} {xs : List A} {ks : List TokenKind} → InRow Spells at xs ks → (to : ℕ) → (ys : List A) × (map bare ys ≡ map bare xs) × InRow Spells to ys (flat_map tokens xs)
  row_printed (InRow.none at) to = ([], refl, InRow.none to)
  row_printed (InRow.more {at = at} {x = x} {ks = ks} d ds) to =
      let r = each at x ks d to in
      let rs = row_printed ds (to + length (tokens x)) in
      (r.0 ∷ rs.0, (λ i. r.1 i ∷ rs.1 i), InRow.more r.2 rs.2)
