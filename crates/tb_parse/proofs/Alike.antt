-- Two runs of a parser on tokens that begin alike: the result depends on no token after the one at which the parser stops.
use Rattle.std.proofs.Common.{◌≡◌, ℕ, ◌+◌, ◌≤◌, Bool, true, false, List, [], ◌∷◌, ◌++◌, length, refl, arith, if◌then◌else◌}
use Rattle.tb_lex.specs.declared.kind.TokenKind.{TokenKind}
use Rattle.tb_parse.specs.Helpers.Parsing.{Outcome, Found, Stops, Parser, after, mapped, begins, tail, expect, skip}

-- the position after the result, or that at which the parser stops
abbrev pub end : {A : Type 0} → Outcome A → ℕ
end (Found x position rest) = position
end (Stops position) = position

-- Outcomes of two runs that end at this position or later. The first `stop` tokens are the same in both, and behind them stand others:
-- the first run ends behind what is the same, or both find the same and leave the rest of it, or both stop at one position.
pub data Alike {A : Type 0} (at stop : ℕ) (vs ws : List TokenKind) : Outcome A → Outcome A → Type 0 where
  beyond : {o other : Outcome A} → at ≤ end o → stop ≤ end o → Alike at stop vs ws o other
  found : {x : A} {position : ℕ} (us : List TokenKind) → at ≤ position → position + length us ≡ stop → Alike at stop vs ws (Found x position (us ++ vs)) (Found x position (us ++ ws))
  stops : {position : ℕ} → at ≤ position → Alike at stop vs ws (Stops position) (Stops position)

-- two parsers go alike on so many tokens
pub record Same {A : Type 0} (count : ℕ) (p q : Parser A) : Type 0 where
  pub alike : (at : ℕ) (us vs ws : List TokenKind) → length us ≤ count → Alike at (at + length us) vs ws (p at (us ++ vs)) (q at (us ++ ws))

pub fewer : {A : Type 0} {count : ℕ} {p q : Parser A} (less : ℕ) → less ≤ count → Same count p q → Same less p q
fewer less h s = record { alike = λ at us vs ws i. s.alike at us vs ws (omega arith) }

-- One outcome.

pub least : {A : Type 0} {at stop : ℕ} {vs ws : List TokenKind} {o other : Outcome A} → Alike at stop vs ws o other → at ≤ end o
least (Alike.beyond h i) = h
least (Alike.found us h e) = h
least (Alike.stops h) = h

-- a parser never goes back
pub forward : {A : Type 0} {count : ℕ} {p q : Parser A} → Same count p q → (at : ℕ) (ks : List TokenKind) → at ≤ end (p at ks)
forward s at ks = least (s.alike at [] ks [] (omega arith))

pub moved : {A : Type 0} {at to stop end : ℕ} {vs ws : List TokenKind} {o other : Outcome A} → to ≤ at → stop ≡ end → Alike at stop vs ws o other → Alike to end vs ws o other
moved h e (Alike.beyond i j) = Alike.beyond (omega arith) (omega arith)
moved h e (Alike.found us i f) = Alike.found us (omega arith) (omega arith)
moved h e (Alike.stops i) = Alike.stops (omega arith)

end_mapped : {A B : Type 0} (f : A → B) (o : Outcome A) → end (mapped f o) ≡ end o
end_mapped f (Found x position rest) = refl
end_mapped f (Stops position) = refl

pub mapped_alike : {A B : Type 0} {at stop : ℕ} {vs ws : List TokenKind} {o other : Outcome A} (f : A → B) → Alike at stop vs ws o other → Alike at stop vs ws (mapped f o) (mapped f other)
mapped_alike f (Alike.beyond {o = o} h i) = let e = end_mapped f o in Alike.beyond (omega arith) (omega arith)
mapped_alike f (Alike.found us h e) = Alike.found us h e
mapped_alike f (Alike.stops h) = Alike.stops h

end_after : {A B : Type 0} (next : A → Parser B) → ((x : A) (at : ℕ) (ks : List TokenKind) → at ≤ end (next x at ks)) → (o : Outcome A) → end o ≤ end (after o next)
end_after next h (Found x position rest) = h x position rest
end_after next h (Stops position) = omega arith

pub after_alike : {A B : Type 0} {at stop : ℕ} {vs ws : List TokenKind} {o other : Outcome A} (next goes : A → Parser B) (count : ℕ) → stop ≤ at + count → ((x : A) → Same count (next x) (goes x))
    → Alike at stop vs ws o other → Alike at stop vs ws (after o next) (after other goes)
after_alike next goes count enough h (Alike.beyond {o = o} i j) = let e = end_after next (λ x. forward (h x)) o in Alike.beyond (omega arith) (omega arith)
after_alike {vs = vs} {ws = ws} next goes count enough h (Alike.found {x = x} {position = position} us i e) = moved i e ((h x).alike position us vs ws (omega arith))
after_alike next goes count enough h (Alike.stops i) = Alike.stops i

pub if_alike : {A : Type 0} {at stop : ℕ} {vs ws : List TokenKind} {o other r rest : Outcome A} (b : Bool) → Alike at stop vs ws o other → Alike at stop vs ws r rest
    → Alike at stop vs ws (if b then o else r) (if b then other else rest)
if_alike true h i = h
if_alike false h i = i

if_least : {A : Type 0} {at : ℕ} (o r : Outcome A) (b : Bool) → at ≤ end o → at ≤ end r → at ≤ end (if b then o else r)
if_least o r true h i = h
if_least o r false h i = i

-- one way behind a token that passes the test, and another where none does
pub branch_alike : {A : Type 0} (test : TokenKind → Bool) (p q : Parser A) {r rest : Outcome A} (count at : ℕ) (us vs ws : List TokenKind) → length us ≤ count + 1 → Same count p q → Alike at (at + length us) vs ws r rest
    → Alike at (at + length us) vs ws (if begins test (us ++ vs) then p (at + 1) (tail (us ++ vs)) else r) (if begins test (us ++ ws) then q (at + 1) (tail (us ++ ws)) else rest)
branch_alike test p q {r = r} count at [] vs ws h s i =
    let f = forward s (at + 1) (tail vs) in
    let g : at ≤ end (if begins test vs then p (at + 1) (tail vs) else r) = if_least (p (at + 1) (tail vs)) r (begins test vs) (omega arith) (least i) in
    Alike.beyond g (omega arith)
branch_alike test p q count at (k ∷ us) vs ws h s i = if_alike (test k) (moved (omega arith) (omega arith) (s.alike (at + 1) us vs ws (omega arith))) i

-- Parsers.

module _ {A : Type 0} where
  pub stopping : (count : ℕ) → Same {A = A} count (λ at ks. Stops at) (λ at ks. Stops at)
  stopping count = record { alike = λ at us vs ws h. Alike.stops (omega arith) }

  pub finding : (count : ℕ) (x : A) → Same count (λ at ks. Found x at ks) (λ at ks. Found x at ks)
  finding count x = record { alike = λ at us vs ws h. Alike.found us (omega arith) refl }

  pub branch : (test : TokenKind → Bool) (p q : Parser A) {r rest : Parser A} (less count : ℕ) → count ≤ less + 1 → Same less p q → Same count r rest
      → Same count (λ at ks. if begins test ks then p (at + 1) (tail ks) else r at ks) (λ at ks. if begins test ks then q (at + 1) (tail ks) else rest at ks)
  branch test p q less count h s i = record { alike = λ at us vs ws j. branch_alike test p q less at us vs ws (omega arith) s (i.alike at us vs ws j) }

  pub skipped : (test : TokenKind → Bool) (p q : Parser A) (count : ℕ) → Same count p q → Same count (skip test p) (skip test q)
  skipped test p q count s = branch test p q count count (omega arith) s (stopping count)

  pub expected : (test : TokenKind → Bool) (x : A) (count : ℕ) → Same count (expect test x) (expect test x)
  expected test x count = branch test (λ at ks. Found x at ks) (λ at ks. Found x at ks) count count (omega arith) (finding count x) (stopping count)

  -- where there is no room, there are no tokens either
  pub roomless : (q : Parser A) (count : ℕ) → count ≤ 0 → Same count (λ at ks. Stops at) q
  roomless q count h = record { alike = λ at us vs ws i. Alike.beyond (omega arith) (omega arith) }

  -- the first token says how to go on
  pub by_token : {p q : Parser A} (less count : ℕ) → count ≤ less + 1 → ((at : ℕ) → at ≤ end (p at []))
      → ((k : TokenKind) (at : ℕ) (us vs ws : List TokenKind) → length us ≤ less → Alike at (at + 1 + length us) vs ws (p at (k ∷ (us ++ vs))) (q at (k ∷ (us ++ ws)))) → Same count p q
  by_token {p = p} {q = q} less count h none some = record { alike = by } where
    by : (at : ℕ) (us vs ws : List TokenKind) → length us ≤ count → Alike at (at + length us) vs ws (p at (us ++ vs)) (q at (us ++ ws))
    by at [] [] ws i = let f = none at in Alike.beyond f (omega arith)
    by at [] (v ∷ vs) ws i = let f = least (some v at [] vs [] (omega arith)) in Alike.beyond f (omega arith)
    by at (k ∷ us) vs ws i = moved (omega arith) (omega arith) (some k at us vs ws (omega arith))

  -- behind a token
  pub next_alike : {p q : Parser A} (count at : ℕ) (us vs ws : List TokenKind) → length us ≤ count → Same count p q → Alike at (at + 1 + length us) vs ws (p (at + 1) (us ++ vs)) (q (at + 1) (us ++ ws))
  next_alike count at us vs ws h s = moved (omega arith) refl (s.alike (at + 1) us vs ws h)

module _ {A B : Type 0} where
  pub mapping : {p q : Parser A} (count : ℕ) (f : A → B) → Same count p q → Same count (λ at ks. mapped f (p at ks)) (λ at ks. mapped f (q at ks))
  mapping count f s = record { alike = λ at us vs ws h. mapped_alike f (s.alike at us vs ws h) }

  pub behind : {p q : Parser A} (next goes : A → Parser B) (count : ℕ) → Same count p q → ((x : A) → Same count (next x) (goes x))
      → Same count (λ at ks. after (p at ks) next) (λ at ks. after (q at ks) goes)
  behind next goes count s t = record { alike = λ at us vs ws h. after_alike next goes count (omega arith) t (s.alike at us vs ws h) }
