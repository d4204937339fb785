-- One token that must come next, alone or before the rest.
use Rattle.std.proofs.Common.{◌≡◌, ℕ, ◌+◌, Bool, true, false, List, if◌then◌else◌}
use Rattle.tb_lex.specs.declared.kind.TokenKind.{TokenKind}
use Rattle.tb_parse.specs.Helpers.Parsing.{Outcome, Found, Stops, Parser, begins, tail, expect, skip}
use Rattle.tb_parse.specs.Helpers.Reading.{Ahead, runs}

-- the token came, and this is behind it
abbrev pub here : ℕ → List TokenKind → Outcome (Unit {0})
here at ks = Found tt at ks

abbrev pub got : Ahead → Outcome (Unit {0})
got ahead = here ahead.at ahead.kinds

abbrev pub came : (TokenKind → Bool) → Ahead → Outcome (Unit {0})
came test ahead = runs (expect test tt) ahead

by : {A : Type 0} (is : Bool) (next : Parser A) (at position at' : ℕ) (ks ks' : List TokenKind)
    → (if is then here at ks else Stops position) ≡ here at' ks' → (if is then next at ks else Stops position) ≡ next at' ks'
by true next at position at' ks ks' e = cc
by false next at position at' ks ks' e = absurd cc

by_none : {A : Type 0} (is : Bool) (next : Parser A) (at position stop : ℕ) (ks : List TokenKind)
    → (if is then here at ks else Stops position) ≡ Stops stop → (if is then next at ks else Stops position) ≡ Stops stop
by_none true next at position stop ks e = absurd cc
by_none false next at position stop ks e = cc

pub skip_found : {A : Type 0} (test : TokenKind → Bool) (next : Parser A) (old : Ahead) {new : Ahead}
    → came test old ≡ got new → runs (skip test next) old ≡ runs next new
skip_found test next old {new} e = by (begins test old.kinds) next (old.at + 1) old.at new.at (tail old.kinds) new.kinds e

pub skip_stops : {A : Type 0} (test : TokenKind → Bool) (next : Parser A) (old : Ahead) {position : ℕ}
    → came test old ≡ Stops position → runs (skip test next) old ≡ Stops position
skip_stops test next old {position} e = by_none (begins test old.kinds) next (old.at + 1) old.at position (tail old.kinds) e

-- the same where the last token is waited for
by_last : {A : Type 0} (is : Bool) (x : A) (at position at' : ℕ) (ks ks' : List TokenKind)
    → (if is then here at ks else Stops position) ≡ here at' ks' → (if is then Found x at ks else Stops position) ≡ Found x at' ks'
by_last true x at position at' ks ks' e = cc
by_last false x at position at' ks ks' e = absurd cc

by_no_last : {A : Type 0} (is : Bool) (x : A) (at position stop : ℕ) (ks : List TokenKind)
    → (if is then here at ks else Stops position) ≡ Stops stop → (if is then Found x at ks else Stops position) ≡ Stops stop
by_no_last true x at position stop ks e = absurd cc
by_no_last false x at position stop ks e = cc

pub expect_found : {A : Type 0} (test : TokenKind → Bool) (x : A) (old : Ahead) {new : Ahead}
    → came test old ≡ got new → runs (expect test x) old ≡ Found x new.at new.kinds
expect_found test x old {new} e = by_last (begins test old.kinds) x (old.at + 1) old.at new.at (tail old.kinds) new.kinds e

pub expect_stops : {A : Type 0} (test : TokenKind → Bool) (x : A) (old : Ahead) {position : ℕ}
    → came test old ≡ Stops position → runs (expect test x) old ≡ Stops position
expect_stops test x old {position} e = by_no_last (begins test old.kinds) x (old.at + 1) old.at position (tail old.kinds) e
