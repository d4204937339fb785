-- Worked texts, computed from the definitions alone.
use Rattle.std.proofs.Common.{◌≡◌, ℕ, List, [], ◌∷◌, ◌++◌, None, refl, ap, subst, rules, arith, codes}
use Rattle.std.specs.Fmt.{digits}
use Rattle.tb_terms.specs.declared.term.Term.{Term, the_lemmas}
use Rattle.tb_terms.specs.declared.term.Term.TheVariants.{Appl}
use Rattle.tb_terms.specs.Texts.{term_text}
use Rattle.tb_log.specs.declared.entry.Input.TheVariants.{Tick, NoTicks, Gone, Cut}
use Rattle.tb_log.specs.declared.entry.Input.TheVariants as input_of
use Rattle.tb_log.specs.declared.entry.ToolLine.TheVariants.{Disconnect, Bad}
use Rattle.tb_read.specs.declared.fault.TermFault.TheVariants as fault
use Rattle.tb_read.specs.Spelling.{Reads}
use Rattle.tb_read.proofs.Written.{written_reads}
use Rattle.tb_tool_line.specs.ToolLines.{line_of, IsToolLine}
use Rattle.tb_tool_line.proofs.Lines.{read-line, faulty-line}
use Rattle.tb_feed.specs.Feeds.{lines_of, IsFeedOf, IsFirstBad}
use Rattle.tb_feed.specs.Helpers.OneLine.{IsSaid, IsNumberOf}
use Rattle.tb_feed.proofs.LaneNumbers.{no-one, no-two, no-number}
use Rattle.tb_feed.proofs.LineLemmas.{head-said, no-blank, no-lane, no-gone}

-- no bytes are one empty line, which says nothing
no-bytes : IsFeedOf [] []
no-bytes = tt

-- the last line may lack its newline
two-ticks : IsFeedOf (codes "tick\ntick") (Tick ∷ Tick ∷ [])
two-ticks = (refl, (refl, tt))

-- empty lines say nothing
spread-ticks : IsFeedOf (codes "\ntick\n\n\ntick\n") (Tick ∷ Tick ∷ [])
spread-ticks = (refl, (refl, tt))

-- a carriage return belongs to its line
carriage-return : lines_of (codes "tick\r\n") ≡ (codes "tick" ++ 13 ∷ []) ∷ [] ∷ []
carriage-return = refl

-- the first and the last lane
ended-lanes : IsFeedOf (codes "gone 1\ncut 16\ngone 9\ncut 10\n") (Gone 1 ∷ Cut 16 ∷ Gone 9 ∷ Cut 10 ∷ [])
unfolding digits
ended-lanes = (
  ((omega arith, omega arith), refl),
  (((omega arith, omega arith), refl), (((omega arith, omega arith), refl), (((omega arith, omega arith), refl), tt))),
)

-- a name without parts, which reads as a term
disconnecting : Term
disconnecting = Appl (codes "snd-disconnect") []

disconnect-read : Reads (codes "snd-disconnect") disconnecting
unfolding disconnecting
disconnect-read =
    let text : term_text disconnecting ≡ codes "snd-disconnect" = search (rules, the_lemmas) in
    subst (λ (bytes : List ℕ). Reads bytes disconnecting) text (written_reads disconnecting (search (rules, the_lemmas)))

disconnect-line : IsToolLine (codes "snd-disconnect") Disconnect
unfolding disconnecting
disconnect-line =
    let line : line_of disconnecting ≡ Disconnect = search (rules, the_lemmas) in
    subst (IsToolLine (codes "snd-disconnect")) line (read-line (codes "snd-disconnect") disconnecting (omega arith) disconnect-read)

-- no bytes are a bad line of a tool
empty-line : IsToolLine [] Bad
empty-line = faulty-line [] (fault.Syntax 0) (omega arith) (λ e. cc) ([], refl)

-- what a tool put, whatever it is
put-lines : IsFeedOf (codes "line 9 snd-disconnect\nline 16 ") (input_of.Line 9 Disconnect ∷ input_of.Line 16 Bad ∷ [])
unfolding digits
put-lines = (
  ((omega arith, omega arith), (codes "snd-disconnect", refl, disconnect-line)),
  (((omega arith, omega arith), ([], refl, empty-line)), tt),
)

-- without a blank behind its number a lane puts nothing
without-blank : IsSaid (codes "line 1") None
without-blank = no-blank (codes "1") refl

-- numbers of no lane
zero-lane : IsNumberOf (codes "0") None
zero-lane = no-one 48 (λ low high. omega arith)

seventeen : IsNumberOf (codes "17") None
seventeen = no-two 55 (λ low high. omega arith)

-- a leading zero, a plus, a carriage return
padded : IsNumberOf (codes "01") None
padded = no-number (codes "01") (λ one. omega arith) (λ two first. omega arith)

signed : IsNumberOf (codes "+1") None
signed = no-number (codes "+1") (λ one. omega arith) (λ two first. omega arith)

returned : IsNumberOf (codes "1\r") None
returned = no-two 13 (λ low high. omega arith)

-- so these lines say nothing
zero-line : IsSaid (codes "line 0 snd-disconnect") None
zero-line = no-lane (codes "0 snd-disconnect") (codes "0") (codes "snd-disconnect") refl refl zero-lane

-- two blanks in front of a number
two-blanks : IsSaid (codes "line  1 snd-disconnect") None
two-blanks = no-lane (codes " 1 snd-disconnect") [] (codes "1 snd-disconnect") refl refl (no-number [] (λ one. omega arith) (λ two first. omega arith))

far-gone : IsSaid (codes "gone 17") None
far-gone = no-gone (codes "17") seventeen

blank-behind : IsSaid (codes "gone 1 ") None
blank-behind = no-gone (codes "1 ") (no-two 32 (λ low high. omega arith))

abbrev second : List ℕ → ℕ
second [] = 0
second (b ∷ []) = 0
second (b ∷ c ∷ l) = c

tock-not-tick : codes "tock" ≡ codes "tick" → ⊥
tock-not-tick e = let both : second (codes "tock") ≡ second (codes "tick") = ap second e in absurd (omega arith)

no-tock : IsSaid (codes "tock") None
no-tock Tick h = tock-not-tick h
no-tock NoTicks h = h
no-tock (input_of.Line lane said) h = let e : ◌≡◌ {A = ℕ} 116 108 = head-said (codes "tock") (input_of.Line lane said) h in absurd (omega arith)
no-tock (Gone lane) h = let e : ◌≡◌ {A = ℕ} 116 103 = head-said (codes "tock") (Gone lane) h in absurd (omega arith)
no-tock (Cut lane) h = let e : ◌≡◌ {A = ℕ} 116 99 = head-said (codes "tock") (Cut lane) h in absurd (omega arith)

-- empty lines are counted
third-bad : IsFirstBad (codes "tick\n\ntock\n") 3
third-bad = record {
  before = codes "tick" ∷ [] ∷ [];
  line = codes "tock";
  after = [] ∷ [];
  are_lines = refl;
  number_is = refl;
  inputs = Tick ∷ [];
  fine = (refl, tt);
  full = refl;
  bad = no-tock;
}

-- and so are lines of tools
second-bad : IsFirstBad (codes "line 16 \nline 1\ntick") 2
unfolding digits
second-bad = record {
  before = codes "line 16 " ∷ [];
  line = codes "line 1";
  after = codes "tick" ∷ [];
  are_lines = refl;
  number_is = refl;
  inputs = input_of.Line 16 Bad ∷ [];
  fine = (((omega arith, omega arith), ([], refl, empty-line)), tt);
  full = refl;
  bad = without-blank;
}
