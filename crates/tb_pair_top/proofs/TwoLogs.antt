-- The text of both logs of a pair is that of no other two.
use Rattle.std.proofs.Common.{◌≡◌, ◌⊎◌, ◌<◌, ◌^◌, ℕ, ◌+◌, true, false, not, eqb, List, [], ◌∷◌, ◌++◌, length, refl, ap, sym, ◌∙◌, inl, inr, arith, append_assoc, codes}
use Rattle.std.proofs.lemmas.Bool.{false≢true, and_parts, eq-eqb, cases_order}
use Rattle.std.proofs.lemmas.List.{append_cancel_left}
use Rattle.std.specs.Fmt.{decimal}
use Rattle.tb_log.specs.LogText.{entry_words, log_text}
use Rattle.tb_log.specs.declared.entry.Entry.{Entry}
use Rattle.tb_log_read.specs.Lines.{IsLine, IsLog, first_line}
use Rattle.tb_log_read.proofs.Cuts.{lacks}
use Rattle.tb_log_read.proofs.Decimals.{lacks-decimal}
use Rattle.tb_log_read.proofs.Logs.{next_entry, same_before, same_logs}
use Rattle.tb_bus.specs.declared.origin.Origin.{Origin}
use Rattle.tb_bus.proofs.BusShapes.{trace-in_shape}
use Rattle.tb_core.specs.Cores.{CoreState}
use Rattle.tb_pair_run.specs.Outcomes.{IsLogOf}
use Rattle.tb_pair_run.specs.Views.{PairView}
use Rattle.tb_pair_run.specs.declared.ends.PairWhy.{PairWhy}
use Rattle.tb_pair_top.specs.Outcomes.{HaveRun, pair_text, text_of}

abbrev first_byte : List ℕ → ℕ
first_byte [] = 0
first_byte (byte ∷ bytes) = byte

-- a line that begins with a dash has no number in front
no-number : (digits rest : List ℕ) → lacks 45 digits ≡ true → 45 ∷ 45 ∷ 10 ∷ [] ≡ digits ++ 32 ∷ rest → ⊥
no-number [] rest none e =
    let same : ◌≡◌ {A = ℕ} 45 32 = ap first_byte e in
    omega (arith, same)
no-number (digit ∷ digits) rest none e =
    let parts = and_parts (not (eqb digit 45)) (lacks 45 digits) none in
    let dash : eqb digit 45 ≡ true = eq-eqb digit 45 (sym (ap first_byte e)) in
    false≢true (sym (ap not dash) ∙ parts.0)

no-entry : (number : ℕ) (entry : Entry) (rest : List ℕ) → IsLine number entry (first_line (codes "--\n" ++ rest)) → ⊥
no-entry number entry rest line = no-number (decimal number) (entry_words entry ++ 10 ∷ []) (lacks-decimal 45 refl number line.fits)
    (line.text ∙ append_assoc (decimal number) (32 ∷ entry_words entry) (10 ∷ []))

-- the line `--` is after the first log
not-longer : (one other : List Entry) (two others_two : List Entry) → IsLog one → IsLog other → pair_text one two ≡ pair_text other others_two → length one < length other → ⊥
not-longer one other two others_two is other_is same less =
    let next = next_entry one other (codes "--\n" ++ log_text two) (codes "--\n" ++ log_text others_two) is other_is less same in
    no-entry (1 + length one) next.entry (log_text two) next.line

pub two-logs : (one two other others_two : List Entry) → IsLog one → IsLog two → IsLog other → IsLog others_two → pair_text one two ≡ pair_text other others_two → (one ≡ other) × (two ≡ others_two)
two-logs one two other others_two one_is two_is other_is others_is same = by (cases_order (length one) (length other)) where
  both : length one ≡ length other → (one ≡ other) × (two ≡ others_two)
  both e =
      let before = same_before one other (codes "--\n" ++ log_text two) (codes "--\n" ++ log_text others_two) one_is other_is e same in
      (before.0, same_logs two others_two two_is others_is (append_cancel_left (codes "--\n") (log_text two) (log_text others_two) before.1))

  by : (length one ≡ length other) ⊎ ((length one < length other) ⊎ (length other < length one)) → (one ≡ other) × (two ≡ others_two)
  by (inl e) = both e
  by (inr (inl less)) = absurd (not-longer one other two others_two one_is other_is same less)
  by (inr (inr more)) = absurd (not-longer other one others_two two other_is one_is (sym same) more)

pub log-is : (origin : Origin) (back : CoreState) → IsLogOf origin back → origin.limit < 2 ^ 64 → IsLog back.log
log-is origin back log few =
    let limit : back.origin.limit ≡ origin.limit = ap (λ (o : Origin). o.limit) log.origin_is in
    record {
      few = let within = log.within in omega (arith, within, limit, few);
      proper = log.proper;
      shape = trace-in_shape back.origin back.log log.history.trace;
    }

pub pair-two_logs : (most other_most : ℕ) (one two other_one other_two : Origin) (old new other_old other_new : PairView) (it other_it : PairWhy) (ran : HaveRun most one two old new it)
    (other : HaveRun other_most other_one other_two other_old other_new other_it) → one.limit < 2 ^ 64 → two.limit < 2 ^ 64 → other_one.limit < 2 ^ 64 → other_two.limit < 2 ^ 64 → text_of ran ≡ text_of other →
    (ran.back.log ≡ other.back.log) × (ran.others_back.log ≡ other.others_back.log)
pair-two_logs most other_most one two other_one other_two old new other_old other_new it other_it ran other few two_few other_few others_few same =
    two-logs ran.back.log ran.others_back.log other.back.log other.others_back.log (log-is one ran.back ran.runs.first few) (log-is two ran.others_back ran.runs.second two_few)
    (log-is other_one other.back other.runs.first other_few) (log-is other_two other.others_back other.runs.second others_few) same
