-- A log has one verdict at most, and is crowded only before it stops being a trace.
use Rattle.std.proofs.Common.{◌≡◌, ◌⊎◌, ◌+◌, ◌<◌, ℕ, List, [], ◌∷◌, ◌++◌, length, refl, ap, sym, ◌∙◌, subst, inl, inr, arith, append-nil}
use Rattle.std.proofs.lemmas.Bool.{cases_order}
use Rattle.tb_bus.specs.Buses.{start}
use Rattle.tb_bus.specs.Traces.{IsLegal, IsTrace, after, replay}
use Rattle.tb_bus.specs.declared.origin.Origin.{Origin}
use Rattle.tb_bus.proofs.TraceLemmas.{trace-rest}
use Rattle.tb_log.specs.LogText.{log_text}
use Rattle.tb_log.specs.declared.entry.Entry.{Entry}
use Rattle.tb_log_read.specs.Lines.{IsLine, IsLog, first_line}
use Rattle.tb_log_read.proofs.Logs.{is_longer, next_entry, same_before}
use Rattle.tb_verify.specs.Verdicts.{IsCrowdedAt, IsTraceBefore, IsTraceText, IsVerdict, LeavesAt}
use Rattle.tb_verify.specs.declared.verdict.Verdict.{Verdict}
use Rattle.tb_verify.specs.declared.verdict.Verdict.TheVariants as verdict

-- A trace that goes past a line: the line is that of its next entry, which is legal there.
pub record GoesPast (origin : Origin) (number : ℕ) (log whole : List Entry) (rest : List ℕ) : Type 0 where
  pub entry : Entry
  pub more : List Entry
  pub is : whole ≡ log ++ entry ∷ more
  pub line : IsLine number entry (first_line rest)
  pub legal : IsLegal (replay (start origin) log) entry (after (replay (start origin) log) entry)

pub goes_past : (origin : Origin) (bytes : List ℕ) (number : ℕ) (log whole : List Entry) (rest left : List ℕ) → IsTraceBefore origin bytes number log rest → IsLog whole → bytes ≡ log_text whole ++ left → IsTrace (start origin) whole → length log < length whole → GoesPast origin number log whole rest
goes_past origin bytes number log whole rest left b w e t less =
    let next = next_entry log whole rest left b.is_log w less (sym b.before ∙ e) in
    let counted : number ≡ length log + 1 = b.counted in
    let same : 1 + length log ≡ number = omega arith in
    let on : IsTrace (start origin) (log ++ next.entry ∷ next.more) = subst (IsTrace (start origin)) next.is t in
    record {
      entry = next.entry;
      more = next.more;
      is = next.is;
      line = subst (λ k. IsLine k next.entry (first_line rest)) same next.line;
      legal = (trace-rest (start origin) log (next.entry ∷ next.more) on).0;
    }

-- no trace goes past the line at which a log leaves
leaves_last : (origin : Origin) (bytes : List ℕ) (number : ℕ) (l : LeavesAt origin bytes number) (whole : List Entry) (left : List ℕ) → IsLog whole → bytes ≡ log_text whole ++ left → IsTrace (start origin) whole → length l.log < length whole → ⊥
leaves_last origin bytes number l whole left w e t less =
    let past = goes_past origin bytes number l.log whole l.rest left l.is_before w e t less in
    l.is_none past.entry (after (replay (start origin) l.log) past.entry) past.line past.legal

not_whole : (origin : Origin) (bytes : List ℕ) (number : ℕ) → IsTraceText origin bytes → LeavesAt origin bytes number → ⊥
not_whole origin bytes number t l =
    let longer = is_longer l.log t.log l.rest l.is_before.is_log t.is_log l.is_before.is_there (sym l.is_before.before ∙ t.text) in
    leaves_last origin bytes number l t.log [] t.is_log (t.text ∙ sym (append-nil (log_text t.log))) t.trace longer

leaves_once : (origin : Origin) (bytes : List ℕ) (m n : ℕ) → LeavesAt origin bytes m → LeavesAt origin bytes n → m ≡ n
leaves_once origin bytes m n k l = by (cases_order (length k.log) (length l.log)) where
  by : (length k.log ≡ length l.log) ⊎ ((length k.log < length l.log) ⊎ (length l.log < length k.log)) → m ≡ n
  by (inl same) =
      let a : m ≡ length k.log + 1 = k.is_before.counted in
      let b : n ≡ length l.log + 1 = l.is_before.counted in
      omega arith
  by (inr (inl less)) = absurd (leaves_last origin bytes m k l.log l.rest l.is_before.is_log l.is_before.before l.is_before.trace less)
  by (inr (inr more)) = absurd (leaves_last origin bytes n l k.log k.rest k.is_before.is_log k.is_before.before k.is_before.trace more)

pub one_verdict : (origin : Origin) (bytes : List ℕ) (one other : Verdict) → IsVerdict origin bytes one → IsVerdict origin bytes other → one ≡ other
one_verdict origin bytes verdict.Trace verdict.Trace p q = refl
one_verdict origin bytes verdict.Trace (verdict.Line n) p q = absurd (not_whole origin bytes n p q)
one_verdict origin bytes (verdict.Line m) verdict.Trace p q = absurd (not_whole origin bytes m q p)
one_verdict origin bytes (verdict.Line m) (verdict.Line n) p q = ap (λ k. verdict.Line k) (leaves_once origin bytes m n p q)

-- at one line a log doesn't leave and go on
not_both : (origin : Origin) (bytes : List ℕ) (m n : ℕ) (c : IsCrowdedAt origin bytes m) (l : LeavesAt origin bytes n) → length c.log ≡ length l.log → ⊥
not_both origin bytes m n c l long =
    let same = same_before c.log l.log c.rest l.rest c.is_before.is_log l.is_before.is_log long (sym c.is_before.before ∙ l.is_before.before) in
    let a : m ≡ length c.log + 1 = c.is_before.counted in
    let b : n ≡ length l.log + 1 = l.is_before.counted in
    let count : m ≡ n = omega arith in
    let line : IsLine n c.entry (first_line c.rest) = subst (λ k. IsLine k c.entry (first_line c.rest)) count c.line in
    l.is_none c.entry c.next (subst (λ (r : List ℕ). IsLine n c.entry (first_line r)) same.1 line)
    (subst (λ (log : List Entry). IsLegal (replay (start origin) log) c.entry c.next) same.0 c.legal)

pub crowded_before : (origin : Origin) (bytes : List ℕ) (m n : ℕ) → IsCrowdedAt origin bytes m → LeavesAt origin bytes n → m < n
crowded_before origin bytes m n c l = by (cases_order (length c.log) (length l.log)) where
  by : (length c.log ≡ length l.log) ⊎ ((length c.log < length l.log) ⊎ (length l.log < length c.log)) → m < n
  by (inl same) = absurd (not_both origin bytes m n c l same)
  by (inr (inl less)) =
      let a : m ≡ length c.log + 1 = c.is_before.counted in
      let b : n ≡ length l.log + 1 = l.is_before.counted in
      omega arith
  by (inr (inr more)) = absurd (leaves_last origin bytes n l c.log c.rest c.is_before.is_log c.is_before.before c.is_before.trace more)
