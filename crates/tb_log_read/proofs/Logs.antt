-- Logs with the same text are the same, and bytes stop at one line at most.
use Rattle.std.proofs.Common.{◌≡◌, ◌⊎◌, ◌≤◌, ◌<◌, ◌^◌, ℕ, suc, ◌+◌, Bool, true, false, not, eqb, List, [], ◌∷◌, ◌++◌, length, Result, Ok, Err, refl, ap, sym, ◌∙◌, subst, inl, inr, arith, append_assoc, append-nil, length-append}
use Rattle.std.specs.Fmt.{decimal}
use Rattle.std.specs.Prelude.{IfOk, IfErr}
use Rattle.std.specs.List.{list_all, All}
use Rattle.std.proofs.lemmas.Bool.{false≢true, and_parts, and_from, cases_order}
use Rattle.std.proofs.lemmas.List.{append_cancel_left}
use Rattle.std.proofs.lemmas.List.Elements.{All-head, All-tail, All-push}
use Rattle.std.proofs.lemmas.List.Folds.{list_all-append}
use Rattle.tb_log.specs.LogText.{entry_words, entry_text, log_text_from, log_text}
use Rattle.tb_log.specs.Proper.{is_proper_entry}
use Rattle.tb_log.specs.Shapes.{InShape}
use Rattle.tb_log.specs.declared.entry.Entry.{Entry}
use Rattle.tb_log_read.specs.Lines.{IsLine, IsLog, first_line, StopsAt, HasFault}
use Rattle.tb_log_read.specs.declared.fault.LogFault.{LogFault}
use Rattle.tb_log_read.specs.declared.fault.LogFault.TheVariants as fault
use Rattle.tb_log_read.proofs.Cuts.{lacks}
use Rattle.tb_log_read.proofs.LineReadings.{line_one}
use Rattle.tb_log_read.proofs.Newlines.{text_line}

-- Lines.

apart : (b : Bool) → not b ≡ true → b ≡ false
apart true e = absurd (false≢true e)
apart false e = refl

first_cut : (xs rest : List ℕ) → lacks 10 xs ≡ true → first_line ((xs ++ (10 ∷ [])) ++ rest) ≡ xs ++ (10 ∷ [])
first_cut [] rest h = refl
first_cut (x ∷ xs) rest h =
    let p = and_parts (not (eqb x 10)) (lacks 10 xs) h in
    rw (apart (eqb x 10) p.0) (ap (λ (l : List ℕ). x ∷ l) (first_cut xs rest p.1))

-- an entry that can be read, with this number
pub record Readable (n : ℕ) (e : Entry) : Type 0 where
  pub from_one : 1 ≤ n
  pub fits : n < 2 ^ 64
  pub proper : is_proper_entry e ≡ true
  pub shape : InShape e

first_entry : (n : ℕ) (e : Entry) (rest : List ℕ) → Readable n e → first_line (entry_text n e ++ rest) ≡ entry_text n e
first_entry n e rest r = first_cut (decimal n ++ (32 ∷ entry_words e)) rest (text_line n e r.fits r.proper)

line_of : (n : ℕ) (e : Entry) (line : List ℕ) → Readable n e → line ≡ entry_text n e → IsLine n e line
line_of n e line r t = record { from_one = r.from_one; fits = r.fits; proper = r.proper; shape = r.shape; text = t }

-- if two equal texts begin with the line of an entry with this number, the entries and the rests are equal
same_first : (n : ℕ) (d e : Entry) (x y : List ℕ) → Readable n d → Readable n e → entry_text n d ++ x ≡ entry_text n e ++ y → (d ≡ e) × (x ≡ y)
same_first n d e x y rd re same =
    let lines : entry_text n d ≡ entry_text n e = sym (first_entry n d x rd) ∙ ap first_line same ∙ first_entry n e y re in
    let entries : d ≡ e = (line_one n n d e (entry_text n d) (line_of n d (entry_text n d) rd refl) (line_of n e (entry_text n d) re lines)).1 in
    (entries, append_cancel_left (entry_text n e) x y (ap (λ (l : List ℕ). l ++ x) (sym lines) ∙ same))

no_text : (n : ℕ) (e : Entry) (rest : List ℕ) → [] ≡ entry_text n e ++ rest → ⊥
no_text n e rest same =
    let line = decimal n ++ (32 ∷ entry_words e) in
    let long : length (entry_text n e ++ rest) ≡ (length line + 1) + length rest = length-append (entry_text n e) rest ∙ ap (λ k. k + length rest) (length-append line (10 ∷ [])) in
    let none : 0 ≡ length (entry_text n e ++ rest) = ap (λ (l : List ℕ). length l) same in
    omega arith

-- Logs that are numbered from n on.

abbrev Readables : ℕ → List Entry → Type 0
Readables n [] = Unit {0}
Readables n (e ∷ es) = Readable n e × Readables (n + 1) es

readables : (n : ℕ) (es : List Entry) → 1 ≤ n → n + length es ≤ 2 ^ 64 → list_all is_proper_entry es ≡ true → All InShape es → Readables n es
readables n [] from few p s = tt
readables n (e ∷ es) from few p s =
    let q = and_parts (is_proper_entry e) (list_all is_proper_entry es) p in
    let more : n + 1 + length es ≤ 2 ^ 64 = omega arith in
    (record { from_one = from; fits = omega arith; proper = q.0; shape = All-head InShape e es s }, readables (n + 1) es (omega arith) more q.1 (All-tail InShape e es s))

log_readables : (log : List Entry) → IsLog log → Readables 1 log
log_readables log l = let few : length log < 2 ^ 64 = l.few in readables 1 log (omega arith) (omega arith) l.proper l.shape

-- Two logs whose texts agree up to the end of the shorter one.

-- the second log is the first log and more entries; the bytes after the text of the first begin with the line of the next entry
pub record NextEntry (n : ℕ) (xs ys : List Entry) (x : List ℕ) : Type 0 where
  pub entry : Entry
  pub more : List Entry
  pub is : ys ≡ xs ++ entry ∷ more
  pub line : IsLine (n + length xs) entry (first_line x)

abbrev Agree : ℕ → List Entry → List Entry → List ℕ → List ℕ → Type 0
Agree n xs ys x y = log_text_from n xs ++ x ≡ log_text_from n ys ++ y

agree_behind : (n : ℕ) (a b : Entry) (xs ys : List Entry) (x y : List ℕ) → Readable n a → Readable n b → Agree n (a ∷ xs) (b ∷ ys) x y → (a ≡ b) × Agree (n + 1) xs ys x y
agree_behind n a b xs ys x y p q e =
    same_first n a b (log_text_from (n + 1) xs ++ x) (log_text_from (n + 1) ys ++ y) p q
    (sym (append_assoc (entry_text n a) (log_text_from (n + 1) xs) x) ∙ e ∙ append_assoc (entry_text n b) (log_text_from (n + 1) ys) y)

none_below : (n : ℕ) → n < 0 → ⊥
none_below n l = omega arith

next_from : (n : ℕ) (xs ys : List Entry) (x y : List ℕ) → Readables n xs → Readables n ys → length xs < length ys → Agree n xs ys x y → NextEntry n xs ys x
next_from n xs [] x y p q l e = absurd (none_below (length xs) l)
next_from n [] (b ∷ ys) x y p q l e =
    let same : n ≡ n + 0 = omega arith in
    let line : IsLine n b (first_line x) = line_of n b (first_line x) q.0 (ap first_line (e ∙ append_assoc (entry_text n b) (log_text_from (n + 1) ys) y) ∙ first_entry n b (log_text_from (n + 1) ys ++ y) q.0) in
    record { entry = b; more = ys; is = refl; line = subst (λ k. IsLine k b (first_line x)) same line }
next_from n (a ∷ xs) (b ∷ ys) x y p q l e =
    let f = agree_behind n a b xs ys x y p.0 q.0 e in
    let next = next_from (n + 1) xs ys x y p.1 q.1 (omega arith) f.1 in
    let same : n + 1 + length xs ≡ n + suc (length xs) = omega arith in
    record {
      entry = next.entry;
      more = next.more;
      is = ap (λ (l : List Entry). b ∷ l) next.is ∙ ap (λ (c : Entry). c ∷ (xs ++ next.entry ∷ next.more)) (sym f.0);
      line = subst (λ k. IsLine k next.entry (first_line x)) same next.line;
    }

before_from : (n : ℕ) (xs ys : List Entry) (x y : List ℕ) → Readables n xs → Readables n ys → length xs ≡ length ys → Agree n xs ys x y → (xs ≡ ys) × (x ≡ y)
before_from n [] [] x y p q l e = (refl, e)
before_from n [] (b ∷ ys) x y p q l e = cc
before_from n (a ∷ xs) [] x y p q l e = cc
before_from n (a ∷ xs) (b ∷ ys) x y p q l e =
    let f = agree_behind n a b xs ys x y p.0 q.0 e in
    let rest = before_from (n + 1) xs ys x y p.1 q.1 (omega arith) f.1 in
    (ap (λ (c : Entry). c ∷ xs) f.0 ∙ ap (λ (l : List Entry). b ∷ l) rest.0, rest.1)

-- the longer log continues with an entry
pub next_entry : (xs ys : List Entry) (x y : List ℕ) → IsLog xs → IsLog ys → length xs < length ys → log_text xs ++ x ≡ log_text ys ++ y → NextEntry 1 xs ys x
next_entry xs ys x y p q l e = next_from 1 xs ys x y (log_readables xs p) (log_readables ys q) l e

-- logs with the same length are equal
pub same_before : (xs ys : List Entry) (x y : List ℕ) → IsLog xs → IsLog ys → length xs ≡ length ys → log_text xs ++ x ≡ log_text ys ++ y → (xs ≡ ys) × (x ≡ y)
same_before xs ys x y p q l e = before_from 1 xs ys x y (log_readables xs p) (log_readables ys q) l e

no_line : (n : ℕ) (e : Entry) → IsLine n e [] → ⊥
no_line n e i = no_text n e [] (i.text ∙ sym (append-nil (entry_text n e)))

none_next : (xs ys : List Entry) (y : List ℕ) → IsLog xs → IsLog ys → length xs < length ys → log_text xs ++ [] ≡ log_text ys ++ y → ⊥
none_next xs ys y p q l e =
    let next = next_entry xs ys [] y p q l e in
    no_line (1 + length xs) next.entry next.line

-- if the text of a log is the text of another log and more bytes, the log has more entries
pub is_longer : (xs ys : List Entry) (x : List ℕ) → IsLog xs → IsLog ys → (x ≡ [] → ⊥) → log_text xs ++ x ≡ log_text ys → length xs < length ys
is_longer xs ys x p q some e = by (cases_order (length xs) (length ys)) where
  both : log_text xs ++ x ≡ log_text ys ++ []
  both = e ∙ sym (append-nil (log_text ys))

  by : (length xs ≡ length ys) ⊎ ((length xs < length ys) ⊎ (length ys < length xs)) → length xs < length ys
  by (inl same) = absurd (some (same_before xs ys x [] p q same both).1)
  by (inr (inl less)) = less
  by (inr (inr more)) = absurd (none_next ys xs x q p more (sym both))

-- logs with the same text are equal
pub same_logs : (xs ys : List Entry) → IsLog xs → IsLog ys → log_text xs ≡ log_text ys → xs ≡ ys
same_logs xs ys p q e = by (cases_order (length xs) (length ys)) where
  both : log_text xs ++ [] ≡ log_text ys ++ []
  both = ap (λ (l : List ℕ). l ++ []) e

  by : (length xs ≡ length ys) ⊎ ((length xs < length ys) ⊎ (length ys < length xs)) → xs ≡ ys
  by (inl same) = (same_before xs ys [] [] p q same both).0
  by (inr (inl less)) = absurd (none_next xs ys [] p q less both)
  by (inr (inr more)) = absurd (none_next ys xs [] q p more (sym both))

-- The results of reading.

goes_past : (bytes : List ℕ) (n : ℕ) (s : StopsAt bytes n) (log : List Entry) (y : List ℕ) → IsLog log → length s.log < length log → bytes ≡ log_text log ++ y → ⊥
goes_past bytes n s log y l less e =
    let next = next_entry s.log log s.rest y s.is_log l less (sym s.before ∙ e) in
    let counted : n ≡ length s.log + 1 = s.counted in
    let same : 1 + length s.log ≡ n = omega arith in
    s.is_none next.entry (subst (λ k. IsLine k next.entry (first_line s.rest)) same next.line)

pub log_not_stopped : (bytes : List ℕ) (log : List Entry) (n : ℕ) → IsLog log → bytes ≡ log_text log → StopsAt bytes n → ⊥
log_not_stopped bytes log n l e s =
    goes_past bytes n s log [] l (is_longer s.log log s.rest s.is_log l s.is_there (sym s.before ∙ e)) (e ∙ sym (append-nil (log_text log)))

pub stops_one : (bytes : List ℕ) (m n : ℕ) → StopsAt bytes m → StopsAt bytes n → m ≡ n
stops_one bytes m n s t = by (cases_order (length s.log) (length t.log)) where
  by : (length s.log ≡ length t.log) ⊎ ((length s.log < length t.log) ⊎ (length t.log < length s.log)) → m ≡ n
  by (inl same) =
      let a : m ≡ length s.log + 1 = s.counted in
      let b : n ≡ length t.log + 1 = t.counted in
      omega arith
  by (inr (inl less)) = absurd (goes_past bytes m s t.log t.rest t.is_log less t.before)
  by (inr (inr more)) = absurd (goes_past bytes n t s.log s.rest s.is_log more s.before)

abbrev Answer : Type 0
Answer = Result (List Entry) LogFault

refused : LogFault → Answer
refused f = Err f

pub only_log : (bytes : List ℕ) (result : Answer) → IfOk result (λ log. IsLog log × (bytes ≡ log_text log)) → IfErr result (HasFault bytes) → (log : List Entry) → IsLog log → bytes ≡ log_text log → (result ≡ Ok log) ⊎ (result ≡ Err fault.NoMemory)
only_log bytes (Ok found) ok err log l e = inl (ap (λ (x : List Entry). Ok x) (same_logs found log ok.0 l (sym ok.1 ∙ e)))
only_log bytes (Err (fault.Line n)) ok err log l e = absurd (log_not_stopped bytes log n l e err)
only_log bytes (Err fault.NoMemory) ok err log l e = inr refl

pub exact_line : (bytes : List ℕ) (result : Answer) → IfOk result (λ log. IsLog log × (bytes ≡ log_text log)) → IfErr result (HasFault bytes) → (n : ℕ) → StopsAt bytes n → (result ≡ Err (fault.Line n)) ⊎ (result ≡ Err fault.NoMemory)
exact_line bytes (Ok found) ok err n s = absurd (log_not_stopped bytes found n ok.0 ok.1 s)
exact_line bytes (Err (fault.Line m)) ok err n s = inl (ap (λ k. Err (fault.Line k)) (stops_one bytes m n err s))
exact_line bytes (Err fault.NoMemory) ok err n s = inr refl

-- One more line.

log_text-push : (n : ℕ) (es : List Entry) (e : Entry) → log_text_from n (es ++ (e ∷ [])) ≡ log_text_from n es ++ entry_text (n + length es) e
log_text-push n [] e = let same : n ≡ n + 0 = omega arith in append-nil (entry_text n e) ∙ ap (λ k. entry_text k e) same
log_text-push n (d ∷ es) e =
    let same : n + 1 + length es ≡ n + suc (length es) = omega arith in
    ap (λ (l : List ℕ). entry_text n d ++ l) (log_text-push (n + 1) es e ∙ ap (λ k. log_text_from (n + 1) es ++ entry_text k e) same)
    ∙ sym (append_assoc (entry_text n d) (log_text_from (n + 1) es) (entry_text (n + suc (length es)) e))

pub log-push : (es new : List Entry) (e : Entry) (n : ℕ) (line : List ℕ) → IsLog es → IsLine n e line → n ≡ length es + 1 → new ≡ es ++ (e ∷ []) → IsLog new
log-push es new e n line l i count is =
    let long : length new ≡ length es + 1 = ap (λ (x : List Entry). length x) is ∙ length-append es (e ∷ []) in
    let fits : n < 2 ^ 64 = i.fits in
    record {
      few = omega arith;
      proper = rw is (list_all-append is_proper_entry es (e ∷ []) ∙ and_from (list_all is_proper_entry es) (list_all is_proper_entry (e ∷ [])) l.proper (and_from (is_proper_entry e) true i.proper refl));
      shape = subst (All InShape) (sym is) (All-push InShape es e l.shape i.shape);
    }

pub text-push : (bytes rest line later : List ℕ) (es new : List Entry) (e : Entry) (n : ℕ) → bytes ≡ log_text es ++ rest → rest ≡ line ++ later → IsLine n e line → n ≡ length es + 1 → new ≡ es ++ (e ∷ []) → bytes ≡ log_text new ++ later
text-push bytes rest line later es new e n so_far parted i count is =
    let same : n ≡ 1 + length es = omega arith in
    so_far ∙ ap (λ (l : List ℕ). log_text es ++ l) (parted ∙ ap (λ (l : List ℕ). l ++ later) (i.text ∙ ap (λ k. entry_text k e) same))
    ∙ sym (append_assoc (log_text es) (entry_text (1 + length es) e) later) ∙ ap (λ (l : List ℕ). l ++ later) (sym (log_text-push 1 es e) ∙ ap log_text (sym is))
