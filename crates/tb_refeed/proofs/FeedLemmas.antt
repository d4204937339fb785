-- The lines of what came in by a log, one after another.
use Rattle.std.proofs.Common.{◌≡◌, ◌<◌, ℕ, suc, zero, ◌+◌, ◌-◌, ◌==◌, Bool, true, false, not, nat_le, List, [], ◌∷◌, ◌++◌, length, take, Some, refl, ap, sym, ◌∙◌, subst, arith, append_assoc, Result, Ok, Err}
use Rattle.std.specs.Prelude.{IfOk, IfErr, OnOk, slice_get}
use Rattle.std.specs.List.{All, list_all, flat_map}
use Rattle.std.proofs.lemmas.Bool.{and_parts, and_from, leb-true, leb-false, false≢true}
use Rattle.std.proofs.lemmas.List.Elements.{All-head, All-tail, All-nil, All-cons}
use Rattle.std.proofs.lemmas.List.Splits.{slice_split_at}
use Rattle.tb_log.specs.LogText.{input_words, log_text, tool_line_words}
use Rattle.tb_log.specs.Proper.{is_proper_entry, is_proper_input}
use Rattle.tb_log.specs.Shapes.{InShape}
use Rattle.tb_log.specs.declared.entry.Input.{Input}
use Rattle.tb_log.specs.declared.entry.Input.TheVariants as input
use Rattle.tb_log.specs.declared.entry.Reply.TheVariants.{Took}
use Rattle.tb_log.specs.declared.entry.Entry.{Entry}
use Rattle.tb_log.specs.declared.entry.Entry.TheVariants.{Did, Quiet, Fed, Gave}
use Rattle.tb_log_read.specs.Lines.{IsLog}
use Rattle.tb_log_read.proofs.Cuts.{lacks}
use Rattle.tb_log_read.proofs.Logs.{same_logs}
use Rattle.tb_log_read.proofs.Newlines.{words_line}
use Rattle.tb_feed.specs.Feeds.{IsFeedOf, SayAll, Says, is_full, lines_of}
use Rattle.tb_refeed.specs.declared.fault.RefeedFault.{RefeedFault}
use Rattle.tb_refeed.specs.declared.fault.RefeedFault.TheVariants as fault
use Rattle.tb_refeed.specs.Feeding.{came_in, feed_line, feed_text, HasFault, IsTooLong, IsTooLongAt}
use Rattle.tb_refeed.specs.Helpers.Writing.{IsCaused, are_short, entry_line, is_short}
use Rattle.tb_refeed.proofs.LineLemmas.{input-said}

apart : (b : Bool) → not b ≡ true → b ≡ false
apart true e = absurd (false≢true e)
apart false e = refl

-- no byte of it is a newline
none-ends : (bytes : List ℕ) → lacks 10 bytes ≡ true → All (λ (byte : ℕ). (byte == 10) ≡ false) bytes
none-ends [] h = All-nil (λ (byte : ℕ). (byte == 10) ≡ false)
none-ends (byte ∷ bytes) h =
    let p = and_parts (not (byte == 10)) (lacks 10 bytes) h in
    All-cons (λ (byte : ℕ). (byte == 10) ≡ false) byte bytes (apart (byte == 10) p.0) (none-ends bytes p.1)

-- it isn't empty
full-words : (it : Input) → is_full (input_words it) ≡ true
full-words input.Tick = refl
full-words input.NoTicks = refl
full-words (input.Line lane line) = refl
full-words (input.Gone lane) = refl
full-words (input.Cut lane) = refl

say-first : (line : List ℕ) (lines : List (List ℕ)) (it : Input) (others : List Input) → is_full line ≡ true → Says line it → SayAll lines others → SayAll (line ∷ lines) (it ∷ others)
say-first [] lines it others full one rest = absurd (false≢true full)
say-first (byte ∷ line) lines it others full one rest = (one, rest)

-- a line more in front says its input
one-more : (it : Input) (rest : List ℕ) (others : List Input) → is_proper_input it ≡ true → Says (input_words it) it → SayAll (lines_of rest) others → SayAll (lines_of (feed_line it ++ rest)) (it ∷ others)
one-more it rest others proper one all =
    let parted : feed_line it ++ rest ≡ input_words it ++ 10 ∷ rest = append_assoc (input_words it) (10 ∷ []) rest in
    let lines : lines_of (input_words it ++ 10 ∷ rest) ≡ input_words it ∷ lines_of rest =
    slice_split_at (λ byte. byte == 10) (input_words it) 10 rest (none-ends (input_words it) (words_line (Fed it Took) proper)) refl in
    subst (λ (ls : List (List ℕ)). SayAll ls (it ∷ others)) (sym (ap lines_of parted ∙ lines)) (say-first (input_words it) (lines_of rest) it others (full-words it) one all)

-- what came in by an entry, in front of others
entry-more : (entry : Entry) (rest : List ℕ) (log : List Entry) → is_proper_entry entry ≡ true → InShape entry → is_short entry ≡ true → SayAll (lines_of rest) (came_in log) → SayAll (lines_of (entry_line entry ++ rest)) (came_in (entry ∷ log))
entry-more (Did label) rest log proper shape short all = all
entry-more Quiet rest log proper shape short all = all
entry-more (Gave lane out) rest log proper shape short all = all
entry-more (Fed input.NoTicks reply) rest log proper shape short all = all
entry-more (Fed input.Tick reply) rest log proper shape short all = one-more input.Tick rest (came_in log) proper (input-said input.Tick shape proper short (λ e. cc)) all
entry-more (Fed (input.Line lane line) reply) rest log proper shape short all = one-more (input.Line lane line) rest (came_in log) proper (input-said (input.Line lane line) shape proper short (λ e. cc)) all
entry-more (Fed (input.Gone lane) reply) rest log proper shape short all = one-more (input.Gone lane) rest (came_in log) proper (input-said (input.Gone lane) shape proper short (λ e. cc)) all
entry-more (Fed (input.Cut lane) reply) rest log proper shape short all = one-more (input.Cut lane) rest (came_in log) proper (input-said (input.Cut lane) shape proper short (λ e. cc)) all

all-said : (log : List Entry) → list_all is_proper_entry log ≡ true → All InShape log → are_short log ≡ true → SayAll (lines_of (flat_map entry_line log)) (came_in log)
all-said [] proper shape short = tt
all-said (entry ∷ log) proper shape short =
    let p = and_parts (is_proper_entry entry) (list_all is_proper_entry log) proper in
    let q = and_parts (is_short entry) (are_short log) short in
    entry-more entry (flat_map entry_line log) log p.0 (All-head InShape entry log shape) q.0 (all-said log p.1 (All-tail InShape entry log shape) q.1)

-- The lines that are written are a feed of what came in.
pub feed-said : (log : List Entry) → IsLog log → are_short log ≡ true → IsFeedOf (flat_map entry_line log) (came_in log)
feed-said log is short = all-said log is.proper is.shape short

same-by : (entry : Entry) (log : List Entry) → entry_line entry ++ feed_text (came_in log) ≡ feed_text (came_in (entry ∷ log))
same-by (Did label) log = refl
same-by Quiet log = refl
same-by (Gave lane out) log = refl
same-by (Fed input.NoTicks reply) log = refl
same-by (Fed input.Tick reply) log = refl
same-by (Fed (input.Line lane line) reply) log = refl
same-by (Fed (input.Gone lane) reply) log = refl
same-by (Fed (input.Cut lane) reply) log = refl

pub text-same : (log : List Entry) → flat_map entry_line log ≡ feed_text (came_in log)
text-same [] = refl
text-same (entry ∷ log) = ap (λ (rest : List ℕ). entry_line entry ++ rest) (text-same log) ∙ same-by entry log

-- An entry that isn't short is too long, and only such is.
short-by : (n : ℕ) (b : Bool) → nat_le n 65536 ≡ b → b ≡ false → 65536 < n
short-by n b e f = leb-false n 65536 (e ∙ f)

pub long-entry : (entry : Entry) → is_short entry ≡ false → IsTooLong entry
long-entry (Did label) e = absurd (false≢true (sym e))
long-entry Quiet e = absurd (false≢true (sym e))
long-entry (Gave lane out) e = absurd (false≢true (sym e))
long-entry (Fed input.Tick reply) e = absurd (false≢true (sym e))
long-entry (Fed input.NoTicks reply) e = absurd (false≢true (sym e))
long-entry (Fed (input.Line lane line) reply) e = leb-false (length (tool_line_words line)) 65536 e
long-entry (Fed (input.Gone lane) reply) e = absurd (false≢true (sym e))
long-entry (Fed (input.Cut lane) reply) e = absurd (false≢true (sym e))

pub short-entry : (entry : Entry) → is_short entry ≡ true → IsTooLong entry → ⊥
short-entry (Did label) e long = long
short-entry Quiet e long = long
short-entry (Gave lane out) e long = long
short-entry (Fed input.Tick reply) e long = long
short-entry (Fed input.NoTicks reply) e long = long
short-entry (Fed (input.Line lane line) reply) e long = let most = leb-true (length (tool_line_words line)) 65536 e in omega (arith, long)
short-entry (Fed (input.Gone lane) reply) e long = long
short-entry (Fed (input.Cut lane) reply) e long = long

short-there : (log : List Entry) (at : ℕ) (entry : Entry) → are_short log ≡ true → slice_get log at ≡ Some entry → is_short entry ≡ true
short-there [] at entry h e = absurd cc
short-there (one ∷ log) zero entry h e = let p = and_parts (is_short one) (are_short log) h in let same : one ≡ entry = cc in subst (λ (x : Entry). is_short x ≡ true) same p.0
short-there (one ∷ log) (suc at) entry h e = let p = and_parts (is_short one) (are_short log) h in short-there log at entry p.1 e

none-by : (log : List Entry) → ((at : ℕ) (entry : Entry) → slice_get log at ≡ Some entry → IsTooLong entry → ⊥) → are_short log ≡ true
none-by [] none = refl
none-by (entry ∷ log) none = and_from (is_short entry) (are_short log) (here (is_short entry) refl) (none-by log (λ at. none (suc at)))
  where
    here : (b : Bool) → is_short entry ≡ b → b ≡ true
    here true e = refl
    here false e = absurd (none 0 entry refl (long-entry entry e))

-- where no entry is too long, all are short
pub none-long : (log : List Entry) → ((number : ℕ) → IsTooLongAt log number → ⊥) → are_short log ≡ true
none-long log none = none-by log (λ at entry there long. none (at + 1) (record { entry = entry; from_one = omega arith; there = there_by at entry there; long = long }))
  where
    there_by : (at : ℕ) (entry : Entry) → slice_get log at ≡ Some entry → slice_get log (at + 1 - 1) ≡ Some entry
    there_by at entry there = let e : at + 1 - 1 ≡ at = omega arith in rw e there

-- what stands before a place stands at its own
before-there : (log : List Entry) (at most : ℕ) → at < most → slice_get (take most log) at ≡ slice_get log at
before-there log at zero l = absurd (omega (arith, l))
before-there [] at (suc most) l = refl
before-there (entry ∷ log) zero (suc most) l = refl
before-there (entry ∷ log) (suc at) (suc most) l = before-there log at most (omega (arith, l))

-- the first entry that isn't short is the first that is too long
pub first-long : (log : List Entry) (number other : ℕ) → are_short (take (number - 1) log) ≡ true → other < number → IsTooLongAt log other → ⊥
first-long log number other short l long =
    let one = long.from_one in
    let below : other - 1 < number - 1 = omega arith in
    let there : slice_get (take (number - 1) log) (other - 1) ≡ Some long.entry = before-there log (other - 1) (number - 1) below ∙ long.there in
    short-entry long.entry (short-there (take (number - 1) log) (other - 1) long.entry short there) long.long

-- What is written of a log's text: the feed of what came in.
module _ {V : Type 0} (items : V → List ℕ) (bytes : List ℕ) (log : List Entry) (is : IsLog log) (text : bytes ≡ log_text log) where
  pub feed-found : (result : Result V RefeedFault) → IfOk result (λ feed. items feed ≡ flat_map entry_line log) → OnOk result (are_short log ≡ true) →
      IfOk result (λ feed. (entries : List Entry) × IsLog entries × (bytes ≡ log_text entries) × IsFeedOf (items feed) (came_in entries))
  feed-found (Ok feed) written short = (log, is, text, subst (λ (l : List ℕ). IsFeedOf l (came_in log)) (sym written) (feed-said log is short))
  feed-found (Err fault) written short = tt

  pub feed-text : (result : Result V RefeedFault) → IfOk result (λ feed. items feed ≡ flat_map entry_line log) → (entries : List Entry) → IsLog entries → bytes ≡ log_text entries → IfOk result (λ feed. items feed ≡ feed_text (came_in entries))
  feed-text (Ok feed) written entries its e = written ∙ text-same log ∙ ap (λ (l : List Entry). feed_text (came_in l)) (same_logs log entries is its (sym text ∙ e))
  feed-text (Err fault) written entries its e = tt

  pub feed-fault : (result : Result V RefeedFault) → IfErr result (IsCaused log) → IfErr result (HasFault bytes)
  feed-fault (Ok feed) caused = tt
  feed-fault (Err (fault.Line number)) caused = absurd caused
  feed-fault (Err fault.NoMemory) caused = tt
  feed-fault (Err (fault.TooLong number)) caused = record {
    log = log;
    is_log = is;
    text = text;
    here = record { entry = caused.entry; from_one = caused.from_one; there = caused.there; long = long-entry caused.entry caused.long };
    first = λ other below. first-long log number other caused.before below;
  }

  pub feed-only : (result : Result V RefeedFault) → IfErr result (IsCaused log) → (entries : List Entry) → IsLog entries → bytes ≡ log_text entries → ((number : ℕ) → IsTooLongAt entries number → ⊥) → IfErr result (λ one. one ≡ fault.NoMemory)
  feed-only (Ok feed) caused entries its e none = tt
  feed-only (Err (fault.Line number)) caused entries its e none = absurd caused
  feed-only (Err fault.NoMemory) caused entries its e none = refl
  feed-only (Err (fault.TooLong number)) caused entries its e none =
      let same : log ≡ entries = same_logs log entries is its (sym text ∙ e) in
      absurd (none number (subst (λ (l : List Entry). IsTooLongAt l number) same (record { entry = caused.entry; from_one = caused.from_one; there = caused.there; long = long-entry caused.entry caused.long })))
