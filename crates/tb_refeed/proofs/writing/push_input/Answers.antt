use Rattle.std.proofs.Common.{◌≡◌, ◌++◌, ◌∷◌, ℕ, suc, List, length, ap, ◌∙◌, arith}
use Rattle.tb_log.specs.LogText.{entry_text}
use Rattle.tb_log.specs.declared.entry.Entry.TheVariants.{Fed}
use Rattle.tb_log.specs.declared.entry.Reply.TheVariants.{Took}
use Rattle.tb_refeed.specs.Feeding.{feed_line}
use Rattle.tb_refeed.proofs.LineLemmas.{line-written, rest-of}
use Rattle.tb_refeed.proofs.writing.push_input.Goals as goal

pub is_within-requires-clause-long : goal.is_within-requires-clause-long
is_within-requires-clause-long c =
    let it = c.args.input.now in
    let written : c.write_seen.new.into.items ≡ 48 ∷ 32 ∷ feed_line it =
    c.in_ok-write_seen.ensures.ok ∙ ap (λ (l : List ℕ). l ++ entry_text 0 (Fed it Took)) c.clear.ensures.items ∙ line-written it in
    let long : length c.write_seen.new.into.items ≡ suc (suc (length (feed_line it))) = ap length written in
    let count = c.len.ensures in
    omega arith

pub returns-clause-text : goal.returns-clause-text
returns-clause-text c is =
    let it = c.args.input.now in
    let written : c.write_seen.new.into.items ≡ 48 ∷ 32 ∷ feed_line it =
    c.in_ok-write_seen.ensures.ok ∙ ap (λ (l : List ℕ). l ++ entry_text 0 (Fed it Took)) c.clear.ensures.items ∙ line-written it in
    c.in_ok-extend_from_slice.ensures.items ∙ ap (λ (l : List ℕ). c.args.feed.now.items ++ l) (rest-of c.as_slice.result.now (feed_line it) (c.as_slice.ensures.value ∙ written))
