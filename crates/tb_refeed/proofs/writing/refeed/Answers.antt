use Rattle.std.proofs.Common.{◌≡◌, ◌∙◌, ap, subst, sym}
use Rattle.std.specs.Vec.{vec_items}
use Rattle.tb_log.specs.LogText.{log_text}
use Rattle.tb_log_read.specs.Lines.{IsLog}
use Rattle.tb_refeed.proofs.FeedLemmas.{feed-fault, feed-found, feed-only, feed-text}
use Rattle.tb_refeed.proofs.writing.refeed.Goals as goal

pub returns-clause-feed : goal.returns-clause-feed
returns-clause-feed c =
    let found = c.in_ok-entries.ensures.found in
    let log = c.as_slice.result.now in
    let same : log ≡ c.in_ok-entries.entries = c.as_slice.ensures in
    let is : IsLog log = subst IsLog (sym same) found.0 in
    let text : c.args.log.now ≡ log_text log = found.1 ∙ ap log_text (sym same) in
    feed-found vec_items c.args.log.now log is text c.write_feed.result c.write_feed.ensures.text c.write_feed.ensures.short

pub returns-clause-text : goal.returns-clause-text
returns-clause-text c =
    let found = c.in_ok-entries.ensures.found in
    let log = c.as_slice.result.now in
    let same : log ≡ c.in_ok-entries.entries = c.as_slice.ensures in
    let is : IsLog log = subst IsLog (sym same) found.0 in
    let text : c.args.log.now ≡ log_text log = found.1 ∙ ap log_text (sym same) in
    feed-text vec_items c.args.log.now log is text c.write_feed.result c.write_feed.ensures.text

pub returns-clause-fault : goal.returns-clause-fault
returns-clause-fault c =
    let found = c.in_ok-entries.ensures.found in
    let log = c.as_slice.result.now in
    let same : log ≡ c.in_ok-entries.entries = c.as_slice.ensures in
    let is : IsLog log = subst IsLog (sym same) found.0 in
    let text : c.args.log.now ≡ log_text log = found.1 ∙ ap log_text (sym same) in
    feed-fault vec_items c.args.log.now log is text c.write_feed.result c.write_feed.ensures.fault

pub returns-clause-only : goal.returns-clause-only
returns-clause-only c =
    let found = c.in_ok-entries.ensures.found in
    let log = c.as_slice.result.now in
    let same : log ≡ c.in_ok-entries.entries = c.as_slice.ensures in
    let is : IsLog log = subst IsLog (sym same) found.0 in
    let text : c.args.log.now ≡ log_text log = found.1 ∙ ap log_text (sym same) in
    feed-only vec_items c.args.log.now log is text c.write_feed.result c.write_feed.ensures.fault
