use Rattle.std.proofs.Common.{◌≡◌, ◌∙◌, ◌++◌, ℕ, Bool, List, ap}
use Rattle.std.specs.Prelude.{is_some}
use Rattle.std.specs.Str.{bytes_eq}
use Rattle.tb_types.specs.declared.violation.Rule.TheVariants.{Twice}
use Rattle.tb_types.specs.Definitions.{none_seen, process_repeats}
use Rattle.tb_types.specs.Helpers.Seen.{was_seen}
use Rattle.tb_types.specs.NamePositions.{position_in, kept, process_name}
use Rattle.tb_types.specs.Violation.{noted_if}
use Rattle.tb_types.proofs.Naming.{position_more}
use Rattle.tb_types.proofs.Repeats.{repeats_more, seen_kept}
use Rattle.tb_types.proofs.names.process_positions.Goals as goal

pub loop-position-preserved : goal.loop-position-preserved
loop-position-preserved c =
    let at = c.loop-position.position in
    let d = c.index-processes-position.result in
    let before = c.loop-position.positions in
    let after = c.keep_position.new.positions in
    let now : (name : List ℕ) → position_in after name ≡ kept (position_in before name) (bytes_eq d.name name) at
    = λ name. c.in_ok-stood.ensures.kept name ∙ ap (λ own. kept (position_in before name) (bytes_eq own name) at) c.as_bytes.ensures.value in
    let stood = c.in_ok-stood.ensures.stood ∙ ap (λ own. is_some (position_in before own)) c.as_bytes.ensures.value in
    record {
      kept = λ name. now name ∙ position_more process_name c.args.processes.now at d name (position_in before name) c.loop-position-test.true c.index-processes-position.is (c.loop-position.invariant.kept name);
      noted =
          repeats_more c.args.processes.now at d (was_seen before) (was_seen after) c.loop-position.into c.note_if.new.into (c.args.into.now ++ process_repeats none_seen c.args.processes.now)
          c.loop-position-test.true c.index-processes-position.is (seen_kept (position_in before) (position_in after) d.name at now)
          (c.in_ok-note_if.ensures ∙ ap (λ (was : Bool). c.loop-position.into ++ noted_if was Twice d.token) stood) c.loop-position.invariant.noted;
    }
