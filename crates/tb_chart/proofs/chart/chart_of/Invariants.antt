use Rattle.std.proofs.Common.{◌≡◌, ◌+◌, ◌++◌, [], All, IsTrue, length, map, drop, take}
use Rattle.tb_log.specs.Shapes.{lane_count}
use Rattle.tb_chart.specs.Helpers.Additions.{Seated, Sound}
use Rattle.tb_chart.specs.Lifelines.{HasFirst, HasLines, HasOnly, is_needed}
use Rattle.tb_chart.specs.Named.{NamesTools}
use Rattle.tb_chart.specs.Players.{players_of}
use Rattle.tb_chart.specs.Refused.{AreRight}
use Rattle.tb_chart.specs.Rows.{seen_row, rows_from}
use Rattle.tb_chart.specs.Tools.{tools_of}
use Rattle.tb_chart.proofs.chart.chart_of.Given as goal

-- With the rows of the entries that are left, the rows so far are all. Each names the tools at its ends, and has lifelines. No entry so far
-- is wrong.
abbrev pub invariant-loop-index : goal.invariant-loop-index
invariant-loop-index l = record {
  cast : l.scene.cast.now ≡ l.cast;
  lanes : length l.scene.lanes.items ≡ lane_count;
  players : l.scene.players.items ≡ players_of l.cast (take l.index l.entries);
  tools : Seated l.scene (tools_of (take l.index l.entries));
  rows : map seen_row l.rows.items ++ rows_from l.cast l.span l.scene.players.items (l.index + 1) (drop l.index l.entries)
      ≡ rows_from l.cast l.span l.cast.roots.items 1 l.entries;
  named : All (NamesTools l.cast.tools.items) l.rows.items;
  lines : All (HasLines l.lines) l.rows.items;
  roots : IsTrue l.span.all → HasFirst (length l.cast.roots.items) l.lines;
  needed : HasOnly (is_needed l.span.all (length l.cast.roots.items) l.rows.items) l.lines;
  right : AreRight l.cast l.span l.cast.roots.items [] 1 (take l.index l.entries);
  sound : Sound l.scene.players.items l.lines;
}
