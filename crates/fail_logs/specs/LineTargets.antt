-- The target of a line: the pattern, the point and the group that it names.
use Rattle.std.specs.Prelude.{ℕ, ◌≡◌, List}
use Rattle.scan_model.specs.LogText.{LogFrame, LogLine, pattern_named, group_cut, has_no_number, is_nowhere}
use Rattle.fail_logs.specs.BitNumbers.{point_named}
use Rattle.fail_logs.specs.declared.target.LineTarget.{LineTarget}

pub record IsTarget (frame : LogFrame) (rows : List (List ℕ)) (l : LogLine) (target : LineTarget) : Type 0 where
  pub pattern : target.pattern ≡ pattern_named l
  pub point : target.point ≡ point_named frame rows l
  pub cut : target.cut ≡ group_cut frame l
  pub numberless : target.numberless ≡ has_no_number l
  pub nowhere : target.nowhere ≡ is_nowhere frame l
