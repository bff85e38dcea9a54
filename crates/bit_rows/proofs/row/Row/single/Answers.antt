use Rattle.std.proofs.Common.{◌≡◌, ℕ, Bool, true, false, cond, ◌==◌, List, refl, ap, ◌∙◌}
use Rattle.bit_rows.specs.Lanes.{lane}
use Rattle.bit_rows.proofs.row.Row.single.Goals as goal

alone : (b x : Bool) → x ≡ false → cond b true x ≡ b
alone true x none = refl
alone false x none = none

pub returns : goal.returns
returns c j lt = ap (λ (row : List ℕ). lane row j) c.to_row.ensures ∙ c.put_lane.ensures j lt ∙ alone (j == c.args.at) (lane c.none-lanes.result j) (c.none-lanes.ensures j lt)
