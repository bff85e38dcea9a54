use Rattle.std.proofs.Common.{◌≡◌, ℕ, ◌+◌, List, ap, ◌∙◌, arith}
use Rattle.pattern_fits.specs.LaneNumbers.{value, rows_with}
use Rattle.pattern_fits.proofs.Shown.{none_against}
use Rattle.pattern_fits.proofs.clear.clear_lanes.Goals as goal

pub sub_rows-requires : goal.sub_rows-requires
sub_rows-requires c = λ j lt.
    let start : value c.set.new.self j ≡ value c.args.totals.now j = ap (λ (s : List (List ℕ)). value s j) c.set.ensures in
    omega (arith, start, c.requires.failing j lt)

pub add_rows-requires : goal.add_rows-requires
add_rows-requires c = λ j lt.
    let start : value c.set.new.self j ≡ value c.args.totals.now j = ap (λ (s : List (List ℕ)). value s j) c.set.ensures in
    omega (arith, start, c.sub_rows.ensures j lt, c.requires.passing j lt)

pub returns : goal.returns
returns c = λ j lt.
    let start : value c.set.new.self j ≡ value c.args.totals.now j = ap (λ (s : List (List ℕ)). value s j) c.set.ensures in
    let left : value c.sub_rows.new.self j + rows_with c.args.failing.now j ≡ value c.args.totals.now j = c.sub_rows.ensures j lt ∙ start in
    c.zeros.ensures j lt ∙ none_against (value c.sub_rows.new.self j) (value c.args.totals.now j) (rows_with c.args.failing.now j) (rows_with c.args.passing.now j) (value c.add_rows.new.self j) left (c.add_rows.ensures j lt)
