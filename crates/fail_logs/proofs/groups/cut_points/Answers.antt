use Rattle.std.proofs.Common.{◌≡◌, ℕ, ◌+◌, List, [], length, map, get_or, ap, ◌∙◌, Ok, Err, Result, Vec, Global}
use Rattle.std.specs.Prelude.{IfOk}
use Rattle.scan_model.specs.LogText.{each_once}
use Rattle.fail_logs.specs.Frames.{rows_view}
use Rattle.fail_logs.specs.Groups.{row_of}
use Rattle.fail_logs.proofs.CutGroups.{rows_inside, copies_are}
use Rattle.fail_logs.proofs.groups.cut_points.Goals as goal

pub copied-requires : goal.copied-requires
copied-requires c =
    let places : c.deref-2.result.now ≡ map row_of (each_once c.args.groups.now) = c.deref-2.ensures.value ∙ c.in_ok-places.ensures in
    let rows : length c.deref.result.now ≡ c.args.chains + 1 = ap length c.deref.ensures.value ∙ c.in_ok-rows.ensures.0 in
    rw (places, rows) (rows_inside c.args.chains c.args.groups.now c.requires.groups)

pub returns : goal.returns
returns c =
    let places : c.deref-2.result.now ≡ map row_of (each_once c.args.groups.now) = c.deref-2.ensures.value ∙ c.in_ok-places.ensures in
    let rows : c.deref.result.now ≡ c.in_ok-rows.rows.items = c.deref.ensures.value in
    ok_more c.copied.result c.copied.ensures
    (ap (λ (v : List (Vec ℕ Global)). map (λ r. get_or (rows_view v) r []) c.deref-2.result.now) rows
    ∙ ap (map (λ r. get_or (rows_view c.in_ok-rows.rows.items) r [])) places
    ∙ copies_are c.args.chains c.args.groups.now c.requires.groups (rows_view c.in_ok-rows.rows.items) c.args.points.now c.in_ok-rows.ensures.1)
  where
    ok_more : {X E : Type 0} {a b : X} (r : Result X E) → IfOk r (λ x. x ≡ a) → a ≡ b → IfOk r (λ x. x ≡ b)
    ok_more (Ok x) is same = is ∙ same
    ok_more (Err e) is same = is
