use Rattle.std.proofs.Common.{ℕ, List, [], slice_set, sym, ap, ◌∙◌, Vec, Global}
use Rattle.std.proofs.lemmas.List.{map-set, get_or-map}
use Rattle.fail_logs.specs.Frames.{rows_view}
use Rattle.fail_logs.proofs.tables.write_place.Goals as goal

pub returns-then-pos-len : goal.returns-then-pos-len
returns-then-pos-len c =
    map-set (λ (r : Vec ℕ Global). r.items) c.args.rows.now c.in-Cell.chain _
    ∙ rw c.in-Cell.is (ap (λ (row : List ℕ). slice_set (rows_view c.args.rows.now) c.in-Cell.chain (slice_set row c.in-Cell.pos c.args.place)) (sym (get_or-map (λ (r : Vec ℕ Global). r.items) c.args.rows.now c.in-Cell.chain c.index-rows-chain.result [] c.if-chain-rows.true)))
