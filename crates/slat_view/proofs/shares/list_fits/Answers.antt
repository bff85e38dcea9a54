use Rattle.std.proofs.Common.{◌≡◌, ℕ, ◌+◌, ◌<◌, List, [], ◌++◌, length, take, drop, get_or, sym, ap, ◌∙◌, arith}
use Rattle.std.specs.Prelude.{filter}
use Rattle.std.proofs.lemmas.List.{take_all, take_at, map_more, get_or_default}
use Rattle.lane_rows.specs.Lanes.{lane}
use Rattle.fault_effects.specs.declared.suspect.Suspect.{Suspect}
use Rattle.fault_effects.specs.Owners.{places_of, suspect_at, no_suspect}
use Rattle.slat_view.specs.Trials.{lanes_at}
use Rattle.slat_view.proofs.Trying.{tried_more}
use Rattle.slat_view.proofs.shares.list_fits.Goals as goal

pub set_lanes-requires : goal.set_lanes-requires
set_lanes-requires c = λ k d lt. omega (arith, c.requires k d lt, c.deref_mut.ensures.len, c.in_ok-table.ensures.len)

pub loop-i-preserved : goal.loop-i-preserved
loop-i-preserved c = λ truth right has j lt.
    let suspects = c.args.suspects.now in
    let i = c.loop-i.i in
    let within = c.loop-i-test.true in
    let table = c.set_lanes.new.table in
    let found = c.index.result.now in
    let len : length table ≡ c.in_ok-table.table.len = c.set_lanes.auto.table ∙ c.deref_mut.ensures.len in
    let whole : take c.in_ok-table.table.len (table ++ drop (length table) c.in_ok-table.table.items) ≡ table = take_at table (drop (length table) c.in_ok-table.table.items) c.in_ok-table.table.len len in
    let row : found ≡ lanes_at table i =
    c.index.ensures ∙ ap (λ (rows : List (List ℕ)). get_or rows i found) whole ∙ get_or_default table i found [] (omega (arith, within, len, c.in_ok-table.ensures.len)) in
    let is : lane found j ≡ truth (suspect_at suspects i).place j =
    ap (λ (r : List ℕ). lane r j) row ∙ c.set_lanes.ensures (λ n q. truth (suspect_at suspects n).place q) right i (has i within) j lt in
    tried_more c.loop-i.fits c.push_fit.new.fits (suspect_at suspects i).place found (λ p. truth p j) (places_of (take i suspects)) j (c.in_ok-push_fit.ensures j lt) (c.loop-i.invariant truth right has j lt) is
    ∙ ap (filter (λ p. truth p j)) (sym (map_more (λ (s : Suspect). s.place) suspects i no_suspect within))

pub returns : goal.returns
returns c = λ truth right has j lt.
    let suspects = c.args.suspects.now in
    c.loop-i.invariant truth right has j lt ∙ ap (λ (xs : List Suspect). filter (λ p. truth p j) (places_of xs)) (take_all c.loop-i.i suspects (omega (arith, c.loop-i-test.false)))
