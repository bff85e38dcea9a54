use Rattle.std.proofs.Common.{◌≡◌, ◌-◌, ℕ, cond, List, [], ◌∷◌, ◌++◌, ap, subst, ◌∙◌}
use Rattle.std.proofs.lemmas.List.{take_all}
use Rattle.scan_model.specs.MatchCounts.{is_candidate}
use Rattle.fault_effects.specs.declared.suspect.Suspect.{Suspect}
use Rattle.fault_effects.specs.Owners.{places_of, suspect_at}
use Rattle.match_counts.specs.declared.totals.Total.{Total}
use Rattle.match_counts.specs.Totals.{candidates_in, total_at}
use Rattle.match_counts.proofs.CandidateRows.{row_of, rows_more}
use Rattle.match_counts.proofs.listing.list_candidates.Goals as goal

pub loop-index-preserved : goal.loop-index-preserved
loop-index-preserved c = λ faults bits classes fails stand sums.
    let suspects = c.args.suspects.now in
    let index = c.loop-index.index in
    let tfsp = c.saturating_sub.result in
    let Pushed : List Total → Type 0 = λ xs. c.push_candidate.new.rows ≡ c.loop-index.rows ++ cond (is_candidate (row_of (suspect_at suspects index).place (total_at xs index) tfsp)) (row_of (suspect_at suspects index).place (total_at xs index) tfsp ∷ []) [] in
    rows_more faults bits classes fails suspects index tfsp c.args.totals.now c.loop-index.rows c.push_candidate.new.rows stand sums c.loop-index-test.true
    (c.saturating_sub.ensures ∙ ap (λ (n : ℕ). n - (total_at c.totals.result.now index).tfsf) c.failing.ensures ∙ ap (λ (xs : List Total). c.args.totals.now.failing - (total_at xs index).tfsf) c.totals.ensures)
    (c.loop-index.invariant faults bits classes fails stand sums)
    (subst Pushed c.totals.ensures c.in_ok-push_candidate.ensures)

pub returns : goal.returns
returns c = λ faults bits classes fails stand sums.
    c.loop-index.invariant faults bits classes fails stand sums ∙ ap (λ (xs : List Suspect). candidates_in faults bits classes fails (places_of xs)) (take_all c.loop-index.index c.args.suspects.now c.loop-index-test.false)
