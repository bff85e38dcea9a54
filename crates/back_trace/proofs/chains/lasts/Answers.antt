use Rattle.std.proofs.Common.{◌≡◌, ◌∙◌, ◌<◌, ◌+◌, ◌++◌, [], ◌∷◌, ℕ, length, get_or, sym, ap, inl, inr, arith}
use Rattle.std.proofs.lemmas.Bool.{cases_eq}
use Rattle.std.proofs.lemmas.List.{get_or_default, get_or_append_left, get_or-append-add, length_push}
use Rattle.scan_model.specs.declared.parts.Chain.{Chain}
use Rattle.scan_model.specs.ScanTest.{chain_at, no_chain}
use Rattle.scan_model.proofs.Cells.{cells_are_flops}
use Rattle.explained_lanes.specs.Traces.{IsLastReached}
use Rattle.back_trace.proofs.chains.lasts.Goals as goal

pub last_reached-requires : goal.last_reached-requires
last_reached-requires c =
    let t = c.args.parts.now in
    let is_chains : c.as_slice-chains.result.now ≡ t.chains = c.as_slice-chains.ensures ∙ c.chains.ensures.value in
    let chain = c.index-chains-h.result in
    let is : chain ≡ get_or t.chains c.loop-h.h chain = rw is_chains at c.index-chains-h.is in
    let lt : c.loop-h.h < length t.chains = rw is_chains at c.loop-h-test.true in
    rw (c.as_slice.ensures, ← c.index-chains-h.is) (λ k d lk.
    let flop = cells_are_flops t c.loop-h.h chain c.chains.ensures.fits lt is k d lk in
    omega (arith, flop.0, c.requires))

pub loop-h-preserved : goal.loop-h-preserved
loop-h-preserved c =
    let t = c.args.parts.now in
    let h = c.loop-h.h in
    let old = c.loop-h.lasts.items in
    let last = c.last_reached.result in
    let is_chains : c.as_slice-chains.result.now ≡ t.chains = c.as_slice-chains.ensures ∙ c.chains.ensures.value in
    let chain = c.index-chains-h.result in
    let lt : h < length t.chains = rw is_chains at c.loop-h-test.true in
    let is : chain ≡ chain_at t h = rw is_chains at c.index-chains-h.is ∙ get_or_default t.chains h chain no_chain lt in
    let cells_is : c.as_slice.result.now ≡ (chain_at t h).cells = c.as_slice.ensures ∙ ap (λ (x : Chain). x.cells) (sym c.index-chains-h.is ∙ is) in
    let here : IsLastReached c.args.reach.now (chain_at t h).cells last = rw cells_is at c.last_reached.ensures in
    let pushed = c.in_ok-push.ensures.items in
    record {
      len = ap length pushed ∙ length_push old last ∙ ap (λ n. n + 1) c.loop-h.invariant.len;
      last = λ g lg. rw pushed (elim (cases_eq g h) [
        | inl same ↦
            let at : get_or (old ++ last ∷ []) h 0 ≡ last = ap (λ (n : ℕ). get_or (old ++ last ∷ []) n 0) (omega (arith, c.loop-h.invariant.len)) ∙ get_or-append-add old (last ∷ []) 0 0 in
            rw (same, at) here
        | inr other ↦ rw (get_or_append_left old (last ∷ []) 0 g (omega (arith, c.loop-h.invariant.len, other))) (c.loop-h.invariant.last g (omega (arith, other)))
      ]);
    }
