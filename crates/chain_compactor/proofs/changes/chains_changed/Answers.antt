use Rattle.std.proofs.Common.{◌≡◌, ℕ, ◌+◌, ◌++◌, List, map, take, drop, get_or, sym, ap, ◌∙◌, append-nil, append_assoc}
use Rattle.std.proofs.lemmas.List.{take_all, map-append, drop_all}
use Rattle.scan_model.specs.declared.values.Tri.{Tri}
use Rattle.scan_model.specs.Values.{xor_of}
use Rattle.compact_points.specs.Compaction.{cell_shown, cells_shown}
use Rattle.compact_points.proofs.ShownCells.{shown_more}
use Rattle.chain_compactor.proofs.XorChanges.{each_known, shown_rest}
use Rattle.chain_compactor.proofs.changes.chains_changed.Goals as goal

pub loop-chain-preserved : goal.loop-chain-preserved
loop-chain-preserved g c = λ j lt tells is known.
    let t = c.args.parts.now in
    let u = c.args.cycle in
    let hs = c.args.chains.now in
    let i = c.loop-chain.chain-index in
    let good = g.C.Changes.good c.args.changes.now j in
    let shown = g.C.Changes.shown c.args.changes.now j in
    let cell = cell_shown t u (get_or hs i 0) in
    let before : List Tri = map shown (cells_shown t u (take i hs)) in
    let after : List Tri = map good (cells_shown t u (drop (i + 1) hs)) in
    let rest : map good (cells_shown t u (drop i hs)) ≡ map good cell ++ after = ap (map good) (shown_rest t u hs i c.loop-chain-test.true) ∙ map-append good cell (cells_shown t u (drop (i + 1) hs)) in
    let more : map shown (cells_shown t u (take (i + 1) hs)) ≡ before ++ map shown cell = ap (map shown) (shown_more t u hs i c.loop-chain-test.true) ∙ map-append shown (cells_shown t u (take i hs)) cell in
    c.chain_changed-row.ensures j lt tells before after (c.loop-chain.invariant j lt tells is known ∙ ap (λ (ys : List Tri). xor_of (before ++ ys)) rest) (each_known t good u hs known i c.loop-chain-test.true)
    ∙ ap xor_of (sym (append_assoc before (map shown cell) after) ∙ ap (λ (ys : List Tri). ys ++ after) (sym more))

pub returns : goal.returns
returns g c = λ j lt tells is known.
    let t = c.args.parts.now in
    let u = c.args.cycle in
    let hs = c.args.chains.now in
    let i = c.loop-chain.chain-index in
    let good = g.C.Changes.good c.args.changes.now j in
    let shown = g.C.Changes.shown c.args.changes.now j in
    c.loop-chain.invariant j lt tells is known
    ∙ ap (λ (xs : List ℕ). xor_of (map shown (cells_shown t u xs) ++ map good (cells_shown t u (drop i hs)))) (take_all i hs c.loop-chain-test.false)
    ∙ ap (λ (xs : List ℕ). xor_of (map shown (cells_shown t u hs) ++ map good (cells_shown t u xs))) (drop_all i hs c.loop-chain-test.false)
    ∙ ap xor_of (append-nil (map shown (cells_shown t u hs)))
