use Rattle.std.proofs.Common.{◌≡◌, ◌∙◌, ap, sym, subst, List, [], arith, Result, IfOk, ℕ, max}
use Rattle.std.specs.Prelude.{All}
use Rattle.std.specs.List.{flat_map, AllZip}
use Rattle.rayon.specs.Lists.{chunks_of}
use Rattle.rayon.proofs.ToStd.{slice-AllZip, chunks_of-concat}
use Rattle.scan_model.specs.declared.rows.NoMemory.{NoMemory}
use Rattle.fault_effects.specs.declared.share.Share.{Share}
use Rattle.fault_effects.specs.declared.block_work.BlockWork.{BlockWork}
use Rattle.fault_effects.specs.declared.work_kind.WorkKind.TheVariants.{Cells}
use Rattle.fault_effects.specs.Pieces.{IsItem, IsServed}
use Rattle.fault_effects.proofs.PieceShares.{each_piece, pieces_joined}
use Rattle.slat_view.specs.declared.fits.Fits.{Fits}
use Rattle.slat_view.specs.FitWork.{FitShares, model_of, block_of}
use Rattle.slat_view.specs.Trials.{AreFitting}
use Rattle.slat_view.proofs.whole_block.cell_pieces.Goals as goal

pub collect-all-requires-clause-ready : goal.collect-all-requires-clause-ready
collect-all-requires-clause-ready g c κs within =
    let base = ap (λ it. it.base) c.map.ensures.base ∙ c.with_min_len.ensures.base in
    let slice = ap (λ it. it.slice.now) base ∙ c.par_chunks.ensures.slice in
    let size = ap (λ it. it.size) base ∙ c.par_chunks.ensures.size in
    let some : max c.args.size 1 ≡ c.args.size = omega (arith, c.requires.size) in
    let chunks = chunks_of c.args.size c.args.cells.now in
    let Items : ℕ → Type 0 = IsItem c.args.work.now.parts.now c.args.work.now.suspects.now Cells in
    let each : All (All Items) chunks = each_piece Items chunks (subst (All Items) (sym (chunks_of-concat c.args.size c.args.cells.now c.requires.size)) c.requires.cells) in
    rw (c.map.ensures.f, size, slice, some) (λ k d lt x is. ((c.requires.work, c.requires.chains, (let Of : List ℕ → Type 0 = All Items in subst Of (sym is) (each k d lt))), λ y p. tt))

pub returns-in-Ok-Ok : goal.returns-in-Ok-Ok
returns-in-Ok-Ok g c =
    let chain = c.in-Ok-Ok.ensures.1 in
    let last = rw c.in-Ok-Ok.field-0-is at c.in-Ok-Ok.ensures.2 in
    let base = ap (λ it. it.base) c.map.ensures.base ∙ c.with_min_len.ensures.base in
    let slice = ap (λ it. it.slice.now) base ∙ c.par_chunks.ensures.slice in
    let size = ap (λ it. it.size) base ∙ c.par_chunks.ensures.size in
    let some : max c.args.size 1 ≡ c.args.size = omega (arith, c.requires.size) in
    let items = c.args.cells.now in
    let chunks = chunks_of c.args.size items in
    let shown = rw (size, slice, some) at chain.1 in
    -- what the closure holds
    let held = c.map.result.f in
    let w = held.1.now in
    let same_work : w ≡ c.args.work.now = ap (λ f. f.1.now) c.map.ensures.f in
    let R : List ℕ → Result (List (Share (List ℕ))) NoMemory → Type 0 = λ part r. IfOk r (FitShares w (IsServed w.parts.now w.suspects.now Cells part) []) in
    let zipped = slice-AllZip chain.0 chunks shown R c.in-Ok-Ok.ensures.0 chain.2 in
    let results = subst (AllZip R chunks) last.1 zipped in
    let Served : BlockWork Fits → List ℕ → List (List (Share (List ℕ))) → Type 0 = λ x list pieces. FitShares x (IsServed x.parts.now x.suspects.now Cells list) [] (flat_map (λ (s : List (Share (List ℕ))). s) pieces) in
    let whole : Served w items last.0 = subst (λ list. Served w list last.0) (chunks_of-concat c.args.size items c.requires.size) (pieces_joined (AreFitting w.observer.now.points.rows.now) (model_of w.observer.now) (block_of w.observer.now) w.suspects.now w.parts.now Cells chunks last.0 results) in
    let of_work : Served c.args.work.now items last.0 = subst (λ x. Served x items last.0) same_work whole in
    subst (Served c.args.work.now items) (sym last.2) of_work
