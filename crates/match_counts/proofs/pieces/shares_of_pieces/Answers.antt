use Rattle.std.proofs.Common.{List, [], ℕ}
use Rattle.std.specs.List.{Any, flat_map}
use Rattle.std.proofs.lemmas.Result.{IfOk-weaker}
use Rattle.fault_effects.specs.declared.share.Share.{Share}
use Rattle.fault_effects.specs.Pieces.{IsServed}
use Rattle.fault_effects.proofs.ShareLists.{shares_fewer}
use Rattle.work_crew.proofs.Pieces.{made_of_each}
use Rattle.match_counts.specs.declared.block_count.BlockCount.{BlockCount}
use Rattle.match_counts.specs.declared.piece.Piece.{Piece}
use Rattle.match_counts.specs.PointCounts.{CountShares, model_of, block_of}
use Rattle.match_counts.specs.Tables.{IsCount}
use Rattle.match_counts.specs.WorkPieces.{IsServedIn}
use Rattle.match_counts.proofs.WholeBlocks.{shares_of_all}
use Rattle.match_counts.proofs.WorkLists.{served_by}
use Rattle.match_counts.proofs.pieces.shares_of_pieces.Goals as goal

pub returns : goal.returns
returns g c =
    let w = c.args.work.now in
    let pieces = c.args.pieces.now in
    let Part : Piece → ℕ → Type 0 = λ p. IsServed w.parts.now w.suspects.now p.kind p.items.now in
    let R : Piece → List (Share BlockCount) → Type 0 = λ p shares. CountShares w (Part p) [] shares in
    let means = IsCount w.observer.now.rows.now in
    IfOk-weaker c.made_in_crew.result _ _ (λ all made.
    let lists = all.items in
    shares_fewer means (model_of w.observer.now) (block_of w.observer.now) w.suspects.now (λ i. Any (λ p. Part p i) pieces) (IsServedIn w.parts.now w.suspects.now pieces) [] (flat_map (λ (s : List (Share BlockCount)). s) lists)
    (λ i served. served_by w.parts.now w.suspects.now pieces i served)
    (shares_of_all means (model_of w.observer.now) (block_of w.observer.now) w.suspects.now Part pieces lists (made_of_each R pieces lists made))) c.made_in_crew.ensures
