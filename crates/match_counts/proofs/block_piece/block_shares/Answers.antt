use Rattle.std.proofs.Common.{ℕ, ◌+◌, ◌<◌, List, [], length, sym, subst}
use Rattle.std.specs.List.{flat_map}
use Rattle.std.proofs.lemmas.Result.{IfOk-weaker}
use Rattle.fault_effects.specs.Owners.{owner, suspect_at}
use Rattle.fault_effects.specs.declared.share.Share.{Share}
use Rattle.match_counts.specs.declared.block_count.BlockCount.{BlockCount}
use Rattle.match_counts.specs.declared.piece.Piece.{Piece}
use Rattle.match_counts.specs.PointCounts.{CountShares, model_of, block_of}
use Rattle.match_counts.specs.Tables.{IsCount}
use Rattle.match_counts.specs.WorkPieces.{IsServedIn}
use Rattle.match_counts.proofs.WholeBlocks.{shares_chosen}
use Rattle.match_counts.proofs.block_piece.block_shares.Goals as goal

pub returns : goal.returns
returns g c =
    let w = c.args.work.now in
    let Served : List Piece → ℕ → Type 0 = IsServedIn w.parts.now w.suspects.now in
    let Known : ℕ → Type 0 = λ i. owner w.parts.now (suspect_at w.suspects.now i).fault < length w.parts.now.netlist.nets + 2 in
    let pieces = c.deref.result.now in
    IfOk-weaker c.shares_of_pieces.result (λ all. CountShares w (Served pieces) [] (flat_map (λ (s : List (Share BlockCount)). s) all.items)) (λ all. CountShares w Known [] (flat_map (λ (s : List (Share BlockCount)). s) all.items))
    (λ all shares. shares_chosen (IsCount w.observer.now.rows.now) (model_of w.observer.now) (block_of w.observer.now) w.suspects.now (Served pieces) Known [] (flat_map (λ (s : List (Share BlockCount)). s) all.items)
    (λ i lt is. let Of : List Piece → Type 0 = λ ps. Served ps i in subst Of (sym c.deref.ensures.value) (c.in_ok-pieces.ensures.served i lt is)) shares)
    c.shares_of_pieces.ensures
