use Rattle.std.proofs.Common.{◌≡◌, ◌++◌, ℕ, List, take}
use Rattle.std.specs.List.{flat_map}
use Rattle.fault_effects.specs.declared.share.Share.{Share}
use Rattle.slat_view.proofs.whole_block.append_all.Given as goal

abbrev pub invariant-loop-piece : goal.invariant-loop-piece
invariant-loop-piece l = l.shares ≡ l.initial.shares ++ flat_map (λ (s : List (Share (List ℕ))). s) (take l.piece-index l.pieces)
