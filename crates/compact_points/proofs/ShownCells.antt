-- The cells that chains show in an unload cycle, chain by chain.
use Rattle.std.proofs.Common.{◌≡◌, ℕ, ◌+◌, ◌<◌, List, [], ◌∷◌, ◌++◌, length, take, get_or, ap, ◌∙◌, append-nil}
use Rattle.std.proofs.lemmas.List.{take_more}
use Rattle.std.proofs.lemmas.List.Concat.{flat_map-append}
use Rattle.scan_model.specs.declared.parts.Point.{Point}
use Rattle.scan_model.specs.ScanTest.{ScanTest}
use Rattle.compact_points.specs.Compaction.{cell_shown, cells_shown}

-- what one chain more shows
pub shown_more : (t : ScanTest) (u : ℕ) (hs : List ℕ) (i : ℕ) → i < length hs → cells_shown t u (take (i + 1) hs) ≡ cells_shown t u (take i hs) ++ cell_shown t u (get_or hs i 0)
shown_more t u hs i lt =
    ap (cells_shown t u) (take_more hs i 0 lt) ∙ flat_map-append (cell_shown t u) (take i hs) (get_or hs i 0 ∷ []) ∙ ap (λ (ps : List Point). cells_shown t u (take i hs) ++ ps) (append-nil (cell_shown t u (get_or hs i 0)))
