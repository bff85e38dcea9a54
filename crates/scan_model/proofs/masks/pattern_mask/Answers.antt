use Rattle.std.proofs.Common.{ℕ, ◌*◌, min, ltb, ap, ◌∙◌, arith}
use Rattle.scan_model.proofs.WordMasks.{mask_between}
use Rattle.scan_model.proofs.masks.pattern_mask.Goals as goal

pub returns : goal.returns
returns c = λ j lt. mask_between (64 * c.args.word) c.args.first c.args.end c.low_bits-below_end.result c.low_bits-below_first.result j lt (omega arith)
    (c.low_bits-below_end.ensures j lt ∙ ap (λ (n : ℕ). ltb j n) (c.min.ensures ∙ ap (λ (n : ℕ). min n 64) c.saturating_sub.ensures))
    (c.low_bits-below_first.ensures j lt ∙ ap (λ (n : ℕ). ltb j n) (c.min-2.ensures ∙ ap (λ (n : ℕ). min n 64) c.saturating_sub-2.ensures))
