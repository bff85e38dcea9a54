use Rattle.std.proofs.Common.{◌≡◌, length, map}
use Rattle.std.specs.Slice.Iter.{iter_rest}
use Rattle.std.specs.Iterator.Adapters.{zip_first, zip_second}
use Rattle.scan_model.specs.PatternText.{have_lengths}
use Rattle.text_parts.specs.Views.{nows}
use Rattle.scan_text.proofs.pattern.have_lengths.Given as goal

abbrev pub invariant-loop-chain : goal.invariant-loop-chain
invariant-loop-chain l =
    have_lengths (map (λ h. length h.cells) (iter_rest (zip_first l.chain-iterator))) (nows (iter_rest (zip_second l.chain-iterator)))
    ≡ have_lengths (map (λ h. length h.cells) l.chains) (nows l.loads)
