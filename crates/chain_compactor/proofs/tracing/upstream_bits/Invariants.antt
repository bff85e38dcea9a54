use Rattle.std.proofs.Common.{◌*◌, List, length}
use Rattle.scan_model.specs.declared.logs.LogFacts.{LogFacts}
use Rattle.scan_model.specs.ScanTest.{points_of}
use Rattle.log_join.specs.Joining.{StandsFor}
use Rattle.chain_compactor.specs.TracedBits.{AreBits, ListsUpTo}
use Rattle.chain_compactor.proofs.tracing.upstream_bits.Given as goal

abbrev pub invariant-loop-block : goal.invariant-loop-block
invariant-loop-block l = record {
  within : AreBits (length l.parts.patterns) (length (points_of l.parts)) l.bits;
  listed : (logs : List LogFacts) → StandsFor logs l.joined → ListsUpTo l.parts l.compact logs (512 * l.block) l.bits;
}
