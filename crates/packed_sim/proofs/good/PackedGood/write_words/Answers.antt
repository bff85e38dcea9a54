use Rattle.std.proofs.Common.{◌&&◌, ◌+◌, ◌*◌, length, ltb, ◌∙◌, arith}
use Rattle.std.proofs.lemmas.List.{length-set}
use Rattle.scan_model.specs.declared.fault.Fault.TheVariants as fault
use Rattle.scan_model.specs.Coverage.{bit_of}
use Rattle.scan_model.specs.Response.{predicts_fail}
use Rattle.packed_sim.proofs.FaultBits.{words_more}
use Rattle.packed_sim.proofs.good.PackedGood.write_words.Goals as goal

pub loop-k-preserved : goal.loop-k-preserved
loop-k-preserved c =
    let t = c.args.parts.now in
    record {
      len = length-set c.loop-k.out c.loop-k.k c.point_word-bits.result ∙ c.loop-k.invariant.len;
      so_far = words_more (λ m i. ltb (64 * c.args.word + i) (length t.patterns) && predicts_fail t (fault.Cell c.args.cell.0 c.args.cell.1 c.args.cell.2) (bit_of (64 * c.args.word + i) m))
          c.loop-k.out c.loop-k.k c.point_word-bits.result (omega (arith, c.loop-k.invariant.len)) c.loop-k.invariant.so_far c.point_word-bits.ensures;
    }

pub returns : goal.returns
returns c k i lt i_lt = c.loop-k.invariant.so_far k i (omega (arith, c.loop-k.invariant.len, c.requires.out)) i_lt
