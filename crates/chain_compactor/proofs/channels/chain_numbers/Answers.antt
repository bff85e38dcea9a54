use Rattle.std.proofs.Common.{not, ap, arith}
use Rattle.std.specs.List.{position_or_len}
use Rattle.std.specs.Str.{bytes_eq}
use Rattle.scan_model.specs.Words.{has_word}
use Rattle.scan_text.proofs.CellNets.{numbers_more, any_more}
use Rattle.chain_compactor.proofs.channels.chain_numbers.Goals as goal

pub loop-chain-preserved : goal.loop-chain-preserved
loop-chain-preserved c =
    let names = c.args.names.now in
    let chains = c.args.chains.now in
    let at = c.loop-chain.chain-index in
    record {
      room = omega arith;
      numbers = numbers_more chains at _ c.loop-chain-test.true (λ w. position_or_len (bytes_eq w) names) c.place_or_len.result c.loop-chain.numbers.items c.push_reserved.new.self.items c.loop-chain.invariant.numbers c.place_or_len.ensures.value c.push_reserved.ensures.items;
      lacks_chain = any_more chains at _ c.loop-chain-test.true (λ w. not (has_word names w)) (not c.contains.result) c.loop-chain.lacks_chain c.loop-chain.invariant.lacks_chain (ap not c.contains.ensures);
    }
