use Rattle.std.proofs.Common.{◌≡◌, ◌≤◌, ◌+◌, ◌-◌, length, take, not}
use Rattle.std.specs.Prelude.{vec_len, vec_capacity}
use Rattle.std.specs.List.{list_any}
use Rattle.scan_model.specs.Words.{has_word}
use Rattle.text_parts.specs.Views.{nows}
use Rattle.chain_compactor.specs.ChannelReading.{numbers_in}
use Rattle.chain_compactor.proofs.channels.chain_numbers.Given as goal

abbrev pub invariant-loop-chain : goal.invariant-loop-chain
invariant-loop-chain l =
    let seen = nows (take l.chain-index l.chains) in
    record {
      room : vec_len l.numbers + (length l.chains - l.chain-index) ≤ vec_capacity l.numbers;
      numbers : l.numbers.items ≡ numbers_in l.names seen;
      lacks_chain : l.lacks_chain ≡ list_any (λ w. not (has_word l.names w)) seen;
    }
