use Rattle.std.proofs.Common.{◌≡◌, ℕ, ◌∷◌, ◌++◌, Bool, cond, List, [], length, get_or, sym, ap, ◌∙◌, arith}
use Rattle.std.specs.Prelude.{filter}
use Rattle.std.specs.List.{range_with_len}
use Rattle.std.proofs.lemmas.List.{get_or_read}
use Rattle.scan_model.proofs.Orders.{filter_range_more}
use Rattle.compact_points.specs.declared.compactor.Channel.{Channel}
use Rattle.compact_points.specs.Channels.{no_channel, channel_at}
use Rattle.chain_compactor.specs.ObservationPoints.{has_chain}
use Rattle.chain_compactor.proofs.tables.channels_of.Goals as goal

pub loop-x-preserved : goal.loop-x-preserved
loop-x-preserved c =
    let k = c.args.compact.now in
    let h = c.args.chain in
    let x = c.loop-x.x in
    let shows : ℕ → Bool = λ y. has_chain (channel_at k.channels y).chains h in
    let item : c.channel-item.result ≡ channel_at k.channels x = get_or_read c.as_slice-channel-items.result.now x c.channel-item.result c.loop-x-test.true c.channel-item.is no_channel
    ∙ ap (λ (ys : List Channel). get_or ys x no_channel) (c.as_slice-channel-items.ensures ∙ c.channels.ensures) in
    let asked : c.has_chain.result ≡ shows x = c.has_chain.ensures ∙ ap (λ (y : Channel). has_chain y.chains h) item in
    c.in_ok-push_if.ensures
    ∙ ap (λ (ys : List ℕ). ys ++ cond c.has_chain.result (x ∷ []) []) c.loop-x.invariant
    ∙ ap (λ (b : Bool). filter shows (range_with_len 0 x) ++ cond b (x ∷ []) []) asked
    ∙ sym (filter_range_more shows x)

pub returns : goal.returns
returns c =
    let k = c.args.compact.now in
    let all : c.loop-x.x ≡ length k.channels = omega (arith, c.loop-x-test.false, c.loop-x.auto.x-end, ap length (c.as_slice-channel-items.ensures ∙ c.channels.ensures)) in
    c.loop-x.invariant ∙ ap (λ (n : ℕ). filter (λ y. has_chain (channel_at k.channels y).chains c.args.chain) (range_with_len 0 n)) all
