use Rattle.std.proofs.Common.{◌≡◌, ℕ, ◌<◌, List, length, map, None, ap, ◌∙◌}
use Rattle.std.specs.Prelude.{All}
use Rattle.std.proofs.lemmas.List.{get_or_default}
use Rattle.std.proofs.lemmas.List.Elements.{All-get_or}
use Rattle.scan_model.specs.Values.{xor_of}
use Rattle.scan_model.specs.Response.{observed}
use Rattle.lane_rows.specs.GoodRows.{pattern_of}
use Rattle.compact_points.specs.declared.compactor.Channel.{Channel}
use Rattle.compact_points.specs.Channels.{no_channel, channel_at}
use Rattle.compact_points.specs.Compaction.{cells_shown}
use Rattle.compact_points.proofs.expected.shown_in_block.Goals as goal

pub point_in_block-requires-clause-point : goal.point_in_block-requires-clause-point
point_in_block-requires-clause-point c = rw c.in-Output.is (rw c.in-Output.is at c.requires.point)

pub returns-in-Output : goal.returns-in-Output
returns-in-Output c = λ b j rows lane_in there. rw c.in-Output.is (rw c.in-Output.is at (c.point_in_block.ensures b j rows lane_in there))

pub channel_in_block-requires-clause-chains : goal.channel_in_block-requires-clause-chains
channel_in_block-requires-clause-chains c =
    let xs : List Channel = c.args.compact.now.channels in
    let x : ℕ = c.in-Cell.chain in
    let there : x < length xs = rw c.in-Cell.is at c.requires.point in
    let are : c.as_slice.result.now ≡ xs = c.as_slice.ensures ∙ c.channels.ensures in
    let is : c.index-as_slice-chain.result ≡ channel_at xs x = rw are at c.index-as_slice-chain.is ∙ get_or_default xs x c.index-as_slice-chain.result no_channel there in
    rw (c.as_slice-in-Cell.ensures, is) (All-get_or (λ (y : Channel). All (λ h. h < length c.args.parts.now.chains) y.chains) xs x no_channel there c.requires.made.channels.chains)

pub returns-in-Cell : goal.returns-in-Cell
returns-in-Cell c = λ b j rows lane_in inside.
    let t = c.args.parts.now in
    let xs : List Channel = c.args.compact.now.channels in
    let x : ℕ = c.in-Cell.chain in
    let there : x < length xs = rw c.in-Cell.is at c.requires.point in
    let are : c.as_slice.result.now ≡ xs = c.as_slice.ensures ∙ c.channels.ensures in
    let is : c.index-as_slice-chain.result ≡ channel_at xs x = rw are at c.index-as_slice-chain.is ∙ get_or_default xs x c.index-as_slice-chain.result no_channel there in
    rw c.in-Cell.is
    (c.channel_in_block.ensures b j rows lane_in inside
    ∙ ap (λ (hs : List ℕ). xor_of (map (observed t None (pattern_of b j)) (cells_shown t c.in-Cell.pos hs))) (c.as_slice-in-Cell.ensures ∙ ap (λ (y : Channel). y.chains) is))
