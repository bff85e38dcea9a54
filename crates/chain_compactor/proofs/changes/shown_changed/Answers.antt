use Rattle.std.proofs.Common.{◌≡◌, ℕ, ◌<◌, false, List, [], ◌∷◌, length, map, sym, ap, subst, ◌∙◌}
use Rattle.std.specs.Prelude.{All}
use Rattle.std.specs.List.{list_any}
use Rattle.std.proofs.lemmas.Bool.{or_parts}
use Rattle.std.proofs.lemmas.List.{get_or_default}
use Rattle.std.proofs.lemmas.List.Elements.{All-get_or}
use Rattle.scan_model.specs.declared.parts.Point.{Point}
use Rattle.scan_model.specs.declared.parts.Point.TheVariants.{Output}
use Rattle.scan_model.specs.Values.{is_unknown, xor_of}
use Rattle.lane_rows.specs.Planes.{held}
use Rattle.compact_points.specs.declared.compactor.Channel.{Channel}
use Rattle.compact_points.specs.Channels.{no_channel, channel_at}
use Rattle.compact_points.specs.Compaction.{cells_shown, members}
use Rattle.chain_compactor.proofs.changes.shown_changed.Goals as goal

pub changed-requires-clause-point : goal.changed-requires-clause-point
changed-requires-clause-point g c = rw (c.in-Output.is, c.requires.test) (rw c.in-Output.is at c.requires.point)

pub observed_net-net-requires : goal.observed_net-net-requires
observed_net-net-requires g c = rw c.in-Output.is (rw c.in-Output.is at c.requires.point)

pub changed-requires-clause-net : goal.changed-requires-clause-net
changed-requires-clause-net g c = rw c.requires.test c.observed_net-net.ensures.value

pub returns-in-Output : goal.returns-in-Output
returns-in-Output g c = λ j lt tells.
    let t = c.args.parts.now in
    let k = c.args.compact.now in
    let good = g.C.Changes.good c.args.changes.now j in
    let shown = g.C.Changes.shown c.args.changes.now j in
    let one : Point → Type 0 = λ p. held c.args.expected j ≡ xor_of (good p ∷ []) → is_unknown (good p) ≡ false → held c.changed.result j ≡ xor_of (shown p ∷ []) in
    let all : Point → Type 0 = λ p. held c.args.expected j ≡ xor_of (map good (members t k p)) → list_any is_unknown (map good (members t k p)) ≡ false → held c.changed.result j ≡ xor_of (map shown (members t k p)) in
    subst all (sym c.in-Output.is) (λ is known. subst one c.in-Output.is (c.changed.ensures j lt tells [] []) is (or_parts (is_unknown (good (Output c.in-Output.place))) false known).0)

pub chains_changed-requires-clause-chains : goal.chains_changed-requires-clause-chains
chains_changed-requires-clause-chains g c =
    let xs : List Channel = c.args.compact.now.channels in
    let x : ℕ = c.in-Cell.chain in
    let there : x < length xs = rw c.in-Cell.is at c.requires.point in
    let are : c.as_slice.result.now ≡ xs = c.as_slice.ensures ∙ c.channels.ensures in
    let is : c.index-as_slice-chain.result ≡ channel_at xs x = rw are at c.index-as_slice-chain.is ∙ get_or_default xs x c.index-as_slice-chain.result no_channel there in
    rw (c.as_slice-in-Cell.ensures, is) (All-get_or (λ (y : Channel). All (λ h. h < length c.args.parts.now.chains) y.chains) xs x no_channel there c.requires.made.channels.chains)

pub returns-in-Cell : goal.returns-in-Cell
returns-in-Cell g c = λ j lt tells.
    let t = c.args.parts.now in
    let k = c.args.compact.now in
    let xs : List Channel = k.channels in
    let x : ℕ = c.in-Cell.chain in
    let u : ℕ = c.in-Cell.pos in
    let good = g.C.Changes.good c.args.changes.now j in
    let shown = g.C.Changes.shown c.args.changes.now j in
    let there : x < length xs = rw c.in-Cell.is at c.requires.point in
    let are : c.as_slice.result.now ≡ xs = c.as_slice.ensures ∙ c.channels.ensures in
    let is : c.index-as_slice-chain.result ≡ channel_at xs x = rw are at c.index-as_slice-chain.is ∙ get_or_default xs x c.index-as_slice-chain.result no_channel there in
    let over : List ℕ → Type 0 = λ hs. held c.args.expected j ≡ xor_of (map good (cells_shown t u hs)) → list_any is_unknown (map good (cells_shown t u hs)) ≡ false → held c.chains_changed.result j ≡ xor_of (map shown (cells_shown t u hs)) in
    let all : Point → Type 0 = λ p. held c.args.expected j ≡ xor_of (map good (members t k p)) → list_any is_unknown (map good (members t k p)) ≡ false → held c.chains_changed.result j ≡ xor_of (map shown (members t k p)) in
    subst all (sym c.in-Cell.is) (subst over (c.as_slice-in-Cell.ensures ∙ ap (λ (y : Channel). y.chains) is) (c.chains_changed.ensures j lt tells))
