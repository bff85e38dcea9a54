use Rattle.std.proofs.Common.{◌≡◌, ◌-◌, ◌<◌, ℕ, true, false, ltb, List, length, arith}
use Rattle.std.proofs.lemmas.Bool.{or_parts}
use Rattle.std.proofs.lemmas.Bool.Decides.{nat_tests}
use Rattle.scan_model.specs.declared.parts.Point.{Point}
use Rattle.scan_model.specs.declared.parts.Point.TheVariants.{Cell}
use Rattle.scan_model.specs.Values.{is_unknown}
use Rattle.compact_points.specs.Channels.{chain_length as model_length}
use Rattle.compact_points.proofs.ChainLengths.{few_cells}
use Rattle.chain_compactor.proofs.ChainNets.{row_there, as_long, net_is}
use Rattle.chain_compactor.proofs.changes.chain_changed.Goals as goal

pub nets_in-own-requires : goal.nets_in-own-requires
nets_in-own-requires g c = row_there c.args.parts.now c.args.nets.now c.requires.nets c.args.chain c.requires.chain

pub overflow_cast-pos : goal.overflow_cast-pos
overflow_cast-pos g c =
    let t = c.args.parts.now in
    omega (arith, as_long t c.args.nets.now c.requires.nets c.args.chain c.requires.chain c.nets_in-own.result.now c.nets_in-own.ensures, few_cells t c.chains.ensures.fits c.args.chain c.requires.chain)

pub changed-requires-clause-point : goal.changed-requires-clause-point
changed-requires-clause-point g c =
    let long = as_long c.args.parts.now c.args.nets.now c.requires.nets c.args.chain c.requires.chain c.nets_in-own.result.now c.nets_in-own.ensures in
    rw c.requires.test (c.requires.chain, omega (arith, long))

pub changed-requires-clause-net : goal.changed-requires-clause-net
changed-requires-clause-net g c =
    let t = c.args.parts.now in
    let own : List ℕ = c.nets_in-own.result.now in
    let long : length own ≡ model_length t c.args.chain = as_long t c.args.nets.now c.requires.nets c.args.chain c.requires.chain own c.nets_in-own.ensures in
    let at = length own - 1 - c.args.cycle in
    let inside : at < model_length t c.args.chain = omega (arith, long) in
    rw c.requires.test (net_is t c.args.nets.now c.requires.nets c.args.chain c.requires.chain own at 0 c.nets_in-own.ensures inside)

pub returns-then-cycle-own : goal.returns-then-cycle-own
returns-then-cycle-own g c = λ j lt tells before after row_is known.
    let t = c.args.parts.now in
    let long : length c.nets_in-own.result.now ≡ model_length t c.args.chain = as_long t c.args.nets.now c.requires.nets c.args.chain c.requires.chain c.nets_in-own.result.now c.nets_in-own.ensures in
    let shows_none : ltb c.args.cycle (model_length t c.args.chain) ≡ false = grind (arith, nat_tests, long) in
    rw shows_none (rw shows_none at row_is)

pub returns : goal.returns
returns g c = λ j lt tells before after row_is known.
    let t = c.args.parts.now in
    let n : ℕ = length c.nets_in-own.result.now in
    let long : n ≡ model_length t c.args.chain = as_long t c.args.nets.now c.requires.nets c.args.chain c.requires.chain c.nets_in-own.result.now c.nets_in-own.ensures in
    let p : Point = Cell c.args.chain (n - 1 - c.args.cycle) in
    let shows : ltb c.args.cycle (model_length t c.args.chain) ≡ true = grind (arith, nat_tests, long) in
    rw (shows, ← long)
    (c.changed.ensures j lt tells before after (rw (shows, ← long) at row_is)
    (or_parts (is_unknown (g.C.Changes.good c.args.changes.now j p)) false (rw (shows, ← long) at known)).0)
