use Rattle.std.proofs.Common.{◌<◌, [], length, ◌∙◌, arith}
use Rattle.std.proofs.lemmas.List.{get_or_default}
use Rattle.lane_rows.proofs.bit_planes.values_of.Goals as goal

pub offset_bounds-as_slice-chain : goal.offset_bounds-as_slice-chain
offset_bounds-as_slice-chain c =
    let inside : c.in-Load.chain < length c.as_slice-in-Load.result.now = rw c.as_slice-in-Load.ensures (rw c.in-Load.is at c.requires) in
    omega arith

pub bounds-as_slice-chain : goal.bounds-as_slice-chain
bounds-as_slice-chain c = rw c.as_slice-in-Load.ensures (rw c.in-Load.is at c.requires)

pub returns-in-Load : goal.returns-in-Load
returns-in-Load c =
    let inside : c.in-Load.chain < length c.args.pattern.now.loads = rw c.in-Load.is at c.requires in
    rw c.in-Load.is (c.as_slice-in-Load-2.ensures ∙ rw c.as_slice-in-Load.ensures at c.index-as_slice-chain.is ∙ get_or_default c.args.pattern.now.loads c.in-Load.chain c.index-as_slice-chain.result [] inside)
