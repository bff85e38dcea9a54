use Rattle.std.proofs.Common.{Bool, ◌||◌, ap, ◌∙◌}
use Rattle.scan_model.specs.declared.fault.Stuck.TheVariants.{Zero}
use Rattle.scan_model.specs.declared.fault.Fault.TheVariants.{Branch}
use Rattle.scan_model.specs.Masks.{mask}
use Rattle.lane_rows.specs.Lanes.{lane}
use Rattle.lane_rows.specs.GoodRows.{pattern_of}
use Rattle.chain_compactor.proofs.observer.CompactCountsObserver.downstream.Goals as goal

pub returns : goal.returns
returns c = λ g j pin lt captured.
    c.or.ensures j lt
    ∙ ap (λ (x : Bool). x || lane c.branch_mask-one.result j) (c.branch_mask-zero.ensures.good c.requires.ready g pin.index j pin.kind pin.at pin.drives lt captured)
    ∙ ap (λ (x : Bool). mask c.args.self.now.parts.now (Branch c.args.pin Zero) (pattern_of c.args.self.now.block j) g || x) (c.branch_mask-one.ensures.good c.requires.ready g pin.index j pin.kind pin.at pin.drives lt captured)
