use Rattle.std.proofs.Common.{◌≡◌, ℕ, ◌/◌, ◌%◌, ◌==◌, Bool, true, false, ◌&&◌, refl, ap, ◌∙◌, arith}
use Rattle.std.proofs.lemmas.Bool.{eqb-true}
use Rattle.lane_rows.specs.Lanes.{lane}
use Rattle.lane_rows.specs.GoodRows.{pattern_of}
use Rattle.lane_rows.specs.Stimuli.{captures}
use Rattle.frame_rows.specs.Frames.{net_changes}
use Rattle.two_frame.proofs.Captures.{captured}
use Rattle.two_frame.proofs.frame_good.FrameGood.launched_in.Goals as goal

there_alone : (x y here : Bool) → (here ≡ true → x ≡ y) → (x && here) ≡ (y && here)
there_alone x y true same = ap (λ (b : Bool). b && true) (same refl)
there_alone true true false same = refl
there_alone true false false same = refl
there_alone false true false same = refl
there_alone false false false same = refl

pub returns : goal.returns
returns c j lt =
    let t = c.args.parts.now in
    let w = c.args.pattern in
    c.and.ensures j lt
    ∙ ap (λ (b : Bool). lane c.launched-launched.result j && b) (c.single.ensures j lt)
    ∙ there_alone (lane c.launched-launched.result j) (net_changes t c.args.value w c.args.net) (j == w % 512) (λ here.
    let same : j ≡ w % 512 = eqb-true j (w % 512) here in
    let is : pattern_of (w / 512) j ≡ w = omega arith in
    c.launched-launched.ensures j lt (ap (captures t) is ∙ captured t c.requires.captures w c.requires.pattern)
    ∙ ap (λ (v : ℕ). net_changes t c.args.value v c.args.net) is)
