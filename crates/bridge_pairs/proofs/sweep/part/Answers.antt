use Rattle.std.proofs.Common.{◌≡◌, ◌<◌, false, get_or, ap, length, ◌∙◌, arith}
use Rattle.std.proofs.lemmas.List.{get_or_read, get_or-map, length-map}
use Rattle.bridge_pairs.specs.PairText.{is_feedback}
use Rattle.bridge_pairs.specs.StartPlaces.{no_pair, pair_at}
use Rattle.bridge_pairs.proofs.Parting.{kept_more, left_out_more}
use Rattle.bridge_pairs.proofs.sweep.part.Goals as goal

pub loop-i-preserved : goal.loop-i-preserved
loop-i-preserved c =
    let test = is_feedback c.args.circuit.now in
    let pairs = c.args.pairs.now in
    let noted = c.in_ok-noted.noted.items in
    let i = c.loop-i.i in
    let answer = c.index.result.now in
    let in_noted : i < length noted = omega (arith, c.loop-i-test.true, ap length c.in_ok-noted.ensures, length-map pairs test) in
    let tested : answer ≡ test (pair_at pairs i) = get_or_read noted i answer in_noted c.index.ensures false ∙ ap (λ xs. get_or xs i false) c.in_ok-noted.ensures ∙ get_or-map test pairs i no_pair false c.loop-i-test.true in
    record {
      kept = kept_more test pairs i no_pair answer c.loop-i.parts.kept c.add_parted.new.parts.kept c.loop-i-test.true tested c.loop-i.invariant.kept c.in_ok-add_parted.ensures.kept;
      left_out = left_out_more test pairs i no_pair answer c.loop-i.parts.left_out c.add_parted.new.parts.left_out c.loop-i-test.true tested c.loop-i.invariant.left_out c.in_ok-add_parted.ensures.left_out;
    }
