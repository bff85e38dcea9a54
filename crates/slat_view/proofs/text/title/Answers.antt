use Rattle.std.proofs.Common.{◌∷◌, []}
use Rattle.std.specs.Prelude.{codes, decimal}
use Rattle.std.proofs.lemmas.Result.{on_ok_weaker}
use Rattle.scan_model.specs.ReportText.{line}
use Rattle.slat_view.proofs.Texts.{both_added}
use Rattle.slat_view.proofs.text.title.Goals as goal

pub returns : goal.returns
returns c =
    let first = line (codes "SLAT" ∷ decimal 1 ∷ []) in
    let design = line (codes "design" ∷ c.args.design.now ∷ []) in
    let die = line (codes "die" ∷ c.args.die.now ∷ []) in
    let logs = line (codes "logs" ∷ decimal c.args.logs ∷ []) in
    let start = c.args.text.now in
    let t1 = c.number_line.new.text in
    let t2 = c.name_line.new.text in
    let t3 = c.name_line-2.new.text in
    let two = both_added (first ∷ []) (design ∷ []) start t1 t2 c.in_ok-number_line.ensures c.in_ok-name_line.ensures in
    let three = both_added (first ∷ design ∷ []) (die ∷ []) start t2 t3 two c.in_ok-name_line-2.ensures in
    on_ok_weaker c.number_line-2.result (λ last. both_added (first ∷ design ∷ die ∷ []) (logs ∷ []) start t3 c.number_line-2.new.text three last) c.number_line-2.ensures
