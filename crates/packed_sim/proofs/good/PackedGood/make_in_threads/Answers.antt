use Rattle.std.proofs.Common.{subst, sym}
use Rattle.lane_rows.specs.GoodRows.{AreGoodRows}
use Rattle.packed_sim.specs.PackedParts.{AreLinksOf}
use Rattle.packed_sim.proofs.good.PackedGood.make_in_threads.Goals as goal

pub returns : goal.returns
returns g c =
    let t = c.args.parts.now in
    let links : AreLinksOf t c.in_ok-links.links = rw c.in_ok-links.was at c.rows_and_links-links.ensures.links in
    let rows : AreGoodRows t c.in_ok-rows.rows = rw c.in_ok-rows.was at c.rows_and_links-links.ensures.rows in
    record {
      rows = subst (AreGoodRows t) (sym c.linked.ensures.rows) rows;
      built = c.linked.ensures.built t (λ b lt. (rows.each b lt).len) links;
    }
