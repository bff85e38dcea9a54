use Rattle.std.proofs.Common.{◌-◌, length, ap, arith}
use Rattle.std.proofs.lemmas.List.{length-map}
use Rattle.packed_sim.specs.Rows.{row_at, slots_of}
use Rattle.packed_sim.proofs.Dense.{found_of_laid}
use Rattle.packed_sim.proofs.overlay.Overlay.over.Goals as goal

pub make-requires : goal.make-requires
make-requires c =
    let o = c.self.inside in
    rw (c.deref.ensures.value, c.deref-2.ensures.value)
    (found_of_laid o.places.items o.nets.items o.rows.items c.args.good.now _ _ c.self.invariant
    (omega (arith, c.requires, ap length c.self.view_is, length-map (slots_of o.places.items) (row_at o.rows.items), length-map o.places.items (λ p. p - 2147483647))))
