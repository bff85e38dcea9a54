use Rattle.std.proofs.Common.{◌≡◌, ◌++◌, ℕ, length, take, drop, get_or, ap, ◌∙◌, arith}
use Rattle.scan_model.proofs.BitTables.{written_whole}
use Rattle.bridge_pairs.specs.PairRows.{emptied}
use Rattle.bridge_pairs.proofs.Slots.{all_emptied, slots_none, blank_rows}
use Rattle.bridge_pairs.proofs.reached_rows.ReachedRows.clear.Goals as goal

pub invariant_of-self : goal.invariant_of-self
invariant_of-self c =
    let r = c.self.inside in
    let new = c.empty_slots.new.slots in
    let len : length new ≡ length r.slots.items = c.empty_slots.auto.slots ∙ ap length c.deref_mut.ensures.value in
    let whole : take r.slots.len (new ++ drop (length new) r.slots.items) ≡ new = written_whole new r.slots.items r.slots.len (omega (arith, len, r.slots.ok.0)) in
    let is : (n : ℕ) → get_or new n 0 ≡ emptied r.nets.items r.slots.items n = rw (← c.deref.ensures.value, ← c.deref_mut.ensures.value) c.empty_slots.ensures in
    let blank = all_emptied r.slots.items r.nets.items new r.rows.items c.self.invariant len is in
    rw (whole, c.clear.ensures.items, c.clear-2.ensures.items) (slots_none new (omega (arith, len, c.self.invariant.fits)) blank)

pub returns-clause-blank : goal.returns-clause-blank
returns-clause-blank c =
    let r = c.self.inside in
    let new = c.empty_slots.new.slots in
    let len : length new ≡ length r.slots.items = c.empty_slots.auto.slots ∙ ap length c.deref_mut.ensures.value in
    let whole : take r.slots.len (new ++ drop (length new) r.slots.items) ≡ new = written_whole new r.slots.items r.slots.len (omega (arith, len, r.slots.ok.0)) in
    let is : (n : ℕ) → get_or new n 0 ≡ emptied r.nets.items r.slots.items n = rw (← c.deref.ensures.value, ← c.deref_mut.ensures.value) c.empty_slots.ensures in
    let blank = all_emptied r.slots.items r.nets.items new r.rows.items c.self.invariant len is in
    rw whole (blank_rows c.clear-2.new.self.items new blank)
