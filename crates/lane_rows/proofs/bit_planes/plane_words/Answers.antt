use Rattle.std.proofs.Common.{◌≡◌, ℕ, ◌+◌, ◌-◌, ◌*◌, ◌/◌, ◌%◌, ◌++◌, ◌∙◌, ap, sym, inl, inr, length, take, drop, get_or, arith}
use Rattle.std.proofs.lemmas.Bool.{cases_lt, ne_eqb}
use Rattle.std.proofs.lemmas.List.{take_at, get_or-take, get_or-drop, length-take-le, length-drop, get_or_past}
use Rattle.scan_model.specs.declared.parts.Pattern.{Pattern}
use Rattle.scan_model.specs.ChainShift.{value_at}
use Rattle.scan_model.specs.ScanTest.{no_pattern}
use Rattle.lane_rows.specs.DrivenParts.{part_values}
use Rattle.lane_rows.specs.BitPlanes.{is_in}
use Rattle.lane_rows.proofs.bit_planes.plane_words.Goals as goal

pub loop-at-preserved : goal.loop-at-preserved
loop-at-preserved c =
    let patterns = c.args.patterns.now in
    let new = c.put_bytes.new.words in
    let old = c.loop-at.words.items in
    let at = c.loop-at.at in
    let start = 8 * at in
    let count = c.min-count.result in
    let width = start + count - start in
    let rest = drop start patterns in
    let narrow : width ≡ count = omega arith in
    let len : length (take width rest) ≡ count = length-take-le width rest (omega (arith, length-drop start patterns, c.min-count.ensures)) ∙ narrow in
    let whole : take c.loop-at.words.len (new ++ drop (length new) old) ≡ new = take_at new (drop (length new) old) c.loop-at.words.len (c.put_bytes.auto.words ∙ c.deref_mut.ensures.len) in
    let as_many : length old ≡ c.args.nets = c.loop-at.invariant.len in
    let there = rw (c.deref_mut.ensures.value, c.deref.ensures.value) at c.put_bytes.ensures.there in
    let elsewhere = rw c.deref_mut.ensures.value at c.put_bytes.ensures.elsewhere in
    record {
      len = ap length whole ∙ c.put_bytes.auto.words ∙ ap length c.deref_mut.ensures.value ∙ c.loop-at.invariant.len;
      done = rw whole (λ i j in_nets lt. elim (cases_lt j start) [
        | inl before ↦ elsewhere i j (ne_eqb (j / 8) at (λ e. omega arith)) ∙ c.loop-at.invariant.done i j in_nets before
        | inr here ↦
            let k = j % 8 in
            let same : j / 8 ≡ at = omega arith in
            let is : start + k ≡ j = omega (arith, same) in
            let pattern : get_or (take width rest) k no_pattern ≡ get_or patterns j no_pattern = elim (cases_lt k count) [
              | inl inside ↦ get_or-take width rest k no_pattern (omega (arith, narrow, inside)) ∙ get_or-drop start patterns k no_pattern ∙ ap (λ (m : ℕ). get_or patterns m no_pattern) is
              | inr past ↦ get_or_past (take width rest) k no_pattern (omega (arith, len, past)) ∙ sym (get_or_past patterns j no_pattern (omega (arith, is, past, c.min-count.ensures)))
            ] in
            there i j (omega (arith, as_many)) same ∙ c.in_ok-bytes.ensures.lanes i k in_nets (omega arith) ∙ ap (λ (p : Pattern). is_in c.args.plane (value_at (part_values c.args.part p) i)) pattern
      ]);
      blank = rw whole (λ i j le. elsewhere i j (ne_eqb (j / 8) at (λ e. omega arith)) ∙ c.loop-at.invariant.blank i j (omega arith));
    }
