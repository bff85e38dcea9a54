use Rattle.std.proofs.Common.{◌≡◌, ℕ, ◌+◌, ◌*◌, ◌/◌, ◌-◌, ◌∙◌, inl, inr, sym, ap, arith}
use Rattle.std.proofs.lemmas.Bool.{cases_lt, ne_eqb}
use Rattle.lane_rows.specs.Sources.{lane_values, row_source}
use Rattle.lane_rows.proofs.sources.assign_words.Goals as goal

pub loop-word-preserved : goal.loop-word-preserved
loop-word-preserved c =
    let t = c.args.parts.now in
    let new = c.assign_word.new.rows in
    let word = c.loop-word.word in
    let elsewhere = c.in_ok-assign_word.ensures.elsewhere in
    record {
      done = λ j n lt in_count no_gate. elim (cases_lt j (64 * word)) [
        | inl before ↦ elsewhere n j (omega (arith, c.requires.lanes)) (ne_eqb (j / 64) word (λ e. omega arith)) ∙ c.loop-word.invariant.done j n before in_count no_gate
        | inr here ↦
            let k = j - 64 * word in
            let is : 64 * word + k ≡ j = omega arith in
            let pattern : c.args.first + 64 * word + k ≡ c.args.first + j = omega arith in
            ap (λ (m : ℕ). lane_values new m n) (sym is) ∙ c.in_ok-assign_word.ensures.there n k (omega (arith, c.min-lanes.ensures)) no_gate ∙ ap (λ (m : ℕ). row_source t m n) pattern
      ];
      blank = λ j n le lj no_gate. elsewhere n j lj (ne_eqb (j / 64) word (λ e. omega arith)) ∙ c.loop-word.invariant.blank j n (omega arith) lj no_gate;
    }
