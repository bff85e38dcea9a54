use Rattle.std.proofs.Common.{◌≡◌, ℕ, ◌+◌, ◌<◌, ◌++◌, ◌∙◌, List, [], ◌∷◌, ap, sym, length, inl, inr, arith}
use Rattle.std.proofs.lemmas.Bool.{cases_eq}
use Rattle.std.proofs.lemmas.List.{length_push, get_or_push, get_or_append_left}
use Rattle.scan_model.specs.declared.values.Tri.{Tri}
use Rattle.lane_rows.specs.Planes.{Planes, held}
use Rattle.lane_rows.specs.Sources.{lane_values, no_planes}
use Rattle.frame_rows.specs.SecondRows.{next_value}
use Rattle.frame_rows.proofs.second.next_sources.Goals as goal

-- one net more
row_more : (value : ℕ → ℕ → Tri) (rows : List Planes) (row : Planes) (k : ℕ) → length rows ≡ k → ((j : ℕ) → j < 512 → held row j ≡ value j k)
    → ((j n : ℕ) → j < 512 → n < k → lane_values rows j n ≡ value j n)
    → (j n : ℕ) → j < 512 → n < k + 1 → lane_values (rows ++ row ∷ []) j n ≡ value j n
row_more value rows row k len same so_far j n lj lt = elim (cases_eq n k) [
  | inl here ↦ ap (lane_values (rows ++ row ∷ []) j) here ∙ ap (λ p. held p j) (get_or_push rows row no_planes k len) ∙ same j lj ∙ ap (value j) (sym here)
  | inr before ↦ ap (λ p. held p j) (get_or_append_left rows (row ∷ []) no_planes n (omega (arith, len, before))) ∙ so_far j n lj (omega (arith, before))
]

pub loop-net-preserved : goal.loop-net-preserved
loop-net-preserved c = record {
  len = ap length c.in_ok-push.ensures.items ∙ length_push c.loop-net.rows.items c.next_row.result ∙ ap (λ n. n + 1) c.loop-net.invariant.len;
  value = rw c.in_ok-push.ensures.items (row_more (λ j. next_value c.args.circuit.now (lane_values c.args.first.now j)) c.loop-net.rows.items c.next_row.result c.loop-net.net c.loop-net.invariant.len c.next_row.ensures c.loop-net.invariant.value);
}
