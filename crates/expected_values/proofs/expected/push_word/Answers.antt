use Rattle.std.proofs.Common.{◌≡◌, ◌∙◌, ℕ, ◌+◌, ◌*◌, ◌/◌, ◌%◌, ◌<◌, [], length, get_or, ap, subst, bit_or, arith}
use Rattle.std.proofs.lemmas.List.{get_or_default}
use Rattle.scan_model.specs.Values.{is_zero, is_one}
use Rattle.scan_model.specs.ChainShift.{value_at}
use Rattle.lane_rows.specs.Planes.{Planes, held}
use Rattle.lane_rows.specs.Sources.{no_planes}
use Rattle.lane_rows.specs.GoodRows.{pattern_of}
use Rattle.expected_values.specs.ResponseWords.{AreResponseWords}
use Rattle.expected_values.proofs.ResponseWords.{one_more, value_in, word_shows}
use Rattle.expected_values.proofs.expected.push_word.Goals as goal

pub loop-row-preserved : goal.loop-row-preserved
loop-row-preserved c = λ table block before.
    let rows = c.args.rows.now in
    let word = c.args.word in
    let k = c.loop-row.row-index in
    let row = c.row-item.result in
    let ones = c.word-ones.result in
    let zeros = c.word-zeros.result in
    let in_rows : k < length rows = c.loop-row-test.true in
    let read : row ≡ get_or rows k no_planes = c.row-item.is ∙ get_or_default rows k row no_planes in_rows in
    let shows : (i : ℕ) → i < 64 → 64 * word + i < length table → value_in (bit_or ones zeros) ones i ≡ value_at (get_or table (64 * word + i) []) k = λ i lt there.
    let j = 64 * (word % 8) + i in
    let lane_in : j < 512 = omega (arith, lt) in
    let place : pattern_of (word / 8) j ≡ 64 * word + i = omega arith in
    let shown : held row j ≡ value_at (get_or table (64 * word + i) []) k =
    ap (λ (p : Planes). held p j) read ∙ block.value j k lane_in in_rows (omega (arith, place, there)) ∙ ap (λ (w : ℕ). value_at (get_or table w []) k) place in
    word_shows ones zeros i (value_at (get_or table (64 * word + i) []) k)
    (c.word-ones.ensures i lt ∙ c.ones.ensures j lane_in ∙ ap is_one shown)
    (c.word-zeros.ensures i lt ∙ c.zeros.ensures j lane_in ∙ ap is_zero shown) in
    one_more table (length rows) c.loop-row.words (record { known = c.push.new.self; ones = c.push-in-loop-row.new.self }) word k (bit_or ones zeros) ones
    in_rows (c.loop-row.invariant table block before) c.in_ok-push.ensures.ok c.in_ok-push-2.ensures.ok shows

pub returns : goal.returns
returns c = λ table block before.
    let n = length c.args.rows.now in
    let at_end : c.loop-row.row-index ≡ n = omega (arith, c.loop-row-test.false, c.loop-row.auto.row-index-end) in
    subst (λ (k : ℕ). AreResponseWords table n (c.args.word * n + k) c.loop-row.words) at_end (c.loop-row.invariant table block before)
