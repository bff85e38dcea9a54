use Rattle.std.proofs.Common.{◌≡◌, ℕ, ◌+◌, ◌*◌, ◌/◌, length, List, min, sym, subst, arith}
use Rattle.lane_rows.specs.Planes.{Planes}
use Rattle.expected_values.specs.ResponseWords.{AreResponseWords, ShowsBlock}
use Rattle.expected_values.proofs.expected.push_block.Goals as goal

pub loop-word-preserved : goal.loop-word-preserved
loop-word-preserved g c =
    let table = g.S.ResponseRows.table c.args.shown.now in
    let places = c.args.places in
    let word = c.loop-word.word in
    let block : ShowsBlock table places c.args.block c.in_ok-rows.rows.items = c.in_ok-rows.ensures in
    let len : length c.in_ok-rows.rows.items ≡ places = block.len in
    let here : c.args.block ≡ word / 8 = omega (arith, c.loop-word-test.true, c.loop-word.auto.word, c.min-word-end.ensures) in
    let rows : ShowsBlock table (length c.deref.result.now) (word / 8) c.deref.result.now = rw (c.deref.ensures.value, len, sym here) block in
    let more = c.in_ok-push_word.ensures table rows (rw (c.deref.ensures.value, len) c.loop-word.invariant) in
    let same : AreResponseWords table places (word * places + places) c.push_word.new.words = rw (c.deref.ensures.value, len) at more in
    let next : word * places + places ≡ (word + 1) * places = omega arith in
    subst (λ (n : ℕ). AreResponseWords table places n c.push_word.new.words) next same

pub returns : goal.returns
returns g c =
    let table = g.S.ResponseRows.table c.args.shown.now in
    let at_end : c.loop-word.word ≡ min (8 * c.args.block + 8) ((c.args.patterns + 63) / 64) =
    omega (arith, c.loop-word-test.false, c.loop-word.auto.word-end, c.loop-word.auto.word, c.min-word-end.ensures, c.div_ceil-last.ensures, c.requires.block) in
    subst (λ (n : ℕ). AreResponseWords table c.args.places (n * c.args.places) c.loop-word.words) at_end c.loop-word.invariant
