use Rattle.std.proofs.Common.{◌≡◌, ◌∙◌, ℕ, ◌+◌, ◌*◌, ◌/◌, min, ap, subst, arith}
use Rattle.expected_values.specs.ResponseWords.{AreResponseWords}
use Rattle.expected_values.proofs.ResponseWords.{words_are}
use Rattle.expected_values.proofs.expected.expected_of.Goals as goal

pub loop-block-init : goal.loop-block-init
loop-block-init g c =
    let table = g.S.ResponseRows.table c.args.shown.now in
    let count = (c.args.patterns + 63) / 64 in
    let none : 0 ≡ min 0 count = omega arith in
    let nothing : 0 ≡ 0 * c.args.places = omega arith in
    subst (λ (n : ℕ). AreResponseWords table c.args.places n c.in_ok-words.words) (nothing ∙ ap (λ (n : ℕ). n * c.args.places) none)
    (c.in_ok-words.ensures table c.args.places)

pub push_block-requires-clause-before : goal.push_block-requires-clause-before
push_block-requires-clause-before g c =
    let table = g.S.ResponseRows.table c.args.shown.now in
    let b = c.loop-block.block in
    let within : min (8 * b) ((c.args.patterns + 63) / 64) ≡ 8 * b = omega (arith, c.loop-block-test.true, c.div_ceil-block-end.ensures) in
    subst (λ (n : ℕ). AreResponseWords table c.args.places (n * c.args.places) c.loop-block.words) within c.loop-block.invariant

pub loop-block-preserved : goal.loop-block-preserved
loop-block-preserved g c =
    let table = g.S.ResponseRows.table c.args.shown.now in
    let b = c.loop-block.block in
    let count = (c.args.patterns + 63) / 64 in
    let next : min (8 * b + 8) count ≡ min (8 * (b + 1)) count = omega arith in
    subst (λ (n : ℕ). AreResponseWords table c.args.places (n * c.args.places) c.push_block.new.words) next c.in_ok-push_block.ensures

pub returns : goal.returns
returns g c =
    let table = g.S.ResponseRows.table c.args.shown.now in
    let count = (c.args.patterns + 63) / 64 in
    let all : min (8 * c.loop-block.block) count ≡ count = omega (arith, c.loop-block-test.false, c.div_ceil-block-end.ensures) in
    c.of_words.ensures
    ∙ words_are table c.args.patterns c.args.places c.loop-block.words c.requires.patterns c.requires.whole
    (subst (λ (n : ℕ). AreResponseWords table c.args.places (n * c.args.places) c.loop-block.words) all c.loop-block.invariant)
