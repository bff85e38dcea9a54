use Rattle.std.proofs.Common.{◌+◌, ◌*◌, ◌&&◌, eqb, ltb, not, [], get_or, ap, ◌∙◌, arith}
use Rattle.std.specs.Int.{bit_at}
use Rattle.std.proofs.lemmas.Bool.{le-leb, ltb-true}
use Rattle.scan_model.specs.Values.{is_unknown}
use Rattle.scan_model.specs.ChainShift.{value_at}
use Rattle.scan_model.proofs.BitTables.{bit_of_and}
use Rattle.log_join.specs.Joining.{JoinedBits}
use Rattle.log_join.proofs.Joins.{decided_by}
use Rattle.log_join.proofs.joined.Joined.decided_word.Goals as goal

pub returns : goal.returns
returns c = λ j lt.
    let w = 64 * c.args.word + j in
    let known = c.known_word.result in
    let mask = c.pattern_mask.result in
    let patterns = c.args.self.now.patterns in
    bit_of_and known mask j
    ∙ decided_by (eqb (bit_at known j) 1) (eqb (bit_at mask j) 1) (ltb w patterns) (not (is_unknown (value_at (get_or c.args.expected.now w []) c.args.point)))
    (c.pattern_mask.ensures j lt ∙ ap (λ b. b && ltb w c.self.inside.patterns) (le-leb 0 w (omega arith)) ∙ ap (λ (joined : JoinedBits). ltb w joined.patterns) c.self.view_is)
    (λ inside. c.known_word.ensures j lt (omega (arith, ltb-true w patterns inside, c.requires.expected.0)))
