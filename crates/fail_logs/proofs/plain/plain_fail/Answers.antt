use Rattle.std.proofs.Common.{◌≡◌, length, refl, rules}
use Rattle.scan_model.specs.LogText.{out_line, cell_line}
use Rattle.fail_logs.proofs.PlainWords.{empty_is, fail_of_output, fail_of_cell}
use Rattle.fail_logs.proofs.plain.plain_fail.Goals as goal

pub returns-in-Some : goal.returns-in-Some
returns-in-Some c =
    let p = c.in_ok-pattern.ensures in
    let empty : length c.in_ok-name.rest.now ≡ 0 = search rules in
    let fail = fail_of_output c.args.form c.args.line.now c.in_ok-rest.rest.now c.in_ok-pattern.rest.now c.in-Some.rest.now c.in_ok-name.rest.now p.0 c.in_ok-name.name.now c.in_ok-rest.ensures p.2 c.in-Some.ensures c.in_ok-name.ensures (empty_is c.in_ok-name.rest.now empty) in
    (out_line p.0 c.in_ok-name.name.now, (p.0, p.1, refl), fail)

pub returns : goal.returns
returns c =
    let p = c.in_ok-pattern.ensures in
    let w = c.in_ok-position.ensures in
    let chain = c.in_ok-chain.chain.now in
    let empty : length c.in_ok-position.rest.now ≡ 0 = search rules in
    let fail = fail_of_cell c.args.form c.args.line.now c.in_ok-rest.rest.now c.in_ok-pattern.rest.now c.in_ok-rest-2.rest.now c.in_ok-chain.rest.now c.in_ok-position.rest.now p.0 chain w.0 c.in_ok-rest.ensures p.2 c.in_ok-rest-2.ensures c.in_ok-chain.ensures w.2 (empty_is c.in_ok-position.rest.now empty) in
    (cell_line p.0 chain w.0, (p.0, w.0, p.1, w.1, refl), fail)
