use Rattle.std.proofs.Common.{ℕ, List, ◌≤◌, length, sym, subst}
use Rattle.desk_answers.proofs.Gets.{signer_is_short}
use Rattle.desk_answers.proofs.answers.signs.get_sign.Goals as goal

pub sign_off_body-body-requires : goal.sign_off_body-body-requires
sign_off_body-body-requires g c =
    let new = g.S.SeatAt.facts c.look_sign.new.self c.args.desk.now in
    subst (λ (s : List ℕ). length s ≤ 64) (sym c.as_slice.ensures) (signer_is_short new.limit new.seen c.args.design.now c.args.die.now c.args.number c.in-Ok.sign c.mark-mark.ensures.legal c.in-Ok.ensures.looked)
