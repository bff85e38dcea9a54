use Rattle.std.proofs.Common.{◌≡◌, ◌∙◌, Some, ap, sym, arith}
use Rattle.serde_json.specs.Data.{Members, object}
use Rattle.serde_json.specs.Find.{as_object}
use Rattle.serde_json.specs.View.{view, members_view}
use Rattle.desk_answers.specs.SignBodies.{members_len}
use Rattle.desk_answers.proofs.Members.{members_view_len, is_object, is_unsigned, is_string}
use Rattle.desk_answers.proofs.answers.signoff.parts_of.Goals as goal

pub returns-then-len-ne-MEMBERS-clause-none : goal.returns-then-len-ne-MEMBERS-clause-none
returns-then-len-ne-MEMBERS-clause-none c r s d h =
    let ms : Members = members_view c.in_ok-members.members.now.entries in
    let found : Some ms ≡ Some h.members = c.in_ok-members.ensures ∙ ap as_object h.whole in
    let same : ms ≡ h.members = cc in
    let n = members_view_len c.in_ok-members.members.now.entries in
    let m = ap members_len same in
    let t = h.three in
    let len = c.len.ensures.len in
    absurd (omega arith)

pub returns-clause-parts : goal.returns-clause-parts
returns-clause-parts c =
    let ms : Members = members_view c.in_ok-members.members.now.entries in
    let whole : view c.args.value.now ≡ object ms = is_object (view c.args.value.now) ms c.in_ok-members.ensures in
    let n = members_view_len c.in_ok-members.members.now.entries in
    let len = c.len.ensures.len in
    record {
      members = ms;
      whole = whole;
      three = omega arith;
      revision_is = rw whole at (sym c.in_ok-get.ensures) ∙ ap Some (is_unsigned _ c.in_ok-revision.revision c.in_ok-revision.ensures);
      signer_is = rw whole at (sym c.in_ok-get-2.ensures) ∙ ap Some (is_string _ c.in_ok-signer.signer.now c.in_ok-signer.ensures);
      digest_is = rw whole at (sym c.in_ok-get-3.ensures) ∙ ap Some (is_string _ c.in_ok-digest.digest.now c.in_ok-digest.ensures);
    }
