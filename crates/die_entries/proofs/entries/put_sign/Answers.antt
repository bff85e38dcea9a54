use Rattle.std.proofs.Common.{rules, tests}
use Rattle.std.proofs.lemmas.Iterator.{YieldsList-from_slice}
use Rattle.std.proofs.lemmas.Iterator.Search.{position_from_yields_List}
use Rattle.die_entries.specs.Entries.{is_signed_by}
use Rattle.die_entries.proofs.FirstThat.{put_is_where}
use Rattle.die_entries.proofs.entries.put_sign.Goals as goal

pub returns : goal.returns
returns c =
    put_is_where (is_signed_by c.args.revision c.args.signer.now) c.args.signs.now _ _
    (position_from_yields_List (is_signed_by c.args.revision c.args.signer.now) _ _ c.position-place.result c.position-place.ensures.ran (YieldsList-from_slice c.args.signs.now c.iter.ensures.rest) (λ x b q k. search (rules, tests)))
    c.put_at.ensures
