use Rattle.std.proofs.Common.{rules, ◌≡◌, length, sym, subst}
use Rattle.desk_heads.specs.Heads.{HasNoEndWithin}
use Rattle.desk_heads.specs.InboxReads.{IsUnended}
use Rattle.desk_heads.proofs.SoughtSteps.{in_unended}
use Rattle.desk_heads.proofs.incoming.inbox.Inbox.head.Goals as goal

pub invariant_of-self : goal.invariant_of-self
invariant_of-self c =
    let unended : IsUnended c.self.inside.bytes.items = subst IsUnended c.deref.ensures.value c.in-Unended.ensures in
    let all : c.len-self-inside.result ≡ length c.self.inside.bytes.items = search rules in
    (subst (λ n. HasNoEndWithin n c.self.inside.bytes.items) (sym all) (in_unended c.self.inside.bytes.items unended), c.self.invariant.1)
