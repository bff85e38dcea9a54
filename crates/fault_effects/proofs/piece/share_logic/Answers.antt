use Rattle.std.proofs.Common.{◌≡◌, ℕ, ◌+◌, ◌<◌, List, [], length, get_or, ap, ◌∙◌, inl, inr, arith}
use Rattle.std.proofs.lemmas.Bool.{cases_eq}
use Rattle.std.proofs.lemmas.Result.{on_ok_weaker}
use Rattle.scan_model.specs.Netlist.{Netlist}
use Rattle.fault_effects.specs.declared.work_kind.WorkKind.TheVariants.{Nets, Pins}
use Rattle.fault_effects.specs.Owners.{owner, suspect_at}
use Rattle.fault_effects.specs.Shares.{Shares}
use Rattle.fault_effects.specs.Pieces.{IsServed}
use Rattle.fault_effects.proofs.ShareLists.{shares_join}
use Rattle.fault_effects.proofs.OwnerGroups.{owned_in}
use Rattle.fault_effects.proofs.piece.share_logic.Goals as goal

pub returns : goal.returns
returns g c =
    let w = c.args.work.now in
    let o = w.observer.now in
    let t = w.parts.now in
    let means = g.O.Observer.means o in
    let m = g.O.Observer.model o in
    let b = g.O.Observer.block o in
    let suspects = w.suspects.now in
    let groups = w.owners.now in
    let N = length t.netlist.nets in
    let owner_at : ℕ → ℕ = λ i. owner t (suspect_at suspects i).fault in
    let none = c.args.shares.now in
    let one = c.share_items.new.shares in
    let count : c.len-count.result ≡ N = c.len-count.ensures ∙ ap length (c.nets.ensures.value ∙ ap (λ (n : Netlist). n.nets) c.circuit.ensures.value) in
    let pins = c.group-pins.result.now in
    let pins_are : pins ≡ get_or groups N [] = c.group-pins.ensures ∙ ap (λ (n : ℕ). get_or groups n []) count in
    on_ok_weaker c.share_items-2.result
    (λ (last : Shares means m b suspects (IsServed t suspects Pins pins) one c.share_items-2.new.shares). shares_join means m b suspects (IsServed t suspects Nets c.args.nets.now) (IsServed t suspects Pins pins) (λ i. owner_at i < N + 1) none one c.share_items-2.new.shares c.in_ok-share_items.ensures.shares last
    (λ i lt below. elim (cases_eq (owner_at i) N) [
      | inl same ↦ inr (owned_in t suspects groups N pins c.requires.work.owners pins_are i lt same)
      | inr other ↦ inl (c.requires.all i lt (omega (arith, below, other)))
    ]))
    c.share_items-2.ensures.shares
