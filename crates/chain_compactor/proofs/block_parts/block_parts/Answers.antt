use Rattle.std.proofs.Common.{◌≡◌, ℕ, ◌+◌, ◌<◌, ◌++◌, List, [], length, get_or, sym, ap, subst, ◌∙◌, inl, inr, arith}
use Rattle.std.proofs.lemmas.Bool.{cases_eq}
use Rattle.scan_model.specs.Netlist.{Netlist}
use Rattle.fault_effects.specs.declared.share.Share.{Share}
use Rattle.fault_effects.specs.declared.work_kind.WorkKind.TheVariants.{Cells}
use Rattle.fault_effects.specs.Owners.{owner, suspect_at}
use Rattle.fault_effects.specs.Pieces.{IsServed}
use Rattle.fault_effects.specs.Shares.{Shares}
use Rattle.fault_effects.proofs.OwnerGroups.{owned_in}
use Rattle.fault_effects.proofs.PieceShares.{shares_behind}
use Rattle.fault_effects.proofs.ShareLists.{shares_join}
use Rattle.chain_compactor.proofs.block_parts.block_parts.Goals as goal

-- the logic is what the first lists serve, and cells are the rest
pub returns : goal.returns
returns g c =
    let w = c.args.work.now in
    let o = w.observer.now in
    let t = w.parts.now in
    let count = length t.netlist.nets in
    let owner_at : ℕ → ℕ = λ i. owner t (suspect_at w.suspects.now i).fault in
    let cells = c.group.result.now in
    let served = IsServed t w.suspects.now Cells cells in
    let logic = c.in_ok-shares.shares in
    let means = g.O.Observer.means o in
    let model = g.O.Observer.model o in
    let block = g.O.Observer.block o in
    let nets : c.len-count.result ≡ count = c.len-count.ensures ∙ ap length (c.nets.ensures.value ∙ ap (λ (n : Netlist). n.nets) c.circuit.ensures.value) in
    let cells_are : cells ≡ get_or w.owners.now (count + 1) [] = c.group.ensures ∙ ap (λ (n : ℕ). get_or w.owners.now (n + 1) []) nets in
    let Joined : List (Share g.row.O-Part.Denot) → Type 0 = Shares means model block w.suspects.now served logic in
    let behind : Joined c.append.new.shares = subst Joined (sym (c.in_ok-append.ensures ∙ ap (λ (piece : List (Share g.row.O-Part.Denot)). logic ++ piece) c.as_slice.ensures))
    (shares_behind means model block w.suspects.now served logic c.in_ok-cells.cells c.in_ok-cells.ensures) in
    shares_join means model block w.suspects.now (λ i. owner_at i < count + 1) served (λ i. owner_at i < count + 2) [] logic c.append.new.shares c.in_ok-shares.ensures behind
    (λ i lt below. elim (cases_eq (owner_at i) (count + 1)) [
      | inl same ↦ inr (owned_in t w.suspects.now w.owners.now (count + 1) cells c.requires.work.owners cells_are i lt same)
      | inr other ↦ inl (omega (arith, below, other))
    ])
