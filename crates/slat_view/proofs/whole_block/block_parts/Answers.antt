use Rattle.std.proofs.Common.{◌≡◌, ℕ, ◌+◌, ◌<◌, List, [], length, get_or, sym, ap, subst, ◌∙◌, inl, inr, arith}
use Rattle.std.specs.List.{flat_map}
use Rattle.std.proofs.lemmas.Bool.{cases_eq}
use Rattle.scan_model.specs.Netlist.{Netlist}
use Rattle.fault_effects.specs.declared.share.Share.{Share}
use Rattle.fault_effects.specs.declared.work_kind.WorkKind.TheVariants.{Cells}
use Rattle.fault_effects.specs.Owners.{owner, suspect_at}
use Rattle.fault_effects.specs.Pieces.{IsServed}
use Rattle.fault_effects.proofs.PieceShares.{shares_behind}
use Rattle.fault_effects.proofs.ShareLists.{shares_join}
use Rattle.fault_effects.proofs.OwnerGroups.{owned_in}
use Rattle.slat_view.specs.FitWork.{FitShares, model_of, block_of}
use Rattle.slat_view.specs.Trials.{AreFitting}
use Rattle.slat_view.proofs.whole_block.block_parts.Goals as goal

pub returns : goal.returns
returns g c =
    let w = c.args.work.now in
    let t = w.parts.now in
    let o = w.observer.now in
    let suspects = w.suspects.now in
    let N = length t.netlist.nets in
    let owner_at : ℕ → ℕ = λ i. owner t (suspect_at suspects i).fault in
    let group = c.group-group.result.now in
    let served = IsServed t suspects Cells group in
    let logic = c.in_ok-shares.shares in
    let cells = flat_map (λ (s : List (Share (List ℕ))). s) c.deref.result.now in
    let count : c.len-count.result ≡ N = c.len-count.ensures ∙ ap length (c.nets.ensures.value ∙ ap (λ (n : Netlist). n.nets) c.circuit.ensures.value) in
    let cells_are : group ≡ get_or w.owners.now (N + 1) [] = c.group-group.ensures ∙ ap (λ (n : ℕ). get_or w.owners.now (n + 1) []) count in
    let Pieces : List (List (Share (List ℕ))) → Type 0 = λ pieces. FitShares w served [] (flat_map (λ (s : List (Share (List ℕ))). s) pieces) in
    let of_cells : Pieces c.deref.result.now = subst Pieces (sym c.deref.ensures.value) c.in_ok-cells.ensures in
    let Joined : List (Share (List ℕ)) → Type 0 = FitShares w served logic in
    let behind : Joined c.append_all.new.shares = subst Joined (sym c.in_ok-append_all.ensures) (shares_behind (AreFitting o.points.rows.now) (model_of o) (block_of o) suspects served logic cells of_cells) in
    shares_join (AreFitting o.points.rows.now) (model_of o) (block_of o) suspects (λ i. owner_at i < N + 1) served (λ i. owner_at i < N + 2) [] logic c.append_all.new.shares c.in_ok-shares.ensures behind
    (λ i lt below. elim (cases_eq (owner_at i) (N + 1)) [
      | inl same ↦ inr (owned_in t suspects w.owners.now (N + 1) group c.requires.work.owners cells_are i lt same)
      | inr other ↦ inl (omega (arith, below, other))
    ])
