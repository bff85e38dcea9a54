use Rattle.std.proofs.Common.{◌≡◌, ℕ, ◌+◌, List, [], ◌∷◌, ◌++◌, true, length, sym, ap, ◌∙◌, inl, inr, arith, rules}
use Rattle.std.specs.Result.{is_ok}
use Rattle.std.proofs.lemmas.Bool.{cases_eq}
use Rattle.std.proofs.lemmas.List.{get_or_push, get_or_append_left, length-append}
use Rattle.scan_model.specs.Netlist.{Netlist}
use Rattle.lane_rows.specs.Groups.{members}
use Rattle.fault_effects.specs.Owners.{owner, suspect_at}
use Rattle.fault_effects.proofs.OwnerGroups.{grouped}
use Rattle.fault_effects.proofs.owners.owners_of.Goals as goal

pub returns-clause-groups : goal.returns-clause-groups
returns-clause-groups c =
    let t = c.args.parts.now in
    let suspects = c.args.suspects.now in
    let keys = c.loop-suspect.keys.items in
    let inv = c.loop-suspect.invariant in
    let whole : c.loop-suspect.suspect-index ≡ length suspects = omega arith in
    let nets : c.len.result ≡ length t.netlist.nets = c.len.ensures ∙ ap length (c.nets.ensures.value ∙ ap (λ (n : Netlist). n.nets) c.circuit.ensures.value) in
    grouped t suspects keys c.in_ok-groups.groups (c.len.result + 2) (inv.len ∙ whole) c.in_ok-groups.ensures.len (λ i lt. inv.keys i (omega arith))
    (λ i lt. omega (arith, inv.below i (omega arith), inv.keys i (omega arith), nets))
    (λ k lt. c.in_ok-groups.ensures.groups k lt ∙ ap (λ (ks : List ℕ). members ks k (length ks)) c.deref.ensures.value)

pub loop-suspect-preserved : goal.loop-suspect-preserved
loop-suspect-preserved c =
    let t = c.args.parts.now in
    let suspects = c.args.suspects.now in
    let at = c.loop-suspect.suspect-index in
    let old = c.loop-suspect.keys.items in
    let key = c.owner.result in
    let inv = c.loop-suspect.invariant in
    let good : is_ok c.push.result ≡ true = search rules in
    let items : c.push.new.self.items ≡ old ++ key ∷ [] = rw good at c.push.ensures.items in
    let is : key ≡ owner t (suspect_at suspects at).fault = search rules in
    record {
      len = ap length items ∙ omega (arith, length-append old (key ∷ []), inv.len);
      keys = λ i lt. rw items (elim (cases_eq i at) [
        | inl same ↦ get_or_push old key 0 i (inv.len ∙ sym same) ∙ is ∙ ap (λ (k : ℕ). owner t (suspect_at suspects k).fault) (sym same)
        | inr other ↦ get_or_append_left old (key ∷ []) 0 i (omega (arith, lt, other, inv.len)) ∙ inv.keys i (omega (arith, lt, other))
      ]);
      below = λ i lt. rw items (elim (cases_eq i at) [
        | inl same ↦ omega (arith, get_or_push old key 0 i (inv.len ∙ sym same), c.owner.ensures.below)
        | inr other ↦ omega (arith, get_or_append_left old (key ∷ []) 0 i (omega (arith, lt, other, inv.len)), inv.below i (omega (arith, lt, other)))
      ]);
    }
