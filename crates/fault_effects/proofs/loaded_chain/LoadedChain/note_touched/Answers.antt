use Rattle.std.proofs.Common.{ℕ, get_or, sym, subst, ◌∙◌, inl, inr, arith}
use Rattle.std.proofs.lemmas.Bool.{cases_eq}
use Rattle.std.proofs.lemmas.List.{get_or_default}
use Rattle.scan_model.specs.declared.fault.Fault.TheVariants as fault
use Rattle.fault_effects.specs.Walks.{AreFreshAt}
use Rattle.fault_effects.proofs.NetPoints.{own_all_below}
use Rattle.fault_effects.proofs.WalkNotes.{net_kept, renoted_join}
use Rattle.fault_effects.proofs.loaded_chain.LoadedChain.note_touched.Goals as goal

pub note_net-requires-clause-net : goal.note_net-requires-clause-net
note_net-requires-clause-net g c =
    let self = c.args.self.now in
    own_all_below self.work.now.parts.now self.work.now.good.now self.scratch.now c.nets-nets.result.now c.requires.work.belongs self.loaded.inside c.nets-nets.ensures.all c.loop-net.net-index _ c.loop-net-test.true

pub loop-net-preserved : goal.loop-net-preserved
loop-net-preserved g c =
    let self = c.args.self.now in
    let t = self.work.now.parts.now in
    let m = g.O.Observer.model self.work.now.observer.now in
    let b = self.work.now.block in
    let f = fault.Cell self.chain self.pos self.kind in
    let nets = c.nets-nets.result.now in
    let at = c.loop-net.net-index in
    let old = c.loop-net.notes.rows.items in
    let new = c.note_net.new.notes.rows.items in
    let Fresh : ℕ → Type 0 = λ i. AreFreshAt t m b f new (get_or nets i 0) in
    record {
      notes = c.note_net.ensures.notes;
      renoted = renoted_join m b f c.args.notes.now.rows.items old new c.loop-net.invariant.renoted c.note_net.ensures.renoted;
      fresh = λ i lt. elim (cases_eq i at) [
        | inl same ↦ subst Fresh (sym same) c.note_net.ensures.fresh
        | inr other ↦ net_kept m b f t old new c.note_net.ensures.renoted (get_or nets i 0) (c.loop-net.invariant.fresh i (omega arith))
      ];
    }

pub returns-clause-renoted : goal.returns-clause-renoted
returns-clause-renoted g c = c.loop-net.invariant.renoted

pub returns-clause-fresh : goal.returns-clause-fresh
returns-clause-fresh g c = λ n own.
    let self = c.args.self.now in
    let nets = c.nets-nets.result.now in
    let Fresh : ℕ → Type 0 = AreFreshAt self.work.now.parts.now (g.O.Observer.model self.work.now.observer.now) self.work.now.block (fault.Cell self.chain self.pos self.kind) c.loop-net.notes.rows.items in
    let at = (c.nets-nets.ensures.all n).1 own in
    subst Fresh (get_or_default nets at.0 0 n at.1 ∙ at.2) (c.loop-net.invariant.fresh at.0 (omega (arith, at.1, c.loop-net-test.false)))
