use Rattle.std.proofs.Common.{ℕ, sym, subst, inl, inr, arith}
use Rattle.std.proofs.lemmas.Bool.{cases_eq, cases_lt}
use Rattle.scan_model.specs.declared.fault.Fault.TheVariants as fault
use Rattle.fault_effects.specs.Walks.{IsNetDone}
use Rattle.fault_effects.proofs.NetPoints.{done_unobserved}
use Rattle.fault_effects.proofs.WalkNotes.{done_kept, renoted_join}
use Rattle.fault_effects.proofs.loaded_chain.LoadedChain.note_moved.Goals as goal

pub next_moved-requires : goal.next_moved-requires
next_moved-requires g c = c.requires.work.belongs.built

pub loop-net-preserved : goal.loop-net-preserved
loop-net-preserved g c =
    let self = c.args.self.now in
    let t = self.work.now.parts.now in
    let m = g.O.Observer.model self.work.now.observer.now in
    let b = self.work.now.block in
    let h = self.chain in
    let f = fault.Cell h self.pos self.kind in
    let net = c.in-Some.net in
    let old = c.loop-net.notes.rows.items in
    let new = c.note_changed.new.notes.rows.items in
    let Done : ℕ → Type 0 = IsNetDone t m b f h new in
    record {
      notes = c.note_changed.ensures.notes;
      renoted = renoted_join m b f c.args.notes.now.rows.items old new c.loop-net.invariant.renoted c.note_changed.ensures.renoted;
      done = λ n lt is. elim (cases_eq n net) [
        | inl same ↦ subst Done (sym same) c.note_changed.ensures.done
        | inr other ↦ elim (cases_lt n c.loop-net.from) [
          | inl below ↦ done_kept m b f t h old new c.note_changed.ensures.renoted n (c.loop-net.invariant.done n below is)
          | inr above ↦ done_unobserved t m b f h new n (λ observed. c.in-Some.ensures.3 n (omega arith) (omega arith) (is, observed))
        ]
      ];
      from_le = omega (arith, c.in-Some.ensures.1);
    }

pub returns-clause-done : goal.returns-clause-done
returns-clause-done g c = λ n n_lt is.
    let self = c.args.self.now in
    elim (cases_lt n c.loop-net.from) [
      | inl below ↦ c.loop-net.invariant.done n below is
      | inr above ↦ done_unobserved self.work.now.parts.now (g.O.Observer.model self.work.now.observer.now) self.work.now.block (fault.Cell self.chain self.pos self.kind) self.chain c.loop-net.notes.rows.items n
          (λ observed. c.in_default.ensures n (omega arith) n_lt (is, observed))
    ]
