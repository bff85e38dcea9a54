use Rattle.std.proofs.Common.{ℕ, sym, subst, ◌∙◌, inl, inr}
use Rattle.std.proofs.lemmas.Bool.{cases_eq}
use Rattle.scan_model.specs.declared.fault.Fault.TheVariants as fault
use Rattle.fault_effects.specs.Walks.{IsFresh}
use Rattle.fault_effects.proofs.loaded_chain.LoadedChain.note_place.Goals as goal

pub row-row-requires-clause-ready : goal.row-row-requires-clause-ready
row-row-requires-clause-ready g c = c.requires.work.ready

pub row-row-requires-clause-chain : goal.row-row-requires-clause-chain
row-row-requires-clause-chain g c = rw c.requires.work.test c.args.self.now.chain_within

pub row-row-requires-clause-pos : goal.row-row-requires-clause-pos
row-row-requires-clause-pos g c = rw c.requires.work.test c.args.self.now.pos_within

pub row-row-requires-clause-loaded : goal.row-row-requires-clause-loaded
row-row-requires-clause-loaded g c = rw (c.requires.work.test, c.requires.work.good, c.requires.work.block) c.args.self.now.loaded

pub row-row-requires-clause-place : goal.row-row-requires-clause-place
row-row-requires-clause-place g c = c.requires.place

pub note_row-requires-clause-notes : goal.note_row-requires-clause-notes
note_row-requires-clause-notes g c = c.requires.notes

pub note_row-requires-clause-place : goal.note_row-requires-clause-place
note_row-requires-clause-place g c = c.requires.place

pub returns-clause-notes : goal.returns-clause-notes
returns-clause-notes g c = c.note_row.ensures.notes

pub returns-clause-fresh : goal.returns-clause-fresh
returns-clause-fresh g c j lt = c.note_row.ensures.here j lt ∙ rw c.requires.work.block at (c.row-row.ensures j lt)

pub returns-clause-renoted : goal.returns-clause-renoted
returns-clause-renoted g c q =
    let self = c.args.self.now in
    let Fresh : ℕ → Type 0 = IsFresh (g.O.Observer.model self.work.now.observer.now) self.work.now.block (fault.Cell self.chain self.pos self.kind) c.note_row.new.notes.rows.items in
    elim (cases_eq q c.args.place) [
      | inl same ↦ inl (subst Fresh (sym same) (returns-clause-fresh g c))
      | inr other ↦ inr (c.note_row.ensures.others q other)
    ]
