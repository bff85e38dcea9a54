-- Changes for which all room is ready.
use Rattle.std.specs.Prelude.{◌≡◌, ◌<◌, ℕ, true, List, Some, slice_get}
use Rattle.std.specs.List.{position}
use Rattle.std.specs.Arc.{arc_value}
use Rattle.book.specs.declared.state.ready.ReadyDesign.{ReadyDesign}
use Rattle.book.specs.declared.state.ready.ReadyLog.{ReadyLog}
use Rattle.book.specs.declared.state.ready.ReadySign.{ReadySign}
use Rattle.book.specs.LegalDeeds.{fits}
use Rattle.book.specs.Kinds.{design_deed, log_deed, sign_deed}
use Rattle.book.specs.Changes.{StandsIn}
use Rattle.book.specs.Dies.{DieFacts, is_die}
use Rattle.book.specs.State.{StateFacts}

pub record IsReadyDesign (kept : StateFacts) (ready : ReadyDesign) : Type 0 where
  pub is : ready.deed ≡ design_deed ready.deed.by (arc_value ready.design)
  pub fit : fits kept.deeds (design_deed ready.deed.by (arc_value ready.design)).what ≡ true
  pub room : 0 < kept.room
  pub next : kept.designs.next ≡ Some (arc_value ready.design)

pub record IsReadyLog (kept : StateFacts) (ready : ReadyLog) : Type 0 where
  pub is : ready.deed ≡ log_deed ready.deed.by (arc_value ready.log)
  pub fit : fits kept.deeds (log_deed ready.deed.by (arc_value ready.log)).what ≡ true
  pub stands : StandsIn kept.deeds (arc_value ready.log)
  pub room : 0 < kept.room
  pub place : position (is_die (arc_value ready.log).design (arc_value ready.log).die) kept.dies ≡ Some ready.place
  pub log_room : (k : DieFacts) → slice_get kept.dies ready.place ≡ Some k → 0 < k.log_room

pub record IsReadySign (kept : StateFacts) (ready : ReadySign) : Type 0 where
  pub design : List ℕ
  pub die : List ℕ
  pub is : ready.deed ≡ sign_deed ready.deed.by design die ready.sign
  pub fit : fits kept.deeds (sign_deed ready.deed.by design die ready.sign).what ≡ true
  pub room : 0 < kept.room
  pub place : position (is_die design die) kept.dies ≡ Some ready.place
  pub sign_room : (k : DieFacts) → slice_get kept.dies ready.place ≡ Some k → 0 < k.sign_room
