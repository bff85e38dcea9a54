-- Kept reports that are true for what a seat had seen are true for what it sees later, and a die that it found stays.
use Rattle.std.proofs.Common.{List, sym, subst}
use Rattle.desk_outside.specs.declared.deed.Deed.{Deed}
use Rattle.diagnosis.specs.Designs.{ViewFacts}
use Rattle.book.specs.Changes.{IsViewIn}
use Rattle.shared_desk.proofs.StandsLonger.{view_longer}
use Rattle.report_cache.specs.Truth.{CacheFacts, IsTrueFor}
use Rattle.report_cache.proofs.Longer.{true_longer}
use Rattle.desk_answers.specs.Seats.{IsPrefix}

pub true_after : (cache : CacheFacts) (deeds later : List Deed) → IsPrefix deeds later → IsTrueFor cache deeds → IsTrueFor cache later
true_after cache deeds later p is = subst (IsTrueFor cache) (sym p.1) (true_longer cache deeds p.0 is)

pub view_after : (deeds later : List Deed) (v : ViewFacts) → IsPrefix deeds later → IsViewIn deeds v → IsViewIn later v
view_after deeds later v p view = subst (λ (ds : List Deed). IsViewIn ds v) (sym p.1) (view_longer deeds p.0 v view)
