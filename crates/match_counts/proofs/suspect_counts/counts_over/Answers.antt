use Rattle.std.specs.Prelude.{◌≡◌, Some, slice_get}
use Rattle.std.proofs.lemmas.List.Elements.{All-weaker}
use Rattle.scan_model.specs.Universe.{universe}
use Rattle.scan_model.specs.Response.{predicts_fail}
use Rattle.scan_model.specs.Coverage.{bits_of}
use Rattle.scan_model.specs.Classes.{class}
use Rattle.fault_effects.specs.declared.suspect.Suspect.{Suspect}
use Rattle.fault_effects.specs.Owners.{IsSuspectOf}
use Rattle.match_counts.proofs.suspect_counts.counts_over.Goals as goal

pub returns : goal.returns
returns g c = λ logs stands.
    let t = c.args.parts.now in
    c.list_candidates.ensures (universe t) (bits_of t) (class t logs) (predicts_fail t)
    (All-weaker (IsSuspectOf t) (λ (s : Suspect). slice_get (universe t) s.place ≡ Some s.fault) (λ s is. is.at) c.args.suspects.now c.requires.suspects)
    (c.in_ok-totals.ensures.whole logs stands)
