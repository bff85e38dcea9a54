use Rattle.std.proofs.Common.{◌≡◌, ℕ, ◌<◌, List, length, sym, ap, subst, ◌∙◌, arith}
use Rattle.std.specs.Prelude.{All}
use Rattle.scan_model.specs.Universe.{universe}
use Rattle.fault_effects.specs.declared.suspect.Suspect.{Suspect}
use Rattle.fault_effects.specs.Owners.{AreOwners, places_of, owner, suspect_at}
use Rattle.slat_view.specs.Tests.{HaveAllFits}
use Rattle.slat_view.proofs.die_suspects.DieSuspects.make.Goals as goal

pub owners_of-requires-clause-few : goal.owners_of-requires-clause-few
owners_of-requires-clause-few c = omega (arith, ap length c.as_slice-2.ensures, c.in_ok-suspects.ensures.few, ap length c.as_slice.ensures, c.in_ok-places.ensures.few, c.universe_len.ensures)

pub returns-clause-prepared : goal.returns-clause-prepared
returns-clause-prepared c =
    let t = c.args.parts.now in
    let found = c.in_ok-suspects.suspects in
    let Owners : List Suspect → Type 0 = λ ss. AreOwners t ss c.in_ok-owners.owners in
    let owned : AreOwners t found c.in_ok-owners.owners = subst Owners c.as_slice-2.ensures c.in_ok-owners.ensures.groups in
    record {
      good = c.requires.good;
      joined = c.requires.joined;
      suspects = c.in_ok-suspects.ensures.each;
      groups = c.in_ok-owners.ensures.len;
      owners = owned;
      reads = c.in_ok-reads.ensures;
      nets = c.in_ok-nets.ensures.within;
      listed = λ i lt below. let there = owned.all i lt in c.in_ok-nets.ensures.all (owner t (suspect_at found i).fault) below (omega (arith, there.1));
    }

pub returns-clause-fits : goal.returns-clause-fits
returns-clause-fits c = λ logs stands.
    let t = c.args.parts.now in
    let Below : List ℕ → Type 0 = λ ps. All (λ p. p < length (universe t)) ps in
    let found : places_of c.in_ok-suspects.suspects ≡ c.in_ok-places.places = c.in_ok-suspects.ensures.places (subst Below (sym c.as_slice.ensures) c.in_ok-places.ensures.below) ∙ c.as_slice.ensures in
    subst (HaveAllFits t logs) (sym found) (c.in_ok-places.ensures.fits logs stands)
