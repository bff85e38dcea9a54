-- No bit is against where each Failing bit is shown and no Passing bit is.
use Rattle.std.proofs.Common.{◌≡◌, ℕ, zero, suc, ◌+◌, eqb, ◌&&◌, Bool, sym, ap, ◌∙◌, arith}
use Rattle.std.proofs.lemmas.Bool.{eq-eqb, ne_eqb}

-- left: the Failing bits that aren't shown, of all; against: with the Passing bits that are
pub none_against : (left all failing passing against : ℕ) → left + failing ≡ all → against ≡ left + passing → eqb against 0 ≡ (eqb failing all && eqb passing 0)
none_against zero all failing passing against down up =
    let same : against ≡ passing = omega (arith, up) in
    ap (λ (n : ℕ). eqb n 0) same ∙ ap (λ (b : Bool). b && eqb passing 0) (sym (eq-eqb failing all (omega (arith, down))))
none_against (suc n) all failing passing against down up =
    ne_eqb against 0 (λ e. omega (arith, up, e)) ∙ ap (λ (b : Bool). b && eqb passing 0) (sym (ne_eqb failing all (λ e. omega (arith, down, e))))
