-- The four texts of a design.
use Rattle.std.specs.Prelude.{ℕ, List}
use Rattle.scan_model.specs.declared.fault.Profile.{Profile}

-- the four texts of a design, and its profile
pub record FourTexts : Type 0 where
  pub profile : Profile
  pub netlist : List ℕ
  pub scan : List ℕ
  pub patterns : List ℕ
  pub neighbours : List ℕ

abbrev pub four : Profile → List ℕ → List ℕ → List ℕ → List ℕ → FourTexts
four profile netlist scan patterns neighbours = record { profile = profile; netlist = netlist; scan = scan; patterns = patterns; neighbours = neighbours }
