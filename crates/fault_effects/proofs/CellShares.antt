-- A suspect that the group of cells owns is a fault of a shift path.
use Rattle.std.proofs.Common.{◌≡◌, ℕ, ◌+◌, length, refl, arith}
use Rattle.scan_model.specs.declared.fault.CellKind.{CellKind}
use Rattle.scan_model.specs.declared.fault.Fault.{Fault}
use Rattle.scan_model.specs.declared.fault.Fault.TheVariants as fault
use Rattle.scan_model.specs.ScanTest.{ScanTest, IsScanTest, HasSite}
use Rattle.fault_effects.specs.Owners.{owner}
use Rattle.fault_effects.proofs.Owned.{IsOfPath, not_past}

-- the fault is one of a shift path
pub record IsCell (f : Fault) : Type 0 where
  pub chain : ℕ
  pub pos : ℕ
  pub kind : CellKind
  pub is : f ≡ fault.Cell chain pos kind

pub cell_owned : (t : ScanTest) (f : Fault) → IsScanTest t → HasSite t f → owner t f ≡ length t.netlist.nets + 1 → IsCell f
cell_owned t f sound site owned = of f owned (not_past t f 1 sound site owned (omega arith))
  where
    of : (f : Fault) → owner t f ≡ length t.netlist.nets + 1 → IsOfPath f → IsCell f
    of (fault.Stem n v) owned is = absurd is
    of (fault.Branch p v) owned is = absurd is
    of (fault.Bridge a b kind) owned is = absurd is
    of (fault.Cell h c kind) owned is = record { chain = h; pos = c; kind = kind; is = refl }
