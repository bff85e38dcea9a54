-- In a pattern that only shifts the value of a cell's net isn't its load: such a pattern has no input values, so
-- the loads go to the inputs first. A circuit of one input, read by one flop, which is the one cell.
use Rattle.std.specs.Prelude.{◌≡◌, [], ◌∷◌, refl}
use Rattle.scan_model.specs.declared.fault.Profile.TheVariants as profile
use Rattle.scan_model.specs.declared.values.Tri.TheVariants.{One, Unknown}
use Rattle.scan_model.specs.declared.circuit.Driver.TheVariants.{Input, Flop}
use Rattle.scan_model.specs.declared.circuit.PinPlace.TheVariants.{Operand}
use Rattle.scan_model.specs.declared.parts.PatternKind.TheVariants.{Shift}
use Rattle.scan_model.specs.ScanTest.{ScanTest}
use Rattle.scan_model.specs.NetValue.{values_of, good_value}
use Rattle.scan_model.specs.Loads.{load, cell}

abbrev one_flop : ScanTest
one_flop = record {
  profile = profile.One;
  netlist = record {
    nets = record { name = []; driver = Input; first_pin = 0; pin_count = 0 } ∷ record { name = []; driver = Flop; first_pin = 0; pin_count = 1 } ∷ [];
    pins = record { net = 0; place = Operand 1 0 } ∷ [];
    inputs = 0 ∷ [];
    outputs = [];
  };
  chains = record { name = []; cells = 1 ∷ [] } ∷ [];
  patterns = record { kind = Shift; inputs = []; loads = (One ∷ []) ∷ [] } ∷ [];
  pairs = record { kept = []; left_out = [] };
}

its_load : load one_flop 0 0 ≡ One ∷ []
its_load = refl

its_value : good_value one_flop 0 (cell one_flop 0 0) ≡ Unknown
unfolding values_of
its_value = refl
