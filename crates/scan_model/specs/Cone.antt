-- Fan-in and fan-out cones.
use Rattle.std.specs.Prelude.{ℕ, suc, List, length, filter, Bool, false, ◌==◌, ◌||◌}
use Rattle.scan_model.specs.Netlist.{Netlist, driver_of, net_numbers}
use Rattle.scan_model.specs.Walks.{along, any_read}

-- m is n, or n is a gate that reads a net in whose fan-in cone m lies
abbrev pub in_fan_in : Netlist → ℕ → ℕ → Bool
in_fan_in c m n = along false (λ k below. (k == m) || any_read c (driver_of c k) below k) (suc (length c.nets)) n

-- the cones, in rising numbers
abbrev pub fan_in : Netlist → ℕ → List ℕ
fan_in c n = filter (λ m. in_fan_in c m n) (net_numbers c)

abbrev pub fan_out : Netlist → ℕ → List ℕ
fan_out c m = filter (λ n. in_fan_in c m n) (net_numbers c)
