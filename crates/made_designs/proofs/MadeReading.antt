-- The texts that the generator makes break no rule: they stand for a scan test.
use Rattle.std.proofs.Common.{◌≡◌, ℕ, ◌+◌, ◌*◌, ◌<◌, ◌≤◌, true, codes, List, map, Result, Ok, Err, refl, sym, ap, ap₂, ◌∙◌, arith}
use Rattle.std.specs.List.{range_with_len}
use Rattle.scan_model.specs.declared.parts.Chain.{Chain}
use Rattle.scan_model.specs.declared.parts.Pattern.{Pattern}
use Rattle.scan_model.specs.declared.parts.Pairs.{Pairs}
use Rattle.scan_model.specs.Netlist.{Netlist}
use Rattle.scan_model.specs.ScanTest.{ScanTest, scan_test}
use Rattle.scan_model.specs.NetlistText.{netlist_reading, net_number}
use Rattle.scan_model.specs.ScanText.{numbered, scan_reading, net_names}
use Rattle.scan_model.specs.PatternText.{PatternFrame, pattern_frame, pattern_reading}
use Rattle.bridge_pairs.specs.PairText.{pairs_reading}
use Rattle.design_bundle.specs.FourTexts.{FourTexts}
use Rattle.diagnosis.specs.declared.section.Section.{Section}
use Rattle.diagnosis.specs.Bundle.{texts_reading}
use Rattle.diagnosis.proofs.AreRead.{read_whole}
use Rattle.scan_model.specs.declared.fault.Profile.TheVariants.{One}
use Rattle.made_laws.specs.MadeScan.{chain_count}
use Rattle.made_laws.specs.MadeNetlist.{gate_name, made_netlist}
use Rattle.made_designs.specs.MadeTexts.{BreakNoRule, made_texts}
use Rattle.made_laws.proofs.MadeCircuit.{made_circuit, netlist_stands, input_count, cell_is_net, cell_is_flop, gate_is_net, gate_number}
use Rattle.made_laws.proofs.MadeChains.{made_chain, scan_stands, chain_lengths}
use Rattle.made_laws.proofs.MadeLoads.{made_frame, patterns_stand}
use Rattle.made_laws.proofs.MadeNeighbours.{neighbours_stand}

module _ (seed blocks : ℕ) (some : 0 < blocks) (few : blocks ≤ 200) where
  abbrev circuit : Netlist
  circuit = made_circuit seed blocks

  abbrev chains : List Chain
  chains = map (numbered circuit.nets) (map (made_chain blocks) (range_with_len 0 (chain_count blocks)))

  frame_is : pattern_frame circuit chains ≡ made_frame blocks
  frame_is = ap₂ (λ (n : ℕ) (ns : List ℕ). record { inputs = n; lengths = ns; keyword = codes "CAPTURE"; shifts = true }) (input_count seed blocks few) (chain_lengths blocks few circuit.nets)

  pub made_legal : BreakNoRule (made_texts seed blocks)
  made_legal =
      let patterns = patterns_stand seed blocks some few in
      let pairs = neighbours_stand blocks few circuit some (λ b lt. gate_is_net seed blocks few b 50 lt (omega arith)) (λ b lt. let number = gate_number seed blocks few b 50 lt (omega arith) in omega arith) in
      let t : ScanTest = scan_test One circuit chains patterns.0 pairs.0 in
      record {
        test = t;
        stands = read_whole (made_texts seed blocks) t record {
          c = circuit;
          chains = chains;
          patterns = patterns.0;
          pairs = pairs.0;
          netlist_stands = netlist_stands seed blocks few;
          scan_stands = scan_stands blocks few circuit.nets (cell_is_net seed blocks few) (cell_is_flop seed blocks few);
          patterns_stand = ap (λ (f : PatternFrame). pattern_reading f (made_texts seed blocks).patterns) frame_is ∙ patterns.1;
          neighbours_stand = pairs.1;
          whole = refl;
        };
      }
