use Rattle.std.proofs.Common.{◌≡◌, ◌++◌, length, option_map}
use Rattle.scan_model.specs.Lines.{has_refused_byte}
use Rattle.scan_model.specs.NetlistLines.{listed_names}
use Rattle.text_parts.specs.Views.{nows}
use Rattle.bench_lines.specs.Parts.{line_tokens}
use Rattle.bench_lines.proofs.line.listed.Given as goal

abbrev pub invariant-loop-name : goal.invariant-loop-name
invariant-loop-name l = record {
  so_far : option_map (λ ws. nows l.names.items ++ ws) (listed_names (line_tokens l.rest)) ≡ listed_names (line_tokens l.line);
  refused : has_refused_byte l.rest ≡ has_refused_byte l.line;
}

abbrev pub decreases-loop-name : goal.decreases-loop-name
decreases-loop-name l = length l.rest
