use Rattle.std.proofs.Common.{map, ap, ◌∙◌}
use Rattle.chain_compactor.proofs.reading.read_lines.Goals as goal

pub take_lines-requires-clause-names : goal.take_lines-requires-clause-names
take_lines-requires-clause-names c = c.in_ok-names.ensures ∙ ap (map (λ h. h.name)) (c.as_slice.ensures ∙ c.chains.ensures.value)
