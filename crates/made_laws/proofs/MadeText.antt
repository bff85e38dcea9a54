-- The lines of the netlist that the generator makes.
use Rattle.std.proofs.Common.{◌≡◌, ℕ, ◌*◌, ◌≤◌, true, false, eqb, List, [], ◌∷◌, map, refl, sym, ap, ◌∙◌, append_assoc, arith}
use Rattle.std.specs.List.{AllByRecursion}
use Rattle.std.proofs.lemmas.Bool.Decides.{nat_tests}
use Rattle.scan_model.specs.Lines.{text_lines}
use Rattle.diag_report.proofs.PlainWords.{first_line}
use Rattle.made_laws.specs.MadeNetlist.{made_netlist}
use Rattle.made_laws.proofs.Plans.{Plan, line_of, IsPlan}
use Rattle.made_laws.proofs.NetForms.{is_plain, plain_lacks, plain_line, text_of}
use Rattle.made_laws.proofs.NetRounds.{numbered_plans}
use Rattle.made_laws.proofs.MadeNames.{net_key}
use Rattle.made_laws.proofs.MadePlans.{made_plans, made_numbered, made_text}

no_feed : (b : ℕ) → is_plain b ≡ true → eqb b 10 ≡ false
no_feed b e = grind (arith, nat_tests, e)

no_return : (b : ℕ) → is_plain b ≡ true → eqb b 13 ≡ false
no_return b e = grind (arith, nat_tests, e)

lines_of : (ps : List Plan) → AllByRecursion IsPlan ps → text_lines (text_of ps) ≡ map line_of ps
lines_of [] are = refl
lines_of (p ∷ ps) are =
    let plain = plain_line p are.0 in
    ap text_lines (append_assoc (line_of p) (10 ∷ []) (text_of ps))
    ∙ first_line (line_of p) (text_of ps) (plain_lacks (λ b. eqb b 10) no_feed (line_of p) plain) (plain_lacks (λ b. eqb b 13) no_return (line_of p) plain)
    ∙ ap (λ (ls : List (List ℕ)). line_of p ∷ ls) (lines_of ps are.1)

pub made_lines : (seed blocks : ℕ) → blocks ≤ 200 → text_lines (made_netlist seed blocks) ≡ map line_of (made_plans seed blocks)
made_lines seed blocks few =
    ap text_lines (sym (made_text seed blocks)) ∙ lines_of (made_plans seed blocks) (numbered_plans (net_key blocks) 0 (made_plans seed blocks) (115 * blocks) (made_numbered seed blocks few))
