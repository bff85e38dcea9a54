use Rattle.std.proofs.Common.{◌≡◌, ℕ, List, [], ◌∷◌, length, ap, subst, ◌∙◌, arith}
use Rattle.scan_model.specs.declared.logs.Bit.{Bit}
use Rattle.scan_model.specs.declared.logs.LogFacts.{LogFacts}
use Rattle.scan_model.specs.ScanTest.{points_of}
use Rattle.scan_model.specs.Suspect.{suspects}
use Rattle.scan_model.specs.MatchCounts.{counts_of}
use Rattle.match_counts.proofs.BlockSums.{suspects_few}
use Rattle.chain_compactor.specs.TracedBits.{AreBits, ListsUpstreamBits, complete_log}
use Rattle.chain_compactor.proofs.Explained.{complete_fits, none_explained}
use Rattle.chain_compactor.proofs.tracing.traced_places.Goals as goal

pub add-requires : goal.add-requires
add-requires c =
    let t = c.args.parts.now in
    let bits : List Bit = c.in-Some.bits in
    let patterns : c.len-patterns.result ≡ length t.patterns = c.len-patterns.ensures ∙ ap length c.patterns.ensures.value in
    let points : c.len.result ≡ length (points_of t) = c.len.ensures ∙ ap length c.points.ensures.value in
    let within : AreBits (length t.patterns) (length (points_of t)) bits = rw c.in-Some.is at c.in_ok-bits.ensures.within in
    let log_is : c.in_ok-log.log ≡ complete_log (length t.patterns) bits = c.in_ok-log.ensures ∙ ap (λ (n : ℕ). complete_log n bits) patterns in
    let rows : c.in_ok-upstream_log.upstream_log.patterns ≡ length t.patterns = c.in_ok-upstream_log.ensures.size.0 ∙ patterns in
    let width : c.in_ok-upstream_log.upstream_log.points ≡ length (points_of t) = c.in_ok-upstream_log.ensures.size.1 ∙ points in
    rw (rows, width, log_is) (complete_fits (length t.patterns) (length (points_of t)) bits (omega (arith, c.if-patterns-eq0.false, patterns)) within)

pub returns-clause-suspects : goal.returns-clause-suspects
returns-clause-suspects c =
    let plain : List LogFacts = c.in_ok-log.log ∷ [] in
    (plain, c.in_ok-places.ensures.suspects plain (c.add.ensures.joined [] c.in_ok-upstream_log.ensures.empty))

pub returns-clause-few : goal.returns-clause-few
returns-clause-few c =
    let t = c.args.parts.now in
    let plain : List LogFacts = c.in_ok-log.log ∷ [] in
    let traced : c.in_ok-places.places ≡ suspects t plain = c.in_ok-places.ensures.suspects plain (c.add.ensures.joined [] c.in_ok-upstream_log.ensures.empty) in
    omega (arith, ap length traced, suspects_few t plain, c.universe_len.ensures, c.universe_len.type_inv)

pub returns-clause-outside : goal.returns-clause-outside
returns-clause-outside c = λ logs stands k f at unlisted.
    let t = c.args.parts.now in
    let compact = c.args.compact.now in
    let bits : List Bit = c.in-Some.bits in
    let patterns : c.len-patterns.result ≡ length t.patterns = c.len-patterns.ensures ∙ ap length c.patterns.ensures.value in
    let log_is : c.in_ok-log.log ≡ complete_log (length t.patterns) bits = c.in_ok-log.ensures ∙ ap (λ (n : ℕ). complete_log n bits) patterns in
    let listed : ListsUpstreamBits t compact logs bits = rw c.in-Some.is at (c.in_ok-bits.ensures.listed logs stands) in
    let Unexplained : LogFacts → Type 0 = λ log. (counts_of t (log ∷ []) f).tfsf ≡ 0 in
    none_explained t c.patterns.ensures.fits compact c.requires.made logs bits listed f
    (subst Unexplained log_is (c.in_ok-places.ensures.outside (c.in_ok-log.log ∷ []) (c.add.ensures.joined [] c.in_ok-upstream_log.ensures.empty) k f at unlisted))
