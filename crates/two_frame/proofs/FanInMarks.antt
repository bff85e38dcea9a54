-- A transition fault fails only at points to which its site leads, so one whose site leads to no failing bit explains none.
use Rattle.std.proofs.Common.{◌≡◌, ℕ, zero, suc, ◌+◌, ◌<◌, Bool, true, false, cond, nat_le, ◌&&◌, List, [], ◌∷◌, ◌++◌, length, map, get_or, set, None, refl, sym, ap, subst, ◌∙◌, inl, inr, arith}
use Rattle.std.specs.Prelude.{Contains, filter, count_by, sum_by}
use Rattle.std.specs.List.{range_with_len}
use Rattle.std.proofs.lemmas.Bool.{cases_Bool, cases_eq, both_ways, eqb-true, and_parts}
use Rattle.std.proofs.lemmas.List.{get_or-set_same, get_or-set_other}
use Rattle.std.proofs.lemmas.List.Elements.{Contains-get_or, Contains-append_left}
use Rattle.std.proofs.lemmas.List.FromFn.{get_or-map-range_with_len}
use Rattle.scan_model.specs.declared.values.Tri.{Tri}
use Rattle.scan_model.specs.declared.circuit.Driver.{Driver}
use Rattle.scan_model.specs.declared.circuit.Driver.TheVariants.{Input, Flop, Gate}
use Rattle.scan_model.specs.declared.circuit.PinPlace.{PinPlace}
use Rattle.scan_model.specs.declared.circuit.PinPlace.TheVariants as place
use Rattle.scan_model.specs.declared.fault.Stuck.{Stuck}
use Rattle.scan_model.specs.declared.fault.Fault.{Fault}
use Rattle.scan_model.specs.declared.fault.Fault.TheVariants as fault
use Rattle.scan_model.specs.declared.logs.Bit.{Bit}
use Rattle.scan_model.specs.declared.logs.LogFacts.{LogFacts}
use Rattle.scan_model.specs.declared.logs.Scored.{Scored}
use Rattle.scan_model.specs.Values.{are_opposite, tri_not}
use Rattle.scan_model.specs.Netlist.{Netlist, IsNetlist, IsPlacedAt, reads, is_gate, is_gate_driver, driver_of, pin_at, net_at}
use Rattle.scan_model.specs.Walks.{IsEvaluationOrder}
use Rattle.scan_model.specs.Cone.{in_fan_in}
use Rattle.scan_model.specs.Marks.{is_marked}
use Rattle.scan_model.specs.ChainShift.{value_at}
use Rattle.scan_model.specs.ScanTest.{ScanTest, IsScanTest, HasSite, points_of, point_at}
use Rattle.scan_model.specs.NetValue.{values_of, nothing_forced}
use Rattle.scan_model.specs.Coverage.{bit_of, bits_of, bits_over}
use Rattle.scan_model.specs.Classes.{is_failing, class_of, class_with}
use Rattle.scan_model.specs.MatchCounts.{scored_by, is_candidate}
use Rattle.scan_model.specs.Masks.{flip_shows_from, flipped_from, point_pin}
use Rattle.scan_model.specs.Universe.{bridges, cells}
use Rattle.scan_model.specs.ReportText.{no_fault}
use Rattle.scan_model.proofs.Sites.{site_of}
use Rattle.scan_model.proofs.FanSweeps.{is_read, in_own, read_of_in}
use Rattle.scan_model.proofs.counting.OneSite.{force_outside}
use Rattle.scan_model.proofs.counting.Shown.{not_opposite_itself, point_at-IsPoint, point_pin-net, observed_net-in_range, place_is_point-is}
use Rattle.packed_sim.specs.PackedParts.{observed_at}
use Rattle.match_counts.specs.Totals.{fault_in, candidates_in}
use Rattle.match_counts.proofs.CandidateRows.{all_candidates}
use Rattle.match_counts.proofs.Sums.{sum_agree_in, sum_zero, sum_of_map, sum_of_flat_map}
use Rattle.frame_rows.specs.Frames.{second_source}
use Rattle.two_frame.specs.TwoFrame.{frame_response, frame_rows, frame_class, frame_fails, transitions, frame_candidates}
use Rattle.two_frame.specs.FrameRows.{transition_at}
use Rattle.two_frame.specs.FanInMarks.{IsSeen, AreReaching, reaches}
use Rattle.two_frame.proofs.ShownFails.{stem_fails-is, gate_fails-is, pin_fails-is}

-- ---- marks

-- a mark that is set
pub kept_mark : (marks : List Bool) (net : ℕ) → net < length marks → (n : ℕ) → is_marked marks n ≡ true → is_marked (set marks net true) n ≡ true
kept_mark marks net inside n marked = elim (cases_eq n net) [
  | inl same ↦ ap (is_marked (set marks net true)) same ∙ get_or-set_same marks net true false inside
  | inr other ↦ get_or-set_other marks net n true false other ∙ marked
]

-- a bit whose net has a mark, with some marks more
module _ (nets : List ℕ) (expected : List (List Tri)) (logs : List LogFacts) (patterns w k : ℕ) (old new : List Bool) where
  pub still_seen : ((n : ℕ) → is_marked old n ≡ true → is_marked new n ≡ true) → IsSeen old nets expected logs patterns w k → IsSeen new nets expected logs patterns w k
  still_seen kept seen = λ there failing. kept (get_or nets k 0) (seen there failing)

-- ---- classes

pub class_is : (t : ScanTest) (logs : List LogFacts) (expected : List (List Tri)) (w k : ℕ) → expected ≡ frame_rows t → w < length t.patterns → class_with expected logs (bit_of w k) ≡ frame_class t logs (bit_of w k)
class_is t logs expected w k is lt =
    ap (λ (rows : List (List Tri)). class_of logs (value_at (get_or rows w []) k) (bit_of w k)) is
    ∙ ap (λ (row : List Tri). class_of logs (value_at row k) (bit_of w k)) (get_or-map-range_with_len (frame_response t None) 0 (length t.patterns) w w [] lt (omega arith))

-- ---- cones

-- a flip shows in the cone of its net alone
shows_in_cone : (c : Netlist) (order : List ℕ) → IsNetlist c → IsEvaluationOrder c order → (s : ℕ → Tri) (n o : ℕ) → o < length c.nets → flip_shows_from c s n o ≡ true → in_fan_in c n o ≡ true
shows_in_cone c order sound ordered s n o lt shows = elim (cases_Bool (in_fan_in c n o)) [
  | inl inside ↦ inside
  | inr out ↦
      let good = values_of c s nothing_forced in
      let same : flipped_from c s n o ≡ good o = force_outside c order sound ordered s n (tri_not (good n)) o lt out in
      absurd (both_ways (flip_shows_from c s n o) (ap (are_opposite (good o)) same ∙ not_opposite_itself (good o)) shows)
]

abbrev reader : PinPlace → ℕ
reader (place.Operand n i) = n
reader (place.Output k) = 0

abbrev is_operand : PinPlace → Bool
is_operand (place.Operand n i) = true
is_operand (place.Output k) = false

module _ (t : ScanTest) (sound : IsScanTest t) (order : List ℕ) (ordered : IsEvaluationOrder t.netlist order) (w k : ℕ) (lt : k < length (points_of t)) where
  net_sound : IsNetlist t.netlist
  net_sound = sound.circuit.netlist

  abbrev o : ℕ
  o = observed_at t k

  o_lt : o < length t.netlist.nets
  o_lt = observed_net-in_range t sound (point_at t k) (point_at-IsPoint t sound k lt)

  stem : (n : ℕ) (v : Stuck) → n < length t.netlist.nets → frame_fails t (fault.Stem n v) (bit_of w k) ≡ true → in_fan_in t.netlist n o ≡ true
  stem n v n_lt fails =
      shows_in_cone t.netlist order net_sound ordered (second_source t w) n o o_lt (and_parts _ _ (sym (stem_fails-is t sound order ordered w n v k n_lt lt) ∙ fails)).1

  straight : (q : ℕ) (v : Stuck) → q < length t.netlist.pins → ((n i : ℕ) → (pin_at t.netlist q).place ≡ place.Operand n i → is_gate t.netlist n ≡ false)
      → frame_fails t (fault.Branch q v) (bit_of w k) ≡ true → in_fan_in t.netlist (pin_at t.netlist q).net o ≡ true
  straight q v q_lt no_gate fails =
      let p = point_at t k in
      let is_point = point_at-IsPoint t sound k lt in
      let parts = and_parts _ _ (sym (pin_fails-is t sound order ordered w q v k q_lt no_gate lt) ∙ fails) in
      let own : point_pin t p ≡ q = eqb-true (point_pin t p) q (sym (place_is_point-is t sound q p q_lt is_point) ∙ parts.1) in
      let net : (pin_at t.netlist q).net ≡ o = ap (λ (m : ℕ). (pin_at t.netlist m).net) (sym own) ∙ point_pin-net t sound p is_point in
      ap (λ (m : ℕ). in_fan_in t.netlist m o) net ∙ in_own t.netlist o

  read_by : (q g i : ℕ) (v : Stuck) → q < length t.netlist.pins → (pin_at t.netlist q).place ≡ place.Operand g i → (d : Driver) → driver_of t.netlist g ≡ d
      → frame_fails t (fault.Branch q v) (bit_of w k) ≡ true → in_fan_in t.netlist (pin_at t.netlist q).net o ≡ true
  read_by q g i v q_lt at Input drives fails = straight q v q_lt (λ n j is. ap (λ (x : PinPlace). is_gate t.netlist (reader x)) (sym is ∙ at) ∙ ap is_gate_driver drives) fails
  read_by q g i v q_lt at Flop drives fails = straight q v q_lt (λ n j is. ap (λ (x : PinPlace). is_gate t.netlist (reader x)) (sym is ∙ at) ∙ ap is_gate_driver drives) fails
  read_by q g i v q_lt at (Gate kind) drives fails =
      let inside = shows_in_cone t.netlist order net_sound ordered (second_source t w) g o o_lt (and_parts _ _ (sym (gate_fails-is t sound order ordered w q g i kind v k q_lt at drives lt) ∙ fails)).1 in
      let stands : (g < length t.netlist.nets) × (i < (net_at t.netlist g).pin_count) × (q ≡ (net_at t.netlist g).first_pin + i) = subst (IsPlacedAt t.netlist q) at (net_sound.pin_places q q_lt) in
      let read : Contains (reads t.netlist g) (pin_at t.netlist q).net =
      subst (λ (m : ℕ). Contains (reads t.netlist g) m) (ap (λ (p : ℕ). (pin_at t.netlist p).net) (sym stands.2)) (is_read t.netlist g i stands.1) in
      read_of_in t.netlist order net_sound ordered g (pin_at t.netlist q).net o o_lt (ap is_gate_driver drives) read inside

  branch : (q : ℕ) (v : Stuck) (x : PinPlace) → q < length t.netlist.pins → (pin_at t.netlist q).place ≡ x → frame_fails t (fault.Branch q v) (bit_of w k) ≡ true → in_fan_in t.netlist (pin_at t.netlist q).net o ≡ true
  branch q v (place.Operand g i) q_lt at fails = read_by q g i v q_lt at (driver_of t.netlist g) refl fails
  branch q v (place.Output j) q_lt at fails = straight q v q_lt (λ n i is. absurd (let apart : true ≡ false = ap is_operand (sym is ∙ at) in cc)) fails

  -- at a failing bit to which its site doesn't lead a fault doesn't fail
  unreached : (logs : List LogFacts) (marks : List Bool) → AreReaching t logs marks → w < length t.patterns → (f : Fault) → HasSite t f → reaches t marks f ≡ false
      → is_failing (frame_class t logs (bit_of w k)) ≡ true → frame_fails t f (bit_of w k) ≡ true → ⊥
  unreached logs marks are w_lt (fault.Stem n v) site none failing fails = both_ways (is_marked marks n) none (are w k n w_lt lt site failing (stem n v site fails))
  unreached logs marks are w_lt (fault.Branch q v) site none failing fails =
      both_ways (is_marked marks (pin_at t.netlist q).net) none (are w k (pin_at t.netlist q).net w_lt lt (net_sound.pin_nets q site) failing (branch q v (pin_at t.netlist q).place site refl fails))
  unreached logs marks are w_lt (fault.Bridge a b kind) site none failing fails = let apart : true ≡ false = none in cc
  unreached logs marks are w_lt (fault.Cell h i kind) site none failing fails = let apart : true ≡ false = none in cc

-- ---- counts

zero_sum : (f : ℕ → ℕ) (n : ℕ) → ((k : ℕ) → k < n → f k ≡ 0) → sum_by f (range_with_len 0 n) ≡ 0
zero_sum f n none = sum_agree_in f (λ k. 0) 0 n (λ k low high. none k (omega (arith, high))) ∙ sum_zero (range_with_len 0 n)

count_none : (test : Bit → Bool) (W P : ℕ) → ((w k : ℕ) → w < W → k < P → test (bit_of w k) ≡ false) → count_by test (bits_over W P) ≡ 0
count_none test W P none =
    let one : Bit → ℕ = λ x. cond (test x) 1 0 in
    sum_of_flat_map one (λ (w : ℕ). map (bit_of w) (range_with_len 0 P)) (range_with_len 0 W)
    ∙ zero_sum (λ (w : ℕ). sum_by one (map (bit_of w) (range_with_len 0 P))) W (λ w w_lt.
    sum_of_map one (bit_of w) (range_with_len 0 P)
    ∙ zero_sum (λ (k : ℕ). one (bit_of w k)) P (λ k k_lt. ap (λ (b : Bool). cond b 1 0) (none w k w_lt k_lt)))

not_both : (a b : Bool) → (a ≡ true → b ≡ true → ⊥) → (a && b) ≡ false
not_both a b never = elim (cases_Bool (a && b)) [
  | inl both ↦ let parts = and_parts a b both in absurd (never parts.0 parts.1)
  | inr none ↦ none
]

-- what has no candidates may be left out
candidates_kept : (row : ℕ → Scored) (q : ℕ → Bool) (a n : ℕ) → ((p : ℕ) → p < a + n → q p ≡ false → is_candidate (row p) ≡ false) → filter is_candidate (map row (range_with_len a n)) ≡ filter is_candidate (map row (filter q (range_with_len a n)))
candidates_kept row q a zero none = refl
candidates_kept row q a (suc n) none =
    let F : List ℕ = filter q (range_with_len (a + 1) n) in
    let rest : filter is_candidate (map row (range_with_len (a + 1) n)) ≡ filter is_candidate (map row F) = candidates_kept row q (a + 1) n (λ p lt. none p (omega (arith, lt))) in
    elim (cases_Bool (q a)) [
      | inl is ↦ rw is (ap (λ (xs : List Scored). cond (is_candidate (row a)) (row a ∷ xs) xs) rest)
      | inr is ↦ rw (is, none a (omega arith) is) rest
    ]

-- the candidates among those that lead to a failing bit are all candidates
pub reaching_candidates : (t : ScanTest) → IsScanTest t → (order : List ℕ) → IsEvaluationOrder t.netlist order → (logs : List LogFacts) (marks : List Bool) → AreReaching t logs marks
    → candidates_in (transitions t) (bits_of t) (frame_class t logs) (frame_fails t) (filter (λ p. reaches t marks (transition_at t p)) (range_with_len 0 (length (transitions t)))) ≡ frame_candidates t logs
reaching_candidates t sound order ordered logs marks are =
    let L = length (transitions t) in
    let row : ℕ → Scored = λ p. scored_by (bits_of t) (frame_class t logs) (frame_fails t) (p, fault_in (transitions t) p) in
    sym (candidates_kept row (λ p. reaches t marks (transition_at t p)) 0 L (λ p p_lt none.
    let f = transition_at t p in
    let there : Contains (transitions t) f = Contains-get_or (transitions t) p no_fault (omega (arith, p_lt)) in
    let site : HasSite t f = site_of t f sound (Contains-append_left (transitions t ++ bridges t) (cells t) f (Contains-append_left (transitions t) (bridges t) f there)) in
    ap (nat_le 1) (count_none (λ b. is_failing (frame_class t logs b) && frame_fails t f b) (length t.patterns) (length (points_of t)) (λ w k w_lt k_lt.
    not_both (is_failing (frame_class t logs (bit_of w k))) (frame_fails t f (bit_of w k)) (unreached t sound order ordered w k k_lt logs marks are w_lt f site none)))))
    ∙ all_candidates (transitions t) (bits_of t) (frame_class t logs) (frame_fails t)
