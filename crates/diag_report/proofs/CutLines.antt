-- The lines of a report are its text cut behind each line feed, where no name has one.
use Rattle.std.proofs.Common.{◌≡◌, ℕ, zero, suc, ◌+◌, ◌/◌, ◌%◌, Bool, true, false, cond, eqb, ltb, List, [], ◌∷◌, ◌++◌, length, map, get_or, refl, ap, ◌∙◌, subst, sym, inl, inr, arith}
use Rattle.std.specs.Prelude.{codes, decimal}
use Rattle.std.specs.Fmt.{digit_glyph, digits_onto, digits}
use Rattle.std.specs.List.{AllByRecursion, enumerate_from}
use Rattle.std.proofs.lemmas.Bool.{cases_lt, ne_eqb}
use Rattle.std.proofs.lemmas.List.{get_or_past}
use Rattle.scan_model.specs.declared.circuit.Net.{Net}
use Rattle.scan_model.specs.declared.circuit.PinPlace.{PinPlace}
use Rattle.scan_model.specs.declared.circuit.PinPlace.TheVariants as place
use Rattle.scan_model.specs.declared.parts.Chain.{Chain}
use Rattle.scan_model.specs.declared.parts.Point.{Point}
use Rattle.scan_model.specs.declared.parts.Point.TheVariants.{Output, Cell}
use Rattle.scan_model.specs.declared.fault.Stuck.{Stuck}
use Rattle.scan_model.specs.declared.fault.Stuck.TheVariants as stuck
use Rattle.scan_model.specs.declared.fault.BridgeKind.{BridgeKind}
use Rattle.scan_model.specs.declared.fault.BridgeKind.TheVariants.{Dominant, WiredAnd, WiredOr, DominantAnd, DominantOr}
use Rattle.scan_model.specs.declared.fault.CellKind.{CellKind}
use Rattle.scan_model.specs.declared.fault.CellKind.TheVariants.{Stuck0, Stuck1, SlowRise, SlowFall}
use Rattle.scan_model.specs.declared.fault.Fault.{Fault}
use Rattle.scan_model.specs.declared.fault.Fault.TheVariants as fault
use Rattle.scan_model.specs.declared.logs.Bit.{Bit}
use Rattle.scan_model.specs.declared.logs.BitClass.{BitClass}
use Rattle.scan_model.specs.declared.logs.Scored.{Scored}
use Rattle.scan_model.specs.Netlist.{no_net, pin_at}
use Rattle.scan_model.specs.ScanTest.{ScanTest, name_of, no_chain, chain_at, point_at}
use Rattle.scan_model.specs.Lines.{pieces}
use Rattle.scan_model.specs.Words.{is_filled, is_tag}
use Rattle.scan_model.specs.Classes.{is_conflict, is_masked, is_failing, is_passing}
use Rattle.scan_model.specs.ReportText.{spaced, line, concatenated, stuck_word, cell_word, bridge_word, branch_words, fault_words, point_words, bit_line, no_fault, candidate_line, bits_in, layout_by_class}
use Rattle.report_lines.specs.ScoreWords.{score_words}
use Rattle.diag_report.specs.PredictedLog.{is_word_name, HasWordNames}
use Rattle.diag_report.proofs.Bools.{right_true}
use Rattle.diag_report.proofs.PlainWords.{not_byte, none_in_name, append_all, tag_is_name}

-- bytes without a line feed
abbrev Unbroken : List ℕ → Type 0
Unbroken bytes = AllByRecursion (λ b. eqb b 10 ≡ false) bytes

abbrev AreUnbroken : List (List ℕ) → Type 0
AreUnbroken words = AllByRecursion Unbroken words

-- ---- cutting

pieces_of_line : (body rest : List ℕ) → Unbroken body → pieces ((body ++ 10 ∷ []) ++ rest) ≡ (body ++ 10 ∷ []) ∷ pieces rest
pieces_of_line [] rest all = refl
pieces_of_line (b ∷ bs) rest all = rw (all.0, pieces_of_line bs rest all.1) refl

-- bytes without a line feed, and one at their end
abbrev IsPiece : List ℕ → Type 0
IsPiece l = (body : List ℕ) × (l ≡ body ++ 10 ∷ []) × Unbroken body

abbrev ArePieces : List (List ℕ) → Type 0
ArePieces ls = AllByRecursion IsPiece ls

pieces_of : (ls : List (List ℕ)) → ArePieces ls → pieces (concatenated ls) ≡ ls
pieces_of [] all = refl
pieces_of (l ∷ ls) all = rw all.0.1 (pieces_of_line all.0.0 (concatenated ls) all.0.2 ∙ ap (λ (more : List (List ℕ)). (all.0.0 ++ 10 ∷ []) ∷ more) (pieces_of ls all.1))

both_pieces : (xs ys : List (List ℕ)) → ArePieces xs → ArePieces ys → ArePieces (xs ++ ys)
both_pieces [] ys a b = b
both_pieces (x ∷ xs) ys a b = (a.0, both_pieces xs ys a.1 b)

each_piece : {X : Type 0} (f : X → List ℕ) → ((x : X) → IsPiece (f x)) → (xs : List X) → ArePieces (map f xs)
each_piece f each [] = tt
each_piece f each (x ∷ xs) = (each x, each_piece f each xs)

-- ---- words

spaced_unbroken : (ws : List (List ℕ)) → AreUnbroken ws → Unbroken (spaced ws)
spaced_unbroken [] all = tt
spaced_unbroken (w ∷ []) all = all.0
spaced_unbroken (w ∷ v ∷ ws) all = append_all (λ b. eqb b 10 ≡ false) w (32 ∷ spaced (v ∷ ws)) all.0 (refl, spaced_unbroken (v ∷ ws) all.1)

line_piece : (ws : List (List ℕ)) → AreUnbroken ws → IsPiece (line ws)
line_piece ws all = (spaced ws, refl, spaced_unbroken ws all)

both_unbroken : (xs ys : List (List ℕ)) → AreUnbroken xs → AreUnbroken ys → AreUnbroken (xs ++ ys)
both_unbroken [] ys a b = b
both_unbroken (x ∷ xs) ys a b = (a.0, both_unbroken xs ys a.1 b)

name_unbroken : (w : List ℕ) → is_word_name w ≡ true → Unbroken w
name_unbroken w e = none_in_name (λ b. eqb b 10) (not_byte 10 refl) w (right_true (is_filled w) _ e)

glyph : (d : ℕ) → eqb (digit_glyph false d) 10 ≡ false
glyph d = go (ltb d 10)
  where
    go : (b : Bool) → eqb (cond b (48 + d) (87 + d)) 10 ≡ false
    go true = ne_eqb (48 + d) 10 (λ e. absurd (omega arith))
    go false = ne_eqb (87 + d) 10 (λ e. absurd (omega arith))

digits_unbroken : (k n : ℕ) (acc : List ℕ) → Unbroken acc → Unbroken (digits_onto k 10 false n acc)
digits_unbroken zero n acc all = all
digits_unbroken (suc k) n acc all = go (eqb (n / 10) 0) (digits_unbroken k (n / 10) (digit_glyph false (n % 10) ∷ acc) (glyph (n % 10), all))
  where
    go : (b : Bool) → Unbroken (digits_onto k 10 false (n / 10) (digit_glyph false (n % 10) ∷ acc)) → Unbroken (cond b (digit_glyph false (n % 10) ∷ acc) (digits_onto k 10 false (n / 10) (digit_glyph false (n % 10) ∷ acc)))
    go true more = (glyph (n % 10), all)
    go false more = more

number_unbroken : (n : ℕ) → Unbroken (decimal n)
unfolding digits
number_unbroken n = digits_unbroken 64 n [] tt

stuck_unbroken : (v : Stuck) → Unbroken (stuck_word v)
stuck_unbroken stuck.Zero = name_unbroken (codes "sa0") refl
stuck_unbroken stuck.One = name_unbroken (codes "sa1") refl

cell_unbroken : (kind : CellKind) → Unbroken (cell_word kind)
cell_unbroken Stuck0 = name_unbroken (codes "stuck0") refl
cell_unbroken Stuck1 = name_unbroken (codes "stuck1") refl
cell_unbroken SlowRise = name_unbroken (codes "slow-rise") refl
cell_unbroken SlowFall = name_unbroken (codes "slow-fall") refl

bridge_unbroken : (kind : BridgeKind) → Unbroken (bridge_word kind)
bridge_unbroken Dominant = name_unbroken (codes "dom") refl
bridge_unbroken WiredAnd = name_unbroken (codes "and") refl
bridge_unbroken WiredOr = name_unbroken (codes "or") refl
bridge_unbroken DominantAnd = name_unbroken (codes "dom-and") refl
bridge_unbroken DominantOr = name_unbroken (codes "dom-or") refl

-- ---- the lines of a report

module _ (t : ScanTest) (names : HasWordNames t) where
  net_unbroken : (n : ℕ) → Unbroken (name_of t n)
  net_unbroken n = elim (cases_lt n (length t.netlist.nets)) [
    | inl lt ↦ name_unbroken (name_of t n) (names.nets n no_net lt)
    | inr past ↦ subst Unbroken (sym (ap (λ (m : Net). m.name) (get_or_past t.netlist.nets n no_net past))) tt
  ]

  chain_unbroken : (h : ℕ) → Unbroken (chain_at t h).name
  chain_unbroken h = elim (cases_lt h (length t.chains)) [
    | inl lt ↦ name_unbroken (chain_at t h).name (names.chains h no_chain lt)
    | inr past ↦ subst Unbroken (sym (ap (λ (m : Chain). m.name) (get_or_past t.chains h no_chain past))) tt
  ]

  branch_unbroken : (p : PinPlace) → AreUnbroken (branch_words t p)
  branch_unbroken (place.Operand g i) = (name_unbroken (codes "to") refl, (net_unbroken g, (number_unbroken (i + 1), tt)))
  branch_unbroken (place.Output k) = (name_unbroken (codes "to-output") refl, tt)

  fault_unbroken : (f : Fault) → AreUnbroken (fault_words t f)
  fault_unbroken (fault.Stem n v) = (name_unbroken (codes "stem") refl, (net_unbroken n, (stuck_unbroken v, tt)))
  fault_unbroken (fault.Branch p v) =
      both_unbroken (codes "branch" ∷ name_of t (pin_at t.netlist p).net ∷ branch_words t (pin_at t.netlist p).place) (stuck_word v ∷ [])
      (name_unbroken (codes "branch") refl, (net_unbroken (pin_at t.netlist p).net, branch_unbroken (pin_at t.netlist p).place)) (stuck_unbroken v, tt)
  fault_unbroken (fault.Bridge a b kind) = (name_unbroken (codes "bridge") refl, (net_unbroken a, (net_unbroken b, (bridge_unbroken kind, tt))))
  fault_unbroken (fault.Cell h i kind) = (name_unbroken (codes "cell") refl, (chain_unbroken h, (number_unbroken i, (cell_unbroken kind, tt))))

  point_unbroken : (s : Point) → AreUnbroken (point_words t s)
  point_unbroken (Output k) = (name_unbroken (codes "out") refl, (net_unbroken (get_or t.netlist.outputs k 0), tt))
  point_unbroken (Cell h i) = (name_unbroken (codes "cell") refl, (chain_unbroken h, (number_unbroken i, tt)))

  bit_piece : (word : List ℕ) → Unbroken word → (b : Bit) → IsPiece (bit_line t word b)
  bit_piece word plain b = line_piece (word ∷ decimal b.pattern ∷ point_words t (point_at t b.point)) (plain, (number_unbroken b.pattern, point_unbroken (point_at t b.point)))

  candidate_piece : (faults : List Fault) (e : ℕ × Scored) → IsPiece (candidate_line faults t e)
  candidate_piece faults e =
      let f : Fault = get_or faults e.1.place no_fault in
      line_piece (score_words e.0 e.1 ++ fault_words t f)
      (both_unbroken (score_words e.0 e.1) (fault_words t f) (
        name_unbroken (codes "candidate") refl,
        (
          number_unbroken e.0,
          (
            name_unbroken (codes "fault") refl,
            (
              number_unbroken e.1.place,
              (
                name_unbroken (codes "tfsf") refl,
                (
                  number_unbroken e.1.counts.tfsf,
                  (
                    name_unbroken (codes "tfsp") refl,
                    (
                      number_unbroken e.1.counts.tfsp,
                      (name_unbroken (codes "tpsf") refl, (number_unbroken e.1.counts.tpsf, tt)),
                    ),
                  ),
                ),
              ),
            ),
          ),
        ),
      )
      (fault_unbroken f))

  labelled : (word : List ℕ) → is_word_name word ≡ true → (n : ℕ) → IsPiece (line (word ∷ decimal n ∷ []))
  labelled word name n = line_piece (word ∷ decimal n ∷ []) (name_unbroken word name, (number_unbroken n, tt))

  named : (word : List ℕ) → is_word_name word ≡ true → (name : List ℕ) → is_word_name name ≡ true → IsPiece (line (word ∷ name ∷ []))
  named word plain name e = line_piece (word ∷ name ∷ []) (name_unbroken word plain, (name_unbroken name e, tt))

  -- the text of a layout, cut behind each line feed, is its lines
  pub layout_cut : (faults : List Fault) (design die : List ℕ) (count : ℕ) (classes : Bit → BitClass) (rows : List Scored) → is_tag design ≡ true → is_tag die ≡ true
      → pieces (concatenated (layout_by_class faults t design die count classes rows)) ≡ layout_by_class faults t design die count classes rows
  layout_cut faults design die count classes rows design_tag die_tag =
      pieces_of (layout_by_class faults t design die count classes rows) (
        labelled (codes "REPORT") refl 1,
        (
          named (codes "design") refl design (tag_is_name design design_tag),
          (
            named (codes "die") refl die (tag_is_name die die_tag),
            (
              labelled (codes "logs") refl count,
              (
                labelled (codes "failing") refl (length (bits_in t classes is_failing)),
                (
                  labelled (codes "passing") refl (length (bits_in t classes is_passing)),
                  (
                    labelled (codes "conflicts") refl (length (bits_in t classes is_conflict)),
                    (
                      labelled (codes "masked") refl (length (bits_in t classes is_masked)),
                      (
                        labelled (codes "candidates") refl (length rows),
                        both_pieces (map (bit_line t (codes "conflict")) (bits_in t classes is_conflict) ++ map (bit_line t (codes "masked")) (bits_in t classes is_masked)) (map (candidate_line faults t) (enumerate_from 1 rows))
                            (both_pieces (map (bit_line t (codes "conflict")) (bits_in t classes is_conflict)) (map (bit_line t (codes "masked")) (bits_in t classes is_masked))
                            (each_piece (bit_line t (codes "conflict")) (bit_piece (codes "conflict") (name_unbroken (codes "conflict") refl)) (bits_in t classes is_conflict))
                            (each_piece (bit_line t (codes "masked")) (bit_piece (codes "masked") (name_unbroken (codes "masked") refl)) (bits_in t classes is_masked)))
                            (each_piece (candidate_line faults t) (candidate_piece faults) (enumerate_from 1 rows)),
                      ),
                    ),
                  ),
                ),
              ),
            ),
          ),
        ),
      )
