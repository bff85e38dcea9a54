-- The lines that are printed, one after another.
use Rattle.std.proofs.Common.{◌≡◌, ℕ, List, [], ◌∷◌, ◌++◌, length, Option, Some, refl, sym, ap, ◌∙◌, append_assoc, append-nil}
use Rattle.std.specs.Prelude.{codes, decimal}
use Rattle.std.proofs.lemmas.List.Concat.{flat_map-append}
use Rattle.sha2.specs.Sha256.{sha256}
use Rattle.hex.specs.Hex.{encode_lower}
use Rattle.scan_model.specs.declared.fault.Fault.{Fault}
use Rattle.scan_model.specs.declared.fault.Fault.TheVariants.{Stem, Branch, Bridge, Cell}
use Rattle.scan_model.specs.declared.logs.Scored.{Scored}
use Rattle.scan_model.specs.ScanTest.{ScanTest}
use Rattle.scan_model.specs.ReportText.{spaced, line, concatenated, fault_words}
use Rattle.diag_report.specs.PredictedLog.{fault_of, predicted_bits}
use Rattle.diag_report.specs.Summary.{count_line}
use Rattle.made_designs.specs.Demo.{drawn_place, injected_from, own_candidates, own_report, rank_lines, injected_lines}
use Rattle.made_designs.specs.InjectedFaults.{IsDrawn, IsText, head_lines}

concatenated_both : (ls ms : List (List ℕ)) → concatenated (ls ++ ms) ≡ concatenated ls ++ concatenated ms
concatenated_both ls ms = flat_map-append (λ piece. piece) ls ms

-- two words before those of a fault
before_fault : (t : ScanTest) (f : Fault) (word number : List ℕ) → spaced (word ∷ number ∷ fault_words t f) ≡ word ++ (32 ∷ (number ++ (32 ∷ spaced (fault_words t f))))
before_fault t (Stem n v) word number = refl
before_fault t (Branch p v) word number = refl
before_fault t (Bridge a b kind) word number = refl
before_fault t (Cell h i kind) word number = refl

regrouped : (text word number words : List ℕ) → ((text ++ (word ++ (32 ∷ (number ++ (32 ∷ []))))) ++ words) ++ 10 ∷ [] ≡ text ++ ((word ++ (32 ∷ (number ++ (32 ∷ words)))) ++ 10 ∷ [])
regrouped text word number words = simp append_assoc

-- a line of these words is added
pub fault_line : (text : List ℕ) (t : ScanTest) (f : Fault) (word number : List ℕ)
    → ((text ++ (word ++ (32 ∷ (number ++ (32 ∷ []))))) ++ spaced (fault_words t f)) ++ 10 ∷ [] ≡ text ++ line (word ∷ number ∷ fault_words t f)
fault_line text t f word number = regrouped text word number (spaced (fault_words t f)) ∙ ap (λ (bs : List ℕ). text ++ (bs ++ 10 ∷ [])) (sym (before_fault t f word number))

-- five texts that are added, of which one is of some lines
pub five_added : (t0 t1 t2 t3 t4 t5 a b c e : List ℕ) (ds : List (List ℕ)) → t1 ≡ t0 ++ a → t2 ≡ t1 ++ b → t3 ≡ t2 ++ c → t4 ≡ t3 ++ concatenated ds → t5 ≡ t4 ++ e
    → t5 ≡ t0 ++ concatenated (a ∷ b ∷ c ∷ (ds ++ e ∷ []))
five_added t0 t1 t2 t3 t4 t5 a b c e ds one two three four five =
    let all : t5 ≡ ((((t0 ++ a) ++ b) ++ c) ++ concatenated ds) ++ e =
    five ∙ ap (λ (bs : List ℕ). bs ++ e) (four ∙ ap (λ (bs : List ℕ). bs ++ concatenated ds) (three ∙ ap (λ (bs : List ℕ). bs ++ c) (two ∙ ap (λ (bs : List ℕ). bs ++ b) one))) in
    let end : concatenated (ds ++ e ∷ []) ≡ concatenated ds ++ e = concatenated_both ds (e ∷ []) ∙ ap (λ (bs : List ℕ). concatenated ds ++ bs) (append-nil e) in
    let apart : ((((t0 ++ a) ++ b) ++ c) ++ concatenated ds) ++ e ≡ t0 ++ (a ++ (b ++ (c ++ (concatenated ds ++ e)))) = simp append_assoc in
    all ∙ apart ∙ ap (λ (bs : List ℕ). t0 ++ (a ++ (b ++ (c ++ bs)))) (sym end)

-- the lines of the fault that is put in and of its diagnosis
pub diagnosis_added : (t : ScanTest) (place fails count : ℕ) (rows : List Scored) (report t0 t1 t2 t3 t4 t5 : List ℕ)
    → fails ≡ length (predicted_bits t (fault_of t place)) → rows ≡ own_candidates t (fault_of t place) → report ≡ own_report t (fault_of t place) → count ≡ length rows
    → t1 ≡ t0 ++ line (codes "injected" ∷ decimal place ∷ fault_words t (fault_of t place))
    → t2 ≡ t1 ++ count_line (codes "fails") fails → t3 ≡ t2 ++ count_line (codes "candidates") count → t4 ≡ t3 ++ concatenated (rank_lines rows place)
    → t5 ≡ t4 ++ line (codes "digest" ∷ encode_lower (sha256 report) ∷ []) → t5 ≡ t0 ++ concatenated (injected_lines t (Some place))
diagnosis_added t place fails count rows report t0 t1 t2 t3 t4 t5 are_fails are_rows is_report is_count one two three four five =
    let f = fault_of t place in
    five_added t0 t1 t2 t3 t4 t5 (line (codes "injected" ∷ decimal place ∷ fault_words t f)) (count_line (codes "fails") (length (predicted_bits t f)))
    (count_line (codes "candidates") (length (own_candidates t f))) (line (codes "digest" ∷ encode_lower (sha256 (own_report t f)) ∷ [])) (rank_lines (own_candidates t f) place)
    one
    (two ∙ ap (λ (n : ℕ). t1 ++ count_line (codes "fails") n) are_fails)
    (three ∙ ap (λ (n : ℕ). t2 ++ count_line (codes "candidates") n) (is_count ∙ ap (λ (rs : List Scored). length rs) are_rows))
    (four ∙ ap (λ (rs : List Scored). t3 ++ concatenated (rank_lines rs place)) are_rows)
    (five ∙ ap (λ (r : List ℕ). t4 ++ line (codes "digest" ∷ encode_lower (sha256 r) ∷ [])) is_report)

-- all lines, where those of the fault follow the first three
page_lines : (seed blocks : ℕ) (t : ScanTest) (first : ℕ) (place : Option ℕ) (t0 t1 t2 : List ℕ) → t0 ≡ [] → t1 ≡ t0 ++ concatenated (head_lines seed blocks t) → t2 ≡ t1 ++ concatenated (injected_lines t place)
    → injected_from first t ≡ place → t2 ≡ concatenated (head_lines seed blocks t ++ injected_lines t (injected_from first t))
page_lines seed blocks t first place t0 t1 t2 none head rest is_first =
    let before : t1 ≡ concatenated (head_lines seed blocks t) = head ∙ ap (λ (bs : List ℕ). bs ++ concatenated (head_lines seed blocks t)) none in
    rest ∙ ap (λ (bs : List ℕ). bs ++ concatenated (injected_lines t place)) before ∙ sym (concatenated_both (head_lines seed blocks t) (injected_lines t place))
    ∙ ap (λ (p : Option ℕ). concatenated (head_lines seed blocks t ++ injected_lines t p)) (sym is_first)

pub text_is : (seed blocks : ℕ) (t : ScanTest) (place : Option ℕ) (t0 t1 t2 : List ℕ) → t0 ≡ [] → t1 ≡ t0 ++ concatenated (head_lines seed blocks t) → t2 ≡ t1 ++ concatenated (injected_lines t place)
    → IsDrawn seed blocks t place → IsText seed blocks t t2
text_is seed blocks t place t0 t1 t2 none head rest drawn = record { is = page_lines seed blocks t (drawn_place seed blocks t) place t0 t1 t2 none head rest drawn.is }
