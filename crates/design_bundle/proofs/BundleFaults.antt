-- Rule 81 line by line is rule 81 of the whole bundle.
use Rattle.std.proofs.Common.{◌≡◌, ℕ, zero, suc, ◌+◌, Bool, true, false, cond, not, ◌&&◌, ◌||◌, nat_lt, List, [], ◌∷◌, ◌++◌, length, take, drop, get_or, Option, Some, None, refl, sym, ap, subst, ◌∙◌, ◌==◌, arith, ne_eqb, eq-eqb, append_assoc, append-nil, add-one, length-append, option_map}
use Rattle.std.specs.List.{filter}
use Rattle.std.specs.Str.{bytes_eq}
use Rattle.std.proofs.lemmas.List.{length_push}
use Rattle.std.proofs.lemmas.List.Elements.{filter-append}
use Rattle.scan_model.specs.declared.fault.Profile.{Profile}
use Rattle.scan_model.specs.Lines.{text_lines, line_at}
use Rattle.scan_model.specs.TextFaults.{fault_from, or_else}
use Rattle.scan_model.specs.declared.rules.TheConstants.{WRONG_MARK}
use Rattle.design_bundle.specs.FourTexts.{four}
use Rattle.design_bundle.specs.Bundle.{is_mark, marker_after, bundle_rule, marks_fault, has_wrong_mark, sections, section_at, texts_in}
use Rattle.design_bundle.specs.BundleRest.{marker, is_wrong, fault_after}

-- the markers in these lines
abbrev marks : List (List ℕ) → ℕ
marks lines = length (filter is_mark lines)

marks_push : (front : List (List ℕ)) (text : List ℕ) → marks (front ++ text ∷ []) ≡ cond (is_mark text) (marks front + 1) (marks front)
marks_push front text = ap length (filter-append is_mark front (text ∷ [])) ∙ length-append (filter is_mark front) (filter is_mark (text ∷ [])) ∙ last (is_mark text)
  where
    last : (b : Bool) → marks front + length (cond b (text ∷ []) []) ≡ cond b (marks front + 1) (marks front)
    last true = refl
    last false = omega arith

line_behind : (front : List (List ℕ)) (text : List ℕ) (more : List (List ℕ)) → line_at (front ++ text ∷ more) (length front) ≡ text
line_behind [] text more = refl
line_behind (x ∷ front) text more = line_behind front text more

front_of : (front more : List (List ℕ)) → take (length front) (front ++ more) ≡ front
front_of [] more = refl
front_of (x ∷ front) more = ap (λ xs. x ∷ xs) (front_of front more)

first_line : (n : ℕ) → (n == 0) ≡ (n + 1 == 1)
first_line zero = refl
first_line (suc n) = ne_eqb (suc n) 0 (λ e. omega arith) ∙ sym (ne_eqb (suc n + 1) 1 (λ e. omega arith))

wrong_behind : (front : List (List ℕ)) (text : List ℕ) (more : List (List ℕ)) → has_wrong_mark (front ++ text ∷ more) (length front) ≡ is_wrong (marks front) (length front + 1) text
wrong_behind front text more =
    ap (λ l. (is_mark l || (length front == 0)) && not (bytes_eq l (marker_after (take (length front) (front ++ text ∷ more))))) (line_behind front text more)
    ∙ ap (λ f. (is_mark text || (length front == 0)) && not (bytes_eq text (marker_after f))) (front_of front (text ∷ more))
    ∙ ap (λ b. (is_mark text || b) && not (bytes_eq text (marker (marks front)))) (first_line (length front))

rule_behind : (front : List (List ℕ)) (text : List ℕ) (more : List (List ℕ)) → bundle_rule (front ++ text ∷ more) (length front) ≡ cond (is_wrong (marks front) (length front + 1) text) (Some WRONG_MARK) None
rule_behind front text more =
    let not_last : (length front == length (front ++ text ∷ more)) ≡ false = ne_eqb _ _ (λ e. omega (arith, length-append front (text ∷ more))) in
    rw not_last (ap (λ b. cond b (Some WRONG_MARK) None) (wrong_behind front text more))

rule_at_end : (front : List (List ℕ)) → bundle_rule (front ++ []) (length front) ≡ cond (nat_lt (marks front) 4) (Some WRONG_MARK) None
rule_at_end front =
    let whole : front ++ [] ≡ front = append-nil front in
    let last : (length front == length front) ≡ true = eq-eqb _ _ refl in
    rw (whole, last) refl

fault_or : (n : ℕ) (w : Bool) (o p : Option (ℕ × ℕ)) → o ≡ p → or_else (option_map (λ r. (n, r)) (cond w (Some WRONG_MARK) None)) o ≡ cond w (Some (n, WRONG_MARK)) p
fault_or n true o p e = refl
fault_or n false o p e = e

-- after the lines in front
faults_behind : (lines front rest : List (List ℕ)) → lines ≡ front ++ rest → fault_from (bundle_rule lines) (length front) (suc (length rest)) ≡ fault_after (marks front) (length front + 1) rest
faults_behind lines front [] e =
    let rule : bundle_rule lines (length front) ≡ cond (nat_lt (marks front) 4) (Some WRONG_MARK) None = ap (λ l. bundle_rule l (length front)) e ∙ rule_at_end front in
    ap (λ r. or_else (option_map (λ r. (length front + 1, r)) r) None) rule ∙ fault_or (length front + 1) (nat_lt (marks front) 4) None None refl
faults_behind lines front (text ∷ more) e =
    let rule : bundle_rule lines (length front) ≡ cond (is_wrong (marks front) (length front + 1) text) (Some WRONG_MARK) None = ap (λ l. bundle_rule l (length front)) e ∙ rule_behind front text more in
    let later = faults_behind lines (front ++ text ∷ []) more (e ∙ sym (append_assoc front (text ∷ []) more)) in
    let next = subst (λ (n : ℕ). fault_from (bundle_rule lines) n (suc (length more)) ≡ fault_after (marks (front ++ text ∷ [])) (n + 1) more) (length_push front text) later
    ∙ ap (λ n. fault_after n (length front + 1 + 1) more) (marks_push front text) in
    ap (λ r. or_else (option_map (λ r. (length front + 1, r)) r) (fault_from (bundle_rule lines) (length front + 1) (suc (length more)))) rule
    ∙ fault_or (length front + 1) (is_wrong (marks front) (length front + 1) text) _ _ next

pub marks_fault_by_lines : (bytes : List ℕ) → marks_fault bytes ≡ fault_after 0 1 (text_lines bytes)
marks_fault_by_lines bytes = rw add-one (faults_behind (text_lines bytes) [] (text_lines bytes) refl)

at_front : (texts : List (List ℕ)) (i : ℕ) → get_or texts (suc i) [] ≡ get_or (drop 1 texts) i []
at_front [] i = refl
at_front (text ∷ texts) i = refl

-- the four texts behind the markers
pub texts_in_four : (profile : Profile) (bytes a b c d : List ℕ) → drop 1 (sections bytes) ≡ a ∷ b ∷ c ∷ d ∷ [] → four profile a b c d ≡ texts_in profile bytes
texts_in_four profile bytes a b c d e =
    let first : section_at bytes 1 ≡ a = at_front (sections bytes) 0 ∙ ap (λ xs. get_or xs 0 []) e in
    let second : section_at bytes 2 ≡ b = at_front (sections bytes) 1 ∙ ap (λ xs. get_or xs 1 []) e in
    let third : section_at bytes 3 ≡ c = at_front (sections bytes) 2 ∙ ap (λ xs. get_or xs 2 []) e in
    let fourth : section_at bytes 4 ≡ d = at_front (sections bytes) 3 ∙ ap (λ xs. get_or xs 3 []) e in
    rw (first, second, third, fourth) refl
