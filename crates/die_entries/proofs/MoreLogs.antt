-- A view that takes one log more.
use Rattle.std.proofs.Common.{◌≡◌, ℕ, ◌+◌, ◌<◌, Bool, true, false, List, [], ◌∷◌, ◌++◌, length, take, get_or, All, refl, sym, ap, ◌∙◌, subst, arith}
use Rattle.std.specs.Arc.{arc_value}
use Rattle.std.specs.declared.alloc.Global.{Global}
use Rattle.std.specs.declared.sync.Arc.{Arc}
use Rattle.std.specs.List.{IsDistinct, take-map}
use Rattle.std.specs.Str.{bytes_eq}
use Rattle.std.proofs.lemmas.List.{length-map, length-take, map_more, get_or-map, get_or-take}
use Rattle.std.proofs.lemmas.List.Elements.{All-get_or, All-from_get_or}
use Rattle.std.proofs.lemmas.List.Folds.{list_any_none}
use Rattle.std.proofs.lemmas.Map.Keys.{apart_from_distinct}
use Rattle.std.proofs.lemmas.Slice.Eq.{bytes_eq-Decides}
use Rattle.scan_model.specs.Words.{has_word}
use Rattle.diagnosis.specs.declared.put.Put.{Put}
use Rattle.diagnosis.specs.declared.put.Put.TheVariants.{Created, Same}
use Rattle.diagnosis.specs.LogAddition.{Added, with_log}
use Rattle.diagnosis.specs.Designs.{DesignFacts, ReadLogFacts, ViewFacts, IsLogOf, texts_of}
use Rattle.die_entries.specs.Entries.{arc_values}

abbrev pub Log : Type 0
Log = Arc ReadLogFacts Global

value_at : (logs : List Log) (i : ℕ) (log : Log) → i < length logs → log ≡ get_or logs i log → get_or (arc_values logs) i (arc_value log) ≡ arc_value log
value_at logs i log within at = get_or-map (λ (l : Log). arc_value l) logs i log (arc_value log) within ∙ ap (λ (l : Log). arc_value l) (sym at)

pub is_log_at : (d : DesignFacts) (die : List ℕ) (logs : List Log) (i : ℕ) (log copy : Log) → All (IsLogOf d die) (arc_values logs) → i < length logs → log ≡ get_or logs i log → arc_value copy ≡ arc_value log → IsLogOf d die (arc_value copy)
is_log_at d die logs i log copy all within at same =
    let count : length (arc_values logs) ≡ length logs = length-map logs (λ (l : Log). arc_value l) in
    subst (IsLogOf d die) (value_at logs i log within at ∙ sym same) (All-get_or (IsLogOf d die) (arc_values logs) i (arc_value log) (omega (arith, count)) all)

flipped : (a b : List ℕ) → bytes_eq a b ≡ false → bytes_eq b a ≡ false
flipped a b apart = go (bytes_eq b a) refl
  where
    go : (t : Bool) → bytes_eq b a ≡ t → bytes_eq b a ≡ false
    go false e = e
    go true e = absurd (let same : bytes_eq a b ≡ true = (bytes_eq-Decides a b).1 (sym ((bytes_eq-Decides b a).0 e)) in cc)

-- no text before has the same bytes
apart_before : (ts : List (List ℕ)) (i : ℕ) (d : List ℕ) → IsDistinct bytes_eq ts → i < length ts → has_word (take i ts) (get_or ts i d) ≡ false
apart_before ts i d differ within =
    let count = length-take i ts in
    list_any_none (bytes_eq (get_or ts i d)) (take i ts)
    (All-from_get_or (λ x. bytes_eq (get_or ts i d) x ≡ false) (take i ts) d
    (λ k lt. let below : k < i = omega (arith, count) in
    subst (λ x. bytes_eq (get_or ts i d) x ≡ false) (sym (get_or-take i ts k d below)) (flipped (get_or ts k d) (get_or ts i d) (apart_from_distinct bytes_eq ts k i d differ below within))))

pub texts_cut : (logs : List Log) (i : ℕ) → texts_of (arc_values (take i logs)) ≡ take i (texts_of (arc_values logs))
texts_cut logs i = ap texts_of (sym (take-map (λ (l : Log). arc_value l) i logs)) ∙ sym (take-map (λ (l : ReadLogFacts). l.text) i (arc_values logs))

new_text : (logs : List Log) (i : ℕ) (log : Log) → IsDistinct bytes_eq (texts_of (arc_values logs)) → i < length logs → log ≡ get_or logs i log → has_word (texts_of (arc_values (take i logs))) (arc_value log).text ≡ false
new_text logs i log differ within at =
    let count : length (arc_values logs) ≡ length logs = length-map logs (λ (l : Log). arc_value l) in
    let many : length (texts_of (arc_values logs)) ≡ length (arc_values logs) = length-map (arc_values logs) (λ (l : ReadLogFacts). l.text) in
    let text : get_or (texts_of (arc_values logs)) i (arc_value log).text ≡ (arc_value log).text =
    get_or-map (λ (l : ReadLogFacts). l.text) (arc_values logs) i (arc_value log) (arc_value log).text (omega (arith, count)) ∙ ap (λ (l : ReadLogFacts). l.text) (value_at logs i log within at) in
    subst (λ ts. has_word ts (arc_value log).text ≡ false) (sym (texts_cut logs i))
    (subst (λ t. has_word (take i (texts_of (arc_values logs))) t ≡ false) text (apart_before (texts_of (arc_values logs)) i (arc_value log).text differ (omega (arith, count, many))))

pub view_more : (d : DesignFacts) (die : List ℕ) (logs : List Log) (i : ℕ) (log copy : Log) (old new : ViewFacts) (put : Put) → IsDistinct bytes_eq (texts_of (arc_values logs)) → i < length logs → log ≡ get_or logs i log
    → arc_value copy ≡ arc_value log → old ≡ record { design = d; die = die; logs = arc_values (take i logs) } → Added put (arc_value copy) old new → new ≡ record { design = d; die = die; logs = arc_values (take (i + 1) logs) }
view_more d die logs i log copy old new (Created number) differ within at same was added =
    let view : List ReadLogFacts → ViewFacts = λ ls. record { design = d; die = die; logs = ls } in
    added.2
    ∙ ap (λ (v : ViewFacts). with_log v (arc_value copy)) was
    ∙ ap view (ap (λ (l : ReadLogFacts). arc_values (take i logs) ++ l ∷ []) (same ∙ ap (λ (l : Log). arc_value l) at) ∙ sym (map_more (λ (l : Log). arc_value l) logs i log within))
view_more d die logs i log copy old new (Same number) differ within at same was added =
    absurd (
    let no : has_word (texts_of old.logs) (arc_value copy).text ≡ false =
    subst (λ (v : ViewFacts). has_word (texts_of v.logs) (arc_value copy).text ≡ false) (sym was) (subst (λ (l : ReadLogFacts). has_word (texts_of (arc_values (take i logs))) l.text ≡ false) (sym same) (new_text logs i log differ within at)) in
    let yes : has_word (texts_of old.logs) (arc_value copy).text ≡ true = added.0 in
    cc)
