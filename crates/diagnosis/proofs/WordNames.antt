-- The nets, the outputs and the chains of a design have words of name bytes as names.
use Rattle.std.proofs.Common.{◌≡◌, ℕ, ◌<◌, true, List, [], ◌∷◌, length, get_or, map, Option, Some, None, option_map, Ok, refl, sym, ap, ◌∙◌, subst, arith}
use Rattle.std.specs.Prelude.{All, IsTrue, IfSome, ◌&&◌, codes}
use Rattle.std.specs.List.{list_all, cons_option, slice_split}
use Rattle.std.specs.Str.{bytes_eq}
use Rattle.std.proofs.lemmas.Bool.{cond_both, and_parts, and_from}
use Rattle.std.proofs.lemmas.List.{get_or-map}
use Rattle.std.proofs.lemmas.List.Elements.{All-nil, All-cons, All-map, All-weaker, All-get_or, All-from_recursion, filter_passes}
use Rattle.std.proofs.lemmas.List.Folds.{list_all-map}
use Rattle.std.proofs.lemmas.List.Sums.{AllPass-from_list_all}
use Rattle.scan_model.specs.declared.fault.Profile.{Profile}
use Rattle.scan_model.specs.declared.circuit.Net.{Net}
use Rattle.scan_model.specs.declared.parts.Chain.{Chain}
use Rattle.scan_model.specs.declared.parts.Pattern.{Pattern}
use Rattle.scan_model.specs.declared.parts.Pairs.{Pairs}
use Rattle.scan_model.specs.Netlist.{Netlist, no_net, net_at}
use Rattle.scan_model.specs.ScanTest.{ScanTest, scan_test}
use Rattle.scan_model.specs.Lines.{text_lines, is_blank, without_comment}
use Rattle.scan_model.specs.Words.{words, word_lines, has_word, is_filled, is_name_byte, is_short, is_short_name}
use Rattle.scan_model.specs.TextFaults.{first_fault, refused_or}
use Rattle.scan_model.specs.NetlistLines.{Form}
use Rattle.scan_model.specs.NetlistRules.{forms_of, defined_names, outputs_of, first_rule, second_rule, early_fault}
use Rattle.scan_model.specs.NetlistText.{net_number, nets_after, circuit_in, circuit_of, third_rule, netlist_fault, netlist_reading}
use Rattle.scan_model.specs.ScanText.{ChainNames, chain_of, chains, numbered, chains_of, scan_fault, scan_reading}
use Rattle.bench_reader.specs.FaultlessLines.{AreKnown}
use Rattle.bench_reader.specs.NetlistDrafts.{filled_from, first_line, uses_undefined}
use Rattle.bench_reader.proofs.CircuitOfLines.{names_after, length-nets_after}
use Rattle.bench_reader.proofs.NamesDiffer.{number_in_range, outputs_all, outputs_none}
use Rattle.bench_reader.proofs.SecondRound.{two_rounds, none_passes}
use Rattle.diag_report.specs.PredictedLog.{is_word_name, HasWordNames}
use Rattle.design_bundle.specs.FourTexts.{FourTexts}
use Rattle.design_bundle.specs.Bundle.{bundle_texts, bundle_fault}
use Rattle.diagnosis.specs.Bundle.{texts_reading, refused_or_read, bundle_reading}
use Rattle.diagnosis.proofs.AreRead.{are_read}
use Rattle.diagnosis.proofs.NoFaults.{no_fault, neither}
use Rattle.diagnosis.proofs.NetNames.{are_words, words_defined}

-- ---- the outputs

no_line : (o : Option ℕ) → option_map {U = ℕ × ℕ} (λ n. (n, 7)) o ≡ None → o ≡ None
no_line None e = refl
no_line (Some n) e = absurd cc

-- each net that lines without a fault use is defined
uses_known : (ls : List (List ℕ)) → first_fault (first_rule ls) (length ls) ≡ None → early_fault ls ≡ None → AreKnown (forms_of ls)
uses_known ls first early =
    let fs : List Form = forms_of ls in
    let none = sym (two_rounds {X = List ℕ} ls [] [] (ap (λ f. refused_or f []) first)) ∙ early in
    none_passes (uses_undefined (defined_names fs)) refl 1 fs (no_line (first_line (uses_undefined (defined_names fs)) (filled_from 1 fs)) none)

-- the output of a line has the name that a line defines
word_output : (fs : List Form) → are_words (defined_names fs) ≡ true → (n : List ℕ) → has_word (defined_names fs) n ≡ true
    → IsTrue (is_word_name (net_at (circuit_in fs) (net_number (defined_names fs) n)).name)
word_output fs are n there =
    let defined : List (List ℕ) = defined_names fs in
    let number : ℕ = net_number defined n in
    let low : number < length defined = number_in_range defined n there in
    let named : get_or defined number [] ≡ (net_at (circuit_in fs) number).name =
    ap (λ ns. get_or ns number []) (sym (names_after [] 0 fs)) ∙ get_or-map (λ (m : Net). m.name) (nets_after [] 0 fs) number no_net [] (omega (arith, length-nets_after fs)) in
    ap is_word_name (sym named) ∙ All-get_or (λ w. is_word_name w ≡ true) defined number [] low (AllPass-from_list_all is_word_name defined are)

word_outputs : (fs : List Form) → AreKnown fs → are_words (defined_names fs) ≡ true → All (λ n. IsTrue (is_word_name (net_at (circuit_in fs) n).name)) (circuit_in fs).outputs
word_outputs fs known are =
    let defined : List (List ℕ) = defined_names fs in
    let outputs = outputs_all defined fs [] known (outputs_none defined) in
    All-map (λ n. IsTrue (is_word_name (net_at (circuit_in fs) n).name)) (net_number defined) (outputs_of fs)
    (All-weaker (λ n. has_word defined n ≡ true) (λ n. IsTrue (is_word_name (net_at (circuit_in fs) (net_number defined n)).name)) (word_output fs are) (outputs_of fs)
    (All-from_recursion (λ n. has_word defined n ≡ true) (outputs_of fs) outputs.known))

word_nets : (fs : List Form) → are_words (defined_names fs) ≡ true → All (λ n. IsTrue (is_word_name n.name)) (circuit_in fs).nets
word_nets fs are =
    AllPass-from_list_all (λ n. is_word_name n.name) (circuit_in fs).nets
    (sym (list_all-map is_word_name (λ (n : Net). n.name) (circuit_in fs).nets) ∙ ap are_words (names_after [] 0 fs) ∙ are)

netlist_net_names : (bytes : List ℕ) (c : Netlist) → netlist_reading bytes ≡ Ok c → All (λ n. IsTrue (is_word_name n.name)) c.nets
netlist_net_names bytes c e =
    subst (λ (d : Netlist). All (λ n. IsTrue (is_word_name n.name)) d.nets) (no_fault (netlist_fault bytes) (circuit_of bytes) c e).1 (word_nets (forms_of (text_lines bytes)) (words_defined (text_lines bytes)))

netlist_word_names : (bytes : List ℕ) (c : Netlist) → netlist_reading bytes ≡ Ok c → All (λ n. IsTrue (is_word_name (net_at c n).name)) c.outputs
netlist_word_names bytes c e =
    let ls = text_lines bytes in
    let read = no_fault (netlist_fault bytes) (circuit_of bytes) c e in
    let early = neither (early_fault ls) (first_fault (third_rule ls) (length ls)) read.0 in
    let first = neither (first_fault (first_rule ls) (length ls)) (first_fault (second_rule ls) (length ls)) early in
    subst (λ (d : Netlist). All (λ n. IsTrue (is_word_name (net_at d n).name)) d.outputs) read.1 (word_outputs (forms_of ls) (uses_known ls first early) (words_defined ls))

-- ---- the chains

abbrev HasWordName : Chain → Type 0
HasWordName h = IsTrue (is_word_name h.name)

-- a chain's line has its name as a word, of name bytes
word_chain : (ws : List (List ℕ)) → All (λ w. is_filled w ≡ true) ws → IfSome (chain_of ws) (λ c. IsTrue (is_word_name c.name))
word_chain (keyword ∷ name ∷ cell ∷ cells) filled =
    let short = list_all is_short_name (name ∷ cell ∷ cells) in
    cond_both (bytes_eq keyword (codes "CHAIN") && short) (Some (record { name = name; cells = cell ∷ cells })) None (λ o. IfSome o (λ (c : ChainNames). IsTrue (is_word_name c.name)))
    (λ e.
    let both = and_parts (bytes_eq keyword (codes "CHAIN")) short e in
    let fits = and_parts (is_short_name name) (list_all is_short_name (cell ∷ cells)) both.1 in
    let bytes = and_parts (list_all is_name_byte name) (is_short name) fits.0 in
    and_from (is_filled name) (list_all is_name_byte name) (filled 1 [] (omega arith)) bytes.0)
    (λ e. tt)
word_chain ws filled = tt

word_chains : (nets : List Net) (ls : List (List ℕ)) → All HasWordName (chains_of nets ls)
word_chains nets [] = All-nil HasWordName
word_chains nets (line ∷ ls) =
    go (chain_of (words line)) (word_chain (words line) (filter_passes is_filled (slice_split is_blank (without_comment line)))) (word_chains nets ls)
  where
    go : (o : Option ChainNames) → IfSome o (λ c. IsTrue (is_word_name c.name)) → All HasWordName (chains_of nets ls) → All HasWordName (map (numbered nets) (cons_option o (chains (word_lines ls))))
    go None named more = more
    go (Some c) named more = All-cons HasWordName (numbered nets c) (chains_of nets ls) named more

scan_word_names : (nets : List Net) (bytes : List ℕ) (cs : List Chain) → scan_reading nets bytes ≡ Ok cs → All HasWordName cs
scan_word_names nets bytes cs e =
    subst (All HasWordName) (no_fault (scan_fault nets bytes) (chains_of nets (text_lines bytes)) cs e).1 (word_chains nets (text_lines bytes))

-- ---- the scan test

parts_named : (profile : Profile) (c : Netlist) (cs : List Chain) (patterns : List Pattern) (pairs : Pairs) (t : ScanTest) → scan_test profile c cs patterns pairs ≡ t
    → All (λ n. IsTrue (is_word_name n.name)) c.nets → All (λ n. IsTrue (is_word_name (net_at c n).name)) c.outputs → All HasWordName cs → HasWordNames t
parts_named profile c cs patterns pairs t whole nets outputs named = subst HasWordNames whole (record { nets = nets; outputs = outputs; chains = named })

pub word_names : (texts : FourTexts) (t : ScanTest) → texts_reading texts ≡ Ok t → HasWordNames t
word_names texts t e =
    let r = are_read texts t e in
    parts_named texts.profile r.c r.chains r.patterns r.pairs t r.whole (netlist_net_names texts.netlist r.c r.netlist_stands) (netlist_word_names texts.netlist r.c r.netlist_stands)
    (scan_word_names r.c.nets texts.scan r.chains r.scan_stands)

pub bundle_word_names : (bytes : List ℕ) (t : ScanTest) → bundle_reading bytes ≡ Ok t → HasWordNames t
bundle_word_names bytes t e = go (bundle_fault bytes) e
  where
    go : (fault : Option (ℕ × ℕ)) → refused_or_read fault (bundle_texts bytes) ≡ Ok t → HasWordNames t
    go None read = word_names (bundle_texts bytes) t read
    go (Some fault) read = absurd cc
