-- More definite loads and inputs give responses at least as definite, net by net and point by point, under each fault.
use Rattle.std.proofs.Common.{◌≡◌, ℕ, zero, suc, ◌+◌, Bool, true, false, cond, eqb, ◌||◌, List, [], ◌∷◌, ◌++◌, length, map, get_or, Option, Some, None, unwrap_or, refl, ap, subst}
use Rattle.std.specs.Prelude.{flat_map, nat_lt}
use Rattle.std.specs.List.{range_with_len, enumerate_from}
use Rattle.scan_model.specs.declared.values.Tri.{Tri}
use Rattle.scan_model.specs.declared.values.Tri.TheVariants.{Unknown}
use Rattle.scan_model.specs.declared.fault.CellKind.{CellKind}
use Rattle.scan_model.specs.declared.fault.CellKind.TheVariants.{Stuck0, Stuck1, SlowRise, SlowFall}
use Rattle.scan_model.specs.declared.fault.BridgeKind.{BridgeKind}
use Rattle.scan_model.specs.declared.fault.BridgeKind.TheVariants.{Dominant, WiredAnd, WiredOr, DominantAnd, DominantOr}
use Rattle.scan_model.specs.declared.fault.Fault.{Fault}
use Rattle.scan_model.specs.declared.fault.Fault.TheVariants as fault
use Rattle.scan_model.specs.declared.parts.PatternKind.{PatternKind}
use Rattle.scan_model.specs.declared.parts.PatternKind.TheVariants.{Capture, Shift}
use Rattle.scan_model.specs.declared.parts.Point.{Point}
use Rattle.scan_model.specs.declared.parts.Point.TheVariants.{Output, Cell}
use Rattle.scan_model.specs.Values.{IsAtLeast, AreAtLeast}
use Rattle.scan_model.specs.Netlist.{driver_of, pin_at}
use Rattle.scan_model.specs.ChainShift.{value_at, passed, loaded_at, load_with, unload_passes, unloaded_at, unload_with}
use Rattle.scan_model.specs.ScanTest.{ScanTest, pattern_at, cells_of, points_of, chain_at}
use Rattle.scan_model.specs.Faults.{stuck_value, bridged, takes, forced_net, forced_pin, loaded, unloaded}
use Rattle.scan_model.specs.NetValue.{assigned, driven, net_node, values_of, loads_of, source_of, good_value, forced_by, net_value, pin_value, nothing_forced}
use Rattle.scan_model.specs.Response.{data_pin, output_pin, held, output_value, observed, response}
use Rattle.scan_model.specs.Loads.{load}
use Rattle.scan_model.specs.MoreDefinite.{AreRowsAtLeast, IsPatternAtLeast}
use Rattle.scan_model.proofs.Along.{along_related}
use Rattle.scan_model.proofs.Definite.{and-at_least, or-at_least, forced-at_least, driven-at_least, values-at_least}

-- ---- lists of values

length-at_least : (vs ws : List Tri) → AreAtLeast vs ws → length vs ≡ length ws
length-at_least [] [] h = refl
length-at_least [] (w ∷ ws) h = absurd h
length-at_least (v ∷ vs) [] h = absurd h
length-at_least (v ∷ vs) (w ∷ ws) h = ap (λ (n : ℕ). suc n) (length-at_least vs ws h.1)

value_at-at_least : (vs ws : List Tri) → AreAtLeast vs ws → (i : ℕ) → IsAtLeast (value_at vs i) (value_at ws i)
value_at-at_least [] [] h i = tt
value_at-at_least [] (w ∷ ws) h i = absurd h
value_at-at_least (v ∷ vs) [] h i = absurd h
value_at-at_least (v ∷ vs) (w ∷ ws) h zero = h.0
value_at-at_least (v ∷ vs) (w ∷ ws) h (suc i) = value_at-at_least vs ws h.1 i

append-at_least : (vs ws us xs : List Tri) → AreAtLeast vs ws → AreAtLeast us xs → AreAtLeast (vs ++ us) (ws ++ xs)
append-at_least [] [] us xs h k = k
append-at_least [] (w ∷ ws) us xs h k = absurd h
append-at_least (v ∷ vs) [] us xs h k = absurd h
append-at_least (v ∷ vs) (w ∷ ws) us xs h k = (h.0, append-at_least vs ws us xs h.1 k)

map-at_least : {A : Type 0} (f g : A → Tri) (xs : List A) → ((x : A) → IsAtLeast (f x) (g x)) → AreAtLeast (map f xs) (map g xs)
map-at_least f g [] h = tt
map-at_least f g (x ∷ xs) h = (h x, map-at_least f g xs h)

row_at-at_least : (rows others : List (List Tri)) → AreRowsAtLeast rows others → (h : ℕ) → AreAtLeast (get_or rows h []) (get_or others h [])
row_at-at_least [] [] e h = tt
row_at-at_least [] (o ∷ os) e h = absurd e
row_at-at_least (r ∷ rs) [] e h = absurd e
row_at-at_least (r ∷ rs) (o ∷ os) e zero = e.0
row_at-at_least (r ∷ rs) (o ∷ os) e (suc h) = row_at-at_least rs os e.1 h

joined-at_least : (rows others : List (List Tri)) → AreRowsAtLeast rows others → AreAtLeast (flat_map (λ row. row) rows) (flat_map (λ row. row) others)
joined-at_least [] [] e = tt
joined-at_least [] (o ∷ os) e = absurd e
joined-at_least (r ∷ rs) [] e = absurd e
joined-at_least (r ∷ rs) (o ∷ os) e = append-at_least r o (flat_map (λ row. row) rs) (flat_map (λ row. row) os) e.0 (joined-at_least rs os e.1)

-- ---- chains

passed-at_least : (K : CellKind) (row other : List Tri) (i : ℕ) → AreAtLeast row other → IsAtLeast (passed K row i) (passed K other i)
passed-at_least Stuck0 row other i h = refl
passed-at_least Stuck1 row other i h = refl
passed-at_least SlowRise row other i h =
    and-at_least (value_at row i ∷ value_at row (i + 1) ∷ []) (value_at other i ∷ value_at other (i + 1) ∷ []) (value_at-at_least row other h i, (value_at-at_least row other h (i + 1), tt))
passed-at_least SlowFall row other i h =
    or-at_least (value_at row i ∷ value_at row (i + 1) ∷ []) (value_at other i ∷ value_at other (i + 1) ∷ []) (value_at-at_least row other h i, (value_at-at_least row other h (i + 1), tt))

choice-at_least : (b : Bool) (v w x y : Tri) → IsAtLeast v w → IsAtLeast x y → IsAtLeast (cond b v x) (cond b w y)
choice-at_least true v w x y h k = h
choice-at_least false v w x y h k = k

load_with-at_least : (K : CellKind) (c : ℕ) (row other : List Tri) → AreAtLeast row other → AreAtLeast (load_with K c row) (load_with K c other)
load_with-at_least K c row other h = subst (λ (n : ℕ). AreAtLeast (load_with K c row) (map (loaded_at K c other) (range_with_len 0 n))) (length-at_least row other h)
    (map-at_least (loaded_at K c row) (loaded_at K c other) (range_with_len 0 (length row)) (λ i. choice-at_least (nat_lt c i) (passed K row i) (passed K other i) (value_at row i) (value_at other i)
    (passed-at_least K row other i h) (value_at-at_least row other h i)))

unload_with-at_least : (K : CellKind) (c : ℕ) (row other : List Tri) → AreAtLeast row other → AreAtLeast (unload_with K c row) (unload_with K c other)
unload_with-at_least K c row other h = subst (λ (n : ℕ). AreAtLeast (unload_with K c row) (map (unloaded_at K c other) (range_with_len 0 n))) (length-at_least row other h)
    (map-at_least (unloaded_at K c row) (unloaded_at K c other) (range_with_len 0 (length row)) (λ i. choice-at_least (unload_passes K c i) (passed K row i) (passed K other i) (value_at row i) (value_at other i)
    (passed-at_least K row other i h) (value_at-at_least row other h i)))

pub loaded-at_least : (f : Option Fault) (h : ℕ) (row other : List Tri) → AreAtLeast row other → AreAtLeast (loaded f h row) (loaded f h other)
loaded-at_least None h row other e = e
loaded-at_least (Some (fault.Stem m v)) h row other e = e
loaded-at_least (Some (fault.Branch p v)) h row other e = e
loaded-at_least (Some (fault.Bridge a b kind)) h row other e = e
loaded-at_least (Some (fault.Cell g c K)) h row other e = elim (eqb h g) as (λ x. AreAtLeast (cond x (load_with K c row) row) (cond x (load_with K c other) other)) [ true ↦ load_with-at_least K c row other e | false ↦ e ]

pub unloaded-at_least : (f : Option Fault) (h : ℕ) (row other : List Tri) → AreAtLeast row other → AreAtLeast (unloaded f h row) (unloaded f h other)
unloaded-at_least None h row other e = e
unloaded-at_least (Some (fault.Stem m v)) h row other e = e
unloaded-at_least (Some (fault.Branch p v)) h row other e = e
unloaded-at_least (Some (fault.Bridge a b kind)) h row other e = e
unloaded-at_least (Some (fault.Cell g c K)) h row other e = elim (eqb h g) as (λ x. AreAtLeast (cond x (unload_with K c row) row) (cond x (unload_with K c other) other)) [ true ↦ unload_with-at_least K c row other e | false ↦ e ]

loads-at_least : (f : Option Fault) (k : ℕ) (rows others : List (List Tri)) → AreRowsAtLeast rows others → AreRowsAtLeast (map (λ e. loaded f e.0 e.1) (enumerate_from k rows)) (map (λ e. loaded f e.0 e.1) (enumerate_from k others))
loads-at_least f k [] [] e = tt
loads-at_least f k [] (o ∷ os) e = absurd e
loads-at_least f k (r ∷ rs) [] e = absurd e
loads-at_least f k (r ∷ rs) (o ∷ os) e = (loaded-at_least f k r o e.0, loads-at_least f (k + 1) rs os e.1)

-- ---- nets

assigned-at_least : (ms : List ℕ) (vs ws : List Tri) (n : ℕ) → AreAtLeast vs ws → IsAtLeast (assigned ms vs (λ m. Unknown) n) (assigned ms ws (λ m. Unknown) n)
assigned-at_least [] vs ws n h = tt
assigned-at_least (m ∷ ms) [] [] n h = tt
assigned-at_least (m ∷ ms) [] (w ∷ ws) n h = absurd h
assigned-at_least (m ∷ ms) (v ∷ vs) [] n h = absurd h
assigned-at_least (m ∷ ms) (v ∷ vs) (w ∷ ws) n h = choice-at_least (eqb n m) v w (assigned ms vs (λ k. Unknown) n) (assigned ms ws (λ k. Unknown) n) h.0 (assigned-at_least ms vs ws n h.1)

bridged-at_least : (kind : BridgeKind) (v w x y : Tri) → IsAtLeast v w → IsAtLeast x y → IsAtLeast (bridged kind v x) (bridged kind w y)
bridged-at_least Dominant v w x y h k = h
bridged-at_least WiredAnd v w x y h k = and-at_least (v ∷ x ∷ []) (w ∷ y ∷ []) (h, (k, tt))
bridged-at_least WiredOr v w x y h k = or-at_least (v ∷ x ∷ []) (w ∷ y ∷ []) (h, (k, tt))
bridged-at_least DominantAnd v w x y h k = and-at_least (v ∷ x ∷ []) (w ∷ y ∷ []) (h, (k, tt))
bridged-at_least DominantOr v w x y h k = or-at_least (v ∷ x ∷ []) (w ∷ y ∷ []) (h, (k, tt))

-- what a fault forces is at least as definite where the fault-free values are
forced_net-at_least : (g h : ℕ → Tri) (f : Option Fault) (n : ℕ) (x y : Tri) → ((m : ℕ) → IsAtLeast (g m) (h m)) → IsAtLeast x y → IsAtLeast (unwrap_or (forced_net g f n) x) (unwrap_or (forced_net h f n) y)
forced_net-at_least g h None n x y more e = e
forced_net-at_least g h (Some (fault.Stem m v)) n x y more e = forced-at_least (cond (eqb n m) (Some (stuck_value v)) None) x y e
forced_net-at_least g h (Some (fault.Branch p v)) n x y more e = e
forced_net-at_least g h (Some (fault.Bridge a b kind)) n x y more e =
    elim (takes kind (eqb n a) (eqb n b)) as (λ c. IsAtLeast (unwrap_or (cond c (Some (bridged kind (g a) (g b))) None) x) (unwrap_or (cond c (Some (bridged kind (h a) (h b))) None) y)) [
      | true ↦ bridged-at_least kind (g a) (h a) (g b) (h b) (more a) (more b)
      | false ↦ e
    ]
forced_net-at_least g h (Some (fault.Cell i c kind)) n x y more e = e

module _ (t : ScanTest) (w v : ℕ) (more : IsPatternAtLeast (pattern_at t w) (pattern_at t v)) where
  source-at_least : (f : Option Fault) (n : ℕ) → IsAtLeast (source_of t f w n) (source_of t f v n)
  source-at_least f n =
      let rows = loads-at_least f 0 (pattern_at t w).loads (pattern_at t v).loads more.loads in
      assigned-at_least (t.netlist.inputs ++ cells_of t.chains) ((pattern_at t w).inputs ++ flat_map (λ row. row) (loads_of t f w)) ((pattern_at t v).inputs ++ flat_map (λ row. row) (loads_of t f v)) n
      (append-at_least (pattern_at t w).inputs (pattern_at t v).inputs (flat_map (λ row. row) (loads_of t f w)) (flat_map (λ row. row) (loads_of t f v)) more.inputs (joined-at_least (loads_of t f w) (loads_of t f v) rows))

  good-at_least : (n : ℕ) → IsAtLeast (good_value t w n) (good_value t v n)
  good-at_least n = values-at_least t.netlist (source_of t None w) (source_of t None v) nothing_forced (source-at_least None) n

  -- gate by gate: each net's value under the fault
  pub net_value-at_least : (f : Option Fault) (n : ℕ) → IsAtLeast (net_value t f w n) (net_value t f v n)
  unfolding values_of
  net_value-at_least f n = along_related (λ m a b. IsAtLeast a b) Unknown Unknown (net_node t.netlist (source_of t f w) (forced_by t f w)) (net_node t.netlist (source_of t f v) (forced_by t f v)) (λ m. tt)
      (λ m x y h. forced_net-at_least (good_value t w) (good_value t v) f m (driven t.netlist (source_of t f w) (forced_by t f w) (driver_of t.netlist m) x m) (driven t.netlist (source_of t f v) (forced_by t f v) (driver_of t.netlist m) y m)
      good-at_least (driven-at_least t.netlist (source_of t f w) (source_of t f v) (record { net = λ k. None; pin = λ p. forced_pin f p }) (driver_of t.netlist m) x y m (source-at_least f) h))
      (suc (length t.netlist.nets)) n

  pin_value-at_least : (f : Option Fault) (p : ℕ) → IsAtLeast (pin_value t f w p) (pin_value t f v p)
  pin_value-at_least f p = forced-at_least (forced_pin f p) (net_value t f w (pin_at t.netlist p).net) (net_value t f v (pin_at t.netlist p).net) (net_value-at_least f (pin_at t.netlist p).net)

  held-at_least : (f : Option Fault) (kind : PatternKind) (h : ℕ) → AreAtLeast (held t f kind w h) (held t f kind v h)
  held-at_least f Capture h = map-at_least (λ n. pin_value t f w (data_pin t.netlist n)) (λ n. pin_value t f v (data_pin t.netlist n)) (chain_at t h).cells (λ n. pin_value-at_least f (data_pin t.netlist n))
  held-at_least f Shift h = loaded-at_least f h (load t w h) (load t v h) (row_at-at_least (pattern_at t w).loads (pattern_at t v).loads more.loads h)

  output-at_least : (f : Option Fault) (kind : PatternKind) (k : ℕ) → IsAtLeast (output_value t f kind w k) (output_value t f kind v k)
  output-at_least f Capture k = pin_value-at_least f (output_pin t.netlist k)
  output-at_least f Shift k = tt

  -- point by point
  pub observed-at_least : (f : Option Fault) (p : Point) → IsAtLeast (observed t f w p) (observed t f v p)
  observed-at_least f (Output k) = rw (← more.kind) (output-at_least f (pattern_at t w).kind k)
  observed-at_least f (Cell h i) = rw (← more.kind)
      (value_at-at_least (unloaded f h (held t f (pattern_at t w).kind w h)) (unloaded f h (held t f (pattern_at t w).kind v h))
      (unloaded-at_least f h (held t f (pattern_at t w).kind w h) (held t f (pattern_at t w).kind v h) (held-at_least f (pattern_at t w).kind h)) i)

  pub response-at_least : (f : Option Fault) → AreAtLeast (response t f w) (response t f v)
  response-at_least f = map-at_least (observed t f w) (observed t f v) (points_of t) (observed-at_least f)
