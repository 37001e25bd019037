-- A checked table is ready to be evaluated. Assumes nothing.
use Rattle.std.proofs.Math.Path.{◌≡◌, refl, sym, ap}
use Rattle.std.proofs.Common.{◌∙◌, arith}
use Rattle.std.specs.Prelude.{Bool, Option, None, Some, cond, not, ◌&&◌, ◌||◌, length, get_or, leb, ltb}
use Rattle.std.proofs.Math.Bool.{true, false, false≢true}
use mathlib.Core.List.{List, [], ◌∷◌}
use Prim.Native.Nat.{ℕ, zero, suc, ◌+◌, ◌%◌, ◌^◌, ◌≤◌, ◌<◌}
use Rattle.std.proofs.Math.Dec.{eqb}
use borrow.Author.Tests.{eqb-true, eqb-false, leb-true, ltb-true, le-ltb, eq-eqb, not-true}
use Rattle.limits.specs.Limits.{max_table_depth, table_room, table_pool_room, statistics_room, guarantees_room}
use Rattle.words.specs.Layout.{packed}
use Rattle.words.specs.LayoutLaws.{packed_fields}
use Rattle.words.specs.Tests.{and_both, or_other}
use Rattle.words.specs.Word.{words_of}
use Rattle.words.specs.WordLaws.{AllBelow, below_tail, words_below}
use Rattle.operators.specs.Operators.{operator_of}
use Rattle.operators.specs.declared.Operator.{Operator}
use Rattle.kleene.specs.declared.Joining.TheVariants.{And, Or}
use Rattle.literals.specs.Literals.{literal_of}
use Rattle.literals.specs.declared.Literal.{Literal}
use Rattle.predicate.specs.Nodes.{or_equal}
use Rattle.table.specs.Encoding.{kind_named}
use Rattle.table.specs.declared.Kind.{Kind}
use Rattle.table.specs.declared.Kind.TheVariants as Kinds
use Rattle.statistics.specs.Statistics.{statistic_layout, column_field, type_field, zero_field, type_of, column_in, statistic_word, statistic_of, statistics_of, same_statistic, key_of}
use Rattle.statistics.specs.ListLaws.{Listed, Distinct, same_is, place_none, place_further}
use Rattle.statistics.specs.declared.Place.{Place}
use Rattle.statistics.specs.declared.Statistic.{Statistic}
use Rattle.statistics.specs.declared.Statistic.TheVariants.{Least, Greatest, Blanks, Rows}
use Rattle.predicate.specs.declared.Column.{Column}
use Rattle.pruning.specs.TableReading.{kind_of, operator_field, literal_first_field, first_of, second_of, statistic_at, table_node_of, node_table, table_node_at, table_at}
use Rattle.pruning.specs.NodeLaws.{node_by, node_kinds, shape_by, formed_so, formed_kinds}
use Rattle.pruning.specs.TableChecking.{statistic_fine, stands_in, statistics_fine, guarantees_fine, table_formed, is_bound, is_blanks, is_rows, named, table_named, table_node_fine, table_behind, then_at, check_table_from, ends, table_fine, words_within, checked_table}
use Rattle.pruning.specs.declared.TableNode.{TableNode}
use Rattle.pruning.specs.declared.TableNode.TheVariants.{Always, Join, Against, Positive, Differ, Holds, Negation}
use Rattle.comparing.specs.Comparing.{Asks}
use Rattle.cells.specs.Grids.{list_of}
use Rattle.evaluating.specs.Rows.{NamedAt}
use Rattle.evaluating.specs.Ready.{NodeReady, behind, TableReady, Ready}

-- ---- the operator of a comparison in a checked table

asks_below : (n : ℕ) → n < 6 → Asks (or_equal (operator_of n))
asks_below zero h = tt
asks_below (suc zero) h = tt
asks_below (suc (suc zero)) h = tt
asks_below (suc (suc (suc zero))) h = tt
asks_below (suc (suc (suc (suc zero)))) h = tt
asks_below (suc (suc (suc (suc (suc zero))))) h = tt
asks_below (suc (suc (suc (suc (suc (suc n)))))) h = absurd (omega arith)

module _ (pool : List ℕ) (w l : ℕ) where
  abbrev nodes : List TableNode
  nodes =
      Always (eqb (operator_field w) 1)
      ∷ Join And
      ∷ Join Or
      ∷ Against (or_equal (operator_of (operator_field w))) (first_of w) (eqb (literal_first_field w) 1) (literal_of pool l)
      ∷ Positive (first_of w)
      ∷ Differ (first_of w) (second_of w)
      ∷ Holds (first_of w)
      ∷ Negation
      ∷ []

  formed_asks : table_formed w ≡ true → (o : Operator) (p : Place) (b : Bool) (v : Literal) → table_node_of pool w l ≡ Against o p b v → Asks o
  formed_asks f o p b v e = go (kind_named (kind_of w)) (sym (formed_kinds w) ∙ f) (sym (node_kinds pool w l) ∙ e)
    where
      go : (k : Option Kind) → formed_so w (shape_by k) ≡ true → node_by pool w l k ≡ Against o p b v → Asks o
      go (Some Kinds.Against) f e =
          let q : or_equal (operator_of (operator_field w)) ≡ o = cc in
          let h = and_both (ltb (operator_field w) 6) _ f in
          rw (← q) (asks_below (operator_field w) (ltb-true (operator_field w) 6 h.0))
      go (Some Kinds.Always) f e = absurd cc
      go (Some Kinds.And) f e = absurd cc
      go (Some Kinds.Or) f e = absurd cc
      go (Some Kinds.Positive) f e = absurd cc
      go (Some Kinds.Differ) f e = absurd cc
      go (Some Kinds.Holds) f e = absurd cc
      go (Some Kinds.Negation) f e = absurd cc
      go None f e = absurd cc

-- ---- a checked table

never_at : {A : Type 0} (m : ℕ) → None ≡ Some m → A
never_at m e = let z : ◌≡◌ {A = ℕ} 0 1 = cc in absurd (omega arith)

module _ (schema : List ℕ) (list : List Statistic) (pool ws : List ℕ) where
  named_at : (sort : Statistic → Bool) (p : Place) → named schema list pool ws sort p ≡ true → NamedAt list sort p
  named_at sort p e =
      let a = and_both (ltb p.0 (length list)) (sort (statistic_at list p)) e in
      (ltb-true p.0 (length list) a.0, a.1)

  -- of a node, from what is behind it; the children's tables are ready
  module _ (d at m : ℕ)
      (ih : (at m : ℕ) → check_table_from schema list pool ws d at ≡ Some m → TableReady list pool ws d at × (behind list pool ws d at ≡ m)) where
    joined : (r : Option ℕ) → check_table_from schema list pool ws d (at + 1) ≡ r
        → then_at schema list pool ws (check_table_from schema list pool ws d) r ≡ Some m
        → (TableReady list pool ws d (at + 1) × TableReady list pool ws d (behind list pool ws d (at + 1)))
        × (behind list pool ws d (behind list pool ws d (at + 1)) ≡ m)
    joined None f e = never_at m e
    joined (Some k) f e =
        let l = ih (at + 1) k f in
        let r = ih k m e in
        ((l.0, rw l.1 r.0), rw l.1 r.1)

    node_ready : (n : TableNode) → n ≡ table_node_at pool ws at → table_formed (get_or ws at 0) ≡ true → table_named schema list pool ws at n ≡ true
        → table_behind schema list pool ws (check_table_from schema list pool ws d) at n ≡ Some m
        → NodeReady list (TableReady list pool ws d) (behind list pool ws d) at n × ((node_table (table_at list pool ws d) list pool at n).next ≡ m)
    node_ready (Always b) q f t e = (tt, cc)
    node_ready (Join j) q f t e = joined (check_table_from schema list pool ws d (at + 1)) refl e
    node_ready (Against o p b l) q f t e =
        let a = and_both (named schema list pool ws is_bound p) _ t in
        ((formed_asks pool (get_or ws at 0) (get_or ws (at + 1) 0) f o p b l (sym q), named_at is_bound p a.0), cc)
    node_ready (Positive p) q f t e = (named_at is_blanks p t, cc)
    node_ready (Differ p r) q f t e =
        let a = and_both (named schema list pool ws is_blanks p) (named schema list pool ws is_rows r) t in
        ((named_at is_blanks p a.0, named_at is_rows r a.1), cc)
    node_ready (Holds p) q f t e =
        let a = and_both (named schema list pool ws is_bound p) _ t in
        (named_at is_bound p a.0, cc)
    node_ready Negation q f t e = ih (at + 1) m e

    fine_ready : (b : Bool) → table_node_fine schema list pool ws at ≡ b
        → cond b (table_behind schema list pool ws (check_table_from schema list pool ws d) at (table_node_at pool ws at)) None ≡ Some m
        → TableReady list pool ws (suc d) at × (behind list pool ws (suc d) at ≡ m)
    unfolding TableReady table_at
    fine_ready true f e =
        let n : TableNode = table_node_at pool ws at in
        let a = and_both (ltb at (length ws)) (table_formed (get_or ws at 0) && table_named schema list pool ws at n) f in
        let b = and_both (table_formed (get_or ws at 0)) (table_named schema list pool ws at n) a.1 in
        let r = node_ready n refl b.0 b.1 e in
        ((ltb-true at (length ws) a.0, r.0), r.1)
    fine_ready false f e = never_at m e

  reached : (d at m : ℕ) → check_table_from schema list pool ws d at ≡ Some m → TableReady list pool ws d at × (behind list pool ws d at ≡ m)
  unfolding check_table_from
  reached zero at m e = never_at m e
  reached (suc d) at m e = fine_ready d at m (reached d) (table_node_fine schema list pool ws at) refl e

  pub table_ready : table_fine schema list pool ws ≡ true → TableReady list pool ws max_table_depth 0
  unfolding table_fine
  table_ready e = go (check_table_from schema list pool ws max_table_depth 0) refl e
    where
      go : (r : Option ℕ) → check_table_from schema list pool ws max_table_depth 0 ≡ r → ends schema list pool ws r ≡ true → TableReady list pool ws max_table_depth 0
      go None f e = absurd (false≢true e)
      go (Some m) f e = (reached max_table_depth 0 m f).0

-- ---- a checked statistics list

-- a fine word is that of its statistic
module _ (schema : List ℕ) (w : ℕ) (f : statistic_fine schema w ≡ true) (below : w < 2 ^ 64) where
  fine_zero : zero_field w ≡ 0
  unfolding statistic_fine
  fine_zero = eqb-true (zero_field w) 0 (and_both (eqb (zero_field w) 0) _ f).0

  fine_rows : type_field w ≡ 3 → column_field w ≡ 0
  unfolding statistic_fine
  fine_rows h =
      let a = and_both (eqb (zero_field w) 0) _ f in
      let b = and_both (ltb (column_field w) (length schema)) (ltb (type_field w) 3 || eqb (column_field w) 0) a.1 in
      eqb-true (column_field w) 0 (or_other (ltb (type_field w) 3) (eqb (column_field w) 0) b.1 (le-ltb (type_field w) 3 (omega arith)))

  fine_parts : (column_in (statistic_of w) ≡ column_field w) × (type_of (statistic_of w) ≡ type_field w)
  unfolding statistic_of
  fine_parts = go (type_field w) refl
    where
      c : Column
      c = record { 0 = column_field w }

      go : (t : ℕ) → type_field w ≡ t
          → (column_in (get_or (Least c ∷ Greatest c ∷ Blanks c ∷ Rows ∷ []) t Rows) ≡ column_field w)
          × (type_of (get_or (Least c ∷ Greatest c ∷ Blanks c ∷ Rows ∷ []) t Rows) ≡ t)
      go zero e = (refl, refl)
      go (suc zero) e = (refl, refl)
      go (suc (suc zero)) e = (refl, refl)
      go (suc (suc (suc zero))) e = (sym (fine_rows e), refl)
      go (suc (suc (suc (suc t)))) e = absurd (omega arith)

  word_back : statistic_word (statistic_of w) ≡ w
  word_back =
      let p = fine_parts in
      ap (λ (c : ℕ). packed statistic_layout (c ∷ type_of (statistic_of w) ∷ 0 ∷ [])) p.0
      ∙ ap (λ (t : ℕ). packed statistic_layout (column_field w ∷ t ∷ 0 ∷ [])) p.1
      ∙ ap (λ (z : ℕ). packed statistic_layout (column_field w ∷ type_field w ∷ z ∷ [])) (sym fine_zero)
      ∙ packed_fields statistic_layout w below

or_true : (b : Bool) → (b || true) ≡ true
or_true true = refl
or_true false = refl

-- every word of a fine list
module _ (schema : List ℕ) where
  head_fine : (w : ℕ) (ws : List ℕ) → statistics_fine schema (w ∷ ws) ≡ true
      → (statistic_fine schema w ≡ true) × (stands_in w ws ≡ false) × (statistics_fine schema ws ≡ true)
  unfolding statistics_fine
  head_fine w ws e =
      let a = and_both (statistic_fine schema w) (not (stands_in w ws) && statistics_fine schema ws) e in
      let b = and_both (not (stands_in w ws)) (statistics_fine schema ws) a.1 in
      (a.0, not-true (stands_in w ws) b.0, b.1)

  -- a listed statistic's word stands in the list
  listed_stands : (w : ℕ) → statistic_fine schema w ≡ true → w < 2 ^ 64 → (ws : List ℕ) → statistics_fine schema ws ≡ true → AllBelow (2 ^ 64) ws
      → Listed (statistic_of w) (statistics_of ws) → stands_in w ws ≡ true
  unfolding statistics_of
  listed_stands w f b [] g k h = absurd (omega (arith, place_none (statistic_of w)))
  listed_stands w f b (x ∷ xs) g k h =
      let g₂ = head_fine x xs g in
      go g₂.0 (listed_stands w f b xs g₂.2 (below_tail (2 ^ 64) x xs k)) (same_statistic (statistic_of x) (statistic_of w)) refl
    where
      go : statistic_fine schema x ≡ true → (Listed (statistic_of w) (statistics_of xs) → stands_in w xs ≡ true)
          → (t : Bool) → same_statistic (statistic_of x) (statistic_of w) ≡ t → stands_in w (x ∷ xs) ≡ true
      go q ih true e =
          let same : x ≡ w = sym (word_back schema x q (k 0)) ∙ ap statistic_word (same_is (statistic_of x) (statistic_of w) e) ∙ word_back schema w f b in
          rw (eq-eqb x w same)
      go q ih false e =
          let other : statistic_of x ≡ statistic_of w → ⊥ = λ q. eqb-false (key_of (statistic_of x)) (key_of (statistic_of w)) e (ap key_of q) in
          let p = place_further (statistic_of w) (statistic_of x) (statistics_of xs) other in
          rw (ih (omega arith)) (or_true (eqb x w))

  pub fine_distinct : (ws : List ℕ) → statistics_fine schema ws ≡ true → AllBelow (2 ^ 64) ws → Distinct (statistics_of ws)
  unfolding statistics_of
  fine_distinct [] f k = tt
  fine_distinct (w ∷ ws) f k =
      let h = head_fine w ws f in
      let r = below_tail (2 ^ 64) w ws k in
      ((λ l. false≢true (sym h.1 ∙ listed_stands w h.0 (k 0) ws h.2 r l)), fine_distinct ws h.2 r)

-- ---- all of it

-- what a checked table says: it is ready, and its lists are within their rooms
pub record Checked (table pool stats guars : List ℕ) : Type 0 where
  pub ready : Ready (list_of stats) pool (words_of table) max_table_depth 0
  pub statistics : length stats ≤ statistics_room
  pub guarantees : length guars ≤ guarantees_room

room_of : (bs : List ℕ) (room : ℕ) → words_within bs room ≡ true → length bs ≤ room
room_of bs room e = leb-true (length bs) room (and_both (eqb (length bs % 8) 0) (leb (length bs) room) e).1

-- its lists' rooms alone
pub checked_rooms : (schema table pool stats guars : List ℕ) → checked_table schema table pool stats guars ≡ true
    → (length stats ≤ statistics_room) × (length guars ≤ guarantees_room)
unfolding checked_table
checked_rooms schema table pool stats guars e =
    let a = and_both (words_within table table_room) _ e in
    let b = and_both (leb (length pool) table_pool_room) _ a.1 in
    let c = and_both (words_within stats statistics_room) _ b.1 in
    let d = and_both (words_within guars guarantees_room) _ c.1 in
    (room_of stats statistics_room c.0, room_of guars guarantees_room d.0)

pub checked_says : (schema table pool stats guars : List ℕ) → AllBelow 256 stats → checked_table schema table pool stats guars ≡ true
    → Checked table pool stats guars
unfolding checked_table
checked_says schema table pool stats guars k e =
    let a = and_both (words_within table table_room) _ e in
    let b = and_both (leb (length pool) table_pool_room) _ a.1 in
    let c = and_both (words_within stats statistics_room) _ b.1 in
    let d = and_both (words_within guars guarantees_room) _ c.1 in
    let f = and_both (statistics_fine schema (words_of stats)) _ d.1 in
    let g = and_both (guarantees_fine schema (words_of guars)) (table_fine schema (list_of stats) pool (words_of table)) f.1 in
    record {
      ready =
          record {
            distinct = fine_distinct schema (words_of stats) f.0 (words_below stats k);
            table = table_ready schema (list_of stats) pool (words_of table) g.1;
          };
      statistics = room_of stats statistics_room c.0;
      guarantees = room_of guars guarantees_room d.0;
    }
