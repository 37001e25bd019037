-- A table, a statistics list and guarantees that keep their bounds, written in bytes: what was written is read back, and is accepted as a
-- checked table. Assumes nothing.
use Rattle.std.specs.Prelude.{◌≡◌, Bool, true, false, Option, Some, ◌&&◌, ◌||◌, get_or, eqb, ltb}
use Rattle.std.proofs.Math.Path.{refl, ap}
use Rattle.std.proofs.Common.{sym, ◌∙◌, sub-one, length-drop, lit<}
use mathlib.Core.List.{List, [], ◌∷◌, ◌++◌, append_assoc, append-nil}
use Prim.Native.Nat.{ℕ, zero, suc, ◌+◌, ◌-◌, ◌*◌, ◌%◌, ◌^◌, ◌≤◌, ◌<◌}
use native.Mathlib.Omega.{arith}
use Rattle.std.proofs.Math.ListN.{length, drop, length-append}
use borrow.Author.Tests.{lt-ltb, le-leb, eq-eqb, ne_eqb}
use Rattle.limits.specs.Limits.{max_columns, max_table_depth, max_table_text_bytes, max_table_words, max_statistics, max_guarantees, table_room, table_pool_room, statistics_room, guarantees_room}
use Rattle.words.specs.Layout.{packed}
use Rattle.words.specs.LayoutLaws.{field_packed}
use Rattle.words.specs.Word.{words_of, bytes_of}
use Rattle.words.specs.WordLaws.{length_bytes, length_word, words_bytes}
use Rattle.operators.specs.Operators.{code_of}
use Rattle.operators.specs.declared.Operator.{Operator}
use Rattle.kleene.specs.declared.Joining.{Joining}
use Rattle.kleene.specs.declared.Joining.TheVariants.{And, Or}
use Rattle.literals.specs.Literals.{Value, null, int, text, truth, integer_type, text_type, truth_type, plain, suits, value_bytes, value_word, bit_of}
use Rattle.literals.specs.Signed.{bits_of}
use Rattle.literals.specs.LiteralLaws.{Plain, type_value, length_value, zero_value, offset_value, bit_below}
use Rattle.predicate.specs.Checking.{unused_zero}
use Rattle.statistics.specs.declared.Statistic.{Statistic}
use Rattle.statistics.specs.declared.Statistic.TheVariants.{Least, Greatest, Blanks, Rows}
use Rattle.statistics.specs.Statistics as Statistics
use Rattle.statistics.specs.Statistics.{column_in, statistic_word, statistic_of, statistic_words, statistics_of, place_of}
use Rattle.statistics.specs.ListLaws.{Listed, at_place, listed_here, listed_further, Distinct, Columns, columns_wider, statistic_column, statistic_type, statistic_zero, statistic_word_lem, length_statistics, statistics_words, statistics_below, statistics_bytes_lem}
use Rattle.table.specs.Tables.{Table, always, both, against, positive, differ, holds, negation}
use Rattle.table.specs.Encoding.{table_layout, table_word, always_kind, joining_kind, against_kind, positive_kind, differ_kind, holds_kind, negation_kind, pool_of, table_words}
use Rattle.table.specs.EncodingLaws.{Fits, always_fits, against_fits, other_fits, place_below, table_below}
use Rattle.table.specs.Measures.{table_height, table_width, width_is, Names}
use Rattle.table.proofs.Proper.{Suits, Proper, suits_plain, proper_plain}
use Rattle.guarantees.specs.Guarantees.{Guarantee, guarantee_words}
use Rattle.guarantees.specs.GuaranteeLaws.{AllSmall, guarantee_column, guarantee_zero, length_guarantees, guarantees_below}
use Rattle.guarantees.specs.Bounds.{Placed}
use Rattle.pruning.specs.TableReading.{kind_of, operator_field, first_field, second_field, literal_first_field, zero_field, table_node_of, table_at}
use Rattle.pruning.specs.TableChecking.{statistic_fine, stands_in, statistics_fine, guarantees_fine, table_shape_of, table_formed, is_bound, is_blanks, is_rows, bound_type, table_literal, named, table_named, table_behind, check_table_from, table_fine, words_within, checked_table}
use Rattle.pruning.specs.RoundTrip.{always_node, join_node, against_node, positive_node, differ_node, holds_node, negation_node, word_here_lem, word_next, skip, table_back}
use Rattle.pruning.specs.declared.TableNode.{TableNode}
use Rattle.pruning.specs.declared.TableShape.{TableShape}
use Rattle.pruning.specs.declared.TableNode.TheVariants.{Always, Join, Negation}

-- ---- literals

suits_short : (type : ℕ) (v : Value) → Suits type v → length (value_bytes v) ≤ max_table_text_bytes
suits_short type null s = omega arith
suits_short type (int z) s = omega (arith, length_word (bits_of z))
suits_short type (text bs) s = s.1
suits_short type (truth b) s = omega arith

module _ (o : ℕ) (k : o < 2 ^ 24) where
  value_plain : (v : Value) → Plain v → plain (value_word o v) ≡ true
  value_plain null h = refl
  value_plain (int z) h = rw (zero_value o (int z) h k, type_value o (int z) h k)
  value_plain (text bs) h = rw (zero_value o (text bs) h k, type_value o (text bs) h k)
  value_plain (truth b) h = rw (zero_value o (truth b) h k, type_value o (truth b) h k)

  module _ (pool : List ℕ) where
    value_suits : (type : ℕ) (v : Value) → Plain v → Suits type v → o + length (value_bytes v) ≤ length pool → suits pool type (value_word o v) ≡ true
    unfolding suits
    value_suits type null h s m = refl
    value_suits type (int z) h s m =
        rw (type_value o (int z) h k, length_value o (int z) h k, offset_value o (int z) h k, length_word, eq-eqb type integer_type s.0)
        (le-leb _ _ (rw length_word at m))
    value_suits type (text bs) h s m =
        rw (type_value o (text bs) h k, length_value o (text bs) h k, offset_value o (text bs) h k, eq-eqb type text_type s.0) (le-leb _ _ m)
    value_suits type (truth b) h s m =
        rw (type_value o (truth b) h k, length_value o (truth b) h k, offset_value o (truth b) h k, eq-eqb type truth_type s)
        (le-leb (bit_of b) 1 (omega (arith, bit_below b)))

    literal_fine : (schema : List ℕ) (s : Statistic) (v : Value) → Suits (bound_type schema s) v → o + length (value_bytes v) ≤ length pool
        → table_literal schema pool s (value_word o v) ≡ true
    literal_fine schema s v h m =
        let type = bound_type schema s in
        let p : Plain v = suits_plain type v h in
        rw (value_plain v p, value_suits type v p h m, length_value o v p k) (le-leb _ _ (suits_short type v h))

-- ---- the statistics list

module _ (schema : List ℕ) (few : length schema ≤ max_columns) where
  -- rows has column 0
  sort_fine : (s : Statistic) → (ltb (Statistics.type_of s) 3 || eqb (column_in s) 0) ≡ true
  sort_fine (Least c) = refl
  sort_fine (Greatest c) = refl
  sort_fine (Blanks c) = refl
  sort_fine Rows = refl

  statistic_fine_lem : (s : Statistic) → column_in s < length schema → statistic_fine schema (statistic_word s) ≡ true
  unfolding statistic_fine
  statistic_fine_lem s h =
      let k : column_in s < 256 = omega arith in
      rw (statistic_zero s k, statistic_column s k, statistic_type s k, lt-ltb (column_in s) (length schema) h) (sort_fine s)

  -- other statistics have other words
  other_word : (s x : Statistic) → column_in s < 256 → column_in x < 256 → (x ≡ s → ⊥) → eqb (statistic_word x) (statistic_word s) ≡ false
  other_word s x h k d = ne_eqb _ _ (λ e. d (sym (statistic_word_lem x k) ∙ ap statistic_of e ∙ statistic_word_lem s h))

  alone : (s : Statistic) (ss : List Statistic) → column_in s < 256 → Columns 256 ss → (Listed s ss → ⊥) → stands_in (statistic_word s) (statistic_words ss) ≡ false
  alone s [] h c l = refl
  alone s (x ∷ xs) h c l =
      rw (other_word s x h c.0 (λ e. l (rw e (listed_here s xs))), alone s xs h c.1 (λ m. l (listed_further s x xs m)))

  statistics_fine_lem : (list : List Statistic) → Columns (length schema) list → Distinct list → statistics_fine schema (statistic_words list) ≡ true
  unfolding statistics_fine
  statistics_fine_lem [] c d = refl
  statistics_fine_lem (s ∷ ss) c d =
      let a = alone s ss (omega (arith, c.0)) (columns_wider (length schema) 256 ss (omega arith) c.1) d.0 in
      rw (statistic_fine_lem s c.0, a, statistics_fine_lem ss c.1 d.1)

-- ---- guarantees

guarantees_fine_lem : (schema : List ℕ) (n : ℕ) (gs : List Guarantee) → Placed (length schema) n gs → AllSmall gs
    → guarantees_fine schema (guarantee_words gs) ≡ true
unfolding guarantees_fine
guarantees_fine_lem schema n [] p s = refl
guarantees_fine_lem schema n (g ∷ gs) p s =
    rw (guarantee_zero g s.0, guarantee_column g s.0, lt-ltb g.of.0 (length schema) p.0.0, guarantees_fine_lem schema n gs p.1 s.1)

-- ---- the table

-- the fields that a kind has not are zero, and so is the unnamed one
abbrev shaped : TableShape → ℕ → ℕ → ℕ → ℕ → Bool
shaped k o f s b =
    ltb o k.operators && (unused_zero k.first f && (unused_zero k.second s && (unused_zero k.literal_first b && true)))

formed_word : (k o f s b : ℕ) → Fits k o f s b → shaped (table_shape_of k) o f s b ≡ true → table_formed (table_word k o f s b) ≡ true
unfolding table_formed
formed_word k o f s b h e =
    let vs : List ℕ = k ∷ o ∷ f ∷ s ∷ b ∷ 0 ∷ [] in
    let w : ℕ = packed table_layout vs in
    let e0 : kind_of w ≡ k = field_packed table_layout vs 0 h in
    let e1 : operator_field w ≡ o = field_packed table_layout vs 1 h in
    let e2 : first_field w ≡ f = field_packed table_layout vs 2 h in
    let e3 : second_field w ≡ s = field_packed table_layout vs 3 h in
    let e4 : literal_first_field w ≡ b = field_packed table_layout vs 4 h in
    let e5 : zero_field w ≡ 0 = field_packed table_layout vs 5 h in
    rw (e0, e1, e2, e3, e4, e5) e

always_formed : (b : Bool) → table_formed (table_word always_kind (bit_of b) 0 0 0) ≡ true
always_formed b = formed_word always_kind (bit_of b) 0 0 0 (always_fits b) (rw (lt-ltb (bit_of b) 2 (bit_below b)))

-- of a kind with no operator
naming_formed : (k f s : ℕ) → k < 16 → f < 256 → s < 256 → shaped (table_shape_of k) 0 f s 0 ≡ true → table_formed (table_word k 0 f s 0) ≡ true
naming_formed k f s h i j e = formed_word k 0 f s 0 (other_fits k f s h i j) e

join_formed : (j : Joining) → table_formed (table_word (joining_kind j) 0 0 0 0) ≡ true
join_formed And = naming_formed (joining_kind And) 0 0 (lit< tt) (lit< tt) (lit< tt) refl
join_formed Or = naming_formed (joining_kind Or) 0 0 (lit< tt) (lit< tt) (lit< tt) refl

against_formed : (o : Operator) (f : ℕ) (b : Bool) → code_of o < 6 → f < 256 → table_formed (table_word against_kind (code_of o) f 0 (bit_of b)) ≡ true
against_formed o f b h k = formed_word against_kind (code_of o) f 0 (bit_of b) (against_fits o f b k) (rw (lt-ltb (code_of o) 6 h))

-- the sorts that kinds read
bound_sort : (s : Statistic) → Statistics.type_of s < 2 → is_bound s ≡ true
bound_sort (Least c) h = refl
bound_sort (Greatest c) h = refl
bound_sort (Blanks c) h = absurd (omega arith)
bound_sort Rows h = absurd (omega arith)

blanks_sort : (s : Statistic) → Statistics.type_of s ≡ 2 → is_blanks s ≡ true
blanks_sort (Least c) h = absurd (omega arith)
blanks_sort (Greatest c) h = absurd (omega arith)
blanks_sort (Blanks c) h = refl
blanks_sort Rows h = absurd (omega arith)

rows_sort : (s : Statistic) → Statistics.type_of s ≡ 3 → is_rows s ≡ true
rows_sort (Least c) h = absurd (omega arith)
rows_sort (Greatest c) h = absurd (omega arith)
rows_sort (Blanks c) h = absurd (omega arith)
rows_sort Rows h = refl

module _ (schema : List ℕ) (list : List Statistic) (most : length list ≤ 256) (pool ws : List ℕ) where
  abbrev check : ℕ → ℕ → Option ℕ
  check = check_table_from schema list pool ws

  here_inside : (at w : ℕ) (xs : List ℕ) → drop at ws ≡ w ∷ xs → at + 1 + length xs ≡ length ws
  here_inside at w xs e = let l = ap length e in omega (arith, length-drop at ws)

  -- on from a node whose word is there, formed and naming what it reads
  check_here : (d at w : ℕ) (xs : List ℕ) (n : TableNode) → 1 ≤ d → drop at ws ≡ w ∷ xs → table_node_of pool w (get_or xs 0 0) ≡ n → table_formed w ≡ true
      → table_named schema list pool ws at n ≡ true → check d at ≡ table_behind schema list pool ws (check (d - 1)) at n
  unfolding check_table_from
  check_here zero at w xs n h e k f g = absurd (omega arith)
  check_here (suc d) at w xs n h e k f g =
      rw (word_here_lem ws xs at w e, word_next ws xs at w e, k, f, g, lt-ltb at (length ws) (omega (arith, here_inside at w xs e)), sub-one)

  named_fine : (sort : Statistic → Bool) (s : Statistic) → Listed s list → sort s ≡ true → named schema list pool ws sort (record { 0 = place_of s list }) ≡ true
  named_fine sort s l e = rw (lt-ltb (place_of s list) (length list) l, at_place s list Rows l) e

  -- a table's words at a place are checked to their end
  check_back : (t : Table) (o d at : ℕ) (rest : List ℕ) → table_height t ≤ d → Names (λ s. Listed s list) t → Proper schema t
      → o + length (pool_of t) ≤ length pool → length pool < 2 ^ 24 → drop at ws ≡ table_words list o t ++ rest → check d at ≡ Some (at + table_width t)
  unfolding table_words pool_of
  check_back (always b) o d at rest h n p m q k =
      check_here d at (table_word always_kind (bit_of b) 0 0 0) rest (Always b) h k (always_node pool (get_or rest 0 0) b) (always_formed b) refl
  check_back (both j l r) o d at rest h n p m q k =
      let w : ℕ = table_word (joining_kind j) 0 0 0 0 in
      let i : ℕ = o + length (pool_of l) in
      let a : List ℕ = table_words list o l in
      let b : List ℕ = table_words list i r in
      let c : ℕ = at + 1 + table_width l in
      let f : drop at ws ≡ w ∷ (a ++ (b ++ rest)) = k ∙ ap (λ (x : List ℕ). w ∷ x) (append_assoc a b rest) in
      let fl : drop (at + 1) ws ≡ a ++ (b ++ rest) = skip ws (w ∷ []) (a ++ (b ++ rest)) at 1 refl f in
      let fr : drop c ws ≡ b ++ rest = skip ws a (b ++ rest) (at + 1) (table_width l) (width_is list o l) fl in
      let sum = length-append (pool_of l) (pool_of r) in
      let hl = check_back l o (d - 1) (at + 1) (b ++ rest) (omega arith) n.0 p.0 (omega arith) q fl in
      let hr = check_back r i (d - 1) c rest (omega arith) n.1 p.1 (omega arith) q fr in
      check_here d at w (a ++ (b ++ rest)) (Join j) (omega arith) f (join_node pool (get_or (a ++ (b ++ rest)) 0 0) j) (join_formed j) refl
      ∙ rw (hl, hr) (ap Some (omega arith))
  check_back (against op s b v) o d at rest h n p m q k =
      let x : ℕ = place_of s list in
      let y : ℕ = table_word against_kind (code_of op) x 0 (bit_of b) in
      let fits = place_below list most s n in
      check_here d at y (value_word o v ∷ rest) _ h k (against_node pool (value_word o v) op x b fits) (against_formed op x b p.0 fits)
      (rw (
        named_fine is_bound s n (bound_sort s p.1),
        lt-ltb (at + 1) (length ws) (omega (arith, here_inside at y (value_word o v ∷ rest) k)),
        word_next ws (value_word o v ∷ rest) at y k,
        at_place s list Rows n,
      )
      (literal_fine o (omega arith) pool schema s v p.2 m))
  check_back (positive s) o d at rest h n p m q k =
      let x : ℕ = place_of s list in
      let i = place_below list most s n in
      check_here d at (table_word positive_kind 0 x 0 0) rest _ h k (positive_node pool (get_or rest 0 0) x i)
      (naming_formed positive_kind x 0 (lit< tt) i (lit< tt) refl) (named_fine is_blanks s n (blanks_sort s p))
  check_back (differ s t) o d at rest h n p m q k =
      let x : ℕ = place_of s list in
      let y : ℕ = place_of t list in
      let i = place_below list most s n.0 in
      let j = place_below list most t n.1 in
      check_here d at (table_word differ_kind 0 x y 0) rest _ h k (differ_node pool (get_or rest 0 0) x y i j)
      (naming_formed differ_kind x y (lit< tt) i j refl)
      (rw (named_fine is_blanks s n.0 (blanks_sort s p.0), named_fine is_rows t n.1 (rows_sort t p.1)))
  check_back (holds s) o d at rest h n p m q k =
      let x : ℕ = place_of s list in
      let i = place_below list most s n in
      check_here d at (table_word holds_kind 0 x 0 0) rest _ h k (holds_node pool (get_or rest 0 0) x i)
      (naming_formed holds_kind x 0 (lit< tt) i (lit< tt) refl)
      (rw (named_fine is_bound s n (bound_sort s p.0), at_place s list Rows n) (eq-eqb _ _ p.1))
  check_back (negation t) o d at rest h n p m q k =
      let w : ℕ = table_word negation_kind 0 0 0 0 in
      let xs : List ℕ = table_words list o t ++ rest in
      let f : drop (at + 1) ws ≡ xs = skip ws (w ∷ []) xs at 1 refl k in
      let hr = check_back t o (d - 1) (at + 1) rest (omega arith) n p m q f in
      check_here d at w xs Negation (omega arith) k (negation_node pool (get_or xs 0 0))
      (naming_formed negation_kind 0 0 (lit< tt) (lit< tt) (lit< tt) refl) refl
      ∙ rw hr (ap Some (omega arith))

-- ---- all of it

-- bytes of words, within a room
words_within_lem : (ws : List ℕ) (room : ℕ) → 8 * length ws ≤ room → words_within (bytes_of ws) room ≡ true
words_within_lem ws room h =
    let e = length_bytes ws in
    rw (eq-eqb (length (bytes_of ws) % 8) 0 (omega arith), le-leb (length (bytes_of ws)) room (omega arith))

-- n is the number of words in which the guarantees' places lie
pub record Bounded (schema : List ℕ) (n : ℕ) (t : Table) (list : List Statistic) (gs : List Guarantee) : Type 0 where
  pub few : length schema ≤ max_columns
  pub table : length (bytes_of (table_words list 0 t)) ≤ 8 * max_table_words
  pub pool : length (pool_of t) ≤ table_pool_room
  pub height : table_height t ≤ max_table_depth
  pub proper : Proper schema t
  pub names : Names (λ s. Listed s list) t
  pub statistics : length list ≤ max_statistics
  pub distinct : Distinct list
  pub columns : Columns (length schema) list
  pub guarantees : length gs ≤ max_guarantees
  pub placed : Placed (length schema) n gs
  pub small : AllSmall gs

module _ (schema : List ℕ) (n : ℕ) (t : Table) (list : List Statistic) (gs : List Guarantee) (b : Bounded schema n t list gs) where
  pub wide_columns : Columns 256 list
  wide_columns = columns_wider (length schema) 256 list (omega (arith, b.few)) b.columns

  pub statistics_back : statistics_of (words_of (bytes_of (statistic_words list))) ≡ list
  statistics_back = statistics_bytes_lem list wide_columns

  pub read_back : (table_at list (pool_of t) (words_of (bytes_of (table_words list 0 t))) max_table_depth 0).table ≡ t
  read_back =
      table_back list t max_table_depth (omega (arith, b.statistics)) b.height b.names (proper_plain schema t b.proper) (omega (arith, b.pool))

  table_fine_lem : table_fine schema list (pool_of t) (table_words list 0 t) ≡ true
  unfolding table_fine
  table_fine_lem =
      let ws : List ℕ = table_words list 0 t in
      rw (
        check_back schema list (omega (arith, b.statistics)) (pool_of t) ws t 0 max_table_depth 0 [] b.height b.names b.proper
            (omega arith) (omega (arith, b.pool)) (sym (append-nil ws)),
        width_is list 0 t,
      )
      (eq-eqb (0 + table_width t) (table_width t) (omega arith))

  pub written_checked : checked_table schema (bytes_of (table_words list 0 t)) (pool_of t) (bytes_of (statistic_words list)) (bytes_of (guarantee_words gs)) ≡ true
  unfolding checked_table
  written_checked =
      let ws : List ℕ = table_words list 0 t in
      let below = table_below list (omega (arith, b.statistics)) 0 t b.names (proper_plain schema t b.proper) (omega (arith, b.pool)) in
      rw (
        words_within_lem ws table_room (omega (arith, b.table, length_bytes ws)),
        le-leb (length (pool_of t)) table_pool_room b.pool,
        words_within_lem (statistic_words list) statistics_room (omega (arith, b.statistics, length_statistics list)),
        words_within_lem (guarantee_words gs) guarantees_room (omega (arith, b.guarantees, length_guarantees gs)),
        words_bytes (statistic_words list) (statistics_below list wide_columns),
        statistics_fine_lem schema b.few list b.columns b.distinct,
        words_bytes (guarantee_words gs) (guarantees_below gs b.small),
        guarantees_fine_lem schema n gs b.placed b.small,
        words_bytes ws below,
        statistics_words list wide_columns,
      )
      table_fine_lem
