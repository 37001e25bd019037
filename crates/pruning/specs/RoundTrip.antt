-- A table written in words and a pool and read back is the same table. Assumes nothing.
use Rattle.std.specs.Prelude.{◌≡◌, Bool, true, get_or, eqb}
use Rattle.std.proofs.Math.Path.{refl, ap}
use Rattle.std.proofs.Common.{sym, ◌∙◌, add-zero, zero-add, arith, drop-drop, get_or-drop, lit<}
use mathlib.Core.List.{List, [], ◌∷◌, ◌++◌, append_assoc, append-nil}
use Prim.Native.Nat.{ℕ, ◌+◌, ◌-◌, ◌^◌, ◌≤◌, ◌<◌}
use Rattle.std.proofs.Math.ListN.{length, drop, length-append}
use Rattle.std.proofs.Math.Seq.{drop-append_seam}
use Rattle.words.specs.Layout.{packed}
use Rattle.words.specs.LayoutLaws.{field_packed}
use Rattle.words.specs.Word.{words_of, bytes_of}
use Rattle.words.specs.WordLaws.{words_bytes}
use Rattle.operators.specs.declared.Operator.{Operator}
use Rattle.operators.specs.Operators.{code_of, operator_of, operator_code}
use Rattle.kleene.specs.declared.Joining.{Joining}
use Rattle.kleene.specs.declared.Joining.TheVariants.{And, Or}
use Rattle.literals.specs.Literals.{Value, literal_of, value_of, value_bytes, value_word, bit_of}
use Rattle.literals.specs.LiteralLaws.{Plain, bit_back, value_at_lem}
use Rattle.predicate.specs.Nodes.{or_equal}
use Rattle.statistics.specs.declared.Statistic.{Statistic}
use Rattle.statistics.specs.declared.Statistic.TheVariants.{Rows}
use Rattle.statistics.specs.Statistics.{place_of}
use Rattle.statistics.specs.ListLaws.{Listed, at_place}
use Rattle.table.specs.Tables.{Table, always, both, against, positive, differ, holds, negation}
use Rattle.table.specs.Encoding.{table_layout, table_word, always_kind, joining_kind, against_kind, positive_kind, differ_kind, holds_kind, negation_kind, pool_of, table_words}
use Rattle.table.specs.Measures.{table_height, table_width, width_is, Names, Literals}
use Rattle.table.specs.EncodingLaws.{Fits, always_fits, against_fits, other_fits, joining_below, place_below, table_below}
use Rattle.pruning.specs.TableReading.{kind_of, operator_field, first_field, second_field, literal_first_field, table_node_of, TableRead, node_table, table_at, table_node}
use Rattle.pruning.specs.declared.TableNode.{TableNode}
use Rattle.pruning.specs.declared.TableNode.TheVariants.{Always, Join, Against, Positive, Differ, Holds, Negation}

-- ---- one word

module _ (pool : List ℕ) (l : ℕ) where
  -- the node that fields stand for
  unfoldable chosen : ℕ → ℕ → ℕ → ℕ → ℕ → TableNode
  chosen k o f s b =
      get_or
      (Always (eqb o 1)
      ∷ Join And
      ∷ Join Or
      ∷ Against (or_equal (operator_of o)) (record { 0 = f }) (eqb b 1) (literal_of pool l)
      ∷ Positive (record { 0 = f })
      ∷ Differ (record { 0 = f }) (record { 0 = s })
      ∷ Holds (record { 0 = f })
      ∷ Negation
      ∷ [])
      k (Always true)

  chosen_fields : (w : ℕ) → table_node_of pool w l ≡ chosen (kind_of w) (operator_field w) (first_field w) (second_field w) (literal_first_field w)
  unfolding table_node_of chosen
  chosen_fields w = refl

  -- fields that fit come out of the word again
  node_word : (k o f s b : ℕ) → Fits k o f s b → table_node_of pool (table_word k o f s b) l ≡ chosen k o f s b
  node_word k o f s b h =
      let vs : List ℕ = k ∷ o ∷ f ∷ s ∷ b ∷ 0 ∷ [] in
      let w : ℕ = packed table_layout vs in
      let e0 : kind_of w ≡ k = field_packed table_layout vs 0 h in
      let e1 : operator_field w ≡ o = field_packed table_layout vs 1 h in
      let e2 : first_field w ≡ f = field_packed table_layout vs 2 h in
      let e3 : second_field w ≡ s = field_packed table_layout vs 3 h in
      let e4 : literal_first_field w ≡ b = field_packed table_layout vs 4 h in
      chosen_fields w ∙ cc

  -- of a kind with no operator
  plain_node : (k f s : ℕ) → k < 16 → f < 256 → s < 256 → table_node_of pool (table_word k 0 f s 0) l ≡ chosen k 0 f s 0
  plain_node k f s h i j = node_word k 0 f s 0 (other_fits k f s h i j)

  pub always_node : (b : Bool) → table_node_of pool (table_word always_kind (bit_of b) 0 0 0) l ≡ Always b
  unfolding chosen
  always_node b = node_word always_kind (bit_of b) 0 0 0 (always_fits b) ∙ ap Always (bit_back b)

  pub join_node : (j : Joining) → table_node_of pool (table_word (joining_kind j) 0 0 0 0) l ≡ Join j
  unfolding chosen
  join_node j = plain_node (joining_kind j) 0 0 (joining_below j) (lit< tt) (lit< tt) ∙ go j
    where
      go : (j : Joining) → chosen (joining_kind j) 0 0 0 0 ≡ Join j
      go And = refl
      go Or = refl

  pub against_node : (o : Operator) (f : ℕ) (b : Bool) → f < 256
      → table_node_of pool (table_word against_kind (code_of o) f 0 (bit_of b)) l ≡ Against o (record { 0 = f }) b (literal_of pool l)
  unfolding chosen
  against_node o f b h =
      node_word against_kind (code_of o) f 0 (bit_of b) (against_fits o f b h) ∙ rw (operator_code o, bit_back b)

  pub positive_node : (f : ℕ) → f < 256 → table_node_of pool (table_word positive_kind 0 f 0 0) l ≡ Positive (record { 0 = f })
  unfolding chosen
  positive_node f h = plain_node positive_kind f 0 (lit< tt) h (lit< tt)

  pub differ_node : (f s : ℕ) → f < 256 → s < 256
      → table_node_of pool (table_word differ_kind 0 f s 0) l ≡ Differ (record { 0 = f }) (record { 0 = s })
  unfolding chosen
  differ_node f s h k = plain_node differ_kind f s (lit< tt) h k

  pub holds_node : (f : ℕ) → f < 256 → table_node_of pool (table_word holds_kind 0 f 0 0) l ≡ Holds (record { 0 = f })
  unfolding chosen
  holds_node f h = plain_node holds_kind f 0 (lit< tt) h (lit< tt)

  pub negation_node : table_node_of pool (table_word negation_kind 0 0 0 0) l ≡ Negation
  unfolding chosen
  negation_node = plain_node negation_kind 0 0 (lit< tt) (lit< tt) (lit< tt)

-- ---- words from a place on

pub word_here_lem : (ws xs : List ℕ) (at w : ℕ) → drop at ws ≡ w ∷ xs → get_or ws at 0 ≡ w
word_here_lem ws xs at w e =
    ap (λ (n : ℕ). get_or ws n 0) (sym (add-zero at)) ∙ sym (get_or-drop at ws 0 0) ∙ ap (λ (l : List ℕ). get_or l 0 0) e

pub word_next : (ws xs : List ℕ) (at w : ℕ) → drop at ws ≡ w ∷ xs → get_or ws (at + 1) 0 ≡ get_or xs 0 0
word_next ws xs at w e = sym (get_or-drop at ws 1 0) ∙ ap (λ (l : List ℕ). get_or l 1 0) e

-- behind a run of n words
pub skip : (ws a b : List ℕ) (at n : ℕ) → length a ≡ n → drop at ws ≡ a ++ b → drop (at + n) ws ≡ b
skip ws a b at n k e = rw (← k) (sym (drop-drop (length a) at ws) ∙ rw e (drop-append_seam a b))

-- ---- the theorem

value_here : (pool p q : List ℕ) (o : ℕ) (v : Value) → Plain v → o ≡ length p → o < 2 ^ 24 → pool ≡ p ++ value_bytes v ++ q
    → value_of pool (literal_of pool (value_word o v)) ≡ v
value_here pool p q o v h k m e = rw (e, k) (value_at_lem p v q h (omega arith))

module _ (list : List Statistic) (most : length list ≤ 256) (pool ws : List ℕ) where
  -- the table at a place, by the node of the word there
  node_here : (d at w : ℕ) (xs : List ℕ) (n : TableNode) → 1 ≤ d → drop at ws ≡ w ∷ xs → table_node_of pool w (get_or xs 0 0) ≡ n
      → table_at list pool ws d at ≡ node_table (table_at list pool ws (d - 1)) list pool at n
  node_here d at w xs n h e k =
      table_node list pool ws d at (λ z. omega arith) n (sym (rw (word_here_lem ws xs at w e, word_next ws xs at w e) k))

  -- the next place counted in the table's own words
  read_back : (t : Table) (o d at : ℕ) (p q rest : List ℕ) → table_height t ≤ d → Names (λ s. Listed s list) t → Literals Plain t → o ≡ length p
      → o + length (pool_of t) < 2 ^ 24 → pool ≡ p ++ pool_of t ++ q → drop at ws ≡ table_words list o t ++ rest
      → table_at list pool ws d at ≡ record { table = t; next = at + table_width t }
  unfolding table_words pool_of
  read_back (always b) o d at p q rest h n l i m e k =
      node_here d at (table_word always_kind (bit_of b) 0 0 0) rest (Always b) h k (always_node pool (get_or rest 0 0) b)
  read_back (both j l r) o d at p q rest h n v i m e k =
      let L : List ℕ = pool_of l in
      let R : List ℕ = pool_of r in
      let w : ℕ = table_word (joining_kind j) 0 0 0 0 in
      let a : List ℕ = table_words list o l in
      let b : List ℕ = table_words list (o + length L) r in
      let f : drop at ws ≡ w ∷ (a ++ (b ++ rest)) = k ∙ ap (λ (x : List ℕ). w ∷ x) (append_assoc a b rest) in
      let fl : drop (at + 1) ws ≡ a ++ (b ++ rest) = skip ws (w ∷ []) (a ++ (b ++ rest)) at 1 refl f in
      let c : ℕ = at + 1 + table_width l in
      let fr : drop c ws ≡ b ++ rest = skip ws a (b ++ rest) (at + 1) (table_width l) (width_is list o l) fl in
      let er : pool ≡ p ++ L ++ R ++ q = e ∙ ap (λ (x : List ℕ). x ++ q) (sym (append_assoc p L R)) in
      let el : pool ≡ p ++ L ++ (R ++ q) = er ∙ append_assoc (p ++ L) R q in
      let sum = length-append L R in
      let behind = length-append p L in
      let hl = read_back l o (d - 1) (at + 1) p (R ++ q) (b ++ rest) (omega arith) n.0 v.0 i (omega arith) el fl in
      let hr = read_back r (o + length L) (d - 1) c (p ++ L) q rest (omega arith) n.1 v.1 (omega arith) (omega arith) er fr in
      node_here d at w (a ++ (b ++ rest)) (Join j) (omega arith) f (join_node pool (get_or (a ++ (b ++ rest)) 0 0) j)
      ∙ rw (hl, hr) (ap (λ (x : ℕ). record { table = both j l r; next = x }) (omega arith))
  read_back (against op s b v) o d at p q rest h n l i m e k =
      node_here d at (table_word against_kind (code_of op) (place_of s list) 0 (bit_of b)) (value_word o v ∷ rest) _ h k
      (against_node pool (value_word o v) op (place_of s list) b (place_below list most s n))
      ∙ rw (at_place s list Rows n, value_here pool p q o v l i (omega arith) e)
  read_back (positive s) o d at p q rest h n l i m e k =
      node_here d at (table_word positive_kind 0 (place_of s list) 0 0) rest _ h k
      (positive_node pool (get_or rest 0 0) (place_of s list) (place_below list most s n))
      ∙ rw (at_place s list Rows n)
  read_back (differ s t) o d at p q rest h n l i m e k =
      node_here d at (table_word differ_kind 0 (place_of s list) (place_of t list) 0) rest _ h k
      (differ_node pool (get_or rest 0 0) (place_of s list) (place_of t list) (place_below list most s n.0) (place_below list most t n.1))
      ∙ rw (at_place s list Rows n.0, at_place t list Rows n.1)
  read_back (holds s) o d at p q rest h n l i m e k =
      node_here d at (table_word holds_kind 0 (place_of s list) 0 0) rest _ h k
      (holds_node pool (get_or rest 0 0) (place_of s list) (place_below list most s n))
      ∙ rw (at_place s list Rows n)
  read_back (negation t) o d at p q rest h n l i m e k =
      let xs : List ℕ = table_words list o t ++ rest in
      let f : drop (at + 1) ws ≡ xs = skip ws (table_word negation_kind 0 0 0 0 ∷ []) xs at 1 refl k in
      let hr = read_back t o (d - 1) (at + 1) p q rest (omega arith) n l i m e f in
      node_here d at (table_word negation_kind 0 0 0 0) xs Negation (omega arith) k (negation_node pool (get_or xs 0 0))
      ∙ rw hr (ap (λ (x : ℕ). record { table = negation t; next = x }) (omega arith))

-- a table at a place of the words, its literals' bytes anywhere in the pool
pub round_trip : (list : List Statistic) (t : Table) (p q ws rest : List ℕ) (d at : ℕ) → length list ≤ 256 → table_height t ≤ d
    → Names (λ s. Listed s list) t → Literals Plain t → length p + length (pool_of t) < 2 ^ 24
    → drop at ws ≡ table_words list (length p) t ++ rest
    → table_at list (p ++ pool_of t ++ q) ws d at ≡ record { table = t; next = at + length (table_words list (length p) t) }
round_trip list t p q ws rest d at most h n l m k =
    rw (width_is list (length p) t) (read_back list most (p ++ pool_of t ++ q) ws t (length p) d at p q rest h n l refl m refl k)

-- a table alone, in bytes
module _ (list : List Statistic) (t : Table) (d : ℕ) (most : length list ≤ 256) (h : table_height t ≤ d) (n : Names (λ s. Listed s list) t)
    (l : Literals Plain t) (m : length (pool_of t) < 2 ^ 24) where
  pub bytes_back : table_at list (pool_of t) (words_of (bytes_of (table_words list 0 t))) d 0 ≡ record { table = t; next = length (table_words list 0 t) }
  bytes_back =
      let ws : List ℕ = table_words list 0 t in
      let e : pool_of t ≡ pool_of t ++ [] = sym (append-nil (pool_of t)) in
      let r = read_back list most (pool_of t) ws t 0 d 0 [] [] [] h n l refl (omega arith) e (sym (append-nil ws)) in
      rw (words_bytes ws (table_below list most 0 t n l (omega arith)), width_is list 0 t) (rw zero-add at r)

  pub table_back : (table_at list (pool_of t) (words_of (bytes_of (table_words list 0 t))) d 0).table ≡ t
  table_back = ap (λ (r : TableRead). r.table) bytes_back
