-- How large a predicate's table is: its words, its pool and its levels, by the predicate's measures. Assumes nothing.
use Rattle.std.specs.Prelude.{◌≡◌, Bool, List, [], ◌∷◌, ◌++◌, ℕ, suc, ◌+◌, ◌*◌, ◌≤◌, max, ℤ}
use Rattle.std.proofs.Math.Path.{refl}
use Rattle.std.proofs.Common.{sym, ◌∙◌}
use Rattle.std.proofs.Math.Bool.{false}
use Rattle.std.proofs.Math.Option.{Option, some, none}
use native.Mathlib.Omega.{arith}
use Rattle.std.proofs.Math.ListN.{length, length-append}
use Rattle.limits.specs.Limits.{max_list_literals, max_table_depth, max_table_words, table_pool_room}
use Rattle.words.specs.WordLaws.{length_word}
use Rattle.operators.specs.declared.Operator.{Operator}
use Rattle.operators.specs.declared.Operator.TheVariants.{Equal, NotEqual, Below, AtMost, Above, AtLeast, Distinct, NotDistinct}
use Rattle.kleene.specs.declared.Joining.{Joining}
use Rattle.literals.specs.Signed.{bits_of}
use Rattle.literals.specs.Literals.{Value, null, int, text, truth, value_bytes}
use Rattle.text.specs.Pattern.{prefix_of}
use Rattle.text.specs.Upper.{upper_of, prefix_length}
use Rattle.text.proofs.Upper.{upper_length}
use Rattle.predicate.specs.declared.Column.{Column}
use Rattle.predicate.specs.Predicates.{Predicate, join, not, column, is_null, is_not_null, comparison, list}
use Rattle.predicate.specs.Measures.{leaves, depth, listed, values_bytes, literal_bytes}
use Rattle.predicate.specs.Checking.{type_in}
use Rattle.predicate.specs.Accepted.{literals_split, Fine, Pattern, leaves_some, Whole}
use Rattle.table.specs.Tables.{Table, always, joined}
use Rattle.table.specs.Comparisons.{Turned, asks, stays, turned, comparison_form, turned_form, has_blanks, has_values, bounded_form, pattern_prefix, pattern_upper, like_table}
use Rattle.table.specs.Rewriting.{column_table, not_column_table, comparison_table, list_operator, list_joining, rewritten}
use Rattle.table.specs.Encoding.{pool_of}
use Rattle.table.specs.Measures.{table_height, table_width}
use Rattle.table.specs.Induction.{joined_by, distinct_by, not_distinct_by, Asked, Kept}
use Rattle.table.proofs.Induction.{turned_by, rewritten_by}

-- ---- folding makes nothing larger

module _ (j : Joining) (l r : Table) where
  joined_width : table_width (joined j l r) ≤ 1 + table_width l + table_width r
  joined_width = joined_by (λ t. table_width t ≤ 1 + table_width l + table_width r) j l r (λ b. omega arith) (omega arith) (omega arith) (omega arith)

  joined_height : table_height (joined j l r) ≤ suc (max (table_height l) (table_height r))
  joined_height =
      joined_by (λ t. table_height t ≤ suc (max (table_height l) (table_height r))) j l r (λ b. omega arith) (omega arith) (omega arith) (omega arith)

  joined_pool : length (pool_of (joined j l r)) ≤ length (pool_of l) + length (pool_of r)
  unfolding pool_of
  joined_pool =
      joined_by (λ t. length (pool_of t) ≤ length (pool_of l) + length (pool_of r)) j l r (λ b. omega arith) (omega arith) (omega arith)
      (omega (arith, length-append (pool_of l) (pool_of r)))

-- ---- forms

-- at most 7 words, 3 levels, and a literal's bytes twice
abbrev Form : ℕ → Table → Type 0
Form n t = (table_width t ≤ 7) × (table_height t ≤ 3) × (length (pool_of t) ≤ 2 * n)

module _ (c : Column) where
  form_size : (o : Operator) (v : Value) → Form (length (value_bytes v)) (comparison_form c o v)
  unfolding pool_of
  form_size Equal v = (omega arith, omega arith, omega (arith, length-append (value_bytes v) (value_bytes v)))
  form_size NotEqual v = (omega arith, omega arith, omega (arith, length-append (value_bytes v) (value_bytes v)))
  form_size Below v = (omega arith, omega arith, omega arith)
  form_size AtMost v = (omega arith, omega arith, omega arith)
  form_size Above v = (omega arith, omega arith, omega arith)
  form_size AtLeast v = (omega arith, omega arith, omega arith)
  form_size Distinct v =
      distinct_by (Form (length (value_bytes v))) c v (omega arith, omega arith, omega arith)
      (omega arith, omega arith, omega (arith, length-append (value_bytes v) (value_bytes v)))
  form_size NotDistinct v =
      not_distinct_by (Form (length (value_bytes v))) c v (omega arith, omega arith, omega arith)
      (omega arith, omega arith, omega (arith, length-append (value_bytes v) (value_bytes v)))

  turned_size : (n : ℕ) (t : Turned) → Asked (λ v. length (value_bytes v) ≡ n) t → Form n (turned_form c t)
  unfolding pool_of
  turned_size n (asks o v) e = rw (← e) (form_size o v)
  turned_size n stays e = (omega arith, omega arith, omega arith)

  bounded_size : (prefix : List ℕ) (upper : Option (List ℕ)) → (table_width (bounded_form c prefix upper) ≤ 7) × (table_height (bounded_form c prefix upper) ≤ 3)
  bounded_size prefix none = (omega arith, omega arith)
  bounded_size prefix (some upper) = (omega arith, omega arith)

  -- the prefix and the upper bound, which may have one byte more
  like_pool : (v : Value) → Pattern v → length (pool_of (like_table false c v)) ≤ 2 * length (value_bytes v) + 1
  unfolding pool_of
  like_pool null h = omega arith
  like_pool (int z) h = absurd h
  like_pool (truth b) h = absurd h
  like_pool (text p) h = go (upper_of p) refl
    where
      go : (u : Option (List ℕ)) → upper_of p ≡ u → length (pool_of (bounded_form c (prefix_of false p) u)) ≤ 2 * length p + 1
      go none e = omega arith
      go (some u) e =
          omega (arith, length-append u (prefix_of false p), prefix_length p, upper_length p u h.0 e)

-- an integer negated has as many bytes
minus_bytes : (n : ℕ) (z y : ℤ) → length (value_bytes (int z)) ≡ n → length (value_bytes (int y)) ≡ n
minus_bytes n z y e = length_word (bits_of y) ∙ sym (length_word (bits_of z)) ∙ e

comparison_size : (schema : List ℕ) (o : Operator) (c : Column) (n : ℕ) (b : Bool) (v : Value) → Form (length (value_bytes v)) (comparison_table schema o c n b v)
comparison_size schema o c n b v =
    let k : ℕ = length (value_bytes v) in
    let t = type_in schema c.0 in
    turned_size c k (turned t o n b v) (turned_by (λ u. length (value_bytes u) ≡ k) (λ z y e h. minus_bytes k z y h) (λ b h. h) t o n b v refl)

-- ---- predicates

values_append : (us vs : List Value) → values_bytes (us ++ vs) ≡ values_bytes us + values_bytes vs
values_append [] vs = omega arith
values_append (u ∷ us) vs = omega (arith, values_append us vs)

-- a form, and a join, takes 8 words for each leaf or list literal but the last; a list has a level for each literal but the first
record Size (schema : List ℕ) (p : Predicate) (t : Table) : Type 0 where
  width : table_width t + 1 ≤ 8 * (listed p + leaves p)
  height : table_height t ≤ depth p + max 1 (listed p) + 1
  pool : Fine schema p → length (pool_of t) ≤ 2 * literal_bytes p + leaves p

module _ (schema : List ℕ) where
  still_size : (p : Predicate) (b : Bool) → Size schema p (always b)
  unfolding pool_of
  still_size p b = record { width = omega (arith, leaves_some p); height = omega arith; pool = λ f. omega arith }

  both_size : (j : Joining) (l r : Predicate) (t u : Table) → Size schema l t → Size schema r u → Size schema (join j l r) (joined j t u)
  both_size j l r t u x y =
      record {
        width = omega (arith, joined_width j t u, x.width, y.width);
        height = omega (arith, joined_height j t u, x.height, y.height);
        pool = λ f. omega (arith, joined_pool j t u, x.pool f.0, y.pool f.1);
      }

  -- one literal more
  more_size : (b : Bool) (c : Column) (n : ℕ) (u : Value) (us : List Value) (v : Value) (t : Table) → Size schema (list b c n (u ∷ us)) t
      → Size schema (list b c n (u ∷ (us ++ (v ∷ [])))) (joined (list_joining b) t (comparison_table schema (list_operator b) c n false v))
  more_size b c n u us v t x =
      let m = comparison_table schema (list_operator b) c n false v in
      let f = comparison_size schema (list_operator b) c n false v in
      let e = length-append us (v ∷ []) in
      record {
        width = omega (arith, joined_width (list_joining b) t m, x.width, f.0);
        height = omega (arith, joined_height (list_joining b) t m, x.height, f.1);
        pool = λ g.
            let h = x.pool (g.0, (g.1.0, (literals_split (type_in schema c.0) us (v ∷ []) g.1.1).0)) in
            omega (arith, joined_pool (list_joining b) t m, f.2, values_append us (v ∷ []));
      }

  -- a leaf with a form
  leaf_size : (p : Predicate) (t : Table) (n : ℕ) → Form n t → 2 * n ≤ 2 * literal_bytes p + leaves p → 1 ≤ depth p → Size schema p t
  leaf_size p t n f h k = record { width = omega (arith, f.0, leaves_some p); height = omega (arith, f.1); pool = λ g. omega (arith, f.2) }

  sizes_kept : Kept schema (λ p t a. Size schema p t)
  unfolding pool_of
  sizes_kept =
      record {
        still = still_size;
        joins = λ j l r t u a b. both_size j l r t u;
        of_column = λ c. leaf_size (column c) (column_table c) 0 (omega arith, omega arith, omega arith) (omega arith) (omega arith);
        of_not = λ c. leaf_size (not (column c)) (not_column_table c) 0 (omega arith, omega arith, omega arith) (omega arith) (omega arith);
        of_null = λ c. leaf_size (is_null c) (has_blanks c) 0 (omega arith, omega arith, omega arith) (omega arith) (omega arith);
        of_not_null = λ c. leaf_size (is_not_null c) (has_values c) 0 (omega arith, omega arith, omega arith) (omega arith) (omega arith);
        of_comparison = λ o c n b v.
            leaf_size (comparison o c n b v) (comparison_table schema o c n b v) (length (value_bytes v)) (comparison_size schema o c n b v)
            (omega arith) (omega arith);
        of_one = λ b c n v.
            let o = list_operator b in
            leaf_size (list b c n (v ∷ [])) (comparison_table schema o c n false v) (length (value_bytes v)) (comparison_size schema o c n false v)
            (omega arith) (omega arith);
        of_more = λ b c n u us v t a. more_size b c n u us v t;
        of_like = λ c v.
            let f = bounded_size c (pattern_prefix v) (pattern_upper v) in
            record { width = omega (arith, f.0); height = omega (arith, f.1); pool = λ g. like_pool c v g.1 };
      }

module _ (limit : ℕ) (schema : List ℕ) (p : Predicate) where
  size : Size schema p (rewritten limit schema p)
  size = rewritten_by limit schema (λ p t a. Size schema p t) (sizes_kept schema) p

  pub width_bound : table_width (rewritten limit schema p) + 1 ≤ 8 * (listed p + leaves p)
  width_bound = size.width

  pub height_bound : (m : ℕ) → listed p ≤ m → 1 ≤ m → table_height (rewritten limit schema p) ≤ depth p + m + 1
  height_bound m h k = omega (arith, size.height)

  pub pool_bound : Fine schema p → length (pool_of (rewritten limit schema p)) ≤ 2 * literal_bytes p + leaves p
  pool_bound = size.pool

-- of a predicate that checking accepts
module _ (limit : ℕ) (schema ws : List ℕ) (p : Predicate) (w : Whole schema ws p) where
  pub words_most : table_width (rewritten limit schema p) ≤ max_table_words
  words_most = omega (arith, width_bound limit schema p, w.listed, w.leaves, w.nodes)

  pub pool_most : length (pool_of (rewritten limit schema p)) ≤ table_pool_room
  pool_most = omega (arith, pool_bound limit schema p w.fine, w.bytes, w.leaves, w.nodes)

  pub height_most : table_height (rewritten limit schema p) ≤ max_table_depth
  height_most = omega (arith, height_bound limit schema p max_list_literals w.listed (omega arith), w.depth)
