-- Every statistic that a predicate's table names is listed, and of a column of the schema. Assumes nothing.
use Rattle.std.specs.Prelude.{Bool, false, List, [], ◌∷◌, ◌++◌, ℕ, ◌+◌, ◌*◌, ◌≤◌, ◌<◌, length}
use Rattle.std.proofs.Math.Option.{Option, some, none}
use Rattle.std.proofs.Common.{arith}
use Rattle.operators.specs.declared.Operator.{Operator}
use Rattle.operators.specs.declared.Operator.TheVariants.{Equal, NotEqual, Below, AtMost, Above, AtLeast, Distinct, NotDistinct}
use Rattle.kleene.specs.declared.Joining.{Joining}
use Rattle.literals.specs.Literals.{Value}
use Rattle.predicate.specs.declared.Column.{Column}
use Rattle.predicate.specs.Predicates.{Predicate}
use Rattle.predicate.specs.Checking.{type_in}
use Rattle.predicate.specs.Accepted.{ColumnsBelow}
use Rattle.statistics.specs.declared.Statistic.{Statistic}
use Rattle.statistics.specs.declared.Statistic.TheVariants.{Least, Greatest, Blanks, Rows}
use Rattle.statistics.specs.Statistics.{added_all}
use Rattle.statistics.specs.ListLaws.{Listed, listed_here, listed_further, added_all_listed, Distinct as Different, added_all_distinct, Columns, columns_append, columns_added_all, added_all_most}
use Rattle.table.specs.Tables.{Table, joined}
use Rattle.table.specs.Comparisons.{Turned, asks, stays, turned, comparison_form, comparison_lists, turned_form, turned_lists, bounded_form, bounded_lists, pattern_prefix, pattern_upper}
use Rattle.table.specs.Rewriting.{comparison_table, comparison_statistics, list_operator, list_joining, rewritten, lists, statistics}
use Rattle.table.specs.Measures.{Names, names_map}
use Rattle.table.specs.Induction.{joined_by, distinct_by, not_distinct_by, Kept}
use Rattle.table.proofs.Induction.{rewritten_by}

-- ---- a property of every statistic of a list

abbrev pub Each : (Statistic → Type 0) → List Statistic → Type 0
Each Q [] = Unit {0}
Each Q (s ∷ ss) = Q s × Each Q ss

module _ (Q : Statistic → Type 0) where
  each_front : (xs ys : List Statistic) → Each Q (xs ++ ys) → Each Q xs
  each_front [] ys h = tt
  each_front (x ∷ xs) ys h = (h.0, each_front xs ys h.1)

  each_behind : (xs ys : List Statistic) → Each Q (xs ++ ys) → Each Q ys
  each_behind [] ys h = h
  each_behind (x ∷ xs) ys h = each_behind xs ys h.1

  each_map : (R : Statistic → Type 0) → ((s : Statistic) → R s → Q s) → (list : List Statistic) → Each R list → Each Q list
  each_map R f [] h = tt
  each_map R f (s ∷ ss) h = (f s h.0, each_map R f ss h.1)

each_listed : (list : List Statistic) → Each (λ s. Listed s list) list
each_listed [] = tt
each_listed (x ∷ xs) =
    (listed_here x xs, each_map (λ s. Listed s (x ∷ xs)) (λ s. Listed s xs) (λ s h. listed_further s x xs h) xs (each_listed xs))

-- ---- what is named is listed

module _ (Q : Statistic → Type 0) where
  -- a join lists what both sides list
  joined_names : (j : Joining) (t u : Table) (a b : List Statistic) → (Each Q a → Names Q t) → (Each Q b → Names Q u) → Each Q (a ++ b)
      → Names Q (joined j t u)
  joined_names j t u a b x y h =
      let l = x (each_front Q a b h) in
      let r = y (each_behind Q a b h) in
      joined_by (Names Q) j t u (λ c. tt) l r (l, r)

  form_names : (c : Column) (o : Operator) (v : Value) → Each Q (comparison_lists c o) → Names Q (comparison_form c o v)
  form_names c Equal v (l, (g, (b, (r, h)))) = ((b, r), (l, g))
  form_names c NotEqual v (l, (g, (b, (r, h)))) = ((b, r), (l, g))
  form_names c Below v (l, (b, (r, h))) = ((b, r), l)
  form_names c AtMost v (l, (b, (r, h))) = ((b, r), l)
  form_names c Above v (g, (b, (r, h))) = ((b, r), g)
  form_names c AtLeast v (g, (b, (r, h))) = ((b, r), g)
  form_names c Distinct v (b, (r, (l, (g, h)))) = distinct_by (Names Q) c v (b, r) (b, (l, g))
  form_names c NotDistinct v (b, (r, (l, (g, h)))) = not_distinct_by (Names Q) c v b ((b, r), (l, g))

  turned_names : (c : Column) (t : Turned) → Each Q (turned_lists c t) → Names Q (turned_form c t)
  turned_names c (asks o v) h = form_names c o v h
  turned_names c stays h = tt

  bounded_names : (c : Column) (prefix : List ℕ) (upper : Option (List ℕ)) → Each Q (Least c ∷ Greatest c ∷ bounded_lists c upper)
      → Names Q (bounded_form c prefix upper)
  bounded_names c prefix none h = tt
  bounded_names c prefix (some upper) (l, (g, (b, (r, h)))) = ((b, r), (l, g))

  module _ (schema : List ℕ) where
    comparison_names : (o : Operator) (c : Column) (n : ℕ) (b : Bool) (v : Value) → Each Q (comparison_statistics schema o c n b v)
        → Names Q (comparison_table schema o c n b v)
    comparison_names o c n b v h = turned_names c (turned (type_in schema c.0) o n b v) h

    names_kept : Kept schema (λ p t a. Each Q a → Names Q t)
    names_kept =
        record {
          still = λ p b h. tt;
          joins = λ j l r. joined_names j;
          of_column = λ c h. (h.0, h.1.0);
          of_not = λ c h. (h.0, h.1.0);
          of_null = λ c h. h.0;
          of_not_null = λ c h. (h.0, h.1.0);
          of_comparison = comparison_names;
          of_one = λ b c n v. comparison_names (list_operator b) c n false v;
          of_more = λ b c n u us v t a x.
              let o = list_operator b in
              joined_names (list_joining b) t (comparison_table schema o c n false v) a (comparison_statistics schema o c n false v) x (comparison_names o c n false v);
          of_like = λ c v h. bounded_names c (pattern_prefix v) (pattern_upper v) h;
        }

    -- what holds of all that a predicate lists holds of all that its table names
    pub names_of : (limit : ℕ) (p : Predicate) → Each Q (lists limit schema p) → Names Q (rewritten limit schema p)
    names_of limit p = rewritten_by limit schema (λ p t a. Each Q a → Names Q t) names_kept p

module _ (limit : ℕ) (schema : List ℕ) (p : Predicate) where
  pub rewritten_names : Names (λ s. Listed s (lists limit schema p)) (rewritten limit schema p)
  rewritten_names = names_of (λ s. Listed s (lists limit schema p)) schema limit p (each_listed (lists limit schema p))

  pub rewritten_listed : Names (λ s. Listed s (statistics limit schema p)) (rewritten limit schema p)
  rewritten_listed =
      let ss = lists limit schema p in
      names_map (λ s. Listed s ss) (λ s. Listed s (added_all [] ss)) (λ s h. added_all_listed s [] ss h) (rewritten limit schema p) rewritten_names

-- ---- columns

module _ (n : ℕ) where
  bounds_columns : (c : Column) → c.0 < n → Columns n (Least c ∷ Greatest c ∷ [])
  bounds_columns c h = (h, (h, tt))

  counts_columns : (c : Column) → c.0 < n → Columns n (Blanks c ∷ Rows ∷ [])
  counts_columns c h = (h, (omega arith, tt))

  form_columns : (c : Column) (o : Operator) → c.0 < n → Columns n (comparison_lists c o)
  form_columns c Equal h = (h, (h, counts_columns c h))
  form_columns c NotEqual h = (h, (h, counts_columns c h))
  form_columns c Below h = (h, counts_columns c h)
  form_columns c AtMost h = (h, counts_columns c h)
  form_columns c Above h = (h, counts_columns c h)
  form_columns c AtLeast h = (h, counts_columns c h)
  form_columns c Distinct h = (h, (omega arith, bounds_columns c h))
  form_columns c NotDistinct h = (h, (omega arith, bounds_columns c h))

  turned_columns : (c : Column) (t : Turned) → c.0 < n → Columns n (turned_lists c t)
  turned_columns c (asks o v) h = form_columns c o h
  turned_columns c stays h = tt

  bounded_columns : (c : Column) (upper : Option (List ℕ)) → c.0 < n → Columns n (Least c ∷ Greatest c ∷ bounded_lists c upper)
  bounded_columns c none h = bounds_columns c h
  bounded_columns c (some upper) h = (h, (h, counts_columns c h))

  module _ (schema : List ℕ) where
    comparison_columns : (o : Operator) (c : Column) (k : ℕ) (b : Bool) (v : Value) → c.0 < n → Columns n (comparison_statistics schema o c k b v)
    comparison_columns o c k b v h = turned_columns c (turned (type_in schema c.0) o k b v) h

    columns_kept : Kept schema (λ p t a. ColumnsBelow n p → Columns n a)
    columns_kept =
        record {
          still = λ p b h. tt;
          joins = λ j l r t u a b x y h. columns_append n a b (x h.0) (y h.1);
          of_column = bounds_columns;
          of_not = bounds_columns;
          of_null = λ c h. (h, tt);
          of_not_null = counts_columns;
          of_comparison = comparison_columns;
          of_one = λ b c k v. comparison_columns (list_operator b) c k false v;
          of_more = λ b c k u us v t a x h.
              let o = list_operator b in
              columns_append n a (comparison_statistics schema o c k false v) (x h) (comparison_columns o c k false v h);
          of_like = λ c v. bounded_columns c (pattern_upper v);
        }

    -- the rows entry has column 0, which is there where any other is
    pub listed_columns : (limit : ℕ) (p : Predicate) → ColumnsBelow n p → Columns n (lists limit schema p)
    listed_columns limit p = rewritten_by limit schema (λ p t a. ColumnsBelow n p → Columns n a) columns_kept p

module _ (limit : ℕ) (schema : List ℕ) (p : Predicate) where
  pub statistics_distinct : Different (statistics limit schema p)
  statistics_distinct = added_all_distinct [] (lists limit schema p) tt

  module _ (n : ℕ) (h : ColumnsBelow n p) where
    pub statistics_columns : Columns n (statistics limit schema p)
    statistics_columns = columns_added_all n [] (lists limit schema p) tt (listed_columns n schema limit p h)

    pub statistics_most : length (statistics limit schema p) ≤ 3 * n + 1
    statistics_most = added_all_most n (lists limit schema p) (listed_columns n schema limit p h)
