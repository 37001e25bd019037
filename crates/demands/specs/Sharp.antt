-- For demand 3, second half, "nothing better was possible" (proofs/Sharp.antt): where a block is kept for one integer comparison, some rows fit its cells and
-- hold a match. From rewriting's call and pruning's call to rows. Assumes nothing.
use Rattle.std.proofs.Math.Path.{◌≡◌, ap}
use Rattle.std.specs.Prelude.{refl, Bool, true, false, cond, ◌⊎◌, List, [], ◌∷◌, ◌++◌, ℕ, suc, ◌+◌, ◌*◌, ◌<◌, ◌≤◌, eqb, ltb, ℤ, pos}
use Rattle.std.proofs.Common.{sym, ◌∙◌, subst, true≢false, inl, inr, eq-eqb}
use Rattle.std.proofs.Math.Logic.{⊎_elim}
use native.Mathlib.Omega.{arith}
use Rattle.std.proofs.Math.ListN.{length}
use Rattle.std.specs.Int.Signed.{le_z}
use Rattle.operators.specs.declared.Operator.{Operator}
use Rattle.operators.specs.declared.Operator.TheVariants.{Equal, NotEqual, Below, AtMost, Above, AtLeast, Distinct, NotDistinct}
use Rattle.kleene.specs.declared.Truth.{Truth}
use Rattle.kleene.specs.declared.Truth.TheVariants.{False, True}
use Rattle.literals.specs.Signed.{Fits64}
use Rattle.literals.specs.Literals.{Value, null, int, integer_type}
use Rattle.orders.specs.Instances.{numbers}
use Rattle.orders.specs.Values.{is_null}
use Rattle.predicate.specs.declared.Column.{Column}
use Rattle.predicate.specs.Predicates.{Predicate, comparison}
use Rattle.predicate.specs.Checking.{type_in}
use Rattle.predicate.specs.Meaning.{Row, value_in, meaning}
use Rattle.predicate.specs.Rows.{In, OfType}
use Rattle.statistics.specs.declared.Statistic.{Statistic}
use Rattle.statistics.specs.declared.Statistic.TheVariants.{Least, Greatest, Blanks, Rows}
use Rattle.statistics.specs.Statistics.{same_statistic, column_in, place_of, added, added_all}
use Rattle.statistics.specs.ListLaws.{Listed, same_is, listed_here, listed_further, added_all_listed}
use Rattle.table.specs.Comparisons.{asks, turned, minuses, comparison_form, comparison_lists, turned_form, turned_lists}
use Rattle.table.specs.Rewriting.{rewritten, lists, statistics}
use Rattle.table.proofs.Naming.{Each}
use Rattle.table.specs.Worth.{Cells, worth}
use Rattle.words.specs.Word.{words_of}
use Rattle.words.specs.Tests.{and_both}
use Rattle.guarantees.specs.Guarantees.{Guarantee, guarantees}
use Rattle.pruning.specs.Cells.{cell_fine, cell_value, rows_fine}
use Rattle.pruning.specs.GridLaws.{IntCell, CountCell, cell_by, listed_fine, unlisted_cell, count_cell, bound_cell}
use Rattle.pruning.specs.Evaluating.{flag_of}
use Rattle.spill.specs.Prune.{Call, prune_fault, flag_in, list_in, table_in}
use Rattle.spill.specs.Bounds.{prune_taken}
use Rattle.demands.specs.Calls.{Asked, fault_of, asked_for, Blocks, cells_in}
use Rattle.demands.specs.Rows.{Fit, FitAnswers, written, list_back, table_back}
use Rattle.table.proofs.Sharpness.{Summary, Match, Held, sharp, sharp_distinct, sharp_not_distinct}

-- ---- one integer comparison, column first, no flips

-- nothing is turned
turned_plain : (type : ℕ) (o : Operator) (k : Value) → type ≡ integer_type → turned type o 0 false k ≡ asks o k
unfolding turned minuses
turned_plain type Equal k e = rw (eq-eqb type integer_type e)
turned_plain type NotEqual k e = rw (eq-eqb type integer_type e)
turned_plain type Below k e = rw (eq-eqb type integer_type e)
turned_plain type AtMost k e = rw (eq-eqb type integer_type e)
turned_plain type Above k e = rw (eq-eqb type integer_type e)
turned_plain type AtLeast k e = rw (eq-eqb type integer_type e)
turned_plain type Distinct k e = refl
turned_plain type NotDistinct k e = refl

module _ (limit : ℕ) (schema : List ℕ) (o : Operator) (c : Column) (k : Value) (whole : type_in schema c.0 ≡ integer_type) where
  form_plain : rewritten limit schema (comparison o c 0 false k) ≡ comparison_form c o k
  unfolding rewritten
  form_plain = ap (turned_form c) (turned_plain (type_in schema c.0) o k whole)

  lists_plain : lists limit schema (comparison o c 0 false k) ≡ comparison_lists c o
  unfolding lists
  lists_plain = ap (turned_lists c) (turned_plain (type_in schema c.0) o k whole)

-- ---- what is listed

each_append : (Q : Statistic → Type 0) (xs ys : List Statistic) → Each Q xs → Each Q ys → Each Q (xs ++ ys)
each_append Q [] ys a b = b
each_append Q (x ∷ xs) ys a b = (a.0, each_append Q xs ys a.1 b)

each_added : (Q : Statistic → Type 0) (list : List Statistic) (s : Statistic) → Each Q list → Q s → Each Q (added list s)
unfolding added
each_added Q list s a b = go (ltb (place_of s list) (length list))
  where
    go : (x : Bool) → Each Q (cond x list (list ++ (s ∷ [])))
    go true = a
    go false = each_append Q list (s ∷ []) a (b, tt)

each_all : (Q : Statistic → Type 0) (list ss : List Statistic) → Each Q list → Each Q ss → Each Q (added_all list ss)
unfolding added_all
each_all Q list [] a b = a
each_all Q list (s ∷ ss) a b = each_all Q (added list s) ss (each_added Q list s a b.0) b.1

-- what holds of all that is listed holds of a listed one
each_of : (Q : Statistic → Type 0) (list : List Statistic) (s : Statistic) → Each Q list → Listed s list → Q s
unfolding place_of
each_of Q [] s a h = absurd (omega arith)
each_of Q (x ∷ xs) s a h = go (same_statistic x s) refl h (each_of Q xs s a.1)
  where
    go : (b : Bool) → same_statistic x s ≡ b → cond b 0 (suc (place_of s xs)) < suc (length xs) → (Listed s xs → Q s) → Q s
    go true e h more = subst Q (same_is x s e) a.0
    go false e h more = more (omega arith)

-- of this column, or rows
OfColumn : Column → Statistic → Type 0
OfColumn c s = (s ≡ Rows) ⊎ (column_in s ≡ c.0)

lists_column : (c : Column) (o : Operator) → Each (OfColumn c) (comparison_lists c o)
unfolding OfColumn
lists_column c Equal = (inr refl, (inr refl, (inr refl, (inl refl, tt))))
lists_column c NotEqual = (inr refl, (inr refl, (inr refl, (inl refl, tt))))
lists_column c Below = (inr refl, (inr refl, (inl refl, tt)))
lists_column c AtMost = (inr refl, (inr refl, (inl refl, tt)))
lists_column c Above = (inr refl, (inr refl, (inl refl, tt)))
lists_column c AtLeast = (inr refl, (inr refl, (inl refl, tt)))
lists_column c Distinct = (inr refl, (inl refl, (inr refl, (inr refl, tt))))
lists_column c NotDistinct = (inr refl, (inl refl, (inr refl, (inr refl, tt))))

-- ---- cells with no contradiction

-- every statistic asked for is there; least ≤ greatest, blanks ≤ rows, and at least one row
pub record Possible (c : Column) (cells : Cells) (list : List Statistic) : Type 0 where
  pub present : (s : Statistic) → Listed s list → is_null (cells s) ≡ false
  pub ordered : (lo hi : ℤ) → cells (Least c) ≡ int lo → cells (Greatest c) ≡ int hi → le_z lo hi ≡ true
  pub fewer : (b n : ℕ) → cells (Blanks c) ≡ int (pos b) → cells Rows ≡ int (pos n) → b ≤ n
  pub some_rows : (n : ℕ) → cells Rows ≡ int (pos n) → 0 < n

there : {A : Type 0} (v : Value) → is_null v ≡ false → v ≡ null → A
there v e q = absurd (true≢false (rw q at e))

-- the cells of an accepted call for one integer comparison
pub record Cellular (c : Column) (o : Operator) (cells : Cells) (list : List Statistic) : Type 0 where
  list_is : list ≡ added_all [] (comparison_lists c o)
  unlisted : (s : Statistic) → (Listed s list → ⊥) → cells s ≡ null
  least : IntCell (cells (Least c))
  greatest : IntCell (cells (Greatest c))
  blanks : CountCell (cells (Blanks c))
  rows : CountCell (cells Rows)

module _ (c : Column) (o : Operator) (cells : Cells) (list : List Statistic) (k : Cellular c o cells list) (p : Possible c cells list) where
  listed : (s : Statistic) → Listed s (comparison_lists c o) → Listed s list
  listed s h = subst (λ l. Listed s l) (sym k.list_is) (added_all_listed s [] (comparison_lists c o) h)

  -- what none of the lists names is absent
  off : (s : Statistic) (Q : Statistic → Type 0) → Each Q (comparison_lists c o) → (Q s → ⊥) → cells s ≡ null
  off s Q e h =
      k.unlisted s (λ q. h (each_of Q (added_all [] (comparison_lists c o)) s (each_all Q [] (comparison_lists c o) tt e) (subst (λ l. Listed s l) k.list_is q)))

  the_int : (s : Statistic) → Listed s list → IntCell (cells s) → (z : ℤ) × (cells s ≡ int z) × Fits64 z
  the_int s h (inl e) = there (cells s) (p.present s h) e
  the_int s h (inr x) = x

  the_count : (s : Statistic) → Listed s list → CountCell (cells s) → (n : ℕ) × (cells s ≡ int (pos n))
  the_count s h (inl e) = there (cells s) (p.present s h) e
  the_count s h (inr x) = x

  others : (d : Column) → (d.0 ≡ c.0 → ⊥) → (cells (Least d) ≡ null) × (cells (Greatest d) ≡ null) × (cells (Blanks d) ≡ null)
  unfolding OfColumn
  others d h = (
    off (Least d) (OfColumn c) (lists_column c o) (λ q. ⊎_elim (λ e. least_rows e) h q),
    off (Greatest d) (OfColumn c) (lists_column c o) (λ q. ⊎_elim (λ e. greatest_rows e) h q),
    off (Blanks d) (OfColumn c) (lists_column c o) (λ q. ⊎_elim (λ e. blanks_rows e) h q),
  )
    where
      least_rows : Least d ≡ Rows → ⊥
      least_rows e = let z : ◌≡◌ {A = ℕ} 0 1 = cc in omega arith

      greatest_rows : Greatest d ≡ Rows → ⊥
      greatest_rows e = let z : ◌≡◌ {A = ℕ} 0 1 = cc in omega arith

      blanks_rows : Blanks d ≡ Rows → ⊥
      blanks_rows e = let z : ◌≡◌ {A = ℕ} 0 1 = cc in omega arith

  -- the summary, its bounds given
  summary : Listed (Blanks c) list → Listed Rows list → (lo hi : ℤ) → le_z lo hi ≡ true → Fits64 lo → Fits64 hi
      → (cells (Least c) ≡ int lo) ⊎ (cells (Least c) ≡ null) → (cells (Greatest c) ≡ int hi) ⊎ (cells (Greatest c) ≡ null) → Summary c cells
  summary hb hr lo hi e f g l u =
      let b = the_count (Blanks c) hb k.blanks in
      let n = the_count Rows hr k.rows in
      record {
        blanks = b.0;
        rows = n.0;
        least = lo;
        greatest = hi;
        blanks_is = b.1;
        rows_is = n.1;
        least_is = l;
        greatest_is = u;
        fewer = p.fewer b.0 n.0 b.1 n.1;
        some_rows = p.some_rows n.0 n.1;
        ordered = e;
        least_fits = f;
        greatest_fits = g;
        others = others;
      }

  -- both bounds asked for; the least alone; the greatest alone
  both_sides : Listed (Blanks c) list → Listed Rows list → Listed (Least c) list → Listed (Greatest c) list
      → (s : Summary c cells) × ((cells (Least c) ≡ int s.least) × (cells (Greatest c) ≡ int s.greatest))
  unfolding summary the_int
  both_sides hb hr hl hg =
      let lo = the_int (Least c) hl k.least in
      let hi = the_int (Greatest c) hg k.greatest in
      (summary hb hr lo.0 hi.0 (p.ordered lo.0 hi.0 lo.1 hi.1) lo.2 hi.2 (inl lo.1) (inl hi.1), (lo.1, hi.1))

  low_side : Listed (Blanks c) list → Listed Rows list → Listed (Least c) list → cells (Greatest c) ≡ null
      → (s : Summary c cells) × (cells (Least c) ≡ int s.least)
  unfolding summary the_int
  low_side hb hr hl none =
      let lo = the_int (Least c) hl k.least in
      (summary hb hr lo.0 lo.0 (numbers.le_refl lo.0) lo.2 lo.2 (inl lo.1) (inr none), lo.1)

  high_side : Listed (Blanks c) list → Listed Rows list → Listed (Greatest c) list → cells (Least c) ≡ null
      → (s : Summary c cells) × (cells (Greatest c) ≡ int s.greatest)
  unfolding summary the_int
  high_side hb hr hg none =
      let hi = the_int (Greatest c) hg k.greatest in
      (summary hb hr hi.0 hi.0 (numbers.le_refl hi.0) hi.2 hi.2 (inr none) (inl hi.1), hi.1)

-- a distinct-from operator
abbrev pub DistinctFrom : Operator → Type 0
DistinctFrom Equal = ⊥
DistinctFrom NotEqual = ⊥
DistinctFrom Below = ⊥
DistinctFrom AtMost = ⊥
DistinctFrom Above = ⊥
DistinctFrom AtLeast = ⊥
DistinctFrom Distinct = Unit {0}
DistinctFrom NotDistinct = Unit {0}

-- the literal of the comparison: an integer, or null where the operator is a distinct-from
abbrev pub Literal : Operator → Value → Type 0
Literal o v = ((k : ℤ) × (v ≡ int k)) ⊎ ((v ≡ null) × DistinctFrom o)

-- ---- which statistics each operator lists

module _ (c : Column) where
  first : (s : Statistic) (ss : List Statistic) → Listed s (s ∷ ss)
  first s ss = listed_here s ss

  second : (s x : Statistic) (ss : List Statistic) → Listed s (x ∷ s ∷ ss)
  second s x ss = listed_further s x (s ∷ ss) (listed_here s ss)

  third : (s x y : Statistic) (ss : List Statistic) → Listed s (x ∷ y ∷ s ∷ ss)
  third s x y ss = listed_further s x (y ∷ s ∷ ss) (second s y ss)

  fourth : (s x y z : Statistic) (ss : List Statistic) → Listed s (x ∷ y ∷ z ∷ s ∷ ss)
  fourth s x y z ss = listed_further s x (y ∷ z ∷ s ∷ ss) (third s y z ss)

  -- no greatest is listed for <, no least for >
  no_greatest : Each (λ s. s ≡ Greatest c → ⊥) (Least c ∷ Blanks c ∷ Rows ∷ [])
  no_greatest = (λ e. let z : ◌≡◌ {A = ℕ} 0 1 = cc in omega arith, (λ e. let z : ◌≡◌ {A = ℕ} 0 1 = cc in omega arith, (λ e. let z : ◌≡◌ {A = ℕ} 0 1 = cc in omega arith, tt)))

  no_least : Each (λ s. s ≡ Least c → ⊥) (Greatest c ∷ Blanks c ∷ Rows ∷ [])
  no_least = (λ e. let z : ◌≡◌ {A = ℕ} 0 1 = cc in omega arith, (λ e. let z : ◌≡◌ {A = ℕ} 0 1 = cc in omega arith, (λ e. let z : ◌≡◌ {A = ℕ} 0 1 = cc in omega arith, tt)))

  module _ (cells : Cells) (list : List Statistic) where
    -- where least and greatest are listed first
    equality_match : (o : Operator) → Listed (Least c) (comparison_lists c o) → Listed (Greatest c) (comparison_lists c o) → Listed (Blanks c) (comparison_lists c o)
        → Listed Rows (comparison_lists c o) → Cellular c o cells list → Possible c cells list
        → (s : Summary c cells) × ((cells (Least c) ≡ int s.least) × (cells (Greatest c) ≡ int s.greatest))
    equality_match o l g b r k p = both_sides c o cells list k p (listed c o cells list k p (Blanks c) b) (listed c o cells list k p Rows r) (listed c o cells list k p (Least c) l) (listed c o cells list k p (Greatest c) g)

    least_match : (o : Operator) → comparison_lists c o ≡ Least c ∷ Blanks c ∷ Rows ∷ [] → Cellular c o cells list → Possible c cells list
        → (s : Summary c cells) × (cells (Least c) ≡ int s.least)
    least_match o e k p =
        low_side c o cells list k p (listed c o cells list k p (Blanks c) (rw e (second (Blanks c) (Least c) (Rows ∷ [])))) (listed c o cells list k p Rows (rw e (third Rows (Least c) (Blanks c) [])))
        (listed c o cells list k p (Least c) (rw e (first (Least c) (Blanks c ∷ Rows ∷ []))))
        (off c o cells list k p (Greatest c) (λ s. s ≡ Greatest c → ⊥) (rw e no_greatest) (λ q. q refl))

    greatest_match : (o : Operator) → comparison_lists c o ≡ Greatest c ∷ Blanks c ∷ Rows ∷ [] → Cellular c o cells list → Possible c cells list
        → (s : Summary c cells) × (cells (Greatest c) ≡ int s.greatest)
    greatest_match o e k p =
        high_side c o cells list k p (listed c o cells list k p (Blanks c) (rw e (second (Blanks c) (Greatest c) (Rows ∷ [])))) (listed c o cells list k p Rows (rw e (third Rows (Greatest c) (Blanks c) [])))
        (listed c o cells list k p (Greatest c) (rw e (first (Greatest c) (Blanks c ∷ Rows ∷ []))))
        (off c o cells list k p (Least c) (λ s. s ≡ Least c → ⊥) (rw e no_least) (λ q. q refl))

    four : (o : Operator) → comparison_lists c o ≡ Least c ∷ Greatest c ∷ Blanks c ∷ Rows ∷ [] → Cellular c o cells list → Possible c cells list
        → (s : Summary c cells) × ((cells (Least c) ≡ int s.least) × (cells (Greatest c) ≡ int s.greatest))
    four o e =
        equality_match o (rw e (first (Least c) (Greatest c ∷ Blanks c ∷ Rows ∷ []))) (rw e (second (Greatest c) (Least c) (Blanks c ∷ Rows ∷ [])))
        (rw e (third (Blanks c) (Least c) (Greatest c) (Rows ∷ []))) (rw e (fourth Rows (Least c) (Greatest c) (Blanks c) []))

    four_last : (o : Operator) → comparison_lists c o ≡ Blanks c ∷ Rows ∷ Least c ∷ Greatest c ∷ [] → Cellular c o cells list → Possible c cells list
        → (s : Summary c cells) × ((cells (Least c) ≡ int s.least) × (cells (Greatest c) ≡ int s.greatest))
    four_last o e =
        equality_match o (rw e (third (Least c) (Blanks c) Rows (Greatest c ∷ []))) (rw e (fourth (Greatest c) (Blanks c) Rows (Least c) []))
        (rw e (first (Blanks c) (Rows ∷ Least c ∷ Greatest c ∷ []))) (rw e (second Rows (Blanks c) (Least c ∷ Greatest c ∷ [])))

    -- against an integer
    integer_match : (o : Operator) (k : ℤ) → Cellular c o cells list → Possible c cells list → (worth cells (comparison_form c o (int k)) ≡ False → ⊥) → Match c cells o (int k)
    integer_match Equal k q p h = let s = four Equal refl q p in sharp c cells s.0 Equal k s.1 h
    integer_match NotEqual k q p h = let s = four NotEqual refl q p in sharp c cells s.0 NotEqual k s.1 h
    integer_match Below k q p h = let s = least_match Below refl q p in sharp c cells s.0 Below k s.1 h
    integer_match AtMost k q p h = let s = least_match AtMost refl q p in sharp c cells s.0 AtMost k s.1 h
    integer_match Above k q p h = let s = greatest_match Above refl q p in sharp c cells s.0 Above k s.1 h
    integer_match AtLeast k q p h = let s = greatest_match AtLeast refl q p in sharp c cells s.0 AtLeast k s.1 h
    integer_match Distinct k q p h = let s = four_last Distinct refl q p in sharp c cells s.0 Distinct k s.1 h
    integer_match NotDistinct k q p h = let s = four_last NotDistinct refl q p in sharp c cells s.0 NotDistinct k s.1 h

    -- and against null, which only a distinct-from is
    null_match : (o : Operator) → DistinctFrom o → Cellular c o cells list → Possible c cells list → (worth cells (comparison_form c o null) ≡ False → ⊥) → Match c cells o null
    null_match Equal d q p h = absurd d
    null_match NotEqual d q p h = absurd d
    null_match Below d q p h = absurd d
    null_match AtMost d q p h = absurd d
    null_match Above d q p h = absurd d
    null_match AtLeast d q p h = absurd d
    null_match Distinct d q p h = let s = four_last Distinct refl q p in sharp_distinct c cells s.0 h
    null_match NotDistinct d q p h = let s = four_last NotDistinct refl q p in sharp_not_distinct c cells s.0 h

-- ---- from the two calls

-- rows that fit a container, one of which the predicate is true for
pub record Possibly (call : Call) (p : Predicate) (i : ℕ) : Type 0 where
  pub rows : List Row
  pub fit : Fit call p i rows
  pub row : Row
  pub in_rows : In row rows
  pub true_of : meaning row p ≡ True

-- a flag of 1 is no false table
kept : (t : Truth) (b : Bool) → flag_of t b ≡ 1 → t ≡ False → ⊥
kept t b e q = let z : ◌≡◌ {A = ℕ} 0 1 = (rw q at e) in omega arith

-- answers that are not there claim nothing
no_answers : (gs : List Guarantee) (at : ℕ) (rows : List Row) → FitAnswers [] gs at rows
no_answers [] at rows = tt
no_answers (g ∷ gs) at rows = (record { all = λ e. absurd (omega arith); none = λ e. absurd (omega arith) }, no_answers gs (at + 1) rows)

-- a blank, or an integer of 64 bits in an integer column, is of its column's type
of_type : (schema : List ℕ) (c d : Column) (r : Row) → type_in schema c.0 ≡ integer_type → Held c r d → OfType (type_in schema d.0) (value_in r d)
of_type schema c d r t (inl e) = rw e tt
of_type schema c d r t (inr h) = rw (h.1.1, h.0) (t, h.1.2)

module _ (a : Asked) (b : Blocks) (taken-call : fault_of a ≡ 0) (o : Operator) (c : Column) (v : Value) (is : asked_for a ≡ comparison o c 0 false v)
    (whole : type_in a.schema c.0 ≡ integer_type) (none : b.answers ≡ []) (i : ℕ) (h : i < b.containers) where
  unfoldable pub call : Call
  call = written a b taken-call

  unfoldable pub cells : Cells
  cells = cells_in call i

  asked_list : list_in call ≡ added_all [] (comparison_lists c o)
  unfolding call
  asked_list =
      list_back a b taken-call ∙ ap (λ p. statistics a.limit a.schema p) is ∙ ap (added_all []) (lists_plain a.limit a.schema o c v whole)

  asked_table : table_in call ≡ comparison_form c o v
  unfolding call
  asked_table = table_back a b taken-call ∙ ap (rewritten a.limit a.schema) is ∙ form_plain a.limit a.schema o c v whole

  rows_fine_lem : prune_fault call ≡ 0 → rows_fine a.schema b.cells (list_in call) (words_of b.grid) b.containers 0 ≡ true
  unfolding call written
  rows_fine_lem e = (and_both (eqb (length b.grid) (8 * (b.containers * length (list_in call)))) _ (prune_taken call e).grid).1

  -- a bound's cell is absent or an integer
  bound_is : (s : Statistic) → ((w : ℕ) → cell_fine a.schema b.cells s w ≡ true → IntCell (cell_value b.cells s w)) → prune_fault call ≡ 0 → IntCell (cells s)
  unfolding call cells written
  bound_is s f e =
      cell_by a.schema b.cells (list_in call) (words_of b.grid) IntCell i s (inl refl)
      (λ k. f _ (listed_fine a.schema b.cells (list_in call) (words_of b.grid) b.containers i s (rows_fine_lem e) h k))

  count_is : (s : Statistic) → ((w : ℕ) → CountCell (cell_value b.cells s w)) → CountCell (cells s)
  unfolding call cells written
  count_is s f = cell_by a.schema b.cells (list_in call) (words_of b.grid) CountCell i s (inl refl) (λ k. f _)

  pub cellular : prune_fault call ≡ 0 → Cellular c o cells (list_in call)
  unfolding call cells written
  cellular e =
      record {
        list_is = asked_list;
        unlisted = λ s k. unlisted_cell a.schema b.cells (list_in call) (words_of b.grid) i s k;
        least = bound_is (Least c) (λ w q. bound_cell a.schema b.cells c w whole q) e;
        greatest = bound_is (Greatest c) (λ w q. bound_cell a.schema b.cells c w whole q) e;
        blanks = count_is (Blanks c) (λ w. count_cell b.cells w);
        rows = count_is Rows (λ w. count_cell b.cells w);
      }

  -- the rows of a match fit the call's container
  pub possibly : Match c cells o v → Possibly call (asked_for a) i
  unfolding call cells written meaning
  possibly m =
      record {
        rows = m.rows;
        fit =
            record {
              typed = λ r k d. of_type a.schema c d r whole (m.held r k d);
              cells = m.fit;
              answers = rw none (no_answers (guarantees 0 (asked_for a)) _ m.rows);
            };
        row = m.row;
        in_rows = m.in_rows;
        true_of = rw is m.true_of;
      }

  pub found : Literal o v → Cellular c o cells (list_in call) → Possible c cells (list_in call) → (worth cells (comparison_form c o v) ≡ False → ⊥) → Match c cells o v
  found (inl (k, e)) q p n = subst (λ x. Match c cells o x) (sym e) (integer_match c cells (list_in call) o k q p (subst (λ x. worth cells (comparison_form c o x) ≡ False → ⊥) e n))
  found (inr (e, d)) q p n = subst (λ x. Match c cells o x) (sym e) (null_match c cells (list_in call) o d q p (subst (λ x. worth cells (comparison_form c o x) ≡ False → ⊥) e n))

  pub not_false : flag_in call i ≡ 1 → worth cells (comparison_form c o v) ≡ False → ⊥
  unfolding call cells flag_in
  not_false e q = kept (worth (cells_in call i) (table_in call)) _ e (rw asked_table q)
