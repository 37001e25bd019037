-- Comparison forms: the literal turned to the right and its flips taken off, then each operator's form and the statistics that it lists.
-- Assumes nothing.
use Rattle.std.specs.Prelude.{Bool, true, false, cond, not, ◌||◌, List, [], ◌∷◌, ℕ, zero, suc, eqb, ltb, ℤ, Option as Handled, Some, None}
use Rattle.std.proofs.Math.Option.{Option, some, none}
use Rattle.operators.specs.Operators.{swap_of}
use Rattle.operators.specs.declared.Operator.{Operator}
use Rattle.operators.specs.declared.Operator.TheVariants.{Equal, NotEqual, Below, AtMost, Above, AtLeast, Distinct, NotDistinct}
use Rattle.kleene.specs.declared.Joining.TheVariants.{And, Or}
use Rattle.literals.specs.Signed.{negated}
use Rattle.literals.specs.Literals.{Value, null, int, text, truth, integer_type, truth_type}
use Rattle.text.specs.Pattern.{prefix_of}
use Rattle.text.specs.Upper.{upper_of}
use Rattle.predicate.specs.declared.Column.{Column}
use Rattle.statistics.specs.declared.Statistic.{Statistic}
use Rattle.statistics.specs.declared.Statistic.TheVariants.{Least, Greatest, Blanks, Rows}
use Rattle.table.specs.Tables.{Table, both, against, positive, differ, unhandled}

-- ---- the literal on the right, no flips

-- an operator against a literal, or unhandled
pub data Turned : Type 0 where
  asks : Operator → Value → Turned
  stays : Turned

-- one minus: the literal negated, the operator swapped
abbrev pub minus_int : (Operator → Value → Turned) → Operator → Handled ℤ → Turned
minus_int f o (Some z) = f (swap_of o) (int z)
minus_int f o None = stays

abbrev pub minus : (Operator → Value → Turned) → Operator → Value → Turned
minus f o null = f (swap_of o) null
minus f o (int z) = minus_int f o (negated z)
minus f o (text bs) = stays
minus f o (truth b) = stays

-- each integer flip negates the literal and swaps again
unfoldable pub minuses : ℕ → Operator → Value → Turned
minuses zero o v = asks o v
minuses (suc n) o v = minus (minuses n) o v

-- one truth-value flip of = or ≠ negates the literal
abbrev pub negated_truth : Value → Value
negated_truth null = null
negated_truth (int z) = int z
negated_truth (text bs) = text bs
negated_truth (truth b) = truth (not b)

abbrev pub flip_once : Operator → Value → Turned
flip_once Equal v = asks Equal (negated_truth v)
flip_once NotEqual v = asks NotEqual (negated_truth v)
flip_once Below v = stays
flip_once AtMost v = stays
flip_once Above v = stays
flip_once AtLeast v = stays
flip_once Distinct v = stays
flip_once NotDistinct v = stays

abbrev pub truth_flips : ℕ → Operator → Value → Turned
truth_flips zero o v = asks o v
truth_flips (suc zero) o v = flip_once o v
truth_flips (suc (suc n)) o v = stays

-- text is not flipped
abbrev pub no_flips : ℕ → Operator → Value → Turned
no_flips zero o v = asks o v
no_flips (suc n) o v = stays

-- flips by the column's type
abbrev pub flipped : ℕ → ℕ → Operator → Value → Turned
flipped type flips o v =
    cond (eqb type integer_type) (minuses flips o v) (cond (eqb type truth_type) (truth_flips flips o v) (no_flips flips o v))

-- literal-first swaps; distinct-from has no swap
abbrev pub ordered : ℕ → ℕ → Bool → Operator → Value → Turned
ordered type flips first o v = flipped type flips (cond first (swap_of o) o) v

abbrev pub unturned : ℕ → Bool → Operator → Value → Turned
unturned flips first o v = cond (first || ltb 0 flips) stays (asks o v)

unfoldable pub turned : ℕ → Operator → ℕ → Bool → Value → Turned
turned type Equal flips first v = ordered type flips first Equal v
turned type NotEqual flips first v = ordered type flips first NotEqual v
turned type Below flips first v = ordered type flips first Below v
turned type AtMost flips first v = ordered type flips first AtMost v
turned type Above flips first v = ordered type flips first Above v
turned type AtLeast flips first v = ordered type flips first AtLeast v
turned type Distinct flips first v = unturned flips first Distinct v
turned type NotDistinct flips first v = unturned flips first NotDistinct v

-- ---- forms: build_eq_statistics_expr, build_ne_statistics_expr and their like

-- least ≤ lit AND lit ≤ greatest
abbrev pub equal_form : Column → Value → Table
equal_form c v = both And (against AtMost (Least c) false v) (against AtMost (Greatest c) true v)

-- least ≠ lit OR lit ≠ greatest
abbrev pub unequal_form : Column → Value → Table
unequal_form c v = both Or (against NotEqual (Least c) false v) (against NotEqual (Greatest c) true v)

-- column_has_nulls_expr: blanks > 0
abbrev pub has_blanks : Column → Table
has_blanks c = positive (Blanks c)

-- column_has_non_nulls_expr: blanks ≠ rows
abbrev pub has_values : Column → Table
has_values c = differ (Blanks c) Rows

-- wrap_null_count_check_expr
abbrev pub wrapped : Column → Table → Table
wrapped c t = both And (has_values c) t

-- build_is_distinct_from
abbrev pub distinct_form : Column → Value → Table
distinct_form c null = has_values c
distinct_form c (int z) = both Or (has_blanks c) (unequal_form c (int z))
distinct_form c (text bs) = both Or (has_blanks c) (unequal_form c (text bs))
distinct_form c (truth b) = both Or (has_blanks c) (unequal_form c (truth b))

-- build_is_not_distinct_from
abbrev pub not_distinct_form : Column → Value → Table
not_distinct_form c null = has_blanks c
not_distinct_form c (int z) = wrapped c (equal_form c (int z))
not_distinct_form c (text bs) = wrapped c (equal_form c (text bs))
not_distinct_form c (truth b) = wrapped c (equal_form c (truth b))

-- build_statistics_expr
abbrev pub comparison_form : Column → Operator → Value → Table
comparison_form c Equal v = wrapped c (equal_form c v)
comparison_form c NotEqual v = wrapped c (unequal_form c v)
comparison_form c Below v = wrapped c (against Below (Least c) false v)
comparison_form c AtMost v = wrapped c (against AtMost (Least c) false v)
comparison_form c Above v = wrapped c (against Above (Greatest c) false v)
comparison_form c AtLeast v = wrapped c (against AtLeast (Greatest c) false v)
comparison_form c Distinct v = distinct_form c v
comparison_form c NotDistinct v = not_distinct_form c v

-- least, greatest as used, blanks, rows; the distinct-froms list blanks, rows, least, greatest
abbrev pub comparison_lists : Column → Operator → List Statistic
comparison_lists c Equal = Least c ∷ Greatest c ∷ Blanks c ∷ Rows ∷ []
comparison_lists c NotEqual = Least c ∷ Greatest c ∷ Blanks c ∷ Rows ∷ []
comparison_lists c Below = Least c ∷ Blanks c ∷ Rows ∷ []
comparison_lists c AtMost = Least c ∷ Blanks c ∷ Rows ∷ []
comparison_lists c Above = Greatest c ∷ Blanks c ∷ Rows ∷ []
comparison_lists c AtLeast = Greatest c ∷ Blanks c ∷ Rows ∷ []
comparison_lists c Distinct = Blanks c ∷ Rows ∷ Least c ∷ Greatest c ∷ []
comparison_lists c NotDistinct = Blanks c ∷ Rows ∷ Least c ∷ Greatest c ∷ []

-- an unhandled comparison lists nothing
abbrev pub turned_form : Column → Turned → Table
turned_form c (asks o v) = comparison_form c o v
turned_form c stays = unhandled

abbrev pub turned_lists : Column → Turned → List Statistic
turned_lists c (asks o v) = comparison_lists c o
turned_lists c stays = []

-- ---- LIKE: build_like_match

-- least ≤ upper AND prefix ≤ greatest
abbrev pub like_form : Column → List ℕ → List ℕ → Table
like_form c prefix upper = both And (against AtMost (Least c) false (text upper)) (against AtMost (Greatest c) true (text prefix))

-- a pattern with no upper bound is unhandled
abbrev pub bounded_form : Column → List ℕ → Option (List ℕ) → Table
bounded_form c prefix none = unhandled
bounded_form c prefix (some upper) = wrapped c (like_form c prefix upper)

abbrev pub bounded_lists : Column → Option (List ℕ) → List Statistic
bounded_lists c none = []
bounded_lists c (some upper) = Blanks c ∷ Rows ∷ []

-- the upper bound of a pattern
abbrev pub pattern_upper : Value → Option (List ℕ)
pattern_upper null = none
pattern_upper (int z) = none
pattern_upper (text p) = upper_of p
pattern_upper (truth b) = none

abbrev pub pattern_prefix : Value → List ℕ
pattern_prefix null = []
pattern_prefix (int z) = []
pattern_prefix (text p) = prefix_of false p
pattern_prefix (truth b) = []

-- NOT LIKE is unhandled and lists nothing
abbrev pub like_table : Bool → Column → Value → Table
like_table true c v = unhandled
like_table false c v = bounded_form c (pattern_prefix v) (pattern_upper v)

-- least and greatest come first, also where it ends unhandled
abbrev pub like_lists : Bool → Column → Value → List Statistic
like_lists true c v = []
like_lists false c v = Least c ∷ Greatest c ∷ bounded_lists c (pattern_upper v)
