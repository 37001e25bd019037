-- Each premise of "nothing better" is needed: without it a block is kept that no rows with a match fit. Assumes nothing.
use Rattle.std.specs.Prelude.{◌≡◌, refl, true, false, List, [], ◌∷◌, ℕ, suc, ◌-◌, ◌^◌, length, ℤ, pos, negsuc}
use Rattle.std.proofs.Common.{sym, ◌∙◌, subst, true≢false, arith, leb-true, le-leb}
use Rattle.std.specs.Int.Signed.{le_z}
use Rattle.words.specs.Word.{word_at, word_bytes, first_words, words_of, bytes_of}
use Rattle.literals.specs.Signed.{signed, negated, least_integer}
use Rattle.literals.specs.Literals.{suits, literal_of}
use Rattle.words.specs.Bytes.{below, up_to}
use Rattle.text.specs.Machine.{is_utf8, runs, step_of, lead_of}
use Rattle.text.specs.Utf8 as Utf8
use Rattle.text.specs.Increment.{increment, raised, allowed}
use Rattle.text.specs.Chars.{chars_of, chars_from, incremented}
use Rattle.text.specs.Pattern.{prefix_of, rest_of}
use Rattle.orders.specs.Order.{order_by, compares, compares_test}
use Rattle.orders.specs.Instances.{numbers}
use Rattle.orders.specs.Values.{is_null, compared}
use Rattle.orders.proofs.ValueLaws.{known_type}
use Rattle.predicate.specs.Nodes.{node_of}
use Rattle.predicate.specs.Predicates.{values_at, predicate_at}
use Rattle.predicate.specs.Checking.{types_fine, formed, check_literal, check_literals, node_fault, check_from, predicate_fault}
use Rattle.predicate.specs.Calls.{rewrite_fault}
use Rattle.statistics.specs.Statistics.{statistic_of, statistics_of, place_of, added, added_all}
use Rattle.table.specs.Comparisons.{minuses, turned}
use Rattle.table.specs.Rewriting.{members_table, members_lists, rewritten, lists}
use Rattle.table.specs.Encoding.{pool_of, table_words}
use Rattle.table.specs.Worth.{worth}
use Rattle.guarantees.specs.Guarantees.{guarantees}
use Rattle.pruning.specs.TableReading.{table_node_of, table_at}
use Rattle.pruning.specs.TableChecking.{statistic_fine, statistics_fine, guarantees_fine, table_formed, check_table_from, table_fine, checked_table}
use Rattle.pruning.specs.Cells.{row_fine, rows_fine, cell_of, up_to_two}
use Rattle.pruning.specs.Evaluating.{answers_drop}
use Rattle.operators.specs.declared.Operator.TheVariants.{Equal, NotEqual, Below, AtMost}
use Rattle.kleene.specs.declared.Truth.TheVariants.{True}
use Rattle.kleene.specs.TruthLaws.{unknown_true, truth_true}
use Rattle.literals.specs.Literals.{Value, null, int, text, truth}
use Rattle.predicate.specs.Predicates.{comparison}
use Rattle.predicate.specs.declared.Column.{Column}
use Rattle.predicate.specs.Meaning.{Row, value_in, meaning}
use Rattle.predicate.specs.Rows.{In, OfType}
use Rattle.table.specs.Fitting.{blanks_in, Counts}
use Rattle.table.proofs.FormsSound.{blanks_le, order_null}
use Rattle.statistics.specs.declared.Statistic.TheVariants.{Least, Greatest, Blanks, Rows}
use Rattle.spill.specs.Rewrite.{rewriting}
use Rattle.spill.specs.Prune.{Call, flags, prune_fault, flag_in, flags_from, pruning}
use Rattle.demands.specs.Calls.{Asked, outcome_of, asked_for, Blocks, call_of, cells_in}
use Rattle.demands.specs.Cases.{integer_case, null_case, minus, cell, absent, container, summary}
use Rattle.demands.specs.Sharp.{Possibly}

abbrev c : Column
c = record { 0 = 0 }

-- one block, kept
abbrev pub call_for : Asked → Blocks → Call
call_for a b = call_of a.schema (outcome_of a) b

abbrev pub Kept : Asked → Blocks → Type 0
Kept a b = pruning (call_for a b) ≡ flags (1 ∷ [])

-- what is computed of each example: its flag, its predicate, and the cells that speak against it
abbrev literal_null : Asked
literal_null = null_case 0x7000000000000000

abbrev five_rows : Blocks
five_rows = summary 10 20 0 5

-- distinct from 7, bounds 1..2, no blanks, no rows: blanks and rows stand first
abbrev distinct_seven : Asked
distinct_seven = integer_case 0x7600000000000000 7

abbrev no_rows : Blocks
no_rows = summary 0 0 1 2

-- ≠ 5, least 9 above greatest 3
abbrev unequal_five : Asked
unequal_five = integer_case 0x7100000000000000 5

abbrev crossed : Blocks
crossed = summary 9 3 0 5

-- > 0, greatest 9, blanks 6 above rows 5
abbrev above_zero : Asked
above_zero = integer_case 0x7400000000000000 0

abbrev blanks_above : Blocks
blanks_above = container (cell 0 ∷ cell 1 ∷ cell 2 ∷ []) (bytes_of (9 ∷ 6 ∷ 5 ∷ []))

-- < -2^63, least absent, no blanks, five rows
abbrev below_all : Asked
below_all = integer_case 0x7200000000000000 (minus (2 ^ 63))

abbrev least_absent : Blocks
least_absent = container (absent ∷ cell 0 ∷ cell 1 ∷ []) (bytes_of (0 ∷ 5 ∷ []))

computed : (Kept literal_null five_rows × (asked_for literal_null ≡ comparison Equal c 0 false null))
    × ((Kept distinct_seven no_rows × (cells_in (call_for distinct_seven no_rows) 0 Rows ≡ int (pos 0)))
    × ((Kept unequal_five crossed × (asked_for unequal_five ≡ comparison NotEqual c 0 false (int (pos 5)))
    × (cells_in (call_for unequal_five crossed) 0 (Least c) ≡ int (pos 9)) × (cells_in (call_for unequal_five crossed) 0 (Greatest c) ≡ int (pos 3)))
    × ((Kept above_zero blanks_above × (cells_in (call_for above_zero blanks_above) 0 (Blanks c) ≡ int (pos 6)) × (cells_in (call_for above_zero blanks_above) 0 Rows ≡ int (pos 5)))
    × (Kept below_all least_absent × (asked_for below_all ≡ comparison Below c 0 false (int (negsuc (2 ^ 63 - 1))))))))
unfolding order_by word_at word_bytes first_words words_of bytes_of signed negated suits literal_of below up_to is_utf8 runs step_of lead_of Utf8.encode Utf8.bytes_of increment raised allowed chars_of chars_from incremented prefix_of rest_of node_of values_at predicate_at formed check_literal check_literals node_fault check_from predicate_fault statistic_of place_of added added_all minuses turned members_table members_lists rewritten lists pool_of table_words guarantees table_node_of table_at statistic_fine statistics_fine statistics_of guarantees_fine table_formed check_table_from table_fine checked_table row_fine rows_fine cell_of up_to_two worth answers_drop types_fine rewrite_fault rewriting prune_fault flag_in flags_from pruning
computed = ((refl, refl), ((refl, refl), ((refl, refl, refl, refl), ((refl, refl, refl), (refl, refl)))))

-- ---- a null literal: = NULL is true of no row

null_never : (v : Value) → compared Equal v null ≡ True → ⊥
null_never v e = unknown_true (rw (order_null v) at e)

pub literal_null_lem : Kept literal_null five_rows × (Possibly (call_for literal_null five_rows) (asked_for literal_null) 0 → ⊥)
unfolding meaning
literal_null_lem = (computed.0.0, λ m. null_never (value_in m.row c) (subst (λ p. meaning m.row p ≡ True) computed.0.1 m.true_of))

-- ---- no rows: nothing is there to match

empty_rows : (r : Row) (rows : List Row) (v : Value) → v ≡ int (pos 0) → Counts v (length rows) → In r rows → ⊥
empty_rows r [] v e n i = i
empty_rows r (x ∷ rows) v e n i = let q : pos 0 ≡ pos (suc (length rows)) = (rw e at n) in let z : ◌≡◌ {A = ℕ} 0 (suc (length rows)) = cc in omega arith

pub no_rows_lem : Kept distinct_seven no_rows × (Possibly (call_for distinct_seven no_rows) (asked_for distinct_seven) 0 → ⊥)
no_rows_lem = (computed.1.0.0, λ m. empty_rows m.row m.rows (cells_in (call_for distinct_seven no_rows) 0 Rows) computed.1.0.1 m.fit.cells.count m.in_rows)

-- ---- least above greatest: no value lies between

at_most : (a b : ℤ) → compared AtMost (int a) (int b) ≡ True → le_z a b ≡ true
at_most a b e = sym (compares_test numbers AtMost a b) ∙ truth_true (compares numbers AtMost a b) e

between_none : (v : Value) → compared AtMost (int (pos 9)) v ≡ True → compared AtMost v (int (pos 3)) ≡ True → ⊥
between_none null l g = unknown_true l
between_none (text bs) l g = unknown_true l
between_none (truth b) l g = unknown_true l
between_none (int (pos n)) l g = let p = leb-true 9 n (at_most (pos 9) (pos n) l) in let q = leb-true n 3 (at_most (pos n) (pos 3) g) in omega arith
between_none (int (negsuc n)) l g = true≢false (sym (at_most (pos 9) (negsuc n) l))

pub least_above_greatest : Kept unequal_five crossed × (Possibly (call_for unequal_five crossed) (asked_for unequal_five) 0 → ⊥)
unfolding meaning
least_above_greatest = (
  computed.1.1.0.0,
  λ m.
      let f = computed.1.1.0 in
      let v = value_in m.row c in
      let t : compared NotEqual v (int (pos 5)) ≡ True = subst (λ p. meaning m.row p ≡ True) f.1 m.true_of in
      let n = (known_type NotEqual v (int (pos 5)) (λ q. unknown_true (sym q ∙ t))).0 in
      between_none v
      (subst (λ x. (is_null x ≡ false) → (is_null v ≡ false) → compared AtMost x v ≡ True) f.2 (m.fit.cells.least c m.row m.in_rows) refl n)
      (subst (λ x. (is_null v ≡ false) → (is_null x ≡ false) → compared AtMost v x ≡ True) f.3 (m.fit.cells.greatest c m.row m.in_rows) n refl),
)

-- ---- blanks above rows: no rows have more blanks than rows

too_many : (rows : List Row) (b n : Value) → b ≡ int (pos 6) → n ≡ int (pos 5) → Counts b (blanks_in c rows) → Counts n (length rows) → ⊥
too_many rows b n e f x y =
    let p : pos 6 ≡ pos (blanks_in c rows) = (rw e at x) in
    let q : pos 5 ≡ pos (length rows) = (rw f at y) in
    let s : 6 ≡ blanks_in c rows = cc in
    let t : 5 ≡ length rows = cc in
    let l = blanks_le c rows in
    omega arith

pub blanks_above_rows : Kept above_zero blanks_above × (Possibly (call_for above_zero blanks_above) (asked_for above_zero) 0 → ⊥)
blanks_above_rows =
    let f = computed.1.1.1.0 in
    (f.0, λ m. too_many m.rows (cells_in (call_for above_zero blanks_above) 0 (Blanks c)) (cells_in (call_for above_zero blanks_above) 0 Rows) f.1 f.2 (m.fit.cells.blanks c) m.fit.cells.count)

-- ---- a statistic absent: no integer of 64 bits lies below -2^63, and the least value would have said so

none_below : (v : Value) (type : ℕ) → OfType type v → compared Below v (int least_integer) ≡ True → ⊥
none_below null type t e = unknown_true e
none_below (text bs) type t e = unknown_true e
none_below (truth b) type t e = unknown_true e
none_below (int (pos n)) type t e = true≢false (sym (sym (compares_test numbers Below (pos n) least_integer) ∙ truth_true _ e))
none_below (int (negsuc n)) type t e =
    let f = t.1 in
    let q = sym (compares_test numbers Below (negsuc n) least_integer) ∙ truth_true (compares numbers Below (negsuc n) least_integer) e in
    true≢false (sym q ∙ rw (le-leb n (2 ^ 63 - 1) (omega arith)))

pub statistic_absent : Kept below_all least_absent × (Possibly (call_for below_all least_absent) (asked_for below_all) 0 → ⊥)
unfolding meaning
statistic_absent =
    let f = computed.1.1.1.1 in
    (f.0, λ m. none_below (value_in m.row c) _ (m.fit.typed m.row m.in_rows c) (subst (λ p. meaning m.row p ≡ True) f.1 m.true_of))
