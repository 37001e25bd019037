-- A table's words fit: each field its width, each word 64 bits, from places below 256, plain literals and a small pool.
-- Assumes nothing.
use Rattle.std.specs.Prelude.{◌≡◌, Bool}
use mathlib.Core.List.{List, [], ◌∷◌, ◌++◌}
use Prim.Native.Nat.{ℕ, ◌+◌, ◌^◌, ◌≤◌, ◌<◌}
use Rattle.std.proofs.Common.{arith, lit<}
use Rattle.std.proofs.Math.ListN.{length, length-append}
use Rattle.words.specs.Layout.{Within}
use Rattle.words.specs.LayoutLaws.{packed_within}
use Rattle.words.specs.WordLaws.{AllBelow, below_cons, below_append}
use Rattle.operators.specs.declared.Operator.{Operator}
use Rattle.operators.specs.Operators.{code_of, code_below}
use Rattle.kleene.specs.declared.Joining.{Joining}
use Rattle.kleene.specs.declared.Joining.TheVariants.{And, Or}
use Rattle.literals.specs.Literals.{bit_of, value_word}
use Rattle.literals.specs.LiteralLaws.{Plain, bit_below, value_word_below}
use Rattle.statistics.specs.declared.Statistic.{Statistic}
use Rattle.statistics.specs.Statistics.{place_of}
use Rattle.statistics.specs.ListLaws.{Listed}
use Rattle.table.specs.Tables.{Table, always, both, against, positive, differ, holds, negation}
use Rattle.table.specs.Encoding.{table_layout, table_word, always_kind, joining_kind, against_kind, positive_kind, differ_kind, holds_kind, negation_kind, pool_of, table_words}
use Rattle.table.specs.Measures.{Names, Literals}

-- ---- one word

-- fields that a table's word can hold
abbrev pub Fits : ℕ → ℕ → ℕ → ℕ → ℕ → Type 0
Fits kind operator first second literal_first = Within table_layout (kind ∷ operator ∷ first ∷ second ∷ literal_first ∷ 0 ∷ [])

pub word_below : (k o f s b : ℕ) → Fits k o f s b → table_word k o f s b < 2 ^ 64
word_below k o f s b h = packed_within table_layout (k ∷ o ∷ f ∷ s ∷ b ∷ 0 ∷ []) h

pub always_fits : (b : Bool) → Fits always_kind (bit_of b) 0 0 0
always_fits b = let h = bit_below b in (lit< tt, (omega arith, (lit< tt, (lit< tt, (lit< tt, (lit< tt, tt))))))

pub against_fits : (o : Operator) (f : ℕ) (b : Bool) → f < 256 → Fits against_kind (code_of o) f 0 (bit_of b)
against_fits o f b h = let k = code_below o in (lit< tt, (omega arith, (h, (lit< tt, (bit_below b, (lit< tt, tt))))))

-- every other kind has no operator
pub other_fits : (k f s : ℕ) → k < 16 → f < 256 → s < 256 → Fits k 0 f s 0
other_fits k f s h i j = (h, (lit< tt, (i, (j, (lit< tt, (lit< tt, tt))))))

pub joining_below : (j : Joining) → joining_kind j < 16
joining_below And = lit< tt
joining_below Or = lit< tt

-- ---- all of a table's words

then_below : (k o f s b : ℕ) (ws : List ℕ) → Fits k o f s b → AllBelow (2 ^ 64) ws → AllBelow (2 ^ 64) (table_word k o f s b ∷ ws)
then_below k o f s b ws h t = below_cons (2 ^ 64) (table_word k o f s b) ws (word_below k o f s b h) t

none_below : AllBelow (2 ^ 64) []
none_below k = omega arith

-- a kind that only names statistics
one_below : (k f s : ℕ) → k < 16 → f < 256 → s < 256 → AllBelow (2 ^ 64) (table_word k 0 f s 0 ∷ [])
one_below k f s h i j = then_below k 0 f s 0 [] (other_fits k f s h i j) none_below

module _ (list : List Statistic) (most : length list ≤ 256) where
  pub place_below : (s : Statistic) → Listed s list → place_of s list < 256
  place_below s h = omega arith

  pub table_below : (o : ℕ) (t : Table) → Names (λ s. Listed s list) t → Literals Plain t → o + length (pool_of t) < 2 ^ 24
      → AllBelow (2 ^ 64) (table_words list o t)
  unfolding table_words pool_of
  table_below o (always b) n p h = then_below always_kind (bit_of b) 0 0 0 [] (always_fits b) none_below
  table_below o (both j l r) n p h =
      let e : length (pool_of l ++ pool_of r) ≡ length (pool_of l) + length (pool_of r) = length-append (pool_of l) (pool_of r) in
      let m : ℕ = o + length (pool_of l) in
      then_below (joining_kind j) 0 0 0 0 (table_words list o l ++ table_words list m r)
      (other_fits (joining_kind j) 0 0 (joining_below j) (lit< tt) (lit< tt))
      (below_append (2 ^ 64) (table_words list o l) (table_words list m r)
      (table_below o l n.0 p.0 (omega arith)) (table_below m r n.1 p.1 (omega arith)))
  table_below o (against op s b v) n p h =
      then_below against_kind (code_of op) (place_of s list) 0 (bit_of b) (value_word o v ∷ []) (against_fits op (place_of s list) b (place_below s n))
      (below_cons (2 ^ 64) (value_word o v) [] (value_word_below o v p (omega arith)) none_below)
  table_below o (positive s) n p h = one_below positive_kind (place_of s list) 0 (lit< tt) (place_below s n) (lit< tt)
  table_below o (differ s t) n p h =
      one_below differ_kind (place_of s list) (place_of t list) (lit< tt) (place_below s n.0) (place_below t n.1)
  table_below o (holds s) n p h = one_below holds_kind (place_of s list) 0 (lit< tt) (place_below s n) (lit< tt)
  table_below o (negation t) n p h =
      then_below negation_kind 0 0 0 0 (table_words list o t) (other_fits negation_kind 0 0 (lit< tt) (lit< tt) (lit< tt)) (table_below o t n p h)
