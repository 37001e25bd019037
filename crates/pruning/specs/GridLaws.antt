-- What an accepted grid says of each cell, and what a cell may be. Assumes nothing.
use Rattle.std.specs.Prelude.{◌≡◌, Bool, ◌⊎◌, get_or, eqb, ℤ, pos}
use Rattle.std.proofs.Math.Path.{refl, subst}
use Rattle.std.proofs.Common.{sym, ◌∙◌, ap, true≢false, inl, inr, zero-add, ltb-true, lt-ltb, eq-eqb}
use Rattle.std.proofs.Math.Bool.{true, false, cond}
use mathlib.Core.List.{List, [], ◌∷◌}
use Prim.Native.Nat.{ℕ, zero, suc, ◌+◌, ◌*◌, ◌<◌}
use Rattle.std.proofs.Math.Nat.{add-zero, suc-mul}
use native.Mathlib.Omega.{arith}
use Rattle.std.proofs.Math.ListN.{length}
use Rattle.std.proofs.Math.Dec.{ltb}
use Rattle.words.specs.Tests.{and_both}
use Rattle.words.specs.Word.{word_at}
use Rattle.literals.specs.Signed.{Fits64, signed_fits}
use Rattle.literals.specs.Literals.{Value, null, int, integer_type, null_type, type_of, offset_of, suits, plain, literal_of, value_of, value_at}
use Rattle.literals.specs.declared.Literal.{Literal}
use Rattle.literals.specs.declared.Literal.TheVariants.{Null, Int, Text, Truth}
use Rattle.literals.specs.LiteralLaws.{literal_null_lem}
use Rattle.literals.specs.Suited.{Suited, suited}
use Rattle.predicate.specs.declared.Column.{Column}
use Rattle.predicate.specs.Checking.{type_in}
use Rattle.statistics.specs.declared.Statistic.{Statistic}
use Rattle.statistics.specs.declared.Statistic.TheVariants.{Least, Greatest, Blanks, Rows}
use Rattle.statistics.specs.Statistics.{place_of}
use Rattle.statistics.specs.ListLaws.{Listed, at_place}
use Rattle.pruning.specs.Cells.{cell_fine, cell_value, count_at, row_fine, rows_fine, cell_at, cell_of}

-- ---- every cell of an accepted grid is fine

module _ (schema pool : List ℕ) (list : List Statistic) (grid : List ℕ) where
  row_cell : (ss : List Statistic) (at j : ℕ) → row_fine schema pool list grid ss at ≡ true → j < length ss
      → cell_fine schema pool (get_or ss j Rows) (get_or grid (at + j) 0) ≡ true
  unfolding row_fine
  row_cell [] at j e h = absurd (omega arith)
  row_cell (s ∷ ss) at zero e h = rw add-zero (and_both (cell_fine schema pool s (get_or grid at 0)) (row_fine schema pool list grid ss (at + 1)) e).0
  row_cell (s ∷ ss) at (suc j) e h =
      let q : at + 1 + j ≡ at + suc j = omega arith in
      subst (λ n. cell_fine schema pool (get_or ss j Rows) (get_or grid n 0) ≡ true) q
      (row_cell ss (at + 1) j (and_both (cell_fine schema pool s (get_or grid at 0)) (row_fine schema pool list grid ss (at + 1)) e).1 (omega arith))

  rows_cell : (n at i j : ℕ) → rows_fine schema pool list grid n at ≡ true → i < n → j < length list
      → cell_fine schema pool (get_or list j Rows) (get_or grid (at + (i * length list + j)) 0) ≡ true
  unfolding rows_fine
  rows_cell zero at i j e h k = absurd (omega arith)
  rows_cell (suc n) at zero j e h k =
      let q : at + j ≡ at + (zero * length list + j) = omega arith in
      subst (λ m. cell_fine schema pool (get_or list j Rows) (get_or grid m 0) ≡ true) q
      (row_cell list at j (and_both (row_fine schema pool list grid list at) (rows_fine schema pool list grid n (at + length list)) e).0 k)
  rows_cell (suc n) at (suc i) j e h k =
      let m = suc-mul i (length list) in
      let q : at + length list + (i * length list + j) ≡ at + (suc i * length list + j) = omega arith in
      subst (λ m. cell_fine schema pool (get_or list j Rows) (get_or grid m 0) ≡ true) q
      (rows_cell n (at + length list) i j (and_both (row_fine schema pool list grid list at) (rows_fine schema pool list grid n (at + length list)) e).1 (omega arith) k)

  -- the cell of a listed statistic
  pub listed_fine : (n i : ℕ) (s : Statistic) → rows_fine schema pool list grid n 0 ≡ true → i < n → Listed s list
      → cell_fine schema pool s (get_or grid (i * length list + place_of s list) 0) ≡ true
  listed_fine n i s e h k =
      let c = rows_cell n 0 i (place_of s list) e h k in
      rw (at_place s list Rows k, zero-add (i * length list + place_of s list)) at c

  pub listed_cell : (i : ℕ) (s : Statistic) → Listed s list → cell_of schema pool list grid i s ≡ cell_at schema pool list grid i (place_of s list) s
  unfolding cell_of
  listed_cell i s k = rw (lt-ltb (place_of s list) (length list) k)

  -- one that is not listed is absent
  pub unlisted_cell : (i : ℕ) (s : Statistic) → (Listed s list → ⊥) → cell_of schema pool list grid i s ≡ null
  unfolding cell_of
  unlisted_cell i s k = go (ltb (place_of s list) (length list)) refl
    where
      go : (b : Bool) → ltb (place_of s list) (length list) ≡ b → cond b (cell_at schema pool list grid i (place_of s list) s) null ≡ null
      go true e = absurd (k (ltb-true (place_of s list) (length list) e))
      go false e = refl

  -- what holds of an absent cell, and of a listed one, holds of every cell
  pub cell_by : (P : Value → Type 0) (i : ℕ) (s : Statistic) → P null → (Listed s list → P (cell_at schema pool list grid i (place_of s list) s))
      → P (cell_of schema pool list grid i s)
  cell_by P i s absent there = go (ltb (place_of s list) (length list)) refl
    where
      go : (b : Bool) → ltb (place_of s list) (length list) ≡ b → P (cell_of schema pool list grid i s)
      go true e =
          let k = ltb-true (place_of s list) (length list) e in subst P (sym (listed_cell i s k)) (there k)
      go false e =
          let k : Listed s list → ⊥ = λ l. true≢false (sym (lt-ltb (place_of s list) (length list) l) ∙ e) in
          subst P (sym (unlisted_cell i s k)) absent

-- ---- what a cell may be

-- absent, or an integer of 64 bits
abbrev pub IntCell : Value → Type 0
IntCell v = (v ≡ null) ⊎ ((z : ℤ) × (v ≡ int z) × Fits64 z)

-- absent, or a count
abbrev pub CountCell : Value → Type 0
CountCell v = (v ≡ null) ⊎ ((n : ℕ) × (v ≡ int (pos n)))

int_value : (pool : List ℕ) (type w : ℕ) (l : Literal) → type ≡ integer_type → Suited pool type w l → IntCell (value_of pool l)
int_value pool type w Null e s = inl refl
int_value pool type w (Int z) e s = inr (z, refl, rw s.4 (signed_fits (word_at pool (offset_of w))))
int_value pool type w (Text r) e s = let q = s.1 in absurd (omega arith)
int_value pool type w (Truth b) e s = let q = s.1 in absurd (omega arith)

pub count_cell : (pool : List ℕ) (w : ℕ) → CountCell (count_at pool w)
count_cell pool w = go (eqb (type_of w) null_type)
  where
    go : (b : Bool) → CountCell (cond b null (int (pos (word_at pool (offset_of w)))))
    go true = inl refl
    go false = inr (word_at pool (offset_of w), refl)

-- a cell of type 0 is absent, whatever it is of
pub absent_cell : (pool : List ℕ) (s : Statistic) (w : ℕ) → type_of w ≡ null_type → cell_value pool s w ≡ null
absent_cell pool (Least c) w e = ap (value_of pool) (literal_null_lem pool w e)
absent_cell pool (Greatest c) w e = ap (value_of pool) (literal_null_lem pool w e)
absent_cell pool (Blanks c) w e = rw (eq-eqb (type_of w) null_type e)
absent_cell pool Rows w e = rw (eq-eqb (type_of w) null_type e)

pub bound_cell : (schema pool : List ℕ) (c : Column) (w : ℕ) → type_in schema c.0 ≡ integer_type → cell_fine schema pool (Least c) w ≡ true → IntCell (value_at pool w)
bound_cell schema pool c w t e =
    int_value pool (type_in schema c.0) w (literal_of pool w) t
    (suited pool (type_in schema c.0) w (and_both (plain w) (suits pool (type_in schema c.0) w) e).1)
