-- The flags of containers, one after the other, each by its own row of the grid and its own answers. Assumes nothing.
use Rattle.std.specs.Prelude.{◌≡◌, Bool, true, false, ◌||◌, length, get_or, take, drop, set, eqb}
use Rattle.std.proofs.Math.Path.{refl, ap}
use Rattle.std.proofs.Common.{sym, ◌∙◌, suc-mul, mul-le-mul_right, add-zero, add-one, drop_of_length-le, drop-cons}
use mathlib.Core.List.{List, [], ◌∷◌, ◌++◌}
use Prim.Native.Nat.{ℕ, zero, suc, ◌+◌, ◌*◌, ◌-◌, ◌/◌, ◌≤◌, ◌<◌}
use Rattle.std.proofs.Math.Nat.{add-sub_cancel_left}
use native.Mathlib.Omega.{arith}
use Rattle.std.proofs.lemmas.List.Edits.{sets}
use Rattle.std.specs.List.{list_any, range_with_len}
use Rattle.limits.specs.Limits.{max_containers, max_table_depth, guarantees_room}
use Rattle.words.specs.Word.{words_of}
use Rattle.words.specs.WordLaws.{length_words}
use Rattle.words.specs.Stores.{sets_then}
use Rattle.table.specs.Worth.{worth}
use Rattle.guarantees.specs.Guarantees.{answer_drops, not_in_field}
use Rattle.pruning.specs.TableReading.{table_at}
use Rattle.pruning.specs.Evaluating.{answers_drop, flag_of}
use Rattle.cells.specs.Grids.{list_of}
use Rattle.evaluating.specs.Rows.{row_cells}
use Rattle.evaluating.specs.Ready.{Ready}

-- ---- answers

module _ (answers gs : List ℕ) where
  -- by the guarantees from place i of their words on
  abbrev pub drops_from : ℕ → ℕ → Bool
  drops_from i at = answers_drop answers (drop i (words_of gs)) at

  pub drops_end : (i at : ℕ) → length gs / 8 ≤ i → drops_from i at ≡ false
  unfolding answers_drop
  drops_end i at h = rw (drop_of_length-le (words_of gs) {i = i} (rw length_words h))

  -- the guarantee g at place i, and its answer a
  module _ (i at : ℕ) (h : i < length gs / 8) (g : ℕ) (e : g ≡ get_or (words_of gs) i 0) (a : ℕ) (f : a ≡ get_or answers (at + i) 0)
      (b : Bool) (c : b ≡ answer_drops (eqb (not_in_field g) 1) a) where
    drops_are : drops_from i (at + i) ≡ (b || drops_from (i + 1) (at + (i + 1)))
    unfolding answers_drop
    drops_are =
        let x : at + i + 1 ≡ at + (i + 1) = omega arith in
        rw (drop-cons (words_of gs) i 0 (rw length_words h), ← e, ← f, ← c, x, add-one)

    pub drops_here : b ≡ true → drops_from i (at + i) ≡ true
    drops_here t = drops_are ∙ rw t

    pub drops_next : b ≡ false → drops_from i (at + i) ≡ drops_from (i + 1) (at + (i + 1))
    drops_next t = drops_are ∙ rw t

-- n guarantees from place a of their words on, their answers from place at on
module _ (answers gs : List ℕ) (at : ℕ) where
  abbrev pub drops_at : ℕ → Bool
  drops_at i = answer_drops (eqb (not_in_field (get_or (words_of gs) i 0)) 1) (get_or answers (at + i) 0)

  pub drops_walked : (n a : ℕ) → length (words_of gs) - a ≡ n → list_any drops_at (range_with_len a n) ≡ answers_drop answers (drop a (words_of gs)) (at + a)
  unfolding answers_drop
  drops_walked zero a e = rw (drop_of_length-le (words_of gs) {i = a} (omega arith))
  drops_walked (suc n) a e =
      let h : a < length (words_of gs) = omega arith in
      let x : at + a + 1 ≡ at + (a + 1) = omega arith in
      let p : drop a (words_of gs) ≡ get_or (words_of gs) a 0 ∷ drop (a + 1) (words_of gs) = rw add-one (drop-cons (words_of gs) a 0 h) in
      rw (p, x, drops_walked n (a + 1) (omega arith))

-- ---- flags

-- the bytes of a row
abbrev pub width : List ℕ → ℕ
width list = 8 * (length list / 8)

-- what one call of it asks: the table is ready, and there is a row, a flag and a count for each container
pub record Fits (list pool table guars grid : List ℕ) (containers room : ℕ) : Type 0 where
  pub ready : Ready (list_of list) pool (words_of table) max_table_depth 0
  pub rows : containers * width list ≤ length grid
  pub flags : containers ≤ room
  pub few : containers ≤ max_containers
  pub each : length guars ≤ guarantees_room

module _ (list pool table guars cells grid answers : List ℕ) where
  -- the row of a container
  abbrev pub row_of : ℕ → List ℕ
  row_of i = take (width list) (drop (i * width list) grid)

  abbrev pub flag_for : ℕ → ℕ
  flag_for i =
      flag_of (worth (row_cells cells (list_of list) (words_of (row_of i))) (table_at (list_of list) pool (words_of table) max_table_depth 0).table)
      (answers_drop answers (words_of guars) (i * (length guars / 8)))

  -- by the part of the grid that begins where its row does, and the answers from its place on
  pub flag_at : (i from at v : ℕ) → from ≡ i * width list → at ≡ i * (length guars / 8)
      → v ≡ flag_of (worth (row_cells cells (list_of list) (words_of (take (from + width list - from) (drop from grid))))
      (table_at (list_of list) pool (words_of table) max_table_depth 0).table) (answers_drop answers (words_of guars) at)
      → v ≡ flag_for i
  flag_at i from at v e f g = g ∙ rw (add-sub_cancel_left, e, f)

  -- of n containers, from one on
  unfoldable pub flags_for : ℕ → ℕ → List ℕ
  flags_for i zero = []
  flags_for i (suc n) = flag_for i ∷ flags_for (i + 1) n

  pub flags_none : (i : ℕ) → flags_for i 0 ≡ []
  unfolding flags_for
  flags_none i = refl

  flags_snoc : (i n : ℕ) → flags_for i (suc n) ≡ flags_for i n ++ (flag_for (i + n) ∷ [])
  unfolding flags_for
  flags_snoc i zero = ap (λ (k : ℕ). flag_for k ∷ []) (sym (add-zero i))
  flags_snoc i (suc n) =
      let x : i + 1 + n ≡ i + suc n = omega arith in
      ap (λ (l : List ℕ). flag_for i ∷ l) (flags_snoc (i + 1) n ∙ ap (λ (k : ℕ). flags_for (i + 1) n ++ (flag_for k ∷ [])) x)

  pub length_flags : (i n : ℕ) → length (flags_for i n) ≡ n
  unfolding flags_for
  length_flags i zero = refl
  length_flags i (suc n) = ap suc (length_flags (i + 1) n)

  -- one flag more, behind n others
  pub flag_stored : (old : List ℕ) (n v : ℕ) → v ≡ flag_for n → set (sets old 0 (flags_for 0 n)) n v ≡ sets old 0 (flags_for 0 (n + 1))
  flag_stored old n v e =
      let x : 0 + n ≡ n = omega arith in
      let l = length_flags 0 n in
      let y : n ≡ 0 + length (flags_for 0 n) = omega arith in
      rw (add-one, flags_snoc 0 n, x, e) (sets_then old 0 n (flags_for 0 n) (flag_for n ∷ []) y)

-- ---- rows, container by container

pub next_row : (i n w m : ℕ) → i < n → n * w ≤ m → i * w + w ≤ m
next_row i n w m h k =
    let p : suc i * w ≤ n * w = mul-le-mul_right w h in
    let e : suc i * w ≡ i * w + w = suc-mul i w in
    omega arith

pub one_more : (i w : ℕ) → i * w + w ≡ (i + 1) * w
one_more i w = rw (add-one, suc-mul i w)

pub few_answers : (i n g : ℕ) → i < n → n ≤ 4096 → g ≤ 1024 → i * (g / 8) + g / 8 ≤ 524288
few_answers i n g h k l =
    let p : i * (g / 8) + g / 8 ≤ 4096 * (g / 8) = next_row i 4096 (g / 8) (4096 * (g / 8)) (omega arith) (omega arith) in
    omega arith
