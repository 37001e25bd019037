-- A pruning call from its refusal, or none, to its flags: in the terms of the code. Assumes nothing.
use Rattle.std.specs.Prelude.{◌≡◌, Bool, ◌&&◌, List, get_or, take, drop, eqb, leb}
use Rattle.std.proofs.Math.Path.{refl, ap, fun_ext}
use Rattle.std.proofs.Common.{sym, ◌∙◌, mul_left_comm, arith, length-drop, length-take-le}
use Rattle.std.proofs.Math.Bool.{true, false, cond}
use Prim.Native.Nat.{ℕ, zero, suc, ◌+◌, ◌*◌, ◌/◌, ◌≤◌, ◌<◌}
use Rattle.std.proofs.Math.ListN.{length}
use Rattle.std.proofs.lemmas.List.Edits.{sets}
use Rattle.std.proofs.Math.Seq.{get_or-take}
use Rattle.std.proofs.Math.Dec.{ltb}
use borrow.Author.Tests.{eqb-true, leb-true, ltb-true}
use Rattle.limits.specs.Limits.{max_containers, bad_schema, bad_containers, bad_table, bad_grid}
use Rattle.words.specs.Tests.{and_both}
use Rattle.words.specs.Word.{word_at, words_of}
use Rattle.words.specs.WordLaws.{AllBelow, length_words, words_at, word_drop}
use Rattle.words.specs.Stores.{sets_front}
use Rattle.literals.specs.Literals.{null}
use Rattle.predicate.specs.Checking.{schema_fine}
use Rattle.statistics.specs.Statistics.{place_of}
use Rattle.statistics.specs.Reading.{length_read}
use Rattle.statistics.specs.declared.Statistic.{Statistic}
use Rattle.table.specs.Worth.{Cells, worth}
use Rattle.pruning.specs.TableChecking.{checked_table}
use Rattle.pruning.specs.Cells.{cell_value, cell_of}
use Rattle.pruning.specs.Evaluating.{answers_drop, flag_of}
use Rattle.cells.specs.Grids.{list_of}
use Rattle.evaluating.specs.Rows.{row_cells}
use Rattle.evaluating.specs.FromChecks.{checked_says}
use Rattle.flagging.specs.Flags.{width, Fits, flag_for, flags_for, length_flags, next_row}
use Rattle.spill.specs.Prune.{Call, list_in, table_in, grid_fine, prune_fault, flag_in, flags_from, pruning}
use Rattle.spill.specs.Done.{Flagged}

-- ---- a container's row and its cells

module _ (bs : List ℕ) (m : ℕ) where
  -- a word of a front
  word_take : (j : ℕ) → j + 8 ≤ m → word_at (take m bs) j ≡ word_at bs j
  unfolding word_at
  word_take j h =
      let e0 = get_or-take m bs j 0 (omega arith) in
      let e1 = get_or-take m bs (j + 1) 0 (omega arith) in
      let e2 = get_or-take m bs (j + 2) 0 (omega arith) in
      let e3 = get_or-take m bs (j + 3) 0 (omega arith) in
      let e4 = get_or-take m bs (j + 4) 0 (omega arith) in
      let e5 = get_or-take m bs (j + 5) 0 (omega arith) in
      let e6 = get_or-take m bs (j + 6) 0 (omega arith) in
      let e7 = get_or-take m bs (j + 7) 0 (omega arith) in
      rw (e0, e1, e2, e3, e4, e5, e6, e7)

length_list : (bs : List ℕ) → length (list_of bs) ≡ length bs / 8
length_list bs = rw (length_read, length_words)

-- the call's grid holds a row of n words for each container
module _ (bs grid : List ℕ) (containers i : ℕ) (h : i < containers) (e : length grid ≡ 8 * (containers * (length bs / 8))) where
  inside : i * (length bs / 8) + length bs / 8 ≤ length grid / 8
  inside =
      let k = next_row i containers (length bs / 8) (containers * (length bs / 8)) h (omega arith) in
      omega arith

  row_length : length (take (width bs) (drop (i * width bs) grid)) ≡ width bs
  row_length =
      let m : i * (8 * (length bs / 8)) ≡ 8 * (i * (length bs / 8)) = mul_left_comm i 8 (length bs / 8) in
      let k = inside in
      length-take-le (width bs) (drop (i * width bs) grid) (rw length-drop (omega arith))

  row_word : (p : ℕ) → p < length bs / 8
      → get_or (words_of (take (width bs) (drop (i * width bs) grid))) p 0 ≡ get_or (words_of grid) (i * (length bs / 8) + p) 0
  row_word p l =
      let k = inside in
      let r = row_length in
      let m : i * width bs + 8 * p ≡ 8 * (i * (length bs / 8) + p) = ap (λ (x : ℕ). x + 8 * p) (mul_left_comm i 8 (length bs / 8)) ∙ omega arith in
      words_at (take (width bs) (drop (i * width bs) grid)) p (omega arith)
      ∙ word_take (drop (i * width bs) grid) (width bs) (8 * p) (omega arith)
      ∙ word_drop (i * width bs) grid (8 * p)
      ∙ ap (word_at grid) m
      ∙ sym (words_at grid (i * (length bs / 8) + p) (omega arith))

  row_cells_lem : (schema cells : List ℕ) → cell_of schema cells (list_of bs) (words_of grid) i ≡ row_cells cells (list_of bs) (words_of (take (width bs) (drop (i * width bs) grid)))
  unfolding cell_of
  row_cells_lem schema cells = fun_ext (λ s. go s (ltb (place_of s (list_of bs)) (length (list_of bs))) refl)
    where
      go : (s : Statistic) (b : Bool) → ltb (place_of s (list_of bs)) (length (list_of bs)) ≡ b
          → cond b (cell_value cells s (get_or (words_of grid) (i * length (list_of bs) + place_of s (list_of bs)) 0)) null
          ≡ cond b (cell_value cells s (get_or (words_of (take (width bs) (drop (i * width bs) grid))) (place_of s (list_of bs)) 0)) null
      go s true t =
          let l = ltb-true (place_of s (list_of bs)) (length (list_of bs)) t in
          let n = length_list bs in
          ap (λ (k : ℕ). cell_value cells s (get_or (words_of grid) (i * k + place_of s (list_of bs)) 0)) n
          ∙ ap (cell_value cells s) (sym (row_word (place_of s (list_of bs)) (omega arith)))
      go s false t = refl

-- ---- the flags are those of the rows

-- a call of its parts
abbrev pub call_of : List ℕ → List ℕ → List ℕ → List ℕ → List ℕ → ℕ → List ℕ → List ℕ → List ℕ → ℕ → Call
call_of schema table pool stats guars containers grid cells answers room =
    record {
      schema = schema;
      table = table;
      pool = pool;
      statistics = stats;
      guarantees = guars;
      containers = containers;
      grid = grid;
      cells = cells;
      answers = answers;
      room = room;
    }

-- by rows of the grid
abbrev pub row_flags : Call → ℕ → ℕ → List ℕ
row_flags c i n = flags_for c.statistics c.pool c.table c.guarantees c.cells c.grid c.answers i n

module _ (c : Call) (e : length c.grid ≡ 8 * (c.containers * (length c.statistics / 8))) where
  flag_in_lem : (i : ℕ) → i < c.containers
      → flag_in c i ≡ flag_for c.statistics c.pool c.table c.guarantees c.cells c.grid c.answers i
  unfolding flag_in
  flag_in_lem i h =
      ap (λ (x : Cells). flag_of (worth x (table_in c)) (answers_drop c.answers (words_of c.guarantees) (i * (length c.guarantees / 8))))
      (row_cells_lem c.statistics c.grid c.containers i h e c.schema c.cells)

  flags_from_lem : (i n : ℕ) → i + n ≤ c.containers → flags_from c i n ≡ row_flags c i n
  unfolding flags_from flags_for
  flags_from_lem i zero h = refl
  flags_from_lem i (suc n) h = rw (flag_in_lem i (omega arith), flags_from_lem (i + 1) n (omega arith))

-- ---- a call that is not refused

passed_if : (b : Bool) (x y : ℕ) → cond b x y ≡ 0 → (y ≡ 0 → ⊥) → (b ≡ true) × (x ≡ 0)
passed_if true x y e h = (refl, e)
passed_if false x y e h = absurd (h e)

-- what its tests say
pub record Passed (c : Call) : Type 0 where
  pub few : c.containers ≤ max_containers
  pub room : c.containers ≤ c.room
  pub table : checked_table c.schema c.table c.pool c.statistics c.guarantees ≡ true
  pub cells : length c.grid ≡ 8 * (c.containers * (length c.statistics / 8))

grid_length : (c : Call) → grid_fine c ≡ true → length c.grid ≡ 8 * (c.containers * (length c.statistics / 8))
grid_length c e =
    let a = and_both (eqb (length c.grid) (8 * (c.containers * length (list_in c)))) _ e in
    eqb-true (length c.grid) (8 * (c.containers * length (list_in c))) a.0
    ∙ ap (λ (n : ℕ). 8 * (c.containers * n)) (length_list c.statistics)

pub passed : (c : Call) → prune_fault c ≡ 0 → Passed c
unfolding prune_fault
passed c e =
    let s = passed_if (schema_fine c.schema) _ bad_schema e (λ z. omega arith) in
    let n = passed_if (leb c.containers max_containers && leb c.containers c.room) _ bad_containers s.1 (λ z. omega arith) in
    let m = and_both (leb c.containers max_containers) (leb c.containers c.room) n.0 in
    let t = passed_if (checked_table c.schema c.table c.pool c.statistics c.guarantees) _ bad_table n.1 (λ z. omega arith) in
    let g = passed_if (grid_fine c) _ bad_grid t.1 (λ z. omega arith) in
    record {
      few = leb-true c.containers max_containers m.0;
      room = leb-true c.containers c.room m.1;
      table = t.0;
      cells = grid_length c g.0;
    }

-- its flags can be written
pub fits : (c : Call) → Passed c → AllBelow 256 c.statistics
    → Fits c.statistics c.pool c.table c.guarantees c.grid c.containers c.room
fits c p k =
    let h = checked_says c.schema c.table c.pool c.statistics c.guarantees k p.table in
    let m : c.containers * (8 * (length c.statistics / 8)) ≡ 8 * (c.containers * (length c.statistics / 8)) =
    mul_left_comm c.containers 8 (length c.statistics / 8) in
    let e = p.cells in
    record { ready = h.ready; rows = omega arith; flags = p.room; few = p.few; each = h.guarantees }

-- ---- what the call returns and leaves

pub flagged_refused : (c : Call) (n : ℕ) (old : List ℕ) → n ≡ prune_fault c → (n ≡ 0 → ⊥) → Flagged (pruning c) old old n
unfolding pruning
flagged_refused c zero old e h = absurd (h refl)
flagged_refused c (suc n) old e h = rw (← e) (record { result = refl; flags = refl })

pub flagged_done : (c : Call) (n : ℕ) (old new : List ℕ) → n ≡ prune_fault c → n ≡ 0 → c.room ≡ length old
    → new ≡ sets old 0 (row_flags c 0 c.containers) → Flagged (pruning c) old new 0
unfolding pruning
flagged_done c n old new e z l s =
    let q : prune_fault c ≡ 0 = sym e ∙ z in
    let p = passed c q in
    let f : flags_from c 0 c.containers ≡ row_flags c 0 c.containers = flags_from_lem c p.cells 0 c.containers (omega arith) in
    let k : length (row_flags c 0 c.containers) ≡ c.containers =
    length_flags c.statistics c.pool c.table c.guarantees c.cells c.grid c.answers 0 c.containers in
    let r = p.room in
    rw (q, f) (record { result = refl; flags = s ∙ sets_front old (row_flags c 0 c.containers) (omega arith) })
