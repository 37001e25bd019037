-- Ranges inside a pool, ranges cut to it, and the bytes that an operand names out of two pools. Assumes nothing.
use Rattle.std.specs.Prelude.{◌≡◌, List, ℕ, ◌+◌, ◌≤◌, length}
use Rattle.words.specs.Word.{range_of}
use Rattle.words.specs.declared.Range.{Range}
use Rattle.words.specs.declared.Operand.{Operand}
use Rattle.words.specs.declared.Operand.TheVariants.{Literal, Cell}

-- a range that a pool has
abbrev pub Inside : List ℕ → Range → Type 0
Inside pool r = r.at + r.len ≤ length pool

-- k names the same bytes as r, and only bytes that the pool has
pub record Cut (pool : List ℕ) (r k : Range) : Type 0 where
  pub same : range_of pool k ≡ range_of pool r
  pub inside : Inside pool k
  pub short : k.len ≤ r.len

-- the bytes that an operand names, out of the literal pool or the cell pool
abbrev pub operand_of : List ℕ → List ℕ → Operand → List ℕ
operand_of literals cells (Literal r) = range_of literals r
operand_of literals cells (Cell r) = range_of cells r

-- an operand whose pool has its range
abbrev pub OperandInside : List ℕ → List ℕ → Operand → Type 0
OperandInside literals cells (Literal r) = Inside literals r
OperandInside literals cells (Cell r) = Inside cells r
