-- Node checking: word by word the refusal that document 01 gives, 4 before 5 before 6 in a word, or how far checking has come.
-- A fault is a refusal's number, or 0. Assumes nothing.
use Rattle.std.specs.Prelude.{Bool, true, false, cond, not, ◌&&◌, ◌||◌, List, [], ◌∷◌, ℕ, zero, suc, ◌+◌, length, get_or, eqb, leb, ltb}
use Rattle.limits.specs.Limits.{max_columns, max_nodes, max_list_literals, max_literal_bytes, max_all_literal_bytes, max_depth, malformed, over_limit, misfit}
use Rattle.words.specs.Word.{range_of}
use Rattle.literals.specs.Literals.{type_of, length_of, offset_of, plain, suits, integer_type, text_type, truth_type}
use Rattle.text.specs.Machine.{is_utf8}
use Rattle.predicate.specs.Nodes.{kind_of, operator_field, column_field, flips_of, first_field, count_of, zero_field}
use Rattle.predicate.specs.Predicates.{node_at}
use Rattle.predicate.specs.declared.Column.{Column}
use Rattle.predicate.specs.declared.Node.{Node}
use Rattle.predicate.specs.declared.Node.TheVariants.{Constant, Join, Not, TruthColumn, IsNull, IsNotNull, Comparison, List as InList, Like}
use Rattle.predicate.specs.declared.Shape.{Shape}
use Rattle.predicate.specs.declared.Progress.{Progress}
use Rattle.predicate.specs.Checked.{Checked, Refused, Passed}

-- ---- the schema

-- every schema byte is 1, 2 or 3
unfoldable pub types_fine : List ℕ → Bool
types_fine [] = true
types_fine (b ∷ bs) = leb integer_type b && (leb b truth_type && types_fine bs)

abbrev pub schema_fine : List ℕ → Bool
schema_fine schema = leb (length schema) max_columns && types_fine schema

-- ---- a word

-- 4 before 5 before 6
abbrev pub first_fault : Bool → Bool → Bool → ℕ
first_fault formed limited fitting = cond formed (cond limited (cond fitting 0 misfit) over_limit) malformed

-- ---- a node's word

abbrev pub bare : ℕ → Shape
bare n = record { operators = n; column = false; flips = false; first = false; count = false }

abbrev pub columnar : ℕ → Shape
columnar n = record { operators = n; column = true; flips = false; first = false; count = false }

-- by their kinds; an unknown kind has no operator
abbrev pub shape_of : ℕ → Shape
shape_of kind =
    get_or
    (bare 3
    ∷ bare 1
    ∷ bare 1
    ∷ bare 1
    ∷ columnar 1
    ∷ columnar 1
    ∷ columnar 1
    ∷ record { operators = 8; column = true; flips = true; first = true; count = false }
    ∷ record { operators = 2; column = true; flips = true; first = false; count = true }
    ∷ columnar 2
    ∷ [])
    kind (bare 0)

-- a field that a kind has not is zero
abbrev pub unused_zero : Bool → ℕ → Bool
unused_zero used v = used || eqb v 0

-- a known kind and operator, every unnamed and unused field zero
unfoldable pub formed : ℕ → Bool
formed w =
    let s = shape_of (kind_of w) in
    ltb (operator_field w) s.operators
    && (unused_zero s.column (column_field w)
    && (unused_zero s.flips (flips_of w)
    && (unused_zero s.first (first_field w)
    && (unused_zero s.count (count_of w) && eqb (zero_field w) 0))))

-- within the limits of depth, nodes and list literals; depth is what is left of it
abbrev pub limited : ℕ → Progress → ℕ → Bool
limited depth s w = ltb 0 depth && (ltb s.nodes max_nodes && leb (s.listed + count_of w) max_list_literals)

-- the type of a column; 0 where it is not in the schema
abbrev pub type_in : List ℕ → ℕ → ℕ
type_in schema c = get_or schema c 0

-- the column is in the schema, and no text is flipped
abbrev pub flippable : List ℕ → Column → ℕ → Bool
flippable schema c flips = ltb c.0 (length schema) && (eqb flips 0 || not (eqb (type_in schema c.0) text_type))

-- a node's column is in the schema and of the type that the node wants
abbrev pub columned : List ℕ → Node → Bool
columned schema (Constant t) = true
columned schema (Join j) = true
columned schema Not = true
columned schema (TruthColumn c) = eqb (type_in schema c.0) truth_type
columned schema (IsNull c) = ltb c.0 (length schema)
columned schema (IsNotNull c) = ltb c.0 (length schema)
columned schema (Comparison o c n b l) = flippable schema c n
columned schema (InList b c n k) = flippable schema c n
columned schema (Like b c l) = eqb (type_in schema c.0) text_type

-- the fault of the node n whose word w stands at the next place
abbrev pub word_fault : List ℕ → ℕ → Progress → ℕ → Node → ℕ
word_fault schema depth s w n =
    first_fault (formed w) (limited depth s w) (columned schema n)

-- ---- a literal's word

-- within the limits of a literal and of all literals
abbrev pub literal_limited : Progress → ℕ → Bool
literal_limited s w = leb (length_of w) max_literal_bytes && leb (s.bytes + length_of w) max_all_literal_bytes

-- a text that must be UTF-8 is
abbrev pub patterned : Bool → List ℕ → ℕ → Bool
patterned pattern pool w =
    not pattern || (not (eqb (type_of w) text_type) || is_utf8 (range_of pool (record { at = offset_of w; len = length_of w })))

-- the fault of a literal for a column of this type; pattern: it belongs to a LIKE
abbrev pub literal_fault : List ℕ → Bool → ℕ → Progress → ℕ → ℕ
literal_fault pool pattern type s w =
    first_fault (plain w) (literal_limited s w) (suits pool type w && patterned pattern pool w)

-- ---- words in order

-- a word that is not there is a fault of its own
abbrev pub missing : List ℕ → Progress → Bool
missing ws s = leb (length ws) s.place

-- on from a part that passed; the first fault decides
abbrev pub then_on : (Progress → Checked) → Checked → Checked
then_on f (Refused n) = Refused n
then_on f (Passed s) = f s

abbrev pub passes : ℕ → Checked → Checked
passes zero c = c
passes (suc n) c = Refused (suc n)

abbrev pub after_node : Progress → ℕ → Progress
after_node s w = record { place = s.place + 1; nodes = s.nodes + 1; listed = s.listed + count_of w; bytes = s.bytes }

abbrev pub after_literal : Progress → ℕ → Progress
after_literal s w = record { place = s.place + 1; nodes = s.nodes; listed = s.listed; bytes = s.bytes + length_of w }

module _ (schema pool ws : List ℕ) where
  abbrev pub word_here : Progress → ℕ
  word_here s = get_or ws s.place 0

  -- one literal for a column
  unfoldable pub check_literal : Bool → Column → Progress → Checked
  check_literal pattern c s =
      passes (cond (missing ws s) malformed (literal_fault pool pattern (type_in schema c.0) s (word_here s)))
      (Passed (after_literal s (word_here s)))

  -- the n literals of a list
  unfoldable pub check_literals : ℕ → Column → Progress → Checked
  check_literals zero c s = Passed s
  check_literals (suc n) c s = then_on (check_literals n c) (check_literal false c s)

  -- what stands behind a node's word, f checking its children
  abbrev pub check_behind : (Progress → Checked) → Progress → Node → Checked
  check_behind f s (Constant t) = Passed s
  check_behind f s (Join j) = then_on f (f s)
  check_behind f s Not = f s
  check_behind f s (TruthColumn c) = Passed s
  check_behind f s (IsNull c) = Passed s
  check_behind f s (IsNotNull c) = Passed s
  check_behind f s (Comparison o c n b l) = check_literal false c s
  check_behind f s (InList b c n k) = check_literals k c s
  check_behind f s (Like b c l) = check_literal true c s

  -- the fault of the node word at the next place
  unfoldable pub node_fault : ℕ → Progress → ℕ
  node_fault depth s = cond (missing ws s) malformed (word_fault schema depth s (word_here s) (node_at pool ws s.place))

  -- one predicate, with a depth left
  unfoldable pub check_from : ℕ → Progress → Checked
  check_from zero s = passes (node_fault zero s) (Refused over_limit)
  check_from (suc d) s = passes (node_fault (suc d) s) (check_behind (check_from d) (after_node s (word_here s)) (node_at pool ws s.place))

  abbrev pub at_start : Progress
  at_start = record { place = 0; nodes = 0; listed = 0; bytes = 0 }

  -- leftover words come last
  abbrev pub finish : Checked → ℕ
  finish (Refused n) = n
  finish (Passed s) = cond (eqb s.place (length ws)) 0 malformed

  -- the fault of a predicate
  unfoldable pub predicate_fault : ℕ
  predicate_fault = finish (check_from max_depth at_start)
