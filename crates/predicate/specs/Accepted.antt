-- What a predicate is that checking accepts: it fits the schema, and its measures are what checking has counted, within the limits.
-- proofs/Accepted.antt has that a passing check says so. Assumes nothing.
use Rattle.std.specs.Prelude.{◌≡◌, refl, true, not as negation, List, [], ◌∷◌, ◌++◌, length, eqb}
use Rattle.std.proofs.Common.{sym, ap, ◌∙◌, arith, length-take, length-drop, eq-eqb}
use Rattle.std.proofs.Math.Bool.{false}
use Prim.Native.Nat.{ℕ, ◌+◌, ◌*◌, ◌≤◌, ◌<◌}
use Rattle.limits.specs.Limits.{max_nodes, max_list_literals, max_literal_bytes, max_all_literal_bytes, max_depth}
use Rattle.words.specs.Word.{range_of}
use Rattle.words.specs.WordLaws.{length_word}
use Rattle.words.specs.Pools.{Inside}
use Rattle.words.specs.Tests.{or_other}
use Rattle.words.specs.declared.Range.{Range}
use Rattle.literals.specs.Signed.{Fits64, signed_fits}
use Rattle.literals.specs.Literals.{Value, null, int, text, truth, value_of, value_bytes, type_of, length_of, plain, integer_type, text_type, truth_type}
use Rattle.literals.specs.LiteralLaws.{Plain}
use Rattle.literals.specs.Suited.{Suited, plain_null}
use Rattle.literals.specs.declared.Literal.{Literal}
use Rattle.literals.specs.declared.Literal.TheVariants.{Null, Int, Text, Truth}
use Rattle.text.specs.Utf8.{Utf8}
use Rattle.text.specs.Machine.{is_utf8}
use Rattle.text.proofs.Valid.{utf8_iff}
use Rattle.predicate.specs.Predicates.{Predicate, constant, join, not, column, is_null, is_not_null, comparison, list, like, Read}
use Rattle.predicate.specs.Measures.{width, nodes, leaves, depth, listed, values_bytes, literal_bytes}
use Rattle.predicate.specs.Checking.{type_in, patterned}
use Rattle.predicate.specs.CheckingLaws.{Flippable, type_in_schema}
use Rattle.predicate.specs.declared.Progress.{Progress}

-- ---- predicates that fit a schema

-- a literal for a column of this type
abbrev pub LiteralOf : ℕ → Value → Type 0
LiteralOf type null = Unit {0}
LiteralOf type (int z) = (type ≡ integer_type) × Fits64 z
LiteralOf type (text bs) = (type ≡ text_type) × (length bs ≤ max_literal_bytes)
LiteralOf type (truth b) = type ≡ truth_type

abbrev pub LiteralsOf : ℕ → List Value → Type 0
LiteralsOf type [] = Unit {0}
LiteralsOf type (v ∷ vs) = LiteralOf type v × LiteralsOf type vs

-- and one that a word can hold
pub literal_plain : (type : ℕ) (v : Value) → LiteralOf type v → Plain v
literal_plain type null h = tt
literal_plain type (int z) h = h.1
literal_plain type (text bs) h = omega arith
literal_plain type (truth b) h = tt

pub literals_split : (type : ℕ) (us vs : List Value) → LiteralsOf type (us ++ vs) → LiteralsOf type us × LiteralsOf type vs
literals_split type [] vs h = (tt, h)
literals_split type (u ∷ us) vs h = let s = literals_split type us vs h.1 in ((h.0, s.0), s.1)

-- a pattern of LIKE
abbrev pub Pattern : Value → Type 0
Pattern null = Unit {0}
Pattern (int z) = ⊥
Pattern (text p) = Utf8 p × (length p ≤ max_literal_bytes)
Pattern (truth b) = ⊥

-- each column is in the schema and of the type asked, no text is flipped, and the literals are of their column's type
abbrev pub Fine : List ℕ → Predicate → Type 0
Fine schema (constant t) = Unit {0}
Fine schema (join j l r) = Fine schema l × Fine schema r
Fine schema (not p) = Fine schema p
Fine schema (column c) = type_in schema c.0 ≡ truth_type
Fine schema (is_null c) = c.0 < length schema
Fine schema (is_not_null c) = c.0 < length schema
Fine schema (comparison o c n b v) = Flippable schema c n × LiteralOf (type_in schema c.0) v
Fine schema (list b c n vs) = Flippable schema c n × LiteralsOf (type_in schema c.0) vs
Fine schema (like b c v) = (type_in schema c.0 ≡ text_type) × Pattern v

-- every column named is below n
abbrev pub ColumnsBelow : ℕ → Predicate → Type 0
ColumnsBelow n (constant t) = Unit {0}
ColumnsBelow n (join j l r) = ColumnsBelow n l × ColumnsBelow n r
ColumnsBelow n (not p) = ColumnsBelow n p
ColumnsBelow n (column c) = c.0 < n
ColumnsBelow n (is_null c) = c.0 < n
ColumnsBelow n (is_not_null c) = c.0 < n
ColumnsBelow n (comparison o c m b v) = c.0 < n
ColumnsBelow n (list b c m vs) = c.0 < n
ColumnsBelow n (like b c v) = c.0 < n

pub fine_columns : (schema : List ℕ) (p : Predicate) → Fine schema p → ColumnsBelow (length schema) p
fine_columns schema (constant t) h = tt
fine_columns schema (join j l r) h = (fine_columns schema l h.0, fine_columns schema r h.1)
fine_columns schema (not p) h = fine_columns schema p h
fine_columns schema (column c) h = type_in_schema schema c.0 truth_type h (omega arith)
fine_columns schema (is_null c) h = h
fine_columns schema (is_not_null c) h = h
fine_columns schema (comparison o c m b v) h = h.0.in_schema
fine_columns schema (list b c m vs) h = h.0.in_schema
fine_columns schema (like b c v) h = type_in_schema schema c.0 text_type h.0 (omega arith)

-- n nodes have at most (n + 1) / 2 leaves
pub leaves_nodes : (p : Predicate) → 2 * leaves p ≤ nodes p + 1
leaves_nodes (constant t) = omega arith
leaves_nodes (join j l r) = omega (arith, leaves_nodes l, leaves_nodes r)
leaves_nodes (not p) = omega (arith, leaves_nodes p)
leaves_nodes (column c) = omega arith
leaves_nodes (is_null c) = omega arith
leaves_nodes (is_not_null c) = omega arith
leaves_nodes (comparison o c n b v) = omega arith
leaves_nodes (list b c n vs) = omega arith
leaves_nodes (like b c v) = omega arith

pub leaves_some : (p : Predicate) → 1 ≤ leaves p
leaves_some (constant t) = omega arith
leaves_some (join j l r) = omega (arith, leaves_some l)
leaves_some (not p) = leaves_some p
leaves_some (column c) = omega arith
leaves_some (is_null c) = omega arith
leaves_some (is_not_null c) = omega arith
leaves_some (comparison o c n b v) = omega arith
leaves_some (list b c n vs) = omega arith
leaves_some (like b c v) = omega arith

-- a word for each node, each list literal, and at most one literal more of each node
pub width_most : (p : Predicate) → width p ≤ 2 * nodes p + listed p
width_most (constant t) = omega arith
width_most (join j l r) = omega (arith, width_most l, width_most r)
width_most (not p) = omega (arith, width_most p)
width_most (column c) = omega arith
width_most (is_null c) = omega arith
width_most (is_not_null c) = omega arith
width_most (comparison o c n b v) = omega arith
width_most (list b c n vs) = omega arith
width_most (like b c v) = omega arith

-- ---- literals

range_length : (pool : List ℕ) (r : Range) → Inside pool r → length (range_of pool r) ≡ r.len
range_length pool r h = simp (length-take, length-drop) (omega arith)

-- the value of a word that suits, and its bytes
module _ (pool : List ℕ) (type w : ℕ) (p : plain w ≡ true) (small : length_of w ≤ max_literal_bytes) where
  pub suited_value : (l : Literal) → Suited pool type w l → LiteralOf type (value_of pool l) × (length (value_bytes (value_of pool l)) ≡ length_of w)
  suited_value Null h = (tt, sym (plain_null w p h))
  suited_value (Int z) h = ((h.1, rw h.4 (signed_fits _)), length_word _ ∙ sym h.2)
  suited_value (Text r) h =
      let e : length (range_of pool r) ≡ length_of w = range_length pool r h.2 ∙ ap (λ (x : Range). x.len) h.3 in
      ((h.1, rw e small), e)
  suited_value (Truth b) h = (h.1, sym h.2)

  -- of a pattern
  pub suited_pattern : type ≡ text_type → patterned true pool w ≡ true → (l : Literal) → Suited pool type w l → Pattern (value_of pool l)
  suited_pattern k u Null h = tt
  suited_pattern k u (Int z) h = absurd (omega arith)
  suited_pattern k u (Text r) h =
      let other : negation (eqb (type_of w) text_type) ≡ false = rw (eq-eqb (type_of w) text_type h.0) in
      let e : is_utf8 (range_of pool r) ≡ true = rw h.3 (or_other (negation (eqb (type_of w) text_type)) _ u other) in
      ((utf8_iff (range_of pool r)).0 e, (suited_value (Text r) h).0.1)
  suited_pattern k u (Truth b) h = absurd (omega arith)

-- values have passed as literals for a column of this type; checking stood at s and stands at t
pub record Literals (ws : List ℕ) (type : ℕ) (s t : Progress) (vs : List Value) : Type 0 where
  pub fine : LiteralsOf type vs
  pub place : t.place ≡ s.place + length vs
  pub inside : s.place ≤ length ws → t.place ≤ length ws
  pub nodes : t.nodes ≡ s.nodes
  pub listed : t.listed ≡ s.listed
  pub bytes : t.bytes ≡ s.bytes + values_bytes vs
  pub bytes_within : s.bytes ≤ max_all_literal_bytes → t.bytes ≤ max_all_literal_bytes

pub no_literals : (ws : List ℕ) (type : ℕ) (s t : Progress) → s ≡ t → Literals ws type s t []
no_literals ws type s t e =
    rw (← e)
    (record { fine = tt; place = omega arith; inside = λ h. h; nodes = refl; listed = refl; bytes = omega arith; bytes_within = λ h. h })

pub one_more : {ws : List ℕ} {type : ℕ} {s t u : Progress} {v : Value} {vs : List Value} → Literals ws type s u (v ∷ []) → Literals ws type u t vs
    → Literals ws type s t (v ∷ vs)
one_more x y =
    record {
      fine = (x.fine.0, y.fine);
      place = omega arith;
      inside = λ h. y.inside (x.inside h);
      nodes = omega arith;
      listed = omega arith;
      bytes = omega arith;
      bytes_within = λ h. y.bytes_within (x.bytes_within h);
    }

-- ---- predicates

-- the predicate that is read as r at the place of s has passed, with a depth d left; checking stands at t
pub record Accepted (schema ws : List ℕ) (d : ℕ) (s t : Progress) (r : Read) : Type 0 where
  pub fine : Fine schema r.predicate
  pub next : r.next ≡ t.place
  pub place : t.place ≡ s.place + width r.predicate
  pub inside : t.place ≤ length ws
  pub depth : depth r.predicate ≤ d
  pub nodes : t.nodes ≡ s.nodes + nodes r.predicate
  pub listed : t.listed ≡ s.listed + listed r.predicate
  pub bytes : t.bytes ≡ s.bytes + literal_bytes r.predicate
  pub nodes_within : t.nodes ≤ max_nodes
  pub listed_within : t.listed ≤ max_list_literals
  pub bytes_within : s.bytes ≤ max_all_literal_bytes → t.bytes ≤ max_all_literal_bytes

-- the measures of a leaf with values behind it
abbrev pub Leaf : Predicate → ℕ → List Value → Type 0
Leaf p count vs = (width p ≡ 1 + length vs) × (depth p ≡ 1) × (nodes p ≡ 1) × (listed p ≡ count) × (literal_bytes p ≡ values_bytes vs)

-- a predicate whose words are whole and have no fault
pub record Whole (schema ws : List ℕ) (p : Predicate) : Type 0 where
  pub fine : Fine schema p
  pub columns : ColumnsBelow (length schema) p
  pub width : width p ≡ length ws
  pub depth : depth p ≤ max_depth
  pub leaves : 2 * leaves p ≤ nodes p + 1
  pub nodes : nodes p ≤ max_nodes
  pub listed : listed p ≤ max_list_literals
  pub bytes : literal_bytes p ≤ max_all_literal_bytes
