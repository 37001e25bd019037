-- A predicate's table is as a checked table must be: each node names statistics of the sort that it reads, each literal is null or of its
-- statistic's column's type, and fits a word. Assumes nothing.
use Rattle.std.specs.Prelude.{◌≡◌, refl, Bool, false, List, [], ◌∷◌, ℕ, ◌≤◌, ◌<◌, length}
use Rattle.std.proofs.Math.Option.{Option, some, none}
use Rattle.std.proofs.Common.{arith, lit<}
use Rattle.limits.specs.Limits.{max_table_text_bytes}
use Rattle.operators.specs.Operators.{code_of}
use Rattle.operators.specs.declared.Operator.{Operator}
use Rattle.operators.specs.declared.Operator.TheVariants.{Equal, NotEqual, Below, AtMost, Above, AtLeast, Distinct, NotDistinct}
use Rattle.kleene.specs.declared.Joining.{Joining}
use Rattle.literals.specs.Signed.{Fits64}
use Rattle.literals.proofs.Signed.{negated_fits}
use Rattle.literals.specs.Literals.{Value, null, int, text, truth, integer_type, text_type, truth_type}
use Rattle.literals.specs.LiteralLaws.{Plain}
use Rattle.text.specs.Pattern.{prefix_of}
use Rattle.text.specs.Upper.{upper_of, prefix_length}
use Rattle.text.proofs.Upper.{upper_length}
use Rattle.predicate.specs.declared.Column.{Column}
use Rattle.predicate.specs.Predicates.{Predicate}
use Rattle.predicate.specs.Checking.{type_in}
use Rattle.predicate.specs.Accepted.{LiteralOf, literals_split, Pattern, Fine}
use Rattle.statistics.specs.declared.Statistic.{Statistic}
use Rattle.statistics.specs.Statistics.{type_of, column_in}
use Rattle.table.specs.Tables.{Table, always, both, against, positive, differ, holds, negation, joined}
use Rattle.table.specs.Comparisons.{Turned, asks, stays, turned, comparison_form, turned_form, bounded_form, like_table}
use Rattle.table.specs.Rewriting.{comparison_table, list_operator, list_joining, rewritten}
use Rattle.table.specs.Measures.{Literals}
use Rattle.table.specs.Induction.{joined_by, distinct_by, not_distinct_by, Asked, Kept}
use Rattle.table.proofs.Induction.{turned_by, rewritten_by}

-- ---- proper tables

-- a literal of a table, against a statistic whose column has this type
abbrev pub Suits : ℕ → Value → Type 0
Suits type null = Unit {0}
Suits type (int z) = (type ≡ integer_type) × Fits64 z
Suits type (text bs) = (type ≡ text_type) × (length bs ≤ max_table_text_bytes)
Suits type (truth b) = type ≡ truth_type

-- least or greatest
abbrev pub Bound : Statistic → Type 0
Bound s = type_of s < 2

-- a comparison has one of the first six operators and names a bound; blanks > 0 and blanks ≠ rows name those
abbrev pub Proper : List ℕ → Table → Type 0
Proper schema (always b) = Unit {0}
Proper schema (both j l r) = Proper schema l × Proper schema r
Proper schema (against o s b v) = (code_of o < 6) × Bound s × Suits (type_in schema (column_in s)) v
Proper schema (positive s) = type_of s ≡ 2
Proper schema (differ s t) = (type_of s ≡ 2) × (type_of t ≡ 3)
Proper schema (holds s) = Bound s × (type_in schema (column_in s) ≡ truth_type)
Proper schema (negation t) = Proper schema t

pub suits_plain : (type : ℕ) (v : Value) → Suits type v → Plain v
suits_plain type null h = tt
suits_plain type (int z) h = h.1
suits_plain type (text bs) h = omega (arith, h.1)
suits_plain type (truth b) h = tt

-- its literals fit a word
pub proper_plain : (schema : List ℕ) (t : Table) → Proper schema t → Literals Plain t
proper_plain schema (always b) h = tt
proper_plain schema (both j l r) h = (proper_plain schema l h.0, proper_plain schema r h.1)
proper_plain schema (against o s b v) h = suits_plain (type_in schema (column_in s)) v h.2
proper_plain schema (positive s) h = tt
proper_plain schema (differ s t) h = tt
proper_plain schema (holds s) h = tt
proper_plain schema (negation t) h = proper_plain schema t h

-- ---- forms

literal_suits : (type : ℕ) (v : Value) → LiteralOf type v → Suits type v
literal_suits type null h = tt
literal_suits type (int z) h = h
literal_suits type (text bs) h = (h.0, omega (arith, h.1))
literal_suits type (truth b) h = h

module _ (schema : List ℕ) where
  joined_proper : (j : Joining) (l r : Table) → Proper schema l → Proper schema r → Proper schema (joined j l r)
  joined_proper j l r x y = joined_by (Proper schema) j l r (λ b. tt) x y (x, y)

  form_proper : (c : Column) (o : Operator) (v : Value) → Suits (type_in schema c.0) v → Proper schema (comparison_form c o v)
  form_proper c Equal v h = ((refl, refl), ((lit< tt, lit< tt, h), (lit< tt, lit< tt, h)))
  form_proper c NotEqual v h = ((refl, refl), ((lit< tt, lit< tt, h), (lit< tt, lit< tt, h)))
  form_proper c Below v h = ((refl, refl), (lit< tt, lit< tt, h))
  form_proper c AtMost v h = ((refl, refl), (lit< tt, lit< tt, h))
  form_proper c Above v h = ((refl, refl), (lit< tt, lit< tt, h))
  form_proper c AtLeast v h = ((refl, refl), (lit< tt, lit< tt, h))
  form_proper c Distinct v h =
      distinct_by (Proper schema) c v (refl, refl) (refl, ((lit< tt, lit< tt, h), (lit< tt, lit< tt, h)))
  form_proper c NotDistinct v h =
      not_distinct_by (Proper schema) c v refl ((refl, refl), ((lit< tt, lit< tt, h), (lit< tt, lit< tt, h)))

  turned_proper : (c : Column) (t : Turned) → Asked (Suits (type_in schema c.0)) t → Proper schema (turned_form c t)
  turned_proper c (asks o v) h = form_proper c o v h
  turned_proper c stays h = tt

  comparison_proper : (o : Operator) (c : Column) (n : ℕ) (b : Bool) (v : Value) → LiteralOf (type_in schema c.0) v
      → Proper schema (comparison_table schema o c n b v)
  comparison_proper o c n b v h =
      let k = type_in schema c.0 in
      turned_proper c (turned k o n b v)
      (turned_by (Suits k) (λ z y e f. (f.0, negated_fits z y e f.1)) (λ b f. f) k o n b v (literal_suits k v h))

  like_proper : (c : Column) (v : Value) → type_in schema c.0 ≡ text_type → Pattern v → Proper schema (like_table false c v)
  like_proper c null e h = tt
  like_proper c (int z) e h = tt
  like_proper c (truth b) e h = tt
  like_proper c (text p) e h = go (upper_of p) refl
    where
      go : (u : Option (List ℕ)) → upper_of p ≡ u → Proper schema (bounded_form c (prefix_of false p) u)
      go none q = tt
      go (some u) q =
          let most = h.1 in (
            (refl, refl),
            ((lit< tt, lit< tt, (e, omega (arith, upper_length p u h.0 q))), (lit< tt, lit< tt, (e, omega (arith, prefix_length p)))),
          )

  -- ---- predicates

  proper_kept : Kept schema (λ p t a. Fine schema p → Proper schema t)
  proper_kept =
      record {
        still = λ p b f. tt;
        joins = λ j l r t u a b x y f. joined_proper j t u (x f.0) (y f.1);
        of_column = λ c f. ((lit< tt, f), (lit< tt, f));
        of_not = λ c f. ((lit< tt, f), (lit< tt, f));
        of_null = λ c f. refl;
        of_not_null = λ c f. (refl, refl);
        of_comparison = λ o c n b v f. comparison_proper o c n b v f.1;
        of_one = λ b c n v f. comparison_proper (list_operator b) c n false v f.1.0;
        of_more = λ b c n u us v t a x f.
            let s = literals_split (type_in schema c.0) us (v ∷ []) f.1.1 in
            joined_proper (list_joining b) t (comparison_table schema (list_operator b) c n false v) (x (f.0, (f.1.0, s.0)))
            (comparison_proper (list_operator b) c n false v s.1.0);
        of_like = λ c v f. like_proper c v f.0 f.1;
      }

module _ (limit : ℕ) (schema : List ℕ) (p : Predicate) (f : Fine schema p) where
  pub rewritten_proper : Proper schema (rewritten limit schema p)
  rewritten_proper = rewritten_by limit schema (λ p t a. Fine schema p → Proper schema t) (proper_kept schema) p f

  pub rewritten_plain : Literals Plain (rewritten limit schema p)
  rewritten_plain = proper_plain schema (rewritten limit schema p) rewritten_proper
