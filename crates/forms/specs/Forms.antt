-- What writing a form with a literal asks, which literals are null, the distinct-from forms by that, and what an operator asks of least and greatest, the blanks test left out. Assumes nothing.
use Rattle.std.specs.Prelude.{◌≡◌, refl, Bool, true, false, List, ℕ}
use Rattle.std.proofs.Common.{true≢false}
use Rattle.std.proofs.lemmas.Bool.{false≢true}
use Rattle.kleene.specs.declared.Joining.{Joining}
use Rattle.kleene.specs.declared.Joining.TheVariants.{Or}
use Rattle.listing.specs.Listing.{Few}
use Rattle.literals.specs.Literals.{Value, LiteralFits, value_of}
use Rattle.literals.specs.declared.Literal.{Literal}
use Rattle.literals.specs.declared.Literal.TheVariants.{Null, Int, Text, Truth}
use Rattle.operators.specs.declared.Operator.{Operator}
use Rattle.operators.specs.declared.Operator.TheVariants.{Equal, NotEqual, Below, AtMost, Above, AtLeast, Distinct, NotDistinct}
use Rattle.predicate.specs.declared.Column.{Column}
use Rattle.statistics.specs.declared.Statistic.TheVariants.{Least, Greatest}
use Rattle.table.specs.Tables.{Table, both, against}
use Rattle.table.specs.Comparisons.{equal_form, unequal_form, has_blanks, has_values, wrapped, distinct_form, not_distinct_form}
use Rattle.writing.specs.Writing.{RoomFor}
use Rattle.writing.specs.declared.Writer.{Writer}

-- few statistics, a literal that a word can hold, and room for a form with it
abbrev pub FormFits : Literal → Table → Writer → Type 0
FormFits l t w = Few w.list.now × LiteralFits l × RoomFor t w

-- least against a literal and the literal against greatest, joined
abbrev pub bounds_form : Joining → Operator → Column → Value → Table
bounds_form j o c v = both j (against o (Least c) false v) (against o (Greatest c) true v)

abbrev pub bare_form : Column → Operator → Value → Table
bare_form c Equal v = equal_form c v
bare_form c NotEqual v = unequal_form c v
bare_form c Below v = against Below (Least c) false v
bare_form c AtMost v = against AtMost (Least c) false v
bare_form c Above v = against Above (Greatest c) false v
bare_form c AtLeast v = against AtLeast (Greatest c) false v
bare_form c Distinct v = unequal_form c v
bare_form c NotDistinct v = equal_form c v

abbrev pub is_null : Literal → Bool
is_null Null = true
is_null (Int z) = false
is_null (Text r) = false
is_null (Truth b) = false

module _ (c : Column) (pool : List ℕ) where
  pub distinct_null : (l : Literal) → is_null l ≡ true → distinct_form c (value_of pool l) ≡ has_values c
  distinct_null Null e = refl
  distinct_null (Int z) e = absurd (false≢true e)
  distinct_null (Text r) e = absurd (false≢true e)
  distinct_null (Truth b) e = absurd (false≢true e)

  pub distinct_other : (l : Literal) → is_null l ≡ false → distinct_form c (value_of pool l) ≡ both Or (has_blanks c) (unequal_form c (value_of pool l))
  distinct_other Null e = absurd (true≢false e)
  distinct_other (Int z) e = refl
  distinct_other (Text r) e = refl
  distinct_other (Truth b) e = refl

  pub not_distinct_null : (l : Literal) → is_null l ≡ true → not_distinct_form c (value_of pool l) ≡ has_blanks c
  not_distinct_null Null e = refl
  not_distinct_null (Int z) e = absurd (false≢true e)
  not_distinct_null (Text r) e = absurd (false≢true e)
  not_distinct_null (Truth b) e = absurd (false≢true e)

  pub not_distinct_other : (l : Literal) → is_null l ≡ false → not_distinct_form c (value_of pool l) ≡ wrapped c (equal_form c (value_of pool l))
  not_distinct_other Null e = absurd (true≢false e)
  not_distinct_other (Int z) e = refl
  not_distinct_other (Text r) e = refl
  not_distinct_other (Truth b) e = refl
