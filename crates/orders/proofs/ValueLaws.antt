-- Values that compare as known are of one type, and what holds by their order holds of them. Assumes nothing.
use Rattle.std.specs.Prelude.{◌≡◌, false}
use Rattle.operators.specs.declared.Operator.{Operator}
use Rattle.operators.specs.declared.Operator.TheVariants.{Equal, NotEqual, Below, AtMost, Above, AtLeast, Distinct, NotDistinct}
use Rattle.kleene.specs.declared.Truth.TheVariants.{Unknown, True}
use Rattle.literals.specs.Literals.{Value}
use Rattle.literals.specs.LiteralLaws.{value_type}
use Rattle.orders.specs.Values.{order_of, by_order, compared, is_null}
use Rattle.orders.specs.ValueLaws.{alike_order, apart, by_known, one_type, together, unknown_not}

-- a comparison that is known is one of values of one type
pub known_type : (o : Operator) (v w : Value) → (by_order o (order_of v w) ≡ Unknown → ⊥) → (is_null v ≡ false) × (value_type v ≡ value_type w)
known_type o v w h = one_type v w (by_known o (order_of v w) h)

-- what holds by order holds of values, of a distinct-from too
pub by_compared : (o : Operator) (v w : Value) → by_order o (order_of v w) ≡ True → compared o v w ≡ True
by_compared Equal v w e = e
by_compared NotEqual v w e = e
by_compared Below v w e = e
by_compared AtMost v w e = e
by_compared Above v w e = e
by_compared AtLeast v w e = e
by_compared Distinct v w e = rw (alike_order v w (known_type Distinct v w (unknown_not _ e)).0) (apart (order_of v w) e)
by_compared NotDistinct v w e = rw (alike_order v w (known_type NotDistinct v w (unknown_not _ e)).0) (together (order_of v w) e)
