-- How two values compare, and what each comparison operator says of them under three-valued logic. Assumes nothing.
use Rattle.std.specs.Prelude.{Bool, true, false, not}
use Rattle.std.proofs.Math.Option.{Option, some, none}
use Rattle.std.specs.declared.cmp.Ordering.{Ordering}
use Rattle.operators.specs.Operators.{holds}
use Rattle.operators.specs.declared.Operator.{Operator}
use Rattle.operators.specs.declared.Operator.TheVariants.{Equal, NotEqual, Below, AtMost, Above, AtLeast, Distinct, NotDistinct}
use Rattle.kleene.specs.declared.Truth.{Truth}
use Rattle.kleene.specs.declared.Truth.TheVariants.{Unknown}
use Rattle.kleene.specs.Truths.{truth_of}
use Rattle.literals.specs.Literals.{Value, null, int, text, truth}
use Rattle.orders.specs.Order.{order_by}
use Rattle.orders.specs.Instances.{numbers, texts, truths}

-- integers as numbers, text by bytes, false below true; none with a null or with a value of another type
abbrev pub order_of : Value → Value → Option Ordering
order_of null w = none
order_of (int a) null = none
order_of (int a) (int b) = some (order_by numbers a b)
order_of (int a) (text b) = none
order_of (int a) (truth b) = none
order_of (text a) null = none
order_of (text a) (int b) = none
order_of (text a) (text b) = some (order_by texts a b)
order_of (text a) (truth b) = none
order_of (truth a) null = none
order_of (truth a) (int b) = none
order_of (truth a) (text b) = none
order_of (truth a) (truth b) = some (order_by truths a b)

-- a comparison with NULL on either side is unknown
abbrev pub by_order : Operator → Option Ordering → Truth
by_order o none = Unknown
by_order o (some r) = truth_of (holds o r)

abbrev pub is_null : Value → Bool
is_null null = true
is_null (int z) = false
is_null (text bs) = false
is_null (truth b) = false

abbrev pub is_same : Option Ordering → Bool
is_same none = false
is_same (some r) = holds Equal r

-- not distinct: both null, or equal
abbrev pub alike : Value → Value → Bool
alike null w = is_null w
alike (int a) w = is_same (order_of (int a) w)
alike (text a) w = is_same (order_of (text a) w)
alike (truth a) w = is_same (order_of (truth a) w)

-- distinct-from is never unknown
abbrev pub compared : Operator → Value → Value → Truth
compared Equal v w = by_order Equal (order_of v w)
compared NotEqual v w = by_order NotEqual (order_of v w)
compared Below v w = by_order Below (order_of v w)
compared AtMost v w = by_order AtMost (order_of v w)
compared Above v w = by_order Above (order_of v w)
compared AtLeast v w = by_order AtLeast (order_of v w)
compared Distinct v w = truth_of (not (alike v w))
compared NotDistinct v w = truth_of (alike v w)

-- the literal on the left, or on the right
abbrev pub compared_from : Bool → Operator → Value → Value → Truth
compared_from true o v k = compared o k v
compared_from false o v k = compared o v k

-- a truth value as it stands; unknown where it is blank
abbrev pub truth_in : Value → Truth
truth_in null = Unknown
truth_in (int z) = Unknown
truth_in (text bs) = Unknown
truth_in (truth b) = truth_of b
