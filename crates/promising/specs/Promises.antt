-- Which node gives a guarantee. Assumes nothing.
use Rattle.std.specs.Prelude.{Bool, true, false, not, ◌||◌, List, [], ℕ, zero, suc, ◌+◌, get_or, eqb}
use Rattle.operators.specs.declared.Operator.{Operator}
use Rattle.operators.specs.declared.Operator.TheVariants.{Equal, NotEqual, Below, AtMost, Above, AtLeast, Distinct, NotDistinct}
use Rattle.kleene.specs.declared.Joining.TheVariants.{And, Or}
use Rattle.literals.specs.Literals.{type_of, null_type}
use Rattle.literals.specs.declared.Literal.{Literal}
use Rattle.literals.specs.declared.Literal.TheVariants.{Null, Int, Text, Truth}
use Rattle.predicate.specs.declared.Column.{Column}
use Rattle.predicate.specs.declared.Node.{Node}
use Rattle.predicate.specs.declared.Node.TheVariants.{Constant, Join, Not, TruthColumn, IsNull, IsNotNull, Comparison, List as InList, Like}
use Rattle.guarantees.specs.Guarantees.{Guarantee}
use Rattle.promising.specs.declared.Promise.{Promise}
use Rattle.promising.specs.declared.Promise.TheVariants.{Nothing, Keeps, Both}

-- a guarantee without its set, of which its word says nothing
abbrev pub bare : Column → Bool → ℕ → Guarantee
bare c not_in at = record { of = c; not_in = not_in; place = at; set = [] }

abbrev pub is_value : Literal → Bool
is_value Null = false
is_value (Int z) = true
is_value (Text r) = true
is_value (Truth b) = true

-- one of n literal words from a place on is not null
unfoldable pub any_value : List ℕ → ℕ → ℕ → Bool
any_value ws zero at = false
any_value ws (suc n) at = not (eqb (type_of (get_or ws at 0)) null_type) || any_value ws n (at + 1)

-- one guarantee of a set that is not empty
abbrev pub if_some : Column → Bool → Bool → Promise
if_some c not_in true = Keeps c not_in
if_some c not_in false = Nothing

-- if the column is not flipped
abbrev pub of_set : Column → Bool → ℕ → Bool → Promise
of_set c not_in zero some = if_some c not_in some
of_set c not_in (suc n) some = Nothing

abbrev pub of_operator : Operator → Column → ℕ → Bool → Promise
of_operator Equal c n some = of_set c false n some
of_operator NotEqual c n some = of_set c true n some
of_operator Below c n some = Nothing
of_operator AtMost c n some = Nothing
of_operator Above c n some = Nothing
of_operator AtLeast c n some = Nothing
of_operator Distinct c n some = Nothing
of_operator NotDistinct c n some = Nothing

-- what a node gives whose word stands at a place
abbrev pub promise_of : List ℕ → ℕ → Node → Promise
promise_of ws at (Constant t) = Nothing
promise_of ws at (Join And) = Both
promise_of ws at (Join Or) = Nothing
promise_of ws at Not = Nothing
promise_of ws at (TruthColumn c) = Nothing
promise_of ws at (IsNull c) = Nothing
promise_of ws at (IsNotNull c) = Nothing
promise_of ws at (Comparison o c n b l) = of_operator o c n (is_value l)
promise_of ws at (InList b c n k) = of_set c b n (any_value ws k (at + 1))
promise_of ws at (Like b c l) = Nothing
