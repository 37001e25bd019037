-- Row meaning: the truth value of a predicate on a row, under SQL's three-valued logic. Assumes nothing.
use Rattle.std.specs.Prelude.{Bool, true, false, List, [], ◌∷◌, ℕ, zero, suc, neg_ℤ, get_or}
use Rattle.std.proofs.Math.Bool as Bools
use Rattle.operators.specs.declared.Operator.TheVariants.{Equal, NotEqual}
use Rattle.kleene.specs.declared.Truth.{Truth}
use Rattle.kleene.specs.declared.Truth.TheVariants.{False, Unknown, True}
use Rattle.kleene.specs.Truths.{truth_of, kleene, kleene_not, kleene_and, kleene_or}
use Rattle.literals.specs.Literals.{Value, null, int, text, truth}
use Rattle.text.specs.Match.{like_text}
use Rattle.orders.specs.Values as Values
use Rattle.orders.specs.Values.{compared, compared_from, truth_in}
use Rattle.predicate.specs.declared.Column.{Column}
use Rattle.predicate.specs.Predicates.{Predicate, constant, join, not, column, is_null, is_not_null, comparison, list, like}

-- a row: the value of each column, null for a blank
abbrev pub Row : Type 0
Row = List Value

abbrev pub value_in : Row → Column → Value
value_in row c = get_or row c.0 null

-- minus of an integer, exact; NOT of a truth value
abbrev pub flip : Value → Value
flip null = null
flip (int z) = int (neg_ℤ z)
flip (text bs) = text bs
flip (truth b) = truth (Bools.not b)

abbrev pub flips : ℕ → Value → Value
flips zero v = v
flips (suc n) v = flip (flips n v)

-- an OR of equalities, or an AND of ≠; the empty ones are false and true
abbrev pub in_list : Value → List Value → Truth
in_list v [] = False
in_list v (k ∷ ks) = kleene_or (compared Equal v k) (in_list v ks)

abbrev pub not_in_list : Value → List Value → Truth
not_in_list v [] = True
not_in_list v (k ∷ ks) = kleene_and (compared NotEqual v k) (not_in_list v ks)

abbrev pub listed : Bool → Value → List Value → Truth
listed false v ks = in_list v ks
listed true v ks = not_in_list v ks

-- with a blank or a null pattern LIKE is unknown
abbrev pub like_value : Value → Value → Truth
like_value null p = Unknown
like_value (int z) p = Unknown
like_value (truth b) p = Unknown
like_value (text s) null = Unknown
like_value (text s) (int z) = Unknown
like_value (text s) (text p) = truth_of (like_text p s)
like_value (text s) (truth b) = Unknown

abbrev pub unless : Bool → Truth → Truth
unless false t = t
unless true t = kleene_not t

unfoldable pub meaning : Row → Predicate → Truth
meaning row (constant t) = t
meaning row (join j l r) = kleene j (meaning row l) (meaning row r)
meaning row (not p) = kleene_not (meaning row p)
meaning row (column c) = truth_in (value_in row c)
meaning row (is_null c) = truth_of (Values.is_null (value_in row c))
meaning row (is_not_null c) = kleene_not (truth_of (Values.is_null (value_in row c)))
meaning row (comparison o c n first v) = compared_from first o (flips n (value_in row c)) v
meaning row (list b c n vs) = listed b (flips n (value_in row c)) vs
meaning row (like b c p) = unless b (like_value (value_in row c) p)
