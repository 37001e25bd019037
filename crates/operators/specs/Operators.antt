-- The comparison operators: document 01's code of each, what each asks of an order, and each one's swap. Assumes nothing.
use Rattle.std.specs.Prelude.{◌≡◌, refl, Bool, true, false, List, [], ◌∷◌, ℕ, ◌<◌, get_or, Option, Some, None}
use Rattle.std.proofs.Common.{lit<}
use Rattle.std.specs.declared.cmp.Ordering.{Ordering}
use Rattle.std.specs.declared.cmp.Ordering.TheVariants.{Less, Equal as Same, Greater}
use Rattle.operators.specs.declared.Operator.{Operator}
use Rattle.operators.specs.declared.Operator.TheVariants.{Equal, NotEqual, Below, AtMost, Above, AtLeast, Distinct, NotDistinct}

-- 0 =, 1 ≠, 2 <, 3 ≤, 4 >, 5 ≥, 6 distinct from, 7 not distinct from
abbrev pub code_of : Operator → ℕ
code_of Equal = 0
code_of NotEqual = 1
code_of Below = 2
code_of AtMost = 3
code_of Above = 4
code_of AtLeast = 5
code_of Distinct = 6
code_of NotDistinct = 7

abbrev pub operators : List (Option Operator)
operators =
    Some Equal ∷ Some NotEqual ∷ Some Below ∷ Some AtMost ∷ Some Above ∷ Some AtLeast ∷ Some Distinct ∷ Some NotDistinct ∷ []

-- the operator of a code, if it is one's
abbrev pub operator_of : ℕ → Option Operator
operator_of n = get_or operators n None

pub operator_code : (o : Operator) → operator_of (code_of o) ≡ Some o
operator_code Equal = refl
operator_code NotEqual = refl
operator_code Below = refl
operator_code AtMost = refl
operator_code Above = refl
operator_code AtLeast = refl
operator_code Distinct = refl
operator_code NotDistinct = refl

pub code_below : (o : Operator) → code_of o < 8
code_below Equal = lit< tt
code_below NotEqual = lit< tt
code_below Below = lit< tt
code_below AtMost = lit< tt
code_below Above = lit< tt
code_below AtLeast = lit< tt
code_below Distinct = lit< tt
code_below NotDistinct = lit< tt

-- the operator with its sides exchanged
abbrev pub swap_of : Operator → Operator
swap_of Equal = Equal
swap_of NotEqual = NotEqual
swap_of Below = Above
swap_of AtMost = AtLeast
swap_of Above = Below
swap_of AtLeast = AtMost
swap_of Distinct = Distinct
swap_of NotDistinct = NotDistinct

-- how two values compare from the other side
abbrev pub turned : Ordering → Ordering
turned Less = Greater
turned Same = Same
turned Greater = Less

-- whether an operator holds of two values that are there, by how they compare
abbrev pub holds : Operator → Ordering → Bool
holds Equal Less = false
holds Equal Same = true
holds Equal Greater = false
holds NotEqual Less = true
holds NotEqual Same = false
holds NotEqual Greater = true
holds Below Less = true
holds Below Same = false
holds Below Greater = false
holds AtMost Less = true
holds AtMost Same = true
holds AtMost Greater = false
holds Above Less = false
holds Above Same = false
holds Above Greater = true
holds AtLeast Less = false
holds AtLeast Same = true
holds AtLeast Greater = true
holds Distinct Less = true
holds Distinct Same = false
holds Distinct Greater = true
holds NotDistinct Less = false
holds NotDistinct Same = true
holds NotDistinct Greater = false

-- a swap means the same from the other side
pub swap_means : (o : Operator) (r : Ordering) → holds (swap_of o) (turned r) ≡ holds o r
swap_means Equal Less = refl
swap_means Equal Same = refl
swap_means Equal Greater = refl
swap_means NotEqual Less = refl
swap_means NotEqual Same = refl
swap_means NotEqual Greater = refl
swap_means Below Less = refl
swap_means Below Same = refl
swap_means Below Greater = refl
swap_means AtMost Less = refl
swap_means AtMost Same = refl
swap_means AtMost Greater = refl
swap_means Above Less = refl
swap_means Above Same = refl
swap_means Above Greater = refl
swap_means AtLeast Less = refl
swap_means AtLeast Same = refl
swap_means AtLeast Greater = refl
swap_means Distinct Less = refl
swap_means Distinct Same = refl
swap_means Distinct Greater = refl
swap_means NotDistinct Less = refl
swap_means NotDistinct Same = refl
swap_means NotDistinct Greater = refl

pub swap_swap : (o : Operator) → swap_of (swap_of o) ≡ o
swap_swap Equal = refl
swap_swap NotEqual = refl
swap_swap Below = refl
swap_swap AtMost = refl
swap_swap Above = refl
swap_swap AtLeast = refl
swap_swap Distinct = refl
swap_swap NotDistinct = refl
