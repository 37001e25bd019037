-- Document 01's cases of forms over present bounds, as one statement that is proved by computation. Assumes nothing.
use Rattle.std.specs.Prelude.{◌≡◌, Bool, true, false, List, [], ◌∷◌, ℕ, ℤ, pos, negsuc}
use Rattle.words.specs.Bytes.{below, up_to}
use Rattle.operators.specs.declared.Operator.{Operator}
use Rattle.operators.specs.declared.Operator.TheVariants.{Equal, NotEqual, Above, Distinct}
use Rattle.text.specs.Utf8.{Each}
use Rattle.text.specs.Cases.{chars}
use Rattle.orders.specs.Order.{order_by}
use Rattle.orders.specs.Forms.{form}
use Rattle.orders.specs.Instances.{numbers}
use Rattle.orders.specs.Likes.{like_form}

-- least and greatest, then what is asked of them, then the form's value
pub data Case : Type 0 where
  Numbers : ℤ → ℤ → Operator → ℤ → Bool → Case
  Texts : List ℕ → List ℕ → List ℕ → List ℕ → Bool → Case

abbrev pub Holds : Case → Type 0
Holds (Numbers lo hi op k b) = form numbers op lo hi k ≡ b
Holds (Texts lo hi prefix upper b) = like_form lo hi prefix upper ≡ b

abbrev pub All : List Case → Type 0
All cs = Each Holds cs

-- `negsuc 4` is -5; the texts are those of LIKE 'ab%'
abbrev pub form_cases : List Case
form_cases =
    Numbers (pos 10) (pos 20) Equal (pos 9) false
    ∷ Numbers (pos 10) (pos 20) Equal (pos 10) true
    ∷ Numbers (pos 10) (pos 20) Equal (pos 20) true
    ∷ Numbers (pos 10) (pos 20) Equal (pos 21) false
    ∷ Numbers (pos 9) (pos 3) Equal (pos 5) false
    ∷ Numbers (pos 7) (pos 7) NotEqual (pos 7) false
    ∷ Numbers (pos 7) (pos 8) NotEqual (pos 7) true
    ∷ Numbers (pos 1) (pos 2) Distinct (pos 7) true
    ∷ Numbers (pos 0) (pos 5) Above (pos 5) false
    ∷ Numbers (pos 0) (pos 6) Above (pos 5) true
    ∷ Numbers (negsuc 9) (negsuc 4) Above (negsuc 4) false
    ∷ Numbers (negsuc 9) (negsuc 3) Above (negsuc 4) true
    ∷ Texts (chars "ac") (chars "az") (chars "ab") (chars "ac") true
    ∷ Texts (chars "ad") (chars "az") (chars "ab") (chars "ac") false
    ∷ []

pub form_cases_lem : All form_cases
unfolding order_by up_to below
form_cases_lem = (search, (search, (search, (search, (search, (search, (search, (search, (search, (search, (search, (search, (search, (search, tt))))))))))))))
