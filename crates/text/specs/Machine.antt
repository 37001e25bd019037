-- UTF-8, byte by byte: how many continuation bytes are still to come, and the bounds of the next one. Assumes nothing.
use Rattle.std.specs.Prelude.{List, [], ◌∷◌, Bool, cond, ℕ, ◌-◌, ltb, eqb}

-- how many continuation bytes are still to come, and between which bounds the next one lies
pub record State : Type 0 where
  pub need : ℕ
  pub lo : ℕ
  pub hi : ℕ

abbrev pub st : ℕ → ℕ → ℕ → State
st n l h = record { need = n; lo = l; hi = h }

-- a character begins
abbrev pub start : State
start = st 0 128 191

-- past a fault: no byte lies between 1 and 0
abbrev pub broken : State
broken = st 1 1 0

-- after the first byte of a character: no overlong form, no surrogate, none above 10FFFF
unfoldable pub lead_of : ℕ → State
lead_of b =
    cond (ltb b 128) start
    (cond (ltb b 194) broken
    (cond (ltb b 224) (st 1 128 191)
    (cond (eqb b 224) (st 2 160 191)
    (cond (eqb b 237) (st 2 128 159)
    (cond (ltb b 240) (st 2 128 191)
    (cond (eqb b 240) (st 3 144 191)
    (cond (ltb b 244) (st 3 128 191)
    (cond (eqb b 244) (st 3 128 143) broken))))))))

-- after one byte more
unfoldable pub step_of : State → ℕ → State
step_of s b = cond (eqb s.need 0) (lead_of b) (cond (ltb b s.lo) broken (cond (ltb s.hi b) broken (st (s.need - 1) 128 191)))

-- the bytes end where a character could begin
unfoldable pub runs : State → List ℕ → Bool
runs s [] = eqb s.need 0
runs s (b ∷ bs) = runs (step_of s b) bs

unfoldable pub is_utf8 : List ℕ → Bool
is_utf8 bs = runs start bs
