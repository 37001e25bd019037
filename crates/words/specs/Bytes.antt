-- The order of byte strings: first difference first, a shorter one below what continues it. Assumes nothing.
use Rattle.std.specs.Prelude.{◌≡◌, refl, Bool, true, false, cond, not, List, [], ◌∷◌, ◌++◌, ◌⊎◌, ℕ, ◌<◌, ltb}
use Rattle.std.proofs.Common.{sym, ◌∙◌, ap, true≢false, inl, inr, ⊎_elim, arith, lt-ltb, le-ltb, ltb-true, ltb-false}
use Rattle.std.proofs.lemmas.Bool.{not-false}
use Rattle.std.specs.declared.cmp.Ordering.{Ordering}
use Rattle.std.specs.declared.cmp.Ordering.TheVariants.{Less, Equal, Greater}

-- a is below b
unfoldable pub below : List ℕ → List ℕ → Bool
below [] [] = false
below [] (y ∷ ys) = true
below (x ∷ xs) [] = false
below (x ∷ xs) (y ∷ ys) = cond (ltb x y) true (cond (ltb y x) false (below xs ys))

-- a is at most b
unfoldable pub up_to : List ℕ → List ℕ → Bool
up_to a b = not (below b a)

pub below_first : (x y : ℕ) (xs ys : List ℕ) → x < y → below (x ∷ xs) (y ∷ ys) ≡ true
unfolding below
below_first x y xs ys h = rw (lt-ltb x y h)

pub below_self : (x : ℕ) (xs ys : List ℕ) → below (x ∷ xs) (x ∷ ys) ≡ below xs ys
unfolding below
below_self x xs ys = rw (le-ltb x x (omega arith))

pub below_next : (x y : ℕ) (xs ys : List ℕ) → x ≡ y → below xs ys ≡ true → below (x ∷ xs) (y ∷ ys) ≡ true
below_next x y xs ys e h = rw (e, below_self) h

-- a common front changes nothing
pub below_front : (p a b : List ℕ) → below (p ++ a) (p ++ b) ≡ below a b
below_front [] a b = refl
below_front (x ∷ p) a b = below_self x (p ++ a) (p ++ b) ∙ below_front p a b

pub below_irrefl : (a : List ℕ) → below a a ≡ false
unfolding below
below_irrefl [] = refl
below_irrefl (x ∷ a) = below_self x a a ∙ below_irrefl a

-- what is below is not above
pub below_asym : (a b : List ℕ) → below a b ≡ true → below b a ≡ false
unfolding below
below_asym [] [] h = refl
below_asym [] (y ∷ b) h = refl
below_asym (x ∷ a) [] h = sym h
below_asym (x ∷ a) (y ∷ b) h = go (ltb x y) (ltb y x) refl refl (below_asym a b) h
  where
    go : (p q : Bool) → ltb x y ≡ p → ltb y x ≡ q → (below a b ≡ true → below b a ≡ false) → cond p true (cond q false (below a b)) ≡ true → cond q true (cond p false (below b a)) ≡ false
    go true true e f r h = let s = ltb-true x y e in let t = ltb-true y x f in absurd (omega arith)
    go true false e f r h = refl
    go false true e f r h = sym h
    go false false e f r h = r h

pub below_up_to : (a b : List ℕ) → below a b ≡ true → up_to a b ≡ true
unfolding up_to
below_up_to a b h = rw (below_asym a b h)

-- a front is at most the whole
pub front_up_to : (p t : List ℕ) → up_to p (p ++ t) ≡ true
unfolding up_to below
front_up_to [] [] = refl
front_up_to [] (x ∷ t) = refl
front_up_to (x ∷ p) t = ap not (below_self x (p ++ t) p) ∙ front_up_to p t

-- ---- a total order

pub up_to_refl : (a : List ℕ) → up_to a a ≡ true
unfolding up_to
up_to_refl a = rw (below_irrefl a)

pub up_to_total : (a b : List ℕ) → up_to a b ≡ false → up_to b a ≡ true
unfolding up_to
up_to_total a b e = rw (below_asym b a (not-false (below b a) e))

up_to_nil : (b : List ℕ) → up_to [] b ≡ true
up_to_nil b = front_up_to [] b

up_to_none : {A : Type 0} (x : ℕ) (a : List ℕ) → up_to (x ∷ a) [] ≡ true → A
unfolding up_to below
up_to_none x a e = absurd (true≢false (sym e))

up_to_same : (x y : ℕ) (a b : List ℕ) → x ≡ y → up_to a b ≡ true → up_to (x ∷ a) (y ∷ b) ≡ true
unfolding up_to
up_to_same x y a b e h = rw (e, below_self) h

-- a first difference, or none yet
up_to_cons : (x y : ℕ) (a b : List ℕ) → up_to (x ∷ a) (y ∷ b) ≡ true → (x < y) ⊎ ((x ≡ y) × (up_to a b ≡ true))
unfolding up_to below
up_to_cons x y a b e = go (ltb y x) (ltb x y) refl refl e
  where
    go : (p q : Bool) → ltb y x ≡ p → ltb x y ≡ q → not (cond p true (cond q false (below b a))) ≡ true → (x < y) ⊎ ((x ≡ y) × (not (below b a) ≡ true))
    go true q f g e = absurd (true≢false (sym e))
    go false true f g e = inl (ltb-true x y g)
    go false false f g e = let s = ltb-false x y g in let t = ltb-false y x f in inr (omega arith, e)

pub up_to_trans : (a b c : List ℕ) → up_to a b ≡ true → up_to b c ≡ true → up_to a c ≡ true
up_to_trans [] b c e f = up_to_nil c
up_to_trans (x ∷ a) [] c e f = up_to_none x a e
up_to_trans (x ∷ a) (y ∷ b) [] e f = up_to_none y b f
up_to_trans (x ∷ a) (y ∷ b) (z ∷ c) e f =
    ⊎_elim
    (λ p. ⊎_elim (λ q. below_up_to _ _ (below_first x z a c (omega arith))) (λ q. below_up_to _ _ (below_first x z a c (omega arith))) (up_to_cons y z b c f))
    (λ p. ⊎_elim (λ q. below_up_to _ _ (below_first x z a c (omega arith))) (λ q. up_to_same x z a c (omega arith) (up_to_trans a b c p.1 q.1)) (up_to_cons y z b c f))
    (up_to_cons x y a b e)

pub up_to_anti : (a b : List ℕ) → up_to a b ≡ true → up_to b a ≡ true → a ≡ b
up_to_anti [] [] e f = refl
up_to_anti [] (y ∷ b) e f = up_to_none y b f
up_to_anti (x ∷ a) [] e f = up_to_none x a e
up_to_anti (x ∷ a) (y ∷ b) e f =
    ⊎_elim (λ p. ⊎_elim (λ q. absurd (omega arith)) (λ q. absurd (omega arith)) (up_to_cons y x b a f))
    (λ p. ⊎_elim (λ q. absurd (omega arith)) (λ q. let r = up_to_anti a b p.1 q.1 in cc p.0) (up_to_cons y x b a f))
    (up_to_cons x y a b e)

-- ---- how two byte strings compare

unfoldable pub byte_order : List ℕ → List ℕ → Ordering
byte_order a b = cond (below a b) Less (cond (below b a) Greater Equal)

pub order_below : (a b : List ℕ) → below a b ≡ true → byte_order a b ≡ Less
unfolding byte_order
order_below a b h = rw h

pub order_above : (a b : List ℕ) → below b a ≡ true → byte_order a b ≡ Greater
unfolding byte_order
order_above a b h = rw (below_asym b a h, h)

pub order_same : (a : List ℕ) → byte_order a a ≡ Equal
unfolding byte_order
order_same a = rw (below_irrefl a)

-- a common first byte, or a common front, changes nothing
pub order_self : (x : ℕ) (xs ys : List ℕ) → byte_order (x ∷ xs) (x ∷ ys) ≡ byte_order xs ys
unfolding byte_order
order_self x xs ys = rw (below_self x xs ys, below_self x ys xs)

pub order_front : (p a b : List ℕ) → byte_order (p ++ a) (p ++ b) ≡ byte_order a b
unfolding byte_order
order_front p a b = rw (below_front p a b, below_front p b a)

-- and what an answer says
pub order_less : (a b : List ℕ) → byte_order a b ≡ Less → below a b ≡ true
unfolding byte_order
order_less a b e = go (below a b) (below b a) e
  where
    go : (p q : Bool) → cond p Less (cond q Greater Equal) ≡ Less → p ≡ true
    go true q e = refl
    go false true e = let z : ◌≡◌ {A = ℕ} 0 1 = cc in absurd (omega arith)
    go false false e = let z : ◌≡◌ {A = ℕ} 0 1 = cc in absurd (omega arith)

pub order_greater : (a b : List ℕ) → byte_order a b ≡ Greater → below b a ≡ true
unfolding byte_order
order_greater a b e = go (below a b) (below b a) e
  where
    go : (p q : Bool) → cond p Less (cond q Greater Equal) ≡ Greater → q ≡ true
    go true q e = let z : ◌≡◌ {A = ℕ} 0 1 = cc in absurd (omega arith)
    go false true e = refl
    go false false e = let z : ◌≡◌ {A = ℕ} 0 1 = cc in absurd (omega arith)

pub order_equal : (a b : List ℕ) → byte_order a b ≡ Equal → a ≡ b
unfolding byte_order up_to
order_equal a b e = go (below a b) (below b a) refl refl e
  where
    go : (p q : Bool) → below a b ≡ p → below b a ≡ q → cond p Less (cond q Greater Equal) ≡ Equal → a ≡ b
    go true q f g e = let z : ◌≡◌ {A = ℕ} 0 1 = cc in absurd (omega arith)
    go false true f g e = let z : ◌≡◌ {A = ℕ} 0 1 = cc in absurd (omega arith)
    go false false f g e = up_to_anti a b (rw g) (rw f)
