-- The word lists of a checked table, as the code walks them: place by place. Assumes nothing.
use Rattle.std.specs.Prelude.{◌≡◌, refl, Bool, true, false, not, ◌&&◌, List, [], ◌∷◌, ℕ, zero, suc, ◌+◌, ◌-◌, ◌/◌, ◌≤◌, ◌<◌, length, get_or, drop, eqb, ltb}
use Rattle.std.proofs.Common.{◌∙◌, arith, add-one, drop_of_length-le, drop-cons}
use Rattle.std.proofs.Math.Bool.{and_assoc}
use Rattle.std.specs.List.{list_all, list_any, range_with_len}
use borrow.Author.Tests.{eq-eqb, ne_eqb, not-true, not-false}
use Rattle.words.specs.Word.{words_of}
use Rattle.words.specs.WordLaws.{length_words}
use Rattle.guarantees.specs.Guarantees.{zero_field, column_field}
use Rattle.pruning.specs.TableChecking.{statistic_fine, stands_in, statistics_fine, guarantees_fine}

-- one guarantee's word
abbrev pub guarantee_fine : List ℕ → ℕ → Bool
guarantee_fine schema w = eqb (zero_field w) 0 && ltb (column_field w) (length schema)

-- one statistic's word, and that it does not stand again behind its place
abbrev pub statistic_alone : List ℕ → List ℕ → ℕ → Bool
statistic_alone schema ws i = statistic_fine schema (get_or ws i 0) && not (stands_in (get_or ws i 0) (drop (i + 1) ws))

-- n places from a on, which are all that the list has
module _ (ws : List ℕ) where
  here : (a n : ℕ) → length ws - a ≡ suc n → drop a ws ≡ get_or ws a 0 ∷ drop (a + 1) ws
  here a n e = rw add-one (drop-cons ws a 0 (omega arith))

  pub stands_walked : (w n a : ℕ) → length ws - a ≡ n → list_any (λ i. eqb (get_or ws i 0) w) (range_with_len a n) ≡ stands_in w (drop a ws)
  stands_walked w zero a e = rw (drop_of_length-le ws {i = a} (omega arith))
  stands_walked w (suc n) a e = rw (here a n e, stands_walked w n (a + 1) (omega arith))

  module _ (schema : List ℕ) where
    pub statistics_walked : (n a : ℕ) → length ws - a ≡ n → list_all (statistic_alone schema ws) (range_with_len a n) ≡ statistics_fine schema (drop a ws)
    unfolding statistics_fine
    statistics_walked zero a e = rw (drop_of_length-le ws {i = a} (omega arith))
    statistics_walked (suc n) a e =
        rw (here a n e, statistics_walked n (a + 1) (omega arith))
        (and_assoc (statistic_fine schema (get_or ws a 0)) (not (stands_in (get_or ws a 0) (drop (a + 1) ws))) (statistics_fine schema (drop (a + 1) ws)))

    pub guarantees_walked : (n a : ℕ) → length ws - a ≡ n → list_all (λ i. guarantee_fine schema (get_or ws i 0)) (range_with_len a n) ≡ guarantees_fine schema (drop a ws)
    unfolding guarantees_fine
    guarantees_walked zero a e = rw (drop_of_length-le ws {i = a} (omega arith))
    guarantees_walked (suc n) a e =
        rw (here a n e, guarantees_walked n (a + 1) (omega arith))
        (and_assoc (eqb (zero_field (get_or ws a 0)) 0) (ltb (column_field (get_or ws a 0)) (length schema)) (guarantees_fine schema (drop (a + 1) ws)))

-- ---- past the end nothing stands, and everything is fine

none_left : (bs : List ℕ) (i : ℕ) → length bs / 8 ≤ i → drop i (words_of bs) ≡ []
none_left bs i h = drop_of_length-le (words_of bs) {i = i} (rw length_words h)

module _ (bs : List ℕ) (i : ℕ) (h : length bs / 8 ≤ i) where
  pub stands_end : (w : ℕ) → stands_in w (drop i (words_of bs)) ≡ false
  stands_end w = rw (none_left bs i h)

  pub statistics_end : (schema : List ℕ) → statistics_fine schema (drop i (words_of bs)) ≡ true
  unfolding statistics_fine
  statistics_end schema = rw (none_left bs i h)

  pub guarantees_end : (schema : List ℕ) → guarantees_fine schema (drop i (words_of bs)) ≡ true
  unfolding guarantees_fine
  guarantees_end schema = rw (none_left bs i h)

-- ---- the word x at a place i, and those behind it

guarantee_splits : (a b c : Bool) → (a && (b && c)) ≡ ((a && b) && c)
guarantee_splits true b c = refl
guarantee_splits false b c = refl

module _ (bs : List ℕ) (i : ℕ) (h : i < length bs / 8) (x : ℕ) (e : x ≡ get_or (words_of bs) i 0) where
  some_left : drop i (words_of bs) ≡ x ∷ drop (i + 1) (words_of bs)
  some_left = rw (add-one, e) (drop-cons (words_of bs) i 0 (rw length_words h))

  pub stands_here : (w : ℕ) → x ≡ w → stands_in w (drop i (words_of bs)) ≡ true
  stands_here w f = rw (some_left, eq-eqb x w f)

  pub stands_further : (w : ℕ) → (x ≡ w → ⊥) → stands_in w (drop i (words_of bs)) ≡ stands_in w (drop (i + 1) (words_of bs))
  stands_further w f = rw (some_left, ne_eqb x w f)

  module _ (schema : List ℕ) (b : Bool) where
    pub statistic_faulty : b ≡ statistic_fine schema x → not b ≡ true → statistics_fine schema (drop i (words_of bs)) ≡ false
    unfolding statistics_fine
    statistic_faulty f n = rw (some_left, ← f, not-true b n)

    pub statistic_twice : b ≡ statistic_fine schema x → not b ≡ false → (t : Bool) → t ≡ stands_in x (drop (i + 1) (words_of bs)) → t ≡ true
        → statistics_fine schema (drop i (words_of bs)) ≡ false
    unfolding statistics_fine
    statistic_twice f n t g m = rw (some_left, ← f, not-false b n, ← g, m)

    pub statistic_next : b ≡ statistic_fine schema x → not b ≡ false → (t : Bool) → t ≡ stands_in x (drop (i + 1) (words_of bs)) → t ≡ false
        → statistics_fine schema (drop i (words_of bs)) ≡ statistics_fine schema (drop (i + 1) (words_of bs))
    unfolding statistics_fine
    statistic_next f n t g m = rw (some_left, ← f, not-false b n, ← g, m)

    guarantees_cons : guarantees_fine schema (drop i (words_of bs)) ≡ (guarantee_fine schema x && guarantees_fine schema (drop (i + 1) (words_of bs)))
    unfolding guarantees_fine
    guarantees_cons =
        rw some_left
        (guarantee_splits (eqb (zero_field x) 0) (ltb (column_field x) (length schema)) (guarantees_fine schema (drop (i + 1) (words_of bs))))

    pub guarantee_faulty : b ≡ guarantee_fine schema x → not b ≡ true → guarantees_fine schema (drop i (words_of bs)) ≡ false
    guarantee_faulty f n = guarantees_cons ∙ rw (← f, not-true b n)

    pub guarantee_next : b ≡ guarantee_fine schema x → not b ≡ false
        → guarantees_fine schema (drop i (words_of bs)) ≡ guarantees_fine schema (drop (i + 1) (words_of bs))
    guarantee_next f n = guarantees_cons ∙ rw (← f, not-false b n)
