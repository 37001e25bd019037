-- The statistics list: places, no repetition, growth at the end only, at most 3 * n + 1 of n columns; and its words read back.
-- Assumes nothing.
use Rattle.std.specs.Prelude.{◌≡◌, refl, Bool, true, false, cond, List, [], ◌∷◌, ◌++◌, map, ℕ, zero, suc, ◌+◌, ◌*◌, ◌/◌, ◌%◌, ◌^◌, ◌≤◌, ◌<◌, length, get_or, ltb}
use Rattle.std.proofs.Common.{sym, ◌∙◌, append_assoc, append-nil, arith, length-append, lit<, lt-ltb, le-ltb, ltb-true, ltb-false, eq-eqb, eqb-true}
use Rattle.std.proofs.Math.Path.{ap}
use Rattle.std.proofs.lemmas.List.{length-map}
use Rattle.std.proofs.lemmas.Bool.{eqb-false}
use Rattle.words.specs.Layout.{Within}
use Rattle.words.specs.LayoutLaws.{packed_within, field_packed}
use Rattle.words.specs.Word.{words_of, bytes_of}
use Rattle.words.specs.WordLaws.{AllBelow, below_cons, words_bytes}
use Rattle.predicate.specs.declared.Column.{Column}
use Rattle.statistics.specs.declared.Statistic.{Statistic}
use Rattle.statistics.specs.declared.Statistic.TheVariants.{Least, Greatest, Blanks, Rows}
use Rattle.statistics.specs.Statistics.{statistic_layout, column_field, type_field, zero_field, type_of, column_in, statistic_word, statistic_of, statistic_words, statistics_of, key_of, same_statistic, place_of, added, added_all}
use Rattle.statistics.specs.Pigeonhole.{Absent, Different, EachBelow, pigeonhole}

-- ---- one statistic

-- the statistic of a column and a type
abbrev made : ℕ → ℕ → Statistic
made c t = let k : Column = record { 0 = c } in get_or (Least k ∷ Greatest k ∷ Blanks k ∷ Rows ∷ []) t Rows

made_parts : (s : Statistic) → made (column_in s) (type_of s) ≡ s
made_parts (Least c) = refl
made_parts (Greatest c) = refl
made_parts (Blanks c) = refl
made_parts Rows = refl

pub type_below : (s : Statistic) → type_of s < 4
type_below (Least c) = lit< tt
type_below (Greatest c) = lit< tt
type_below (Blanks c) = lit< tt
type_below Rows = lit< tt

-- column and type tell statistics apart
parts_are : (a b : Statistic) → column_in a ≡ column_in b → type_of a ≡ type_of b → a ≡ b
parts_are a b c t =
    sym (made_parts a) ∙ ap (λ (n : ℕ). made n (type_of a)) c ∙ ap (made (column_in b)) t ∙ made_parts b

pub same_is : (a b : Statistic) → same_statistic a b ≡ true → a ≡ b
same_is a b e =
    let k : key_of a ≡ key_of b = eqb-true (key_of a) (key_of b) e in
    let p = type_below a in
    let q = type_below b in
    parts_are a b (omega arith) (omega arith)

pub is_same : (a b : Statistic) → a ≡ b → same_statistic a b ≡ true
is_same a b e = eq-eqb (key_of a) (key_of b) (ap key_of e)

-- ---- places

-- a statistic that a list has
abbrev pub Listed : Statistic → List Statistic → Type 0
Listed s list = place_of s list < length list

-- a statistic stands at the head, or one further than in the rest
placed : (P : ℕ → Type 0) (s x : Statistic) (xs : List Statistic) → (x ≡ s → P 0) → ((x ≡ s → ⊥) → P (suc (place_of s xs)))
    → P (place_of s (x ∷ xs))
unfolding place_of
placed P s x xs here further = go (same_statistic x s) refl
  where
    go : (t : Bool) → same_statistic x s ≡ t → P (place_of s (x ∷ xs))
    go true e = rw e (here (same_is x s e))
    go false e = rw e (further (λ q. eqb-false (key_of x) (key_of s) e (ap key_of q)))

pub place_none : (s : Statistic) → place_of s [] ≡ 0
unfolding place_of
place_none s = refl

pub place_here : (s : Statistic) (xs : List Statistic) → place_of s (s ∷ xs) ≡ 0
place_here s xs = placed (λ n. n ≡ 0) s s xs (λ e. refl) (λ other. absurd (other refl))

pub place_further : (s x : Statistic) (xs : List Statistic) → (x ≡ s → ⊥) → place_of s (x ∷ xs) ≡ suc (place_of s xs)
place_further s x xs other = placed (λ n. n ≡ suc (place_of s xs)) s x xs (λ e. absurd (other e)) (λ o. refl)

-- at most the list's length
pub place_most : (s : Statistic) (list : List Statistic) → place_of s list ≤ length list
place_most s [] = omega (arith, place_none s)
place_most s (x ∷ xs) = placed (λ n. n ≤ suc (length xs)) s x xs (λ e. omega arith) (λ o. omega (arith, place_most s xs))

pub at_place : (s : Statistic) (list : List Statistic) (d : Statistic) → Listed s list → get_or list (place_of s list) d ≡ s
at_place s [] d h = absurd (omega arith)
at_place s (x ∷ xs) d h =
    placed (λ n. n < suc (length xs) → get_or (x ∷ xs) n d ≡ s) s x xs (λ e k. e) (λ o k. at_place s xs d (omega arith)) h

-- a listed statistic keeps its place when the list grows
pub place_front : (s : Statistic) (xs ys : List Statistic) → Listed s xs → place_of s (xs ++ ys) ≡ place_of s xs
place_front s [] ys h = absurd (omega arith)
place_front s (x ∷ xs) ys h =
    placed (λ n. n < suc (length xs) → place_of s (x ∷ (xs ++ ys)) ≡ n) s x xs
    (λ e k. rw e (place_here s (xs ++ ys)))
    (λ o k. place_further s x (xs ++ ys) o ∙ ap suc (place_front s xs ys (omega arith)))
    h

-- another stands as far behind the front as without it
pub place_behind : (s : Statistic) (xs ys : List Statistic) → (Listed s xs → ⊥) → place_of s (xs ++ ys) ≡ length xs + place_of s ys
place_behind s [] ys h = omega arith
place_behind s (x ∷ xs) ys h =
    placed (λ n. (n < suc (length xs) → ⊥) → place_of s (x ∷ (xs ++ ys)) ≡ suc (length xs) + place_of s ys) s x xs
    (λ e k. absurd (k (omega arith)))
    (λ o k. place_further s x (xs ++ ys) o ∙ ap suc (place_behind s xs ys (λ l. k (omega arith))) ∙ omega arith)
    h

pub listed_front : (s : Statistic) (xs ys : List Statistic) → Listed s xs → Listed s (xs ++ ys)
listed_front s xs ys h = rw (place_front s xs ys h, length-append) (omega arith)

pub listed_here : (s : Statistic) (xs : List Statistic) → Listed s (s ∷ xs)
listed_here s xs = rw (place_here s xs) (omega arith)

-- listed or not
decided : (P : Type 0) (s : Statistic) (list : List Statistic) → (Listed s list → P) → ((Listed s list → ⊥) → P) → P
decided P s list has lacks = go (ltb (place_of s list) (length list)) refl
  where
    go : (t : Bool) → ltb (place_of s list) (length list) ≡ t → P
    go true e = has (ltb-true (place_of s list) (length list) e)
    go false e = let f = ltb-false (place_of s list) (length list) e in lacks (λ h. omega arith)

pub listed_behind : (s : Statistic) (xs ys : List Statistic) → Listed s ys → Listed s (xs ++ ys)
listed_behind s xs ys h =
    decided (Listed s (xs ++ ys)) s xs (λ l. listed_front s xs ys l) (λ n. rw (place_behind s xs ys n, length-append) (omega arith))

pub listed_further : (s x : Statistic) (xs : List Statistic) → Listed s xs → Listed s (x ∷ xs)
listed_further s x xs h = listed_behind s (x ∷ []) xs h

-- ---- no repetition

-- no statistic stands twice
abbrev pub Distinct : List Statistic → Type 0
Distinct [] = Unit {0}
Distinct (s ∷ ss) = (Listed s ss → ⊥) × Distinct ss

pub place_at : (list : List Statistic) (i : ℕ) (d : Statistic) → Distinct list → i < length list → place_of (get_or list i d) list ≡ i
place_at [] i d q h = absurd (omega arith)
place_at (x ∷ xs) zero d q h = place_here x xs
place_at (x ∷ xs) (suc i) d q h =
    let y : Statistic = get_or xs i d in
    let p : place_of y xs ≡ i = place_at xs i d q.1 (omega arith) in
    let l : Listed y xs = omega arith in
    place_further y x xs (λ e. q.0 (rw e l)) ∙ ap suc p

-- what only the end brings
listed_end : (s x : Statistic) (xs : List Statistic) → (Listed s xs → ⊥) → Listed s (xs ++ (x ∷ [])) → x ≡ s
listed_end s x xs n h =
    placed (λ p. p < 1 → x ≡ s) s x [] (λ e k. e) (λ o k. absurd (omega arith))
    (omega (arith, place_behind s xs (x ∷ []) n, length-append xs (x ∷ [])))

distinct_end : (list : List Statistic) (s : Statistic) → Distinct list → (Listed s list → ⊥) → Distinct (list ++ (s ∷ []))
distinct_end [] s d n = ((λ h. omega arith), tt)
distinct_end (x ∷ xs) s d n =
    ((λ h. n (rw (listed_end x s xs d.0 h) (listed_here x xs))), distinct_end xs s d.1 (λ l. n (listed_further s x xs l)))

-- ---- growth

-- a listed statistic leaves a list as it is, another goes to its end
grown : (P : List Statistic → Type 0) (list : List Statistic) (s : Statistic) → (Listed s list → P list)
    → ((Listed s list → ⊥) → P (list ++ (s ∷ []))) → P (added list s)
unfolding added
grown P list s old new =
    decided (P (added list s)) s list (λ l. rw (lt-ltb (place_of s list) (length list) l) (old l))
    (λ n. rw (le-ltb (place_of s list) (length list) (omega arith)) (new n))

pub added_old : (list : List Statistic) (s : Statistic) → Listed s list → added list s ≡ list
added_old list s h = grown (λ l. l ≡ list) list s (λ o. refl) (λ n. absurd (n h))

pub added_new : (list : List Statistic) (s : Statistic) → (Listed s list → ⊥) → added list s ≡ list ++ (s ∷ [])
added_new list s n = grown (λ l. l ≡ list ++ (s ∷ [])) list s (λ o. absurd (n o)) (λ m. refl)

pub added_front : (list : List Statistic) (s : Statistic) → (t : List Statistic) × (added list s ≡ list ++ t)
added_front list s =
    grown (λ l. (t : List Statistic) × (l ≡ list ++ t)) list s (λ o. ([], sym (append-nil list))) (λ n. (s ∷ [], refl))

pub added_distinct : (list : List Statistic) (s : Statistic) → Distinct list → Distinct (added list s)
added_distinct list s d = grown Distinct list s (λ o. d) (λ n. distinct_end list s d n)

pub listed_added : (list : List Statistic) (s : Statistic) → Listed s (added list s)
listed_added list s = grown (Listed s) list s (λ o. o) (λ n. listed_behind s list (s ∷ []) (listed_here s []))

pub all_none : (list : List Statistic) → added_all list [] ≡ list
unfolding added_all
all_none list = refl

pub all_cons : (list : List Statistic) (s : Statistic) (ss : List Statistic) → added_all list (s ∷ ss) ≡ added_all (added list s) ss
unfolding added_all
all_cons list s ss = refl

pub added_all_append : (list xs ys : List Statistic) → added_all list (xs ++ ys) ≡ added_all (added_all list xs) ys
unfolding added_all
added_all_append list [] ys = refl
added_all_append list (x ∷ xs) ys = added_all_append (added list x) xs ys

pub added_all_front : (list ss : List Statistic) → (t : List Statistic) × (added_all list ss ≡ list ++ t)
unfolding added_all
added_all_front list [] = ([], sym (append-nil list))
added_all_front list (s ∷ ss) =
    let f = added_front list s in
    let g = added_all_front (added list s) ss in
    (f.0 ++ g.0, g.1 ∙ ap (λ (l : List Statistic). l ++ g.0) f.1 ∙ append_assoc list f.0 g.0)

pub added_all_distinct : (list ss : List Statistic) → Distinct list → Distinct (added_all list ss)
unfolding added_all
added_all_distinct list [] d = d
added_all_distinct list (s ∷ ss) d = added_all_distinct (added list s) ss (added_distinct list s d)

module _ (s : Statistic) (list ss : List Statistic) where
  -- what was listed stays, at its place
  pub place_stays : Listed s list → place_of s (added_all list ss) ≡ place_of s list
  place_stays h = let f = added_all_front list ss in rw f.1 (place_front s list f.0 h)

  pub listed_stays : Listed s list → Listed s (added_all list ss)
  listed_stays h = let f = added_all_front list ss in rw f.1 (listed_front s list f.0 h)

-- what was to be listed is
pub added_all_listed : (s : Statistic) (list ss : List Statistic) → Listed s ss → Listed s (added_all list ss)
unfolding added_all
added_all_listed s list [] h = absurd (omega arith)
added_all_listed s list (x ∷ xs) h =
    placed (λ n. n < suc (length xs) → Listed s (added_all (added list x) xs)) s x xs
    (λ e k. listed_stays s (added list x) xs (rw (← e) (listed_added list x)))
    (λ o k. added_all_listed s (added list x) xs (omega arith))
    h

-- ---- how many

-- each column is one of n
abbrev pub Columns : ℕ → List Statistic → Type 0
Columns n [] = Unit {0}
Columns n (s ∷ ss) = (column_in s < n) × Columns n ss

pub columns_wider : (m n : ℕ) (list : List Statistic) → m ≤ n → Columns m list → Columns n list
columns_wider m n [] h c = tt
columns_wider m n (s ∷ ss) h c = let k = c.0 in (omega arith, columns_wider m n ss h c.1)

pub columns_append : (n : ℕ) (xs ys : List Statistic) → Columns n xs → Columns n ys → Columns n (xs ++ ys)
columns_append n [] ys c e = e
columns_append n (x ∷ xs) ys c e = (c.0, columns_append n xs ys c.1 e)

pub columns_added : (n : ℕ) (list : List Statistic) (s : Statistic) → Columns n list → column_in s < n → Columns n (added list s)
columns_added n list s c h = grown (Columns n) list s (λ o. c) (λ m. columns_append n list (s ∷ []) c (h, tt))

pub columns_added_all : (n : ℕ) (list ss : List Statistic) → Columns n list → Columns n ss → Columns n (added_all list ss)
unfolding added_all
columns_added_all n list [] c e = c
columns_added_all n list (s ∷ ss) c e = columns_added_all n (added list s) ss (columns_added n list s c e.0) e.1

-- least, greatest and blanks of each of n columns, then rows
abbrev rank_of : ℕ → Statistic → ℕ
rank_of n (Least c) = 3 * c.0
rank_of n (Greatest c) = 3 * c.0 + 1
rank_of n (Blanks c) = 3 * c.0 + 2
rank_of n Rows = 3 * n

unfoldable unranked : ℕ → ℕ → Statistic
unranked n r = cond (ltb r (3 * n)) (made (r / 3) (r % 3)) Rows

ranked : (n c t r : ℕ) → r ≡ 3 * c + t → t < 3 → c < n → unranked n r ≡ made c t
unfolding unranked
ranked n c t r e h k =
    let p : r / 3 ≡ c = omega arith in
    let q : r % 3 ≡ t = omega arith in
    rw (lt-ltb r (3 * n) (omega arith), p, q)

unranked_rank : (n : ℕ) (s : Statistic) → column_in s < n → unranked n (rank_of n s) ≡ s
unranked_rank n (Least c) h = ranked n c.0 0 (3 * c.0) (omega arith) (lit< tt) h
unranked_rank n (Greatest c) h = ranked n c.0 1 (3 * c.0 + 1) refl (lit< tt) h
unranked_rank n (Blanks c) h = ranked n c.0 2 (3 * c.0 + 2) refl (lit< tt) h
unranked_rank n Rows h = unfold unranked in rw (le-ltb (3 * n) (3 * n) (omega arith))

rank_below : (n : ℕ) (s : Statistic) → column_in s < n → rank_of n s < 3 * n + 1
rank_below n (Least c) h = omega arith
rank_below n (Greatest c) h = omega arith
rank_below n (Blanks c) h = omega arith
rank_below n Rows h = omega arith

ranks_absent : (n : ℕ) (s : Statistic) (ss : List Statistic) → (Listed s ss → ⊥) → column_in s < n → Columns n ss
    → Absent (rank_of n s) (map (rank_of n) ss)
ranks_absent n s [] l h c = tt
ranks_absent n s (x ∷ xs) l h c = (
  (λ e. let q : s ≡ x = sym (unranked_rank n s h) ∙ ap (unranked n) e ∙ unranked_rank n x c.0 in l (rw q (listed_here x xs))),
  ranks_absent n s xs (λ k. l (listed_further s x xs k)) h c.1,
)

ranks_different : (n : ℕ) (list : List Statistic) → Distinct list → Columns n list → Different (map (rank_of n) list)
ranks_different n [] d c = tt
ranks_different n (s ∷ ss) d c = (ranks_absent n s ss d.0 c.0 c.1, ranks_different n ss d.1 c.1)

ranks_below : (n : ℕ) (list : List Statistic) → Columns n list → EachBelow (3 * n + 1) (map (rank_of n) list)
ranks_below n [] c = tt
ranks_below n (s ∷ ss) c = (rank_below n s c.0, ranks_below n ss c.1)

-- three of each column, and rows
pub length_most : (n : ℕ) (list : List Statistic) → Distinct list → Columns n list → length list ≤ 3 * n + 1
length_most n list d c =
    let p = pigeonhole (3 * n + 1) (map (rank_of n) list) (ranks_different n list d c) (ranks_below n list c) in
    rw (← length-map list (rank_of n)) p

pub added_all_most : (n : ℕ) (ss : List Statistic) → Columns n ss → length (added_all [] ss) ≤ 3 * n + 1
added_all_most n ss c = length_most n (added_all [] ss) (added_all_distinct [] ss tt) (columns_added_all n [] ss tt c)

-- ---- words

-- the fields of a statistic's word
abbrev parts : Statistic → List ℕ
parts s = column_in s ∷ type_of s ∷ 0 ∷ []

module _ (s : Statistic) (h : column_in s < 256) where
  parts_within : Within statistic_layout (parts s)
  parts_within = (h, (type_below s, (lit< tt, tt)))

  pub statistic_column : column_field (statistic_word s) ≡ column_in s
  statistic_column = field_packed statistic_layout (parts s) 0 parts_within

  pub statistic_type : type_field (statistic_word s) ≡ type_of s
  statistic_type = field_packed statistic_layout (parts s) 1 parts_within

  pub statistic_zero : zero_field (statistic_word s) ≡ 0
  statistic_zero = field_packed statistic_layout (parts s) 2 parts_within

  pub statistic_word_lem : statistic_of (statistic_word s) ≡ s
  unfolding statistic_of
  statistic_word_lem =
      ap (λ (c : ℕ). made c (type_field (statistic_word s))) statistic_column ∙ ap (made (column_in s)) statistic_type ∙ made_parts s

  pub statistic_below : statistic_word s < 2 ^ 64
  statistic_below = packed_within statistic_layout (parts s) parts_within

pub length_statistics : (list : List Statistic) → length (statistic_words list) ≡ length list
length_statistics [] = refl
length_statistics (s ∷ ss) = ap suc (length_statistics ss)

pub statistics_words : (list : List Statistic) → Columns 256 list → statistics_of (statistic_words list) ≡ list
unfolding statistics_of
statistics_words [] c = refl
statistics_words (s ∷ ss) c = rw (statistic_word_lem s c.0, statistics_words ss c.1)

pub statistics_below : (list : List Statistic) → Columns 256 list → AllBelow (2 ^ 64) (statistic_words list)
statistics_below [] c = λ k. omega arith
statistics_below (s ∷ ss) c = below_cons (2 ^ 64) (statistic_word s) (statistic_words ss) (statistic_below s c.0) (statistics_below ss c.1)

-- a list written in bytes is read back
pub statistics_bytes_lem : (list : List Statistic) → Columns 256 list → statistics_of (words_of (bytes_of (statistic_words list))) ≡ list
statistics_bytes_lem list c = rw (words_bytes (statistic_words list) (statistics_below list c)) (statistics_words list c)
