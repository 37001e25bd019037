-- Words and their bytes: reading back what was written, one word and whole lists. Assumes nothing.
use Rattle.std.specs.Prelude.{◌≡◌, refl, List, [], ◌∷◌, ◌++◌, map, ℕ, zero, suc, ◌+◌, ◌*◌, ◌/◌, ◌%◌, ◌^◌, ◌≤◌, ◌<◌, length, get_or, take, drop}
use Rattle.std.proofs.Common.{ap, sym, ◌∙◌, append_assoc, append-nil, div-add-mod', div-one, add-zero, zero-add, suc-add, arith, length-append, length-drop, take-append-drop, get_or-append-add, get_or-drop, drop_at}
use Rattle.std.proofs.Math.Nat.{div-div-eq-div-mul}
use Rattle.std.proofs.Math.ListN.{get_or-eq_default}
use Rattle.words.specs.Layout.{fields, packed, Within}
use Rattle.words.specs.LayoutLaws.{fields_packed}
use Rattle.words.specs.Word.{of_bytes, word_at, word_bytes, first_words, words_of, bytes_of}

-- ---- one word

-- one digit more: what is above the digit to the base b at d, with that digit
pub join : (w d b : ℕ) → w / (d * b) * b + w / d % b ≡ w / d
join w d b = rw (← div-div-eq-div-mul) (div-add-mod' (w / d) b)

pub length_word : (w : ℕ) → length (word_bytes w) ≡ 8
unfolding word_bytes
length_word w = refl

-- the bytes of a word, whatever follows, make the word
pub word_bytes_lem : (w : ℕ) (q : List ℕ) → w < 2 ^ 64 → word_at (word_bytes w ++ q) 0 ≡ w
unfolding word_at word_bytes
word_bytes_lem w q p =
    let top : w / 2 ^ 56 % 256 ≡ w / 2 ^ 56 = omega arith in
    rw (top, join w (2 ^ 48) 256, join w (2 ^ 40) 256, join w (2 ^ 32) 256, join w (2 ^ 24) 256, join w (2 ^ 16) 256, join w (2 ^ 8) 256)
    (div-add-mod' w 256)

-- a word behind p
pub word_behind : (p q : List ℕ) (i : ℕ) → word_at (p ++ q) (length p + i) ≡ word_at q i
unfolding word_at
word_behind p q i =
    let e1 : length p + i + 1 ≡ length p + (i + 1) = omega arith in
    let e2 : length p + i + 2 ≡ length p + (i + 2) = omega arith in
    let e3 : length p + i + 3 ≡ length p + (i + 3) = omega arith in
    let e4 : length p + i + 4 ≡ length p + (i + 4) = omega arith in
    let e5 : length p + i + 5 ≡ length p + (i + 5) = omega arith in
    let e6 : length p + i + 6 ≡ length p + (i + 6) = omega arith in
    let e7 : length p + i + 7 ≡ length p + (i + 7) = omega arith in
    simp (e1, e2, e3, e4, e5, e6, e7, get_or-append-add)

pub word_drop : (n : ℕ) (s : List ℕ) (i : ℕ) → word_at (drop n s) i ≡ word_at s (n + i)
unfolding word_at
word_drop n s i =
    let e1 : n + i + 1 ≡ n + (i + 1) = omega arith in
    let e2 : n + i + 2 ≡ n + (i + 2) = omega arith in
    let e3 : n + i + 3 ≡ n + (i + 3) = omega arith in
    let e4 : n + i + 4 ≡ n + (i + 4) = omega arith in
    let e5 : n + i + 5 ≡ n + (i + 5) = omega arith in
    let e6 : n + i + 6 ≡ n + (i + 6) = omega arith in
    let e7 : n + i + 7 ≡ n + (i + 7) = omega arith in
    simp (e1, e2, e3, e4, e5, e6, e7, get_or-drop)

-- a word's bytes behind p, whatever follows
pub word_put : (p : List ℕ) (w : ℕ) (q : List ℕ) → w < 2 ^ 64 → word_at (p ++ word_bytes w ++ q) (length p) ≡ w
word_put p w q h =
    let e : length p + 0 ≡ length p = add-zero (length p) in
    rw append_assoc (ap (word_at (p ++ (word_bytes w ++ q))) (sym e) ∙ word_behind p (word_bytes w ++ q) 0 ∙ word_bytes_lem w q h)

-- ---- lists of numbers below a bound

-- every number of a list is below b
abbrev pub AllBelow : ℕ → List ℕ → Type 0
AllBelow b l = (k : ℕ) → get_or l k 0 < b

pub below_cons : (b x : ℕ) (l : List ℕ) → x < b → AllBelow b l → AllBelow b (x ∷ l)
below_cons b x l h f zero = h
below_cons b x l h f (suc k) = f k

pub below_tail : (b x : ℕ) (l : List ℕ) → AllBelow b (x ∷ l) → AllBelow b l
below_tail b x l f k = f (suc k)

pub below_append : (b : ℕ) (a c : List ℕ) → AllBelow b a → AllBelow b c → AllBelow b (a ++ c)
below_append b [] c f g = g
below_append b (x ∷ a) c f g = below_cons b x (a ++ c) (f 0) (below_append b a c (below_tail b x a f) g)

pub below_drop : (b n : ℕ) (l : List ℕ) → AllBelow b l → AllBelow b (drop n l)
below_drop b n l f k = rw get_or-drop (f (n + k))

pub below_take : (b n : ℕ) (l : List ℕ) → 0 < b → AllBelow b l → AllBelow b (take n l)
below_take b zero l p f k = p
below_take b (suc n) [] p f k = p
below_take b (suc n) (x ∷ l) p f zero = f 0
below_take b (suc n) (x ∷ l) p f (suc k) = below_take b n l p (below_tail b x l f) k

-- eight bytes make a word
pub word_below : (s : List ℕ) (at : ℕ) → AllBelow 256 s → word_at s at < 2 ^ 64
unfolding word_at
word_below s at f =
    omega (arith, f at, f (at + 1), f (at + 2), f (at + 3), f (at + 4), f (at + 5), f (at + 6), f (at + 7))

below_cut : (l : List ℕ) → AllBelow 256 (map (λ x. x % 256) l)
below_cut [] = λ k. omega arith
below_cut (x ∷ l) = below_cons 256 (x % 256) (map (λ x. x % 256) l) (omega arith) (below_cut l)

pub word_bytes_below : (w : ℕ) → AllBelow 256 (word_bytes w)
unfolding word_bytes
word_bytes_below w =
    below_cut (w / 2 ^ 56 ∷ w / 2 ^ 48 ∷ w / 2 ^ 40 ∷ w / 2 ^ 32 ∷ w / 2 ^ 24 ∷ w / 2 ^ 16 ∷ w / 2 ^ 8 ∷ w ∷ [])

pub bytes_below : (ws : List ℕ) → AllBelow 256 (bytes_of ws)
unfolding bytes_of
bytes_below [] = λ k. omega arith
bytes_below (w ∷ ws) = below_append 256 (word_bytes w) (bytes_of ws) (word_bytes_below w) (bytes_below ws)

-- ---- words as bytes

pub bytes_none : bytes_of [] ≡ []
unfolding bytes_of
bytes_none = refl

pub bytes_cons : (w : ℕ) (ws : List ℕ) → bytes_of (w ∷ ws) ≡ word_bytes w ++ bytes_of ws
unfolding bytes_of
bytes_cons w ws = refl

pub bytes_one : (w : ℕ) → bytes_of (w ∷ []) ≡ word_bytes w
unfolding bytes_of
bytes_one w = append-nil (word_bytes w)

pub bytes_append : (a b : List ℕ) → bytes_of (a ++ b) ≡ bytes_of a ++ bytes_of b
unfolding bytes_of
bytes_append [] b = refl
bytes_append (w ∷ a) b = rw (bytes_append a b, append_assoc)

pub length_bytes : (ws : List ℕ) → length (bytes_of ws) ≡ 8 * length ws
unfolding bytes_of
length_bytes [] = refl
length_bytes (w ∷ ws) = rw (length-append, length_word, length_bytes ws) (omega arith)

-- ---- bytes as words

length_first : (n : ℕ) (bs : List ℕ) → length (first_words n bs) ≡ n
unfolding first_words
length_first zero bs = refl
length_first (suc n) bs = ap suc (length_first n (drop 8 bs))

first_at : (n i : ℕ) (bs : List ℕ) → i < n → get_or (first_words n bs) i 0 ≡ word_at bs (8 * i)
unfolding first_words
first_at zero i bs h = absurd (omega arith)
first_at (suc n) zero bs h = refl
first_at (suc n) (suc i) bs h =
    let e : 8 + 8 * i ≡ 8 * suc i = omega arith in
    first_at n i (drop 8 bs) (omega arith) ∙ word_drop 8 bs (8 * i) ∙ ap (word_at bs) e

pub length_words : (bs : List ℕ) → length (words_of bs) ≡ length bs / 8
unfolding words_of
length_words bs = length_first (length bs / 8) bs

pub words_at : (bs : List ℕ) (i : ℕ) → i < length bs / 8 → get_or (words_of bs) i 0 ≡ word_at bs (8 * i)
unfolding words_of
words_at bs i h = first_at (length bs / 8) i bs h

pub words_past : (bs : List ℕ) (i : ℕ) → length bs / 8 ≤ i → get_or (words_of bs) i 0 ≡ 0
words_past bs i h = get_or-eq_default (words_of bs) 0 (rw length_words h)

first_below : (n : ℕ) (bs : List ℕ) → AllBelow 256 bs → AllBelow (2 ^ 64) (first_words n bs)
unfolding first_words
first_below zero bs f = λ k. omega arith
first_below (suc n) bs f =
    below_cons (2 ^ 64) (word_at bs 0) (first_words n (drop 8 bs)) (word_below bs 0 f) (first_below n (drop 8 bs) (below_drop 256 8 bs f))

pub words_below : (bs : List ℕ) → AllBelow 256 bs → AllBelow (2 ^ 64) (words_of bs)
unfolding words_of
words_below bs f = first_below (length bs / 8) bs f

-- ---- there and back

first_bytes : (ws q : List ℕ) (n : ℕ) → AllBelow (2 ^ 64) ws → first_words (length ws + n) (bytes_of ws ++ q) ≡ ws ++ first_words n q
unfolding bytes_of first_words
first_bytes [] q n f = rw zero-add
first_bytes (w ∷ ws) q n f =
    rw (suc-add, append_assoc, word_bytes_lem w (bytes_of ws ++ q) (f 0), drop_at (word_bytes w) (bytes_of ws ++ q) 8 (length_word w), first_bytes ws q n (below_tail (2 ^ 64) w ws f))

-- words in front of bytes
pub words_front : (ws q : List ℕ) → AllBelow (2 ^ 64) ws → words_of (bytes_of ws ++ q) ≡ ws ++ words_of q
unfolding words_of
words_front ws q f =
    let e : length (bytes_of ws ++ q) / 8 ≡ length ws + length q / 8 = rw (length-append, length_bytes) (omega arith) in
    rw e (first_bytes ws q (length q / 8) f)

pub words_none : words_of [] ≡ []
unfolding words_of first_words
words_none = refl

pub words_bytes : (ws : List ℕ) → AllBelow (2 ^ 64) ws → words_of (bytes_of ws) ≡ ws
words_bytes ws f = ap words_of (sym (append-nil (bytes_of ws))) ∙ words_front ws [] f ∙ ap (λ (l : List ℕ). ws ++ l) words_none ∙ append-nil ws

-- eight bytes are the bytes of their word: it is packed by a layout of eight
eight : List ℕ
eight = 8 ∷ 8 ∷ 8 ∷ 8 ∷ 8 ∷ 8 ∷ 8 ∷ 8 ∷ []

bytes_fields : (w : ℕ) → word_bytes w ≡ fields eight w
unfolding word_bytes eight
bytes_fields w = rw div-one

bytes_word : (a b c d e f g h : ℕ) → Within eight (a ∷ b ∷ c ∷ d ∷ e ∷ f ∷ g ∷ h ∷ []) → word_bytes (of_bytes a b c d e f g h) ≡ a ∷ b ∷ c ∷ d ∷ e ∷ f ∷ g ∷ h ∷ []
unfolding eight
bytes_word a b c d e f g h k =
    let bs : List ℕ = a ∷ b ∷ c ∷ d ∷ e ∷ f ∷ g ∷ h ∷ [] in
    let p : of_bytes a b c d e f g h ≡ packed eight bs = omega arith in
    ap word_bytes p ∙ bytes_fields (packed eight bs) ∙ fields_packed eight bs k

front_word : (bs : List ℕ) → 8 ≤ length bs → AllBelow 256 bs → word_bytes (word_at bs 0) ≡ take 8 bs
unfolding word_at eight
front_word [] p k = absurd (omega arith)
front_word (a ∷ []) p k = absurd (omega arith)
front_word (a ∷ b ∷ []) p k = absurd (omega arith)
front_word (a ∷ b ∷ c ∷ []) p k = absurd (omega arith)
front_word (a ∷ b ∷ c ∷ d ∷ []) p k = absurd (omega arith)
front_word (a ∷ b ∷ c ∷ d ∷ e ∷ []) p k = absurd (omega arith)
front_word (a ∷ b ∷ c ∷ d ∷ e ∷ f ∷ []) p k = absurd (omega arith)
front_word (a ∷ b ∷ c ∷ d ∷ e ∷ f ∷ g ∷ []) p k = absurd (omega arith)
front_word (a ∷ b ∷ c ∷ d ∷ e ∷ f ∷ g ∷ h ∷ bs) p k =
    bytes_word a b c d e f g h (k 0, (k 1, (k 2, (k 3, (k 4, (k 5, (k 6, (k 7, tt))))))))

bytes_first : (n : ℕ) (bs : List ℕ) → length bs ≡ 8 * n → AllBelow 256 bs → bytes_of (first_words n bs) ≡ bs
unfolding first_words bytes_of
bytes_first zero [] e f = refl
bytes_first zero (x ∷ bs) e f = absurd (omega arith)
bytes_first (suc n) bs e f =
    rw (front_word bs (omega arith) f, bytes_first n (drop 8 bs) (rw length-drop (omega arith)) (below_drop 256 8 bs f)) (take-append-drop 8 bs)

-- bytes that are whole words are the bytes of their words
pub bytes_words : (bs : List ℕ) → length bs % 8 ≡ 0 → AllBelow 256 bs → bytes_of (words_of bs) ≡ bs
unfolding words_of
bytes_words bs e f = bytes_first (length bs / 8) bs (omega arith) f
