-- Tables written one after the other, the members of a list from the i-th on, and a list's form. Assumes nothing.
use mathlib.Core.Path.{◌≡◌, refl, sym, ◌∙◌, ap}
use mathlib.Core.Bool.{Bool, true, false, cond, ◌&&◌, true≢false, false≢true}
use mathlib.Core.Logic.{◌⊎◌, inl, inr}
use mathlib.Core.List.{List, [], ◌∷◌, ◌++◌, append_assoc, append-nil}
use Prim.Native.Nat.{ℕ, zero, suc, ◌+◌, ◌-◌, ◌≤◌, ◌<◌}
use native.Mathlib.Nat.{add_assoc, add-zero}
use native.Mathlib.Omega.{arith}
use lib.ListN.{length, get_or, replicate, length-append, length-replicate}
use lib.Seq.{length-sets}
use borrow.Author.Tests.{eq-eqb, ne_eqb}
use Rattle.std.specs.Prelude.{Option, Some, None, filter}
use Rattle.std.specs.List.{range_with_len}
use Rattle.words.specs.Word.{bytes_of}
use Rattle.words.specs.Stores.{sets_then}
use Rattle.operators.specs.declared.Operator.{Operator}
use Rattle.kleene.specs.declared.Joining.{Joining}
use Rattle.kleene.specs.declared.Joining.TheVariants.{And, Or}
use Rattle.literals.specs.Literals.{Value, value_of, value_at}
use Rattle.literals.specs.declared.Literal.{Literal}
use Rattle.predicate.specs.Checking.{type_in}
use Rattle.predicate.specs.Predicates.{values_at, length_values}
use Rattle.predicate.specs.declared.Column.{Column}
use Rattle.statistics.specs.declared.Statistic.{Statistic}
use Rattle.table.specs.Tables.{Table, always, both, known}
use Rattle.table.specs.Comparisons.{turned, comparison_form}
use Rattle.table.specs.Encoding.{pool_of, table_words}
use Rattle.table.specs.Measures.{table_width, width_is}
use Rattle.table.specs.Constants.{solid_open, form_solid}
use Rattle.table.specs.Rewriting.{list_operator, list_joining, nested_table, list_table}
use Rattle.table.specs.Nests.{nest, join_word, run_words, run_pool, nest_words, nest_pool, is_open, kept_if, opens, all_open, nest_of, list_fold, member_table, member_tables}
use Rattle.table.proofs.Nests.{nested_folds}
use Rattle.knowing.specs.Knowns.{list_none, list_over, list_within, member_known}
use Rattle.turning.specs.Turns.{Turns}
use Rattle.turning.specs.declared.Against.{Against}
use Rattle.listing.specs.Listing.{list_of}
use Rattle.writing.specs.declared.Spot.{Spot}
use Rattle.writing.specs.declared.Writer.{Writer}
use Rattle.writing.specs.Writing.{Wide, Room, Head, Wrote, WideFor, RoomFor, Keeps, HeadBy, WroteBy}
use Rattle.writing.specs.WritingLaws.{spots, words_then}
use Rattle.writing.specs.WriterLaws.{keeps_then, heads_by, wide_head_by}
use Rattle.members.specs.Members.{run_width, Rooms, Ran, RoomsFor, RanBy, open_at, has_form}

-- ---- words of joins

replicate_snoc : (n w : ℕ) → replicate n w ++ (w ∷ []) ≡ replicate (n + 1) w
replicate_snoc zero w = refl
replicate_snoc (suc n) w = let e : suc n + 1 ≡ suc (n + 1) = omega arith in rw e (ap (λ l. w ∷ l) (replicate_snoc n w))

pub joins_none : (w : Writer) → HeadBy [] w w
unfolding bytes_of
joins_none w =
    record {
      head = record { answer = spots (sym (add-zero w.at.to)) refl; table = refl };
      pool = refl;
      keeps = record { table = refl; pool = refl; list = refl };
    }

pub joins_more : (i : ℕ) (j : Joining) (w a v : Writer) → HeadBy (replicate i (join_word j)) w a → HeadBy (join_word j ∷ []) a v
    → HeadBy (replicate (i + 1) (join_word j)) w v
joins_more i j w a v h k = rw (← replicate_snoc i (join_word j)) (heads_by (replicate i (join_word j)) (join_word j ∷ []) w a v h k)

pub joins_room : (i k x : ℕ) (w a : Writer) → i < k → WideFor k w → HeadBy (replicate i x) w a → WideFor 1 a
joins_room i k x w a lt room h =
    let e : length (replicate i x) ≡ i = length-replicate i x in
    let wide : WideFor (length (replicate i x) + 1) w = omega arith in
    wide_head_by 1 (replicate i x) w a wide h

-- ---- tables one after the other

run_width_lem : (list : List Statistic) (o : ℕ) (ts : List Table) → length (run_words list o ts) ≡ run_width ts
run_width_lem list o [] = refl
run_width_lem list o (t ∷ ts) =
    let a = width_is list o t in
    let b = run_width_lem list (o + length (pool_of t)) ts in
    rw (length-append (table_words list o t) (run_words list (o + length (pool_of t)) ts)) (omega arith)

width_append : (xs ys : List Table) → run_width (xs ++ ys) ≡ run_width xs + run_width ys
width_append [] ys = omega arith
width_append (x ∷ xs) ys = let a = width_append xs ys in omega arith

pool_append : (xs ys : List Table) → run_pool (xs ++ ys) ≡ run_pool xs ++ run_pool ys
pool_append [] ys = refl
pool_append (x ∷ xs) ys = rw (pool_append xs ys) (sym (append_assoc (pool_of x) (run_pool xs) (run_pool ys)))

words_append : (list : List Statistic) (o : ℕ) (xs ys : List Table)
    → run_words list o (xs ++ ys) ≡ run_words list o xs ++ run_words list (o + length (run_pool xs)) ys
words_append list o [] ys = rw add-zero
words_append list o (x ∷ xs) ys =
    let p = o + length (pool_of x) in
    let e : p + length (run_pool xs) ≡ o + length (pool_of x ++ run_pool xs) = rw length-append (add_assoc o (length (pool_of x)) (length (run_pool xs))) in
    ap (λ l. table_words list o x ++ l) (words_append list p xs ys ∙ rw e)
    ∙ sym (append_assoc (table_words list o x) (run_words list p xs) (run_words list (o + length (pool_of x ++ run_pool xs)) ys))

-- one run behind another
ran_then : (list : List Statistic) (xs ys : List Table) (s t r : Spot) (old mid new pool pool₂ new_pool : List ℕ)
    → Ran xs list s old mid pool pool₂ t → Ran ys list t mid new pool₂ new_pool r → Ran (xs ++ ys) list s old new pool new_pool r
ran_then list xs ys s t r old mid new pool pool₂ new_pool a b =
    let b' = rw (a.answer, a.table, a.pool) at b in
    let n : length (run_words list s.off xs) ≡ run_width xs = run_width_lem list s.off xs in
    record {
      answer = b'.answer ∙ rw (width_append xs ys, pool_append xs ys, length-append) (spots (omega arith) (omega arith));
      table = b'.table ∙ rw (words_append list s.off xs ys)
          (words_then old s.to (s.to + run_width xs) (run_words list s.off xs) (run_words list (s.off + length (run_pool xs)) ys) (omega arith));
      pool = b'.pool ∙ rw (pool_append xs ys) (sets_then pool s.off (s.off + length (run_pool xs)) (run_pool xs) (run_pool ys) refl);
    }

ran_by_then : (xs ys : List Table) (w a v : Writer) → RanBy xs w a → RanBy ys a v → RanBy (xs ++ ys) w v
ran_by_then xs ys w a v h k =
    record {
      ran = ran_then (list_of w.list.now) xs ys w.at a.at v.at w.table.now a.table.now v.table.now w.pool.now a.pool.now v.pool.now h.ran (rw h.keeps.list at k.ran);
      keeps = keeps_then w a v h.keeps k.keeps;
    }

pub ran_none : (w : Writer) → RanBy [] w w
unfolding bytes_of
ran_none w =
    record {
      ran = record { answer = spots (sym (add-zero w.at.to)) (sym (add-zero w.at.off)); table = refl; pool = refl };
      keeps = record { table = refl; pool = refl; list = refl };
    }

rooms_first : (xs ys : List Table) (s : Spot) (old pool : List ℕ) → Rooms (xs ++ ys) s old pool → Rooms xs s old pool
rooms_first xs ys s old pool h =
    let w = h.words in
    let b = rw (pool_append xs ys, length-append) at h.bytes in
    let k = rw (pool_append xs ys, length-append) at h.small in
    let e = width_append xs ys in
    record { words = omega arith; bytes = omega arith; small = omega arith }

rooms_next : (list : List Statistic) (xs ys : List Table) (s t : Spot) (old mid pool pool₂ : List ℕ) → Rooms (xs ++ ys) s old pool
    → Ran xs list s old mid pool pool₂ t → Rooms ys t mid pool₂
rooms_next list xs ys s t old mid pool pool₂ h a =
    let w = h.words in
    let b = rw (pool_append xs ys, length-append) at h.bytes in
    let k = rw (pool_append xs ys, length-append) at h.small in
    let e = width_append xs ys in
    rw (a.answer, a.table, a.pool) (record { words = rw length-sets (omega arith); bytes = rw length-sets (omega arith); small = omega arith })

-- ---- writing that is under way

-- writing the rest from v on is writing all from w on
pub record Going (all : List Table) (w : Writer) (rest : List Table) (v : Writer) : Type 0 where
  pub room : RoomsFor rest v
  pub keeps : Keeps w v
  pub ends : (u : Writer) → RanBy rest v u → RanBy all w u

module _ (all : List Table) (w : Writer) (rest xs ys : List Table) (v : Writer) (e : rest ≡ xs ++ ys) (h : Going all w rest v) where
  pub going_room : RoomsFor xs v
  going_room = rooms_first xs ys v.at v.table.now v.pool.now (rw e at h.room)

  pub going_next : (u : Writer) → RanBy xs v u → Going all w ys u
  going_next u g =
      record {
        room = rooms_next (list_of v.list.now) xs ys v.at u.at v.table.now u.table.now v.pool.now u.pool.now (rw e at h.room) g.ran;
        keeps = keeps_then w v u h.keeps g.keeps;
        ends = λ r k. h.ends r (rw e (ran_by_then xs ys v u r g k));
      }

pub going_end : (all : List Table) (w : Writer) (rest : List Table) (v : Writer) → rest ≡ [] → Going all w rest v → RanBy all w v
going_end all w rest v e h = h.ends v (rw e (ran_none v))

-- ---- the members of a list

kept_append : (b : Bool) (t : Table) (ts : List Table) → kept_if b t ts ≡ kept_if b t [] ++ ts
kept_append true t ts = refl
kept_append false t ts = refl

module _ (schema pool ws : List ℕ) (b : Bool) (c : Column) (flips k at : ℕ) where
  -- the members from the i-th on that stay
  abbrev pub rest_open : ℕ → List Table
  rest_open i = open_at schema pool ws b c flips (k - i) (at + i)

  abbrev pub member : ℕ → Table
  member i = member_table schema b c flips (value_at pool (get_or ws (at + i) 0))

  pub rest_next : (i : ℕ) → i < k → rest_open i ≡ opens (member i ∷ []) ++ rest_open (i + 1)
  unfolding open_at values_at
  rest_next i h =
      let e : k - i ≡ suc (k - (i + 1)) = omega arith in
      let f : at + i + 1 ≡ at + (i + 1) = omega arith in
      rw (e, f) (kept_append (is_open (known (member i))) (member i) (opens (member_tables schema b c flips (values_at pool ws (k - (i + 1)) (at + (i + 1))))))

  pub rest_none : (i : ℕ) → k ≤ i → rest_open i ≡ []
  unfolding open_at values_at
  rest_none i h = let e : k - i ≡ 0 = omega arith in rw e

-- those that stay, counted by their places
module _ (schema pool ws : List ℕ) (b : Bool) (c : Column) (flips at : ℕ) where
  abbrev pub stays_at : ℕ → Bool
  stays_at i = is_open (member_known schema pool ws b c flips (at + i))

  pub count_stays : (n i : ℕ) → length (filter stays_at (range_with_len i n)) ≡ length (open_at schema pool ws b c flips n (at + i))
  unfolding open_at values_at
  count_stays zero i = refl
  count_stays (suc n) i =
      let e : at + i + 1 ≡ at + (i + 1) = omega arith in
      rw e (go (stays_at i) (count_stays n (i + 1)))
    where
      go : (o : Bool) → length (filter stays_at (range_with_len (i + 1) n)) ≡ length (open_at schema pool ws b c flips n (at + (i + 1)))
          → length (cond o (i ∷ filter stays_at (range_with_len (i + 1) n)) (filter stays_at (range_with_len (i + 1) n)))
          ≡ length (kept_if o (member_table schema b c flips (value_at pool (get_or ws (at + i) 0))) (open_at schema pool ws b c flips n (at + (i + 1))))
      go true h = ap suc h
      go false h = h

-- ---- one member

module _ (schema pool : List ℕ) (b : Bool) (c : Column) (flips : ℕ) (l : Literal) (r : Option Against)
    (t : Turns (turned (type_in schema c.0) (list_operator b) flips false) l r) where
  pub unhandled_opens : r ≡ None → opens (member_table schema b c flips (value_of pool l) ∷ []) ≡ []
  unhandled_opens q = let h = t.value pool in rw (← h, q)

-- ---- the nest: joins, then the members that stay

nest_width : (j : Joining) (t : Table) (us : List Table) → table_width (nest j t us) ≡ length us + run_width (t ∷ us)
nest_width j t [] = omega arith
nest_width j t (u ∷ us) = let h = nest_width j (both j t u) us in omega arith

pub nest_wide : (j : Joining) (s : Spot) (old pool : List ℕ) (m : ℕ) (ts : List Table) → m ≡ length ts → 0 < m → Room (nest_of j ts) s old pool → Wide (m - 1) s old
nest_wide j s old pool m [] e h room = absurd (omega arith)
nest_wide j s old pool m (x ∷ us) e h room = let w = room.words in let n = nest_width j x us in omega arith

module _ (j : Joining) (s t : Spot) (old mid pool : List ℕ) where
  pub nest_rooms : (m : ℕ) (ts : List Table) → m ≡ length ts → 0 < m → Room (nest_of j ts) s old pool → Head (replicate (m - 1) (join_word j)) s old mid t → Rooms ts t mid pool
  nest_rooms m [] e h room k = absurd (omega arith)
  nest_rooms m (x ∷ us) e h room k =
      let w = room.words in
      let n = nest_width j x us in
      let d : m - 1 ≡ length us = omega arith in
      let k' = rw d at k in
      let z : length (replicate (length us) (join_word j)) ≡ length us = length-replicate (length us) (join_word j) in
      let p = rw (nest_pool j x us) at room.bytes in
      let q = rw (nest_pool j x us) at room.small in
      rw (k'.answer, k'.table) (record { words = rw length-sets (omega arith); bytes = p; small = q })

  pub nest_wrote : (list : List Statistic) (r : Spot) (new new_pool : List ℕ) (m : ℕ) (ts : List Table) → m ≡ length ts → 0 < m
      → Head (replicate (m - 1) (join_word j)) s old mid t → Ran ts list t mid new pool new_pool r → Wrote (nest_of j ts) list s old new pool new_pool r
  nest_wrote list r new new_pool m [] e h k a = absurd (omega arith)
  nest_wrote list r new new_pool m (x ∷ us) e h k a =
      let n = nest_width j x us in
      let d : m - 1 ≡ length us = omega arith in
      let k' = rw d at k in
      let z : length (replicate (length us) (join_word j)) ≡ length us = length-replicate (length us) (join_word j) in
      let a' = rw (k'.answer, k'.table) at a in
      record {
        answer = a'.answer ∙ rw (nest_pool j x us) (spots (omega arith) refl);
        table = a'.table ∙ rw (nest_words list j s.off x us)
            (words_then old s.to (s.to + length (replicate (length us) (join_word j))) (replicate (length us) (join_word j)) (run_words list s.off (x ∷ us)) refl);
        pool = a'.pool ∙ rw (nest_pool j x us);
      }

module _ (j : Joining) (m : ℕ) (ts : List Table) (e : m ≡ length ts) (h : 0 < m) (w : Writer) where
  pub nest_wide_by : RoomFor (nest_of j ts) w → WideFor (m - 1) w
  nest_wide_by room = nest_wide j w.at w.table.now w.pool.now m ts e h room

  module _ (a : Writer) (k : HeadBy (replicate (m - 1) (join_word j)) w a) where
    pub nest_rooms_by : RoomFor (nest_of j ts) w → RoomsFor ts a
    nest_rooms_by room = rw k.pool (nest_rooms j w.at a.at w.table.now a.table.now w.pool.now m ts e h room k.head)

    pub nest_by : (v : Writer) → RanBy ts a v → WroteBy (nest_of j ts) w v
    nest_by v g =
        record {
          wrote = nest_wrote j w.at a.at w.table.now a.table.now w.pool.now (list_of w.list.now) v.at v.table.now v.pool.now m ts e h k.head (rw (k.pool, k.keeps.list) at g.ran);
          keeps = keeps_then w a v k.keeps g.keeps;
        }

-- ---- a list's form

opens_most : (ts : List Table) → length (opens ts) ≤ length ts
opens_most [] = omega arith
opens_most (t ∷ ts) = go (is_open (known t)) (opens_most ts)
  where
    go : (b : Bool) → length (opens ts) ≤ length ts → length (kept_if b t (opens ts)) ≤ suc (length ts)
    go true h = omega arith
    go false h = omega arith

all_open_lem : (ts : List Table) → all_open ts ≡ true → opens ts ≡ ts
all_open_lem [] e = refl
all_open_lem (t ∷ ts) e = go (is_open (known t)) e (all_open_lem ts)
  where
    go : (b : Bool) → (b && all_open ts) ≡ true → (all_open ts ≡ true → opens ts ≡ ts) → kept_if b t (opens ts) ≡ t ∷ ts
    go true q h = ap (λ l. t ∷ l) (h q)
    go false q h = absurd (false≢true q)

not_all : (ts : List Table) → all_open ts ≡ false → length (opens ts) < length ts
not_all [] e = absurd (true≢false e)
not_all (t ∷ ts) e = go (is_open (known t)) e (not_all ts)
  where
    go : (b : Bool) → (b && all_open ts) ≡ false → (all_open ts ≡ false → length (opens ts) < length ts) → length (kept_if b t (opens ts)) < suc (length ts)
    go true q h = let k = h q in omega arith
    go false q h = let k = opens_most ts in omega arith

-- what members fold to, told by their numbers
fold_is : (b : Bool) (t : Table) (ts : List Table)
    → list_fold (list_joining b) (t ∷ ts) ≡ cond (has_form b (length (opens (t ∷ ts))) (length (t ∷ ts))) (nest_of (list_joining b) (opens (t ∷ ts))) (always true)
fold_is true t ts = go (opens (t ∷ ts))
  where
    go : (us : List Table) → nest_of And us ≡ cond (has_form true (length us) (length (t ∷ ts))) (nest_of And us) (always true)
    go [] = refl
    go (u ∷ us) = rw (ne_eqb (suc (length us)) 0 (λ e. omega arith))
fold_is false t ts = go (all_open (t ∷ ts)) refl
  where
    go : (a : Bool) → all_open (t ∷ ts) ≡ a → cond a (nest_of Or (t ∷ ts)) (always true) ≡ cond (has_form false (length (opens (t ∷ ts))) (length (t ∷ ts))) (nest_of Or (opens (t ∷ ts))) (always true)
    go true e = rw (all_open_lem (t ∷ ts) e, ne_eqb (suc (length ts)) 0 (λ z. omega arith), eq-eqb (suc (length ts)) (suc (length ts)) refl)
    go false e = let h = not_all (t ∷ ts) e in go₂ (length (opens (t ∷ ts))) h
      where
        go₂ : (m : ℕ) → m < suc (length ts) → always true ≡ cond (has_form false m (suc (length ts))) (nest_of Or (opens (t ∷ ts))) (always true)
        go₂ zero lt = refl
        go₂ (suc m) lt = rw (ne_eqb (suc m) 0 (λ z. omega arith), ne_eqb (suc m) (suc (length ts)) (λ z. omega arith))

pub form_some : (b : Bool) (m n : ℕ) → true ≡ has_form b m n → 0 < m
form_some b zero n e = absurd (true≢false e)
form_some b (suc m) n e = omega arith

module _ (limit : ℕ) (schema pool ws : List ℕ) (b : Bool) (c : Column) (flips k at : ℕ) where
  abbrev table : Table
  table = list_table limit schema b c flips (values_at pool ws k at)

  members_length : (vs : List Value) → length (member_tables schema b c flips vs) ≡ length vs
  members_length [] = refl
  members_length (v ∷ vs) = ap suc (members_length vs)

  nested_is : (vs : List Value) → 0 < length vs → (m : ℕ) → m ≡ length (opens (member_tables schema b c flips vs))
      → nested_table schema b c flips vs ≡ cond (has_form b m (length vs)) (nest_of (list_joining b) (opens (member_tables schema b c flips vs))) (always true)
  nested_is [] h m e = absurd (omega arith)
  nested_is (v ∷ vs) h m e =
      rw (e, ← members_length (v ∷ vs))
      (nested_folds schema b c flips v vs ∙ fold_is b (member_table schema b c flips v) (member_tables schema b c flips vs))

  list_nested : (m : ℕ) → (k ≡ 0 → ⊥) → k ≤ limit → m ≡ length (open_at schema pool ws b c flips k at)
      → table ≡ cond (has_form b m k) (nest_of (list_joining b) (open_at schema pool ws b c flips k at)) (always true)
  unfolding open_at
  list_nested m z h e =
      let n : length (values_at pool ws k at) ≡ k = length_values pool ws k at in
      list_within limit schema pool ws b c flips k at h ∙ (rw n at (nested_is (values_at pool ws k at) (omega arith) m e))

  -- no literals, or more than the limit
  pub list_outside : (k ≡ 0) ⊎ (limit < k) → table ≡ always true
  list_outside (inl e) = list_none limit schema pool ws b c flips k at e
  list_outside (inr h) = list_over limit schema pool ws b c flips k at h

  module _ (m n : ℕ) (same : n ≡ k) (z : n ≡ 0 → ⊥) (h : n ≤ limit) (e : m ≡ length (open_at schema pool ws b c flips k at)) where
    formed : table ≡ cond (has_form b m n) (nest_of (list_joining b) (open_at schema pool ws b c flips k at)) (always true)
    formed = rw same (list_nested m (λ q. z (same ∙ q)) (rw same at h) e)

    pub list_form : true ≡ has_form b m n → table ≡ nest_of (list_joining b) (open_at schema pool ws b c flips k at)
    list_form f = formed ∙ rw (← f)

    pub list_unhandled : false ≡ has_form b m n → table ≡ always true
    list_unhandled f = formed ∙ rw (← f)
