-- Rewriting is sound: where a predicate's table is false on cells that fit some rows, the predicate is true of none of them.
-- Assumes nothing.
use Rattle.std.specs.Prelude.{◌≡◌, Bool, cond, ℕ, length, leb}
use Rattle.std.proofs.Math.Path.{refl, ap, subst}
use Rattle.std.proofs.Common.{sym, ◌∙◌, ⊎_elim}
use Rattle.std.proofs.Math.Bool.{true, false}
use mathlib.Core.List.{List, [], ◌∷◌}
use Rattle.std.proofs.Math.Option.{Option, some, none}
use Rattle.operators.specs.declared.Operator.{Operator}
use Rattle.operators.specs.declared.Operator.TheVariants.{Equal, NotEqual, AtMost}
use Rattle.kleene.specs.declared.Truth.{Truth}
use Rattle.kleene.specs.declared.Truth.TheVariants.{False, Unknown, True}
use Rattle.kleene.specs.declared.Joining.{Joining}
use Rattle.kleene.specs.declared.Joining.TheVariants.{And, Or}
use Rattle.kleene.specs.Truths.{truth_of, kleene, kleene_and, kleene_or, kleene_not}
use Rattle.kleene.specs.TruthLaws.{Refutes, refutes_both, false_true, unknown_false, unknown_true, truth_true, truth_false, and_true, or_false, or_true, not_true, not_false, regrouped}
use Rattle.literals.specs.Literals.{Value, null, int, text, truth}
use Rattle.text.specs.Utf8.{Utf8}
use Rattle.text.specs.Pattern.{prefix_of}
use Rattle.text.specs.Match.{like_text}
use Rattle.text.specs.Upper.{upper_of}
use Rattle.orders.specs.Order.{order_by}
use Rattle.orders.specs.Values as Values
use Rattle.orders.specs.Values.{compared, compared_from, truth_in}
use Rattle.predicate.specs.declared.Column.{Column}
use Rattle.predicate.specs.Predicates.{Predicate, constant, join, not, column, is_null, is_not_null, comparison, list, like}
use Rattle.predicate.specs.Checking.{type_in}
use Rattle.predicate.specs.Meaning.{Row, value_in, flips, listed, like_value, unless, meaning}
use Rattle.predicate.specs.Rows.{In, OfType, RowOf}
use Rattle.predicate.specs.Accepted.{Pattern, Fine}
use Rattle.statistics.specs.declared.Statistic.TheVariants.{Least, Greatest}
use Rattle.table.specs.declared.Known.{Known}
use Rattle.table.specs.declared.Known.TheVariants.{False as NoMatch, True as Unhandled, Open}
use Rattle.table.specs.Tables.{Table, always, both, against, positive, differ, holds, negation, unhandled, known, known_bool, folds, folded, joined}
use Rattle.table.specs.Comparisons.{Turned, asks, stays, turned, turned_form, bounded_form, like_table, has_blanks, has_values}
use Rattle.table.specs.Rewriting.{constant_table, not_table, comparison_table, list_operator, list_joining, members_table, nested_table, rewritten}
use Rattle.table.specs.Worth.{Cells, worth}
use Rattle.table.specs.Fitting.{Bounds, FitCells}
use Rattle.table.proofs.Turning.{turned_means}
use Rattle.table.proofs.FormsSound.{blanks_gone, values_gone, comparison_sound, like_sound}

-- ---- folding changes no worth

Says : Known → Truth → Type 0
Says NoMatch t = t ≡ False
Says Unhandled t = t ≡ True
Says Open t = Unit {0}

module _ (cells : Cells) where
  constant_says : (b : Bool) → Says (known_bool b) (truth_of b)
  unfolding Says
  constant_says true = refl
  constant_says false = refl

  says : (t : Table) → Says (known t) (worth cells t)
  unfolding Says worth
  says (always b) = constant_says b
  says (both j l r) = tt
  says (against o s b v) = tt
  says (positive s) = tt
  says (differ s t) = tt
  says (holds s) = tt
  says (negation t) = tt

  and_unit : (a : Truth) → kleene_and True a ≡ a
  and_unit False = refl
  and_unit Unknown = refl
  and_unit True = refl

  and_unit_right : (a : Truth) → kleene_and a True ≡ a
  and_unit_right False = refl
  and_unit_right Unknown = refl
  and_unit_right True = refl

  and_zero : (a : Truth) → kleene_and False a ≡ False
  and_zero False = refl
  and_zero Unknown = refl
  and_zero True = refl

  and_zero_right : (a : Truth) → kleene_and a False ≡ False
  and_zero_right False = refl
  and_zero_right Unknown = refl
  and_zero_right True = refl

  or_unit : (a : Truth) → kleene_or False a ≡ a
  or_unit False = refl
  or_unit Unknown = refl
  or_unit True = refl

  or_unit_right : (a : Truth) → kleene_or a False ≡ a
  or_unit_right False = refl
  or_unit_right Unknown = refl
  or_unit_right True = refl

  or_one : (a : Truth) → kleene_or True a ≡ True
  or_one False = refl
  or_one Unknown = refl
  or_one True = refl

  or_one_right : (a : Truth) → kleene_or a True ≡ True
  or_one_right False = refl
  or_one_right Unknown = refl
  or_one_right True = refl

  fold_worth : (j : Joining) (k m : Known) (l r : Table) → Says k (worth cells l) → Says m (worth cells r)
      → kleene j (worth cells l) (worth cells r) ≡ worth cells (folded (folds j k m) j l r)
  unfolding Says worth
  fold_worth And NoMatch m l r e f = ap (λ x. kleene_and x (worth cells r)) e ∙ and_zero (worth cells r)
  fold_worth And Unhandled m l r e f = ap (λ x. kleene_and x (worth cells r)) e ∙ and_unit (worth cells r)
  fold_worth And Open NoMatch l r e f = ap (λ x. kleene_and (worth cells l) x) f ∙ and_zero_right (worth cells l)
  fold_worth And Open Unhandled l r e f = ap (λ x. kleene_and (worth cells l) x) f ∙ and_unit_right (worth cells l)
  fold_worth And Open Open l r e f = refl
  fold_worth Or NoMatch m l r e f = ap (λ x. kleene_or x (worth cells r)) e ∙ or_unit (worth cells r)
  fold_worth Or Unhandled m l r e f = ap (λ x. kleene_or x (worth cells r)) e ∙ or_one (worth cells r)
  fold_worth Or Open NoMatch l r e f = ap (λ x. kleene_or (worth cells l) x) f ∙ or_unit_right (worth cells l)
  fold_worth Or Open Unhandled l r e f = ap (λ x. kleene_or (worth cells l) x) f ∙ or_one_right (worth cells l)
  fold_worth Or Open Open l r e f = refl

  pub joined_worth : (j : Joining) (l r : Table) → kleene j (worth cells l) (worth cells r) ≡ worth cells (joined j l r)
  joined_worth j l r = fold_worth j (known l) (known r) l r (says l) (says r)

-- an unhandled part refutes nothing
unhandled_sound : (cells : Cells) (x : Truth) → Refutes (worth cells unhandled) x
unfolding Refutes worth
unhandled_sound cells x e h = false_true (sym e)

-- ---- the leaves

null_truth : (v : Value) → Values.is_null v ≡ true → truth_of (Values.is_null v) ≡ False → ⊥
null_truth v e h = false_true (sym h ∙ ap truth_of e)

-- a truth value that is true lies at or below no false bound, and a true bound at or below no false one
not_above : compared AtMost (truth true) (truth false) ≡ True → ⊥
unfolding order_by
not_above e = false_true e

told_truth : (v : Value) (t : Truth) → truth_in v ≡ t → (t ≡ Unknown → ⊥) → (b : Bool) × (v ≡ truth b) × (truth_of b ≡ t)
told_truth null t e h = absurd (h (sym e))
told_truth (int z) t e h = absurd (h (sym e))
told_truth (text bs) t e h = absurd (h (sym e))
told_truth (truth b) t e h = (b, refl, e)

is_false : (v : Value) → truth_in v ≡ False → v ≡ truth false
is_false v e = let h = told_truth v False e (λ q. unknown_false (sym q)) in h.1 ∙ ap truth (truth_false h.0 h.2)

is_true : (v : Value) → truth_in v ≡ True → v ≡ truth true
is_true v e = let h = told_truth v True e (λ q. unknown_true (sym q)) in h.1 ∙ ap truth (truth_true h.0 h.2)

-- bounds false and values true do not go together
crossed : (a b : Value) → a ≡ truth true → b ≡ truth false → Bounds a b → ⊥
crossed a b e f h = not_above (rw (e, f) at h refl refl)

module _ (cells : Cells) (rows : List Row) (fit : FitCells cells rows) (r : Row) (i : In r rows) where
  column_sound : (c : Column) → Refutes (kleene_or (truth_in (cells (Least c))) (truth_in (cells (Greatest c)))) (truth_in (value_in r c))
  unfolding Refutes
  column_sound c e h =
      let a = truth_in (cells (Least c)) in
      let b = truth_in (cells (Greatest c)) in
      crossed (value_in r c) (cells (Greatest c)) (is_true (value_in r c) h) (is_false (cells (Greatest c)) (or_false a b e).1) (fit.greatest c r i)

  not_column_sound : (c : Column)
      → Refutes (kleene_not (kleene_and (truth_in (cells (Least c))) (truth_in (cells (Greatest c))))) (kleene_not (truth_in (value_in r c)))
  unfolding Refutes
  not_column_sound c e h =
      let a = truth_in (cells (Least c)) in
      let b = truth_in (cells (Greatest c)) in
      crossed (cells (Least c)) (value_in r c) (is_true (cells (Least c)) (and_true a b (not_false (kleene_and a b) e)).0)
      (is_false (value_in r c) (not_true (truth_in (value_in r c)) h)) (fit.least c r i)

  null_sound : (c : Column) → Refutes (worth cells (has_blanks c)) (truth_of (Values.is_null (value_in r c)))
  unfolding Refutes
  null_sound c e h = blanks_gone cells rows fit r i c e (truth_true (Values.is_null (value_in r c)) h)

  not_null_sound : (c : Column) → Refutes (worth cells (has_values c)) (kleene_not (truth_of (Values.is_null (value_in r c))))
  unfolding Refutes
  not_null_sound c e h = values_gone cells rows fit r i c e (truth_false (Values.is_null (value_in r c)) (not_true (truth_of (Values.is_null (value_in r c))) h))

  turned_sound : (c : Column) (t : Turned) (x : Truth) → ((p : Operator) (l : Value) → t ≡ asks p l → x ≡ True → compared p (value_in r c) l ≡ True)
      → Refutes (worth cells (turned_form c t)) x
  unfolding Refutes
  turned_sound c (asks p l) x means e h = comparison_sound cells rows fit r i c p l e (means p l refl h)
  turned_sound c stays x means e h = unhandled_sound cells x e h

  -- LIKE: the row's text and the pattern are UTF-8
  bounded_sound : (c : Column) (s p : List ℕ) (upper : Option (List ℕ)) → upper_of p ≡ upper → value_in r c ≡ text s → Utf8 s → Utf8 p
      → Refutes (worth cells (bounded_form c (prefix_of false p) upper)) (truth_of (like_text p s))
  unfolding Refutes
  bounded_sound c s p none b q us up e h = unhandled_sound cells (truth_of (like_text p s)) e h
  bounded_sound c s p (some u) b q us up e h = like_sound cells rows fit r i c s p u q us up b e (truth_true _ h)

  like_value_lem : (c : Column) (type : ℕ) (v p : Value) → value_in r c ≡ v → OfType type v → Pattern p
      → Refutes (worth cells (like_table false c p)) (like_value v p)
  unfolding Refutes
  like_value_lem c type null p q t u e h = unknown_true h
  like_value_lem c type (int z) p q t u e h = unknown_true h
  like_value_lem c type (truth b) p q t u e h = unknown_true h
  like_value_lem c type (text s) null q t u e h = unknown_true h
  like_value_lem c type (text s) (int z) q t u e h = unknown_true h
  like_value_lem c type (text s) (truth b) q t u e h = unknown_true h
  like_value_lem c type (text s) (text p) q t u e h = bounded_sound c s p (upper_of p) refl q t.1 u.0 e h

  -- NOT LIKE is unhandled
  like_leaf : (b : Bool) (c : Column) (type : ℕ) (p : Value) → OfType type (value_in r c) → Pattern p
      → Refutes (worth cells (like_table b c p)) (unless b (like_value (value_in r c) p))
  like_leaf true c type p t u = unhandled_sound cells (kleene_not (like_value (value_in r c) p))
  like_leaf false c type p t u = like_value_lem c type (value_in r c) p refl t u

-- ---- lists

-- a list with no member left leaves a join as true as it was
listed_none : (b : Bool) (v : Value) (x : Truth) → kleene (list_joining b) x (listed b v []) ≡ True → x ≡ True
listed_none true v x h = (and_true x True h).0
listed_none false v x h = ⊎_elim (λ p. p) (λ p. false_true p) (or_true x False h)

listed_more : (b : Bool) (v k : Value) (ks : List Value) → listed b v (k ∷ ks) ≡ kleene (list_joining b) (compared (list_operator b) v k) (listed b v ks)
listed_more true v k ks = refl
listed_more false v k ks = refl

module _ (schema : List ℕ) (cells : Cells) (rows : List Row) (fit : FitCells cells rows) (r : Row) (i : In r rows) (typed : RowOf schema r) where
  comparison_leaf : (o : Operator) (c : Column) (n : ℕ) (first : Bool) (k : Value)
      → Refutes (worth cells (comparison_table schema o c n first k)) (compared_from first o (flips n (value_in r c)) k)
  comparison_leaf o c n first k =
      turned_sound cells rows fit r i c (turned (type_in schema c.0) o n first k) (compared_from first o (flips n (value_in r c)) k)
      (λ p l e h. turned_means (type_in schema c.0) o n first k (value_in r c) p l (typed c) e h)

  member : (b : Bool) (c : Column) (n : ℕ) (k : Value)
      → Refutes (worth cells (comparison_table schema (list_operator b) c n false k)) (compared (list_operator b) (flips n (value_in r c)) k)
  member true c n k = comparison_leaf NotEqual c n false k
  member false c n k = comparison_leaf Equal c n false k

  -- members joined from the left; the list's meaning is joined from the right
  members_sound : (b : Bool) (c : Column) (n : ℕ) (t : Table) (x : Truth) (ks : List Value) → Refutes (worth cells t) x
      → Refutes (worth cells (members_table schema b c n t ks)) (kleene (list_joining b) x (listed b (flips n (value_in r c)) ks))
  unfolding members_table Refutes
  members_sound b c n t x [] f e h = f e (listed_none b (flips n (value_in r c)) x h)
  members_sound b c n t x (k ∷ ks) f e h =
      let j = list_joining b in
      let v = flips n (value_in r c) in
      let m = comparison_table schema (list_operator b) c n false k in
      members_sound b c n (joined j t m) (kleene j x (compared (list_operator b) v k)) ks
      (λ p q. refutes_both j (worth cells t) (worth cells m) x (compared (list_operator b) v k) f (member b c n k) (joined_worth cells j t m ∙ p) q)
      e (regrouped j x (compared (list_operator b) v k) (listed b v ks) (subst (λ y. kleene j x y ≡ True) (listed_more b v k ks) h))

  nested_sound : (b : Bool) (c : Column) (n : ℕ) (ks : List Value) → Refutes (worth cells (nested_table schema b c n ks)) (listed b (flips n (value_in r c)) ks)
  unfolding Refutes
  nested_sound b c n [] e h = unhandled_sound cells (listed b (flips n (value_in r c)) []) e h
  nested_sound b c n (k ∷ ks) e h =
      members_sound b c n (comparison_table schema (list_operator b) c n false k) (compared (list_operator b) (flips n (value_in r c)) k) ks (member b c n k) e
      (sym (listed_more b (flips n (value_in r c)) k ks) ∙ h)

  list_leaf : (b : Bool) (c : Column) (n : ℕ) (ks : List Value) (within : Bool)
      → Refutes (worth cells (cond within (nested_table schema b c n ks) unhandled)) (listed b (flips n (value_in r c)) ks)
  list_leaf b c n ks true = nested_sound b c n ks
  list_leaf b c n ks false = unhandled_sound cells (listed b (flips n (value_in r c)) ks)

  constant_leaf : (t : Truth) → Refutes (worth cells (constant_table t)) t
  unfolding Refutes worth
  constant_leaf False e h = false_true h
  constant_leaf Unknown e h = unknown_true h
  constant_leaf True e h = false_true (sym e)

  not_leaf : (p : Predicate) → Refutes (worth cells (not_table p)) (kleene_not (meaning r p))
  unfolding meaning worth
  not_leaf (constant t) = unhandled_sound cells (kleene_not t)
  not_leaf (join j l q) = unhandled_sound cells (kleene_not (kleene j (meaning r l) (meaning r q)))
  not_leaf (not p) = unhandled_sound cells (kleene_not (kleene_not (meaning r p)))
  not_leaf (column c) = not_column_sound cells rows fit r i c
  not_leaf (is_null c) = unhandled_sound cells _
  not_leaf (is_not_null c) = unhandled_sound cells _
  not_leaf (comparison o c n b v) = unhandled_sound cells _
  not_leaf (list b c n vs) = unhandled_sound cells _
  not_leaf (like b c v) = unhandled_sound cells _

  -- ---- the theorem

  pub rewriting_sound : (limit : ℕ) (p : Predicate) → Fine schema p → Refutes (worth cells (rewritten limit schema p)) (meaning r p)
  unfolding rewritten meaning worth
  rewriting_sound limit (constant t) f = constant_leaf t
  rewriting_sound limit (join j l q) f =
      subst (λ t. Refutes t (kleene j (meaning r l) (meaning r q))) (joined_worth cells j (rewritten limit schema l) (rewritten limit schema q))
      (refutes_both j (worth cells (rewritten limit schema l)) (worth cells (rewritten limit schema q)) (meaning r l) (meaning r q)
      (rewriting_sound limit l f.0) (rewriting_sound limit q f.1))
  rewriting_sound limit (not p) f = not_leaf p
  rewriting_sound limit (column c) f = column_sound cells rows fit r i c
  rewriting_sound limit (is_null c) f = null_sound cells rows fit r i c
  rewriting_sound limit (is_not_null c) f = not_null_sound cells rows fit r i c
  rewriting_sound limit (comparison o c n b v) f = comparison_leaf o c n b v
  rewriting_sound limit (list b c n vs) f = list_leaf b c n vs (leb (length vs) limit)
  rewriting_sound limit (like b c v) f = like_leaf cells rows fit r i b c (type_in schema c.0) v (typed c) f.1
