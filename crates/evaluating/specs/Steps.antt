-- One node on a row of cells, without its children, and what it says of the table that it begins. Assumes nothing.
use Rattle.std.specs.Prelude.{◌≡◌, Option, None, Some, Bool, true, false, List, ℕ, ◌+◌, ◌-◌, ◌/◌, ◌≤◌, ◌<◌, length, get_or, eqb, pos}
use Rattle.std.proofs.Math.Path.{refl, ap}
use Rattle.std.proofs.Common.{sym, ◌∙◌}
use Rattle.std.proofs.Math.ListN.{get_or-eq_default}
use Rattle.std.proofs.lemmas.Bool.{false≢true}
use native.Mathlib.Omega.{arith}
use Rattle.words.specs.Word.{words_of}
use Rattle.words.specs.WordLaws.{length_words}
use Rattle.words.specs.declared.Walked.{Walked}
use Rattle.operators.specs.Operators.{operator_of}
use Rattle.operators.specs.declared.Operator.TheVariants.{NotEqual, Above}
use Rattle.kleene.specs.Truths.{truth_of, kleene, kleene_not}
use Rattle.kleene.specs.declared.Truth.{Truth}
use Rattle.kleene.specs.declared.Truth.TheVariants.{False, Unknown, True}
use Rattle.kleene.specs.declared.Joining.{Joining}
use Rattle.kleene.specs.declared.Joining.TheVariants.{And, Or}
use Rattle.literals.specs.Literals.{Value, int, value_of, value_at}
use Rattle.orders.specs.Values.{compared, compared_from, truth_in}
use Rattle.predicate.specs.Nodes.{or_equal}
use Rattle.statistics.specs.ListLaws.{Distinct}
use Rattle.statistics.specs.declared.Place.{Place}
use Rattle.statistics.specs.declared.Statistic.{Statistic}
use Rattle.table.specs.Worth.{worth}
use Rattle.table.specs.Encoding.{kinds, kind_named}
use Rattle.table.specs.declared.Kind.{Kind as KindOf}
use Rattle.table.specs.declared.Kind.TheVariants as Kind
use Rattle.pruning.specs.TableReading.{kind_of, operator_field, literal_first_field, first_of, second_of, TableRead, table_node_of, node_table, table_node_at, table_at, table_node}
use Rattle.pruning.specs.NodeLaws.{node_by, node_kinds}
use Rattle.pruning.specs.declared.TableNode.{TableNode}
use Rattle.pruning.specs.declared.TableNode.TheVariants.{Always, Join, Against, Positive, Differ, Holds, Negation}
use Rattle.pruning.specs.Cells.{count_at}
use Rattle.comparing.specs.Comparing.{Asks}
use Rattle.evaluating.specs.declared.Step.{Step}
use Rattle.evaluating.specs.declared.Step.TheVariants.{Leaf, Both, Turned}
use Rattle.evaluating.specs.Rows.{row_cells, valued, bound_cell, blanks_cell, rows_cell}
use Rattle.evaluating.specs.Ready.{NodeReady, behind, TableReady, ready_deep, ready_inside, ready_node, Ready}

-- the value, and the count, at a place of a row
abbrev pub bound_in : List ℕ → List ℕ → Place → Value
bound_in cells row p = value_at cells (get_or row p.0 0)

abbrev pub count_in : List ℕ → List ℕ → Place → Value
count_in cells row p = count_at cells (get_or row p.0 0)

-- what a leaf is worth and how many words it has, or what is done with the children
abbrev pub step_of : List ℕ → List ℕ → List ℕ → TableNode → Step
step_of cells row pool (Always b) = Leaf (truth_of b) 1
step_of cells row pool (Join j) = Both j
step_of cells row pool (Against o p b l) = Leaf (compared_from b o (bound_in cells row p) (value_of pool l)) 2
step_of cells row pool (Positive p) = Leaf (compared Above (count_in cells row p) (int (pos 0))) 1
step_of cells row pool (Differ p q) = Leaf (compared NotEqual (count_in cells row p) (count_in cells row q)) 1
step_of cells row pool (Holds p) = Leaf (truth_in (bound_in cells row p)) 1
step_of cells row pool Negation = Turned

-- a comparison's operator is one that is asked of an order
abbrev pub NodeAsks : TableNode → Type 0
NodeAsks (Always b) = Unit {0}
NodeAsks (Join j) = Unit {0}
NodeAsks (Against o p b l) = Asks o
NodeAsks (Positive p) = Unit {0}
NodeAsks (Differ p q) = Unit {0}
NodeAsks (Holds p) = Unit {0}
NodeAsks Negation = Unit {0}

-- a table that is ready under some statistics list
pub record Evaluable (pool ws : List ℕ) (d at : ℕ) : Type 0 where
  pub list : List Statistic
  pub ready : Ready list pool ws d at

-- some depth is left, and the node's word is there
pub evaluable_deep : (pool ws : List ℕ) (d at : ℕ) → Evaluable pool ws d at → 1 ≤ d
evaluable_deep pool ws d at s = let h = ready_deep _ _ _ _ _ s.ready.table in omega arith

pub evaluable_inside : (pool table : List ℕ) (d at : ℕ) → Evaluable pool (words_of table) d at → at < length table / 8
evaluable_inside pool table d at s = rw length_words at (ready_inside _ _ _ _ _ s.ready.table)

-- what a table is worth, and the place behind it, under every statistics list that it is ready under
abbrev pub WorthFor : List ℕ → List ℕ → List ℕ → List ℕ → ℕ → ℕ → Walked Truth → Type 0
WorthFor cells row pool ws d at r =
    (list : List Statistic) → Ready list pool ws d at → r ≡ valued (row_cells cells list row) (table_at list pool ws d at)

-- whether the first of two sides decides, whatever the second is
abbrev pub settled : Joining → Truth → Bool
settled And False = true
settled And Unknown = false
settled And True = false
settled Or False = false
settled Or Unknown = false
settled Or True = true

pub settled_is : (j : Joining) (a b : Truth) → settled j a ≡ true → kleene j a b ≡ a
settled_is And False False h = refl
settled_is And False Unknown h = refl
settled_is And False True h = refl
settled_is And Unknown b h = absurd (false≢true h)
settled_is And True b h = absurd (false≢true h)
settled_is Or False b h = absurd (false≢true h)
settled_is Or Unknown b h = absurd (false≢true h)
settled_is Or True False h = refl
settled_is Or True Unknown h = refl
settled_is Or True True h = refl

-- ---- by the kind of the node's word

module _ (cells row pool : List ℕ) (w l : ℕ) where
  pub step_kinds : step_of cells row pool (table_node_of pool w l) ≡ step_of cells row pool (node_by pool w l (kind_named (kind_of w)))
  step_kinds = ap (step_of cells row pool) (node_kinds pool w l)

  abbrev step : Step
  step = step_of cells row pool (table_node_of pool w l)

  pub step_always : kind_of w ≡ 0 → step ≡ Leaf (truth_of (eqb (operator_field w) 1)) 1
  unfolding table_node_of
  step_always h = rw h

  pub step_and : kind_of w ≡ 1 → step ≡ Both And
  unfolding table_node_of
  step_and h = rw h

  pub step_or : kind_of w ≡ 2 → step ≡ Both Or
  unfolding table_node_of
  step_or h = rw h

  pub step_against : kind_of w ≡ 3
      → step ≡ Leaf (compared_from (eqb (literal_first_field w) 1) (or_equal (operator_of (operator_field w))) (bound_in cells row (first_of w)) (value_at pool l)) 2
  unfolding table_node_of
  step_against h = rw h

  pub step_positive : kind_of w ≡ 4 → step ≡ Leaf (compared Above (count_in cells row (first_of w)) (int (pos 0))) 1
  unfolding table_node_of
  step_positive h = rw h

  pub step_differ : kind_of w ≡ 5 → step ≡ Leaf (compared NotEqual (count_in cells row (first_of w)) (count_in cells row (second_of w))) 1
  unfolding table_node_of
  step_differ h = rw h

  pub step_holds : kind_of w ≡ 6 → step ≡ Leaf (truth_in (bound_in cells row (first_of w))) 1
  unfolding table_node_of
  step_holds h = rw h

  pub step_turned : kind_of w ≡ 7 → step ≡ Turned
  unfolding table_node_of
  step_turned h = rw h

  pub step_other : 8 ≤ kind_of w → step ≡ Leaf True 1
  step_other h = step_kinds ∙ ap (λ (k : Option KindOf). step_of cells row pool (node_by pool w l k)) (get_or-eq_default kinds None h)

-- the operator of a comparison
pub against_asks : (pool : List ℕ) (w l : ℕ) → kind_named (kind_of w) ≡ Some Kind.Against → NodeAsks (table_node_of pool w l) → Asks (or_equal (operator_of (operator_field w)))
against_asks pool w l h a = rw (node_kinds, h) at a

-- ---- a step's parts

leaf_worth : Step → Truth
leaf_worth (Leaf t n) = t
leaf_worth (Both j) = Unknown
leaf_worth Turned = Unknown

leaf_words : Step → ℕ
leaf_words (Leaf t n) = n
leaf_words (Both j) = 0
leaf_words Turned = 0

join_in : Step → Joining
join_in (Leaf t n) = And
join_in (Both j) = j
join_in Turned = And

-- ---- the node of a step

node_asks : (list : List Statistic) (f : ℕ → Type 0) (g : ℕ → ℕ) (at : ℕ) (n : TableNode) → NodeReady list f g at n → NodeAsks n
node_asks list f g at (Always b) r = tt
node_asks list f g at (Join j) r = tt
node_asks list f g at (Against o p b l) r = r.0
node_asks list f g at (Positive p) r = tt
node_asks list f g at (Differ p q) r = tt
node_asks list f g at (Holds p) r = tt
node_asks list f g at Negation r = tt

module _ (cells row pool : List ℕ) where
  node_both : (j : Joining) (n : TableNode) → Both j ≡ step_of cells row pool n → n ≡ Join j
  unfolding join_in
  node_both j (Always b) e = cc
  node_both j (Join i) e = ap Join (sym (ap join_in e))
  node_both j (Against o p b l) e = cc
  node_both j (Positive p) e = cc
  node_both j (Differ p q) e = cc
  node_both j (Holds p) e = cc
  node_both j Negation e = cc

  node_turned : (n : TableNode) → Turned ≡ step_of cells row pool n → n ≡ Negation
  node_turned (Always b) e = cc
  node_turned (Join i) e = cc
  node_turned (Against o p b l) e = cc
  node_turned (Positive p) e = cc
  node_turned (Differ p q) e = cc
  node_turned (Holds p) e = cc
  node_turned Negation e = refl

  pub leaf_short : (n : TableNode) (t : Truth) (k : ℕ) → Leaf t k ≡ step_of cells row pool n → k ≤ 2
  unfolding leaf_words
  leaf_short n t k e = rw (ap leaf_words e) (go n)
    where
      go : (n : TableNode) → leaf_words (step_of cells row pool n) ≤ 2
      go (Always b) = omega arith
      go (Join j) = omega arith
      go (Against o p b l) = omega arith
      go (Positive p) = omega arith
      go (Differ p q) = omega arith
      go (Holds p) = omega arith
      go Negation = omega arith

  module _ (list : List Statistic) (d : Distinct list) (f : ℕ → TableRead) (F : ℕ → Type 0) (g : ℕ → ℕ) (at : ℕ) where
    abbrev worth_at : TableNode → Walked Truth
    worth_at n = valued (row_cells cells list row) (node_table f list pool at n)

    abbrev leaf_at : Step → Walked Truth
    leaf_at s = record { value = leaf_worth s; next = at + leaf_words s }

    node_leaf : (n : TableNode) → NodeReady list F g at n → (t : Truth) (k : ℕ) → Leaf t k ≡ step_of cells row pool n → leaf_at (step_of cells row pool n) ≡ worth_at n
    unfolding worth leaf_worth leaf_words
    node_leaf (Always b) r t k e = refl
    node_leaf (Join j) r t k e = cc
    node_leaf (Against o p b l) r t k e = rw (bound_cell cells list row d p r.1)
    node_leaf (Positive p) r t k e = rw (blanks_cell cells list row d p r)
    node_leaf (Differ p q) r t k e = rw (blanks_cell cells list row d p r.0, rows_cell cells list row d q r.1)
    node_leaf (Holds p) r t k e = rw (bound_cell cells list row d p r)
    node_leaf Negation r t k e = cc

-- ---- the table of a step

module _ (cells row pool ws : List ℕ) (d at : ℕ) (list : List Statistic) (r : Ready list pool ws d at) where
  abbrev node : TableNode
  node = table_node_at pool ws at

  here : (n : TableNode) → n ≡ node → table_at list pool ws d at ≡ node_table (table_at list pool ws (d - 1)) list pool at n
  here n e = table_node list pool ws d at (ready_deep list pool ws d at r.table) n e

  there : (n : TableNode) → n ≡ node → NodeReady list (TableReady list pool ws (d - 1)) (behind list pool ws (d - 1)) at n
  there n e = ready_node list pool ws d at r.table n e

  pub ready_asks : NodeAsks node
  ready_asks = node_asks list (TableReady list pool ws (d - 1)) (behind list pool ws (d - 1)) at node (there node refl)

  pub leaf_worth_lem : (t : Truth) (k : ℕ) → Leaf t k ≡ step_of cells row pool node
      → record { value = t; next = at + k } ≡ valued (row_cells cells list row) (table_at list pool ws d at)
  unfolding leaf_worth leaf_words
  leaf_worth_lem t k e =
      ap (λ (s : Step). leaf_at cells row pool list r.distinct (table_at list pool ws (d - 1)) (TableReady list pool ws (d - 1)) (behind list pool ws (d - 1)) at s) e
      ∙ rw (here node refl) (node_leaf cells row pool list r.distinct (table_at list pool ws (d - 1)) (TableReady list pool ws (d - 1)) (behind list pool ws (d - 1)) at node (there node refl) t k e)

  pub leaf_end : (t : Truth) (k : ℕ) → Leaf t k ≡ step_of cells row pool node → at + k ≡ behind list pool ws d at
  leaf_end t k e = ap (λ (v : Walked Truth). v.next) (leaf_worth_lem t k e)

  module _ (j : Joining) (e : Both j ≡ step_of cells row pool node) where
    both_is : Join j ≡ node
    both_is = sym (node_both cells row pool j node e)

    pub both_left : Ready list pool ws (d - 1) (at + 1)
    both_left = record { distinct = r.distinct; table = (there (Join j) both_is).0 }

    pub both_right : (x : Walked Truth) → x ≡ valued (row_cells cells list row) (table_at list pool ws (d - 1) (at + 1)) → Ready list pool ws (d - 1) x.next
    both_right x p = record { distinct = r.distinct; table = rw p (there (Join j) both_is).1 }

    pub both_worth : (x y : Walked Truth) → x ≡ valued (row_cells cells list row) (table_at list pool ws (d - 1) (at + 1))
        → y ≡ valued (row_cells cells list row) (table_at list pool ws (d - 1) x.next)
        → record { value = kleene j x.value y.value; next = y.next } ≡ valued (row_cells cells list row) (table_at list pool ws d at)
    unfolding worth
    both_worth x y p q = rw (here (Join j) both_is, q, p)

    pub both_next : (x : ℕ) → x ≡ behind list pool ws (d - 1) (at + 1) → Ready list pool ws (d - 1) x
    both_next x p = record { distinct = r.distinct; table = rw p (there (Join j) both_is).1 }

    pub both_end : (x y : ℕ) → x ≡ behind list pool ws (d - 1) (at + 1) → y ≡ behind list pool ws (d - 1) x → y ≡ behind list pool ws d at
    both_end x y p q = q ∙ ap (behind list pool ws (d - 1)) p ∙ sym (ap (λ (t : TableRead). t.next) (here (Join j) both_is))

  module _ (e : Turned ≡ step_of cells row pool node) where
    turned_is : Negation ≡ node
    turned_is = sym (node_turned cells row pool node e)

    pub turned_child : Ready list pool ws (d - 1) (at + 1)
    turned_child = record { distinct = r.distinct; table = there Negation turned_is }

    pub turned_worth : (x : Walked Truth) → x ≡ valued (row_cells cells list row) (table_at list pool ws (d - 1) (at + 1))
        → record { value = kleene_not x.value; next = x.next } ≡ valued (row_cells cells list row) (table_at list pool ws d at)
    unfolding worth
    turned_worth x p = rw (here Negation turned_is, p)

    pub turned_end : (x : ℕ) → x ≡ behind list pool ws (d - 1) (at + 1) → x ≡ behind list pool ws d at
    turned_end x p = p ∙ sym (ap (λ (t : TableRead). t.next) (here Negation turned_is))
