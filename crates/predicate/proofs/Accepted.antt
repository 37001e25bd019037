-- What follows when checking passes: the predicate that the words stand for fits the schema, and its measures are what checking
-- has counted, within the limits. Assumes nothing.
use Rattle.std.specs.Prelude.{◌≡◌, refl, Bool, true, List, [], ◌∷◌, length, get_or}
use Rattle.std.proofs.Common.{sym, ◌∙◌, arith}
use Rattle.std.proofs.Math.Bool.{false}
use Prim.Native.Nat.{ℕ, zero, suc, ◌+◌}
use Rattle.limits.specs.Limits.{max_depth}
use Rattle.literals.specs.Literals.{Value, value_at, literal_of, text_type}
use Rattle.literals.specs.Suited.{suited}
use Rattle.kleene.specs.declared.Joining.{Joining}
use Rattle.predicate.specs.Nodes.{count_of}
use Rattle.predicate.specs.Predicates.{Predicate, Read, values_at, node_at, node_predicate, then_not, pair_of, predicate_at, length_values}
use Rattle.predicate.specs.Checking.{type_in, after_node, check_literal, check_literals, check_behind, check_from, at_start, predicate_fault}
use Rattle.predicate.specs.CheckingLaws.{Columned, Stands, stands, then_says}
use Rattle.predicate.proofs.CheckingLaws.{NodeSays, literal_passed, zero_passed, node_passed, fault_none}
use Rattle.predicate.specs.declared.Column.{Column}
use Rattle.predicate.specs.declared.Node.{Node}
use Rattle.predicate.specs.declared.Node.TheVariants.{Constant, Join, Not, TruthColumn, IsNull, IsNotNull, Comparison, List as InList, Like}
use Rattle.predicate.specs.declared.Progress.{Progress}
use Rattle.predicate.specs.Checked.{Checked}
use Rattle.predicate.specs.Checked.{Passed}
use Rattle.predicate.specs.Accepted.{Accepted, Fine, Leaf, Literals, Pattern, Whole, fine_columns, leaves_nodes, no_literals, one_more, suited_pattern, suited_value}

module _ (schema pool ws : List ℕ) where
  pub accepted_literal : (pattern : Bool) (c : Column) (s t : Progress) → check_literal schema pool ws pattern c s ≡ Passed t
      → Literals ws (type_in schema c.0) s t (value_at pool (get_or ws s.place 0) ∷ [])
  accepted_literal pattern c s t e =
      let w : ℕ = get_or ws s.place 0 in
      let k : ℕ = type_in schema c.0 in
      let a = literal_passed schema pool ws pattern c s t e in
      let q = a.1 in
      let v = suited_value pool k w q.plain q.small (literal_of pool w) (suited pool k w q.suits) in
      rw (← a.2)
      (record {
        fine = (v.0, tt);
        place = refl;
        inside = λ h. omega (arith, a.0);
        nodes = refl;
        listed = refl;
        bytes = omega (arith, v.1);
        bytes_within = λ h. q.room;
      })

  pub accepted_pattern : (c : Column) (s t : Progress) → check_literal schema pool ws true c s ≡ Passed t → type_in schema c.0 ≡ text_type
      → Pattern (value_at pool (get_or ws s.place 0))
  accepted_pattern c s t e k =
      let w : ℕ = get_or ws s.place 0 in
      let q = (literal_passed schema pool ws true c s t e).1 in
      suited_pattern pool (type_in schema c.0) w q.plain q.small k q.pattern (literal_of pool w) (suited pool (type_in schema c.0) w q.suits)

  pub accepted_literals : (n : ℕ) (c : Column) (s t : Progress) → check_literals schema pool ws n c s ≡ Passed t
      → Literals ws (type_in schema c.0) s t (values_at pool ws n s.place)
  unfolding check_literals values_at
  accepted_literals zero c s t e = no_literals ws (type_in schema c.0) s t (cc e)
  accepted_literals (suc n) c s t e =
      let a = then_says (check_literals schema pool ws n c) (check_literal schema pool ws false c s) t e in
      let x = accepted_literal false c s a.0 a.1 in
      one_more x (rw x.place at (accepted_literals n c a.0 t a.2))

module _ {schema pool ws : List ℕ} {d : ℕ} {s t : Progress} (h : NodeSays schema pool ws (suc d) s) where
  accepted_leaf : {type next : ℕ} {p : Predicate} {vs : List Value} → Literals ws type (after_node s (get_or ws s.place 0)) t vs
      → Leaf p (count_of (get_or ws s.place 0)) vs → next ≡ s.place + 1 + length vs → Fine schema p
      → Accepted schema ws (suc d) s t (record { predicate = p; next = next })
  accepted_leaf x l e f =
      record {
        fine = f;
        next = omega arith;
        place = omega arith;
        inside = x.inside (omega arith);
        depth = omega arith;
        nodes = omega arith;
        listed = omega arith;
        bytes = omega arith;
        nodes_within = omega arith;
        listed_within = omega arith;
        bytes_within = x.bytes_within;
      }

  accepted_not : {r : Read} → count_of (get_or ws s.place 0) ≡ 0 → Accepted schema ws d (after_node s (get_or ws s.place 0)) t r
      → Accepted schema ws (suc d) s t (then_not r)
  accepted_not k x =
      record {
        fine = x.fine;
        next = x.next;
        place = omega arith;
        inside = x.inside;
        depth = omega arith;
        nodes = omega arith;
        listed = omega arith;
        bytes = x.bytes;
        nodes_within = x.nodes_within;
        listed_within = x.listed_within;
        bytes_within = x.bytes_within;
      }

  accepted_pair : {u : Progress} {l r : Read} → count_of (get_or ws s.place 0) ≡ 0 → (j : Joining)
      → Accepted schema ws d (after_node s (get_or ws s.place 0)) u l → Accepted schema ws d u t r → Accepted schema ws (suc d) s t (pair_of j l r)
  accepted_pair k j x y =
      record {
        fine = (x.fine, y.fine);
        next = y.next;
        place = omega arith;
        inside = y.inside;
        depth = omega arith;
        nodes = omega arith;
        listed = omega arith;
        bytes = omega arith;
        nodes_within = y.nodes_within;
        listed_within = y.listed_within;
        bytes_within = λ b. y.bytes_within (x.bytes_within b);
      }

module _ (schema pool ws : List ℕ) where
  -- a node, its children known
  module _ (d : ℕ) (s t : Progress) (h : NodeSays schema pool ws (suc d) s)
      (child : (a b : Progress) → check_from schema pool ws d a ≡ Passed b → Accepted schema ws d a b (predicate_at pool ws d a.place)) where
    abbrev w : ℕ
    w = get_or ws s.place 0

    abbrev on : Progress
    on = after_node s w

    bare : {p : Predicate} → Leaf p (count_of w) [] → Fine schema p → ◌≡◌ {A = Checked} (Passed on) (Passed t)
        → Accepted schema ws (suc d) s t (record { predicate = p; next = s.place + 1 })
    bare l f e = accepted_leaf h (no_literals ws 0 on t (cc e)) l (omega arith) f

    accepted_node : (n : Node) → Stands pool w (get_or ws (s.place + 1) 0) n → Columned schema n
        → check_behind schema pool ws (check_from schema pool ws d) on n ≡ Passed t
        → Accepted schema ws (suc d) s t (node_predicate (predicate_at pool ws d) pool ws s.place n)
    accepted_node (Constant v) k c e = bare (refl, refl, refl, sym k, refl) tt e
    accepted_node (Join j) k c e =
        let a = then_says (check_from schema pool ws d) (check_from schema pool ws d on) t e in
        let x = child on a.0 a.1 in
        rw x.next (accepted_pair h k j x (child a.0 t a.2))
    accepted_node Not k c e = accepted_not h k (child on t e)
    accepted_node (TruthColumn x) k c e = bare (refl, refl, refl, sym k, refl) c e
    accepted_node (IsNull x) k c e = bare (refl, refl, refl, sym k, refl) c e
    accepted_node (IsNotNull x) k c e = bare (refl, refl, refl, sym k, refl) c e
    accepted_node (Comparison o x n b l) k c e =
        let v = accepted_literal schema pool ws false x on t e in
        rw k.1 (accepted_leaf h v (refl, refl, refl, sym k.0, omega arith) (omega arith) (c, v.fine.0))
    accepted_node (InList b x n m) k c e =
        let v = accepted_literals schema pool ws m x on t e in
        let l = length_values pool ws m (s.place + 1) in
        accepted_leaf h v (refl, refl, refl, l ∙ sym k, refl) (omega arith) (c, v.fine)
    accepted_node (Like b x l) k c e =
        let v = accepted_literal schema pool ws true x on t e in
        rw k.1 (accepted_leaf h v (refl, refl, refl, sym k.0, omega arith) (omega arith) (c, accepted_pattern schema pool ws x on t e c))

  pub accepted : (d : ℕ) (s t : Progress) → check_from schema pool ws d s ≡ Passed t → Accepted schema ws d s t (predicate_at pool ws d s.place)
  unfolding predicate_at
  accepted zero s t e = absurd (zero_passed schema pool ws s t e)
  accepted (suc d) s t e =
      let a = node_passed schema pool ws d s t e in
      accepted_node d s t a.0 (accepted d) (node_at pool ws s.place)
      (stands pool (get_or ws s.place 0) (get_or ws (s.place + 1) 0) a.0.shaped) a.0.column a.1

pub whole : (schema pool ws : List ℕ) → predicate_fault schema pool ws ≡ 0 → Whole schema ws (predicate_at pool ws max_depth 0).predicate
whole schema pool ws e =
    let f = fault_none schema pool ws e in
    let a = accepted schema pool ws max_depth (at_start schema pool ws) f.0 f.1 in
    let p : Predicate = (predicate_at pool ws max_depth 0).predicate in
    record {
      fine = a.fine;
      columns = fine_columns schema p a.fine;
      width = omega arith;
      depth = a.depth;
      leaves = leaves_nodes p;
      nodes = omega arith;
      listed = omega arith;
      bytes = omega (arith, a.bytes_within (omega arith));
    }
