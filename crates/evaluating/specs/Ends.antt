-- The place behind a table, by the kinds of its words alone. Assumes nothing.
use Rattle.std.specs.Prelude.{◌≡◌, refl, Bool, true, false, Option, Some, List, [], ℕ, zero, suc, ◌+◌, ◌-◌, ◌/◌, ◌≤◌, ◌<◌, length, get_or}
use Rattle.std.proofs.Common.{sym, ap, ◌∙◌, arith}
use Rattle.std.proofs.lemmas.Bool.{false≢true}
use Rattle.words.specs.Word.{words_of}
use Rattle.words.specs.WordLaws.{length_words}
use Rattle.kleene.specs.declared.Truth.{Truth}
use Rattle.kleene.specs.declared.Joining.{Joining}
use Rattle.kleene.specs.declared.Joining.TheVariants.{And, Or}
use Rattle.statistics.specs.declared.Statistic.{Statistic}
use Rattle.table.specs.Encoding.{kind_named}
use Rattle.table.specs.declared.Kind.{Kind}
use Rattle.table.specs.declared.Kind.TheVariants as Kinds
use Rattle.pruning.specs.TableReading.{kind_of, table_node_at}
use Rattle.pruning.specs.NodeLaws.{node_by}
use Rattle.evaluating.specs.declared.Step.{Step}
use Rattle.evaluating.specs.declared.Step.TheVariants.{Leaf, Both, Turned}
use Rattle.evaluating.specs.Ready.{behind, Ready, ready_deep, ready_inside}
use Rattle.evaluating.specs.Steps.{step_of, step_kinds, step_always, step_and, step_or, step_against, step_positive, step_differ, step_holds, step_turned, step_other, leaf_end, both_left, both_next, both_end, turned_child, turned_end}

-- a table that is ready under some statistics list and pool
pub record Skippable (ws : List ℕ) (d at : ℕ) : Type 0 where
  pub list : List Statistic
  pub pool : List ℕ
  pub ready : Ready list pool ws d at

-- the place behind a table, under every list and pool that it is ready under
abbrev pub EndFor : List ℕ → ℕ → ℕ → ℕ → Type 0
EndFor ws d at n = (list : List Statistic) (pool : List ℕ) → Ready list pool ws d at → n ≡ behind list pool ws d at

-- some depth is left, and the word is there
pub skippable_deep : (ws : List ℕ) (d at : ℕ) → Skippable ws d at → 1 ≤ d
skippable_deep ws d at s = let h = ready_deep _ _ _ _ _ s.ready.table in omega arith

pub skippable_inside : (table : List ℕ) (d at : ℕ) → Skippable (words_of table) d at → at < length table / 8
skippable_inside table d at s = rw length_words at (ready_inside _ _ _ _ _ s.ready.table)

-- ---- by the kind of the word at the place

-- kinds with two children, and kinds of one word and none
abbrev pub joins : Kind → Bool
joins Kinds.And = true
joins Kinds.Or = true
joins k = false

abbrev pub bare : Kind → Bool
bare Kinds.Always = true
bare Kinds.Positive = true
bare Kinds.Differ = true
bare Kinds.Holds = true
bare k = false

module _ (pool ws : List ℕ) (at : ℕ) where
  abbrev pub step_by : Option Kind → Step
  step_by k = step_of [] [] pool (node_by pool (get_or ws at 0) (get_or ws (at + 1) 0) k)

  way_of : (k : Kind) → joins k ≡ true → (j : Joining) × (Both j ≡ step_by (Some k))
  way_of Kinds.And h = (And, refl)
  way_of Kinds.Or h = (Or, refl)
  way_of Kinds.Always h = absurd (false≢true h)
  way_of Kinds.Against h = absurd (false≢true h)
  way_of Kinds.Positive h = absurd (false≢true h)
  way_of Kinds.Differ h = absurd (false≢true h)
  way_of Kinds.Holds h = absurd (false≢true h)
  way_of Kinds.Negation h = absurd (false≢true h)

  worth_of : (k : Kind) → bare k ≡ true → (t : Truth) × (Leaf t 1 ≡ step_by (Some k))
  worth_of Kinds.Always h = (_, refl)
  worth_of Kinds.Positive h = (_, refl)
  worth_of Kinds.Differ h = (_, refl)
  worth_of Kinds.Holds h = (_, refl)
  worth_of Kinds.And h = absurd (false≢true h)
  worth_of Kinds.Or h = absurd (false≢true h)
  worth_of Kinds.Against h = absurd (false≢true h)
  worth_of Kinds.Negation h = absurd (false≢true h)

  module _ (d : ℕ) (list : List Statistic) (r : Ready list pool ws d at) (o : Option Kind) (e : o ≡ kind_named (kind_of (get_or ws at 0))) where
    here : step_by o ≡ step_of [] [] pool (table_node_at pool ws at)
    here = ap step_by e ∙ sym (step_kinds [] [] pool (get_or ws at 0) (get_or ws (at + 1) 0))

    pub word_end : (t : Truth) (n : ℕ) → Leaf t n ≡ step_by o → at + n ≡ behind list pool ws d at
    word_end t n h = leaf_end [] [] pool ws d at list r t n (h ∙ here)

    pub bare_end : (k : Kind) → o ≡ Some k → bare k ≡ true → at + 1 ≡ behind list pool ws d at
    bare_end k q h = let w = worth_of k h in word_end w.0 1 (w.1 ∙ ap step_by (sym q))

    module _ (k : Kind) (q : o ≡ Some k) (h : joins k ≡ true) where
      both : Both (way_of k h).0 ≡ step_of [] [] pool (table_node_at pool ws at)
      both = (way_of k h).1 ∙ ap step_by (sym q) ∙ here

      pub first_ready : Ready list pool ws (d - 1) (at + 1)
      first_ready = both_left [] [] pool ws d at list r _ both

      pub second_ready : (x : ℕ) → x ≡ behind list pool ws (d - 1) (at + 1) → Ready list pool ws (d - 1) x
      second_ready x p = both_next [] [] pool ws d at list r _ both x p

      pub second_end : (x y : ℕ) → x ≡ behind list pool ws (d - 1) (at + 1) → y ≡ behind list pool ws (d - 1) x → y ≡ behind list pool ws d at
      second_end x y p s = both_end [] [] pool ws d at list r _ both x y p s

    module _ (q : Turned ≡ step_by o) where
      pub child_ready : Ready list pool ws (d - 1) (at + 1)
      child_ready = turned_child [] [] pool ws d at list r (q ∙ here)

      pub child_end : (x : ℕ) → x ≡ behind list pool ws (d - 1) (at + 1) → x ≡ behind list pool ws d at
      child_end x p = turned_end [] [] pool ws d at list r (q ∙ here) x p

-- ---- by the number of that kind

module _ (ws pool : List ℕ) (at : ℕ) where
  abbrev word : ℕ
  word = get_or ws at 0

  abbrev behind_it : ℕ
  behind_it = get_or ws (at + 1) 0

  pub and_step : kind_of word ≡ 1 → Both And ≡ step_of [] [] pool (table_node_at pool ws at)
  and_step h = sym (step_and [] [] pool word behind_it h)

  pub or_step : kind_of word ≡ 2 → Both Or ≡ step_of [] [] pool (table_node_at pool ws at)
  or_step h = sym (step_or [] [] pool word behind_it h)

  pub turned_step : kind_of word ≡ 7 → Turned ≡ step_of [] [] pool (table_node_at pool ws at)
  turned_step h = sym (step_turned [] [] pool word behind_it h)

  module _ (d : ℕ) (list : List Statistic) (r : Ready list pool ws d at) where
    pub against_end : kind_of word ≡ 3 → at + 2 ≡ behind list pool ws d at
    against_end h = leaf_end [] [] pool ws d at list r _ 2 (sym (step_against [] [] pool word behind_it h))

    -- every other leaf has one word
    pub plain_end : (kind_of word ≡ 1 → ⊥) → (kind_of word ≡ 2 → ⊥) → (kind_of word ≡ 3 → ⊥) → (kind_of word ≡ 7 → ⊥) → at + 1 ≡ behind list pool ws d at
    plain_end a b c t = go (kind_of word) refl
      where
        go : (k : ℕ) → kind_of word ≡ k → at + 1 ≡ behind list pool ws d at
        go zero h = leaf_end [] [] pool ws d at list r _ 1 (sym (step_always [] [] pool word behind_it h))
        go (suc zero) h = absurd (a h)
        go (suc (suc zero)) h = absurd (b h)
        go (suc (suc (suc zero))) h = absurd (c h)
        go (suc (suc (suc (suc zero)))) h = leaf_end [] [] pool ws d at list r _ 1 (sym (step_positive [] [] pool word behind_it h))
        go (suc (suc (suc (suc (suc zero))))) h = leaf_end [] [] pool ws d at list r _ 1 (sym (step_differ [] [] pool word behind_it h))
        go (suc (suc (suc (suc (suc (suc zero)))))) h = leaf_end [] [] pool ws d at list r _ 1 (sym (step_holds [] [] pool word behind_it h))
        go (suc (suc (suc (suc (suc (suc (suc zero))))))) h = absurd (t h)
        go (suc (suc (suc (suc (suc (suc (suc (suc k)))))))) h =
            let e : 8 ≤ kind_of word = omega arith in
            leaf_end [] [] pool ws d at list r _ 1 (sym (step_other [] [] pool word behind_it e))
