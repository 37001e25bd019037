-- Constants, a literal that fits a word, and what a join's sides come to says how it folds. Assumes nothing.
use mathlib.Core.Path.{◌≡◌, refl, sym, subst}
use mathlib.Core.Bool.{true}
use mathlib.Core.List.{List}
use Prim.Native.Nat.{ℕ, zero, suc, ◌+◌, ◌-◌, ◌<◌}
use native.Mathlib.Omega.{arith}
use lib.ListN.{get_or}
use Rattle.words.specs.declared.Walked.{Walked}
use Rattle.kleene.specs.declared.Truth.{Truth}
use Rattle.kleene.specs.declared.Truth.TheVariants.{False, Unknown, True}
use Rattle.kleene.specs.declared.Joining.{Joining}
use Rattle.literals.specs.Literals.{LiteralFits}
use Rattle.predicate.specs.Nodes.{node_of}
use Rattle.predicate.specs.Predicates.{Read, node_at}
use Rattle.predicate.specs.declared.Node.{Node}
use Rattle.predicate.specs.declared.Node.TheVariants.{Constant, Join, Not, TruthColumn, IsNull, IsNotNull, Comparison, List as InList, Like}
use Rattle.walking.specs.Places.{node_each}
use Rattle.table.specs.declared.Folded.{Folded}
use Rattle.table.specs.declared.Known.{Known}
use Rattle.table.specs.Tables.{always, folds, folded}
use Rattle.table.specs.Rewriting.{constant_table, rewritten}
use Rattle.folding.specs.Folds.{part_of}
use Rattle.writing.specs.WritingLaws.{literal_fits}
use Rattle.emitting.specs.Joins.{join_table}

pub fall : (d t : ℕ) → (d ≡ 0 → ⊥) → d ≡ t → d - 1 < t
fall zero t h e = absurd (h refl)
fall (suc d) t h e = omega arith

pub constant_other : (t : Truth) → (t ≡ False → ⊥) → constant_table t ≡ always true
constant_other False h = absurd (h refl)
constant_other Unknown h = refl
constant_other True h = refl

-- ---- a comparison's literal fits a word

abbrev pub NodeFits : Node → Type 0
NodeFits (Constant t) = Unit {0}
NodeFits (Join j) = Unit {0}
NodeFits Not = Unit {0}
NodeFits (TruthColumn c) = Unit {0}
NodeFits (IsNull c) = Unit {0}
NodeFits (IsNotNull c) = Unit {0}
NodeFits (Comparison o c n b l) = LiteralFits l
NodeFits (InList b c n k) = Unit {0}
NodeFits (Like b c l) = Unit {0}

node_fits : (pool : List ℕ) (w l : ℕ) → NodeFits (node_of pool w l)
node_fits pool w l =
    node_each NodeFits pool w l (λ t. tt) (λ j. tt) tt (λ c. tt) (λ c. tt) (λ c. tt) (λ o c n b. literal_fits pool l) (λ b c n. tt) (λ b c. tt)

pub read_fits : (pool ws : List ℕ) (at : ℕ) (n : Node) → n ≡ node_at pool ws at → NodeFits n
read_fits pool ws at n e = subst NodeFits (sym e) (node_fits pool (get_or ws at 0) (get_or ws (at + 1) 0))

-- ---- a join

pub join_is : (limit : ℕ) (schema : List ℕ) (f : ℕ → Read) (at : ℕ) (j : Joining) (l r : Walked Known) (x : Folded) → l ≡ part_of limit schema (f at)
    → r ≡ part_of limit schema (f l.next) → x ≡ folds j l.value r.value
    → join_table limit schema f at j ≡ folded x j (rewritten limit schema (f at).predicate) (rewritten limit schema (f l.next).predicate)
join_is limit schema f at j l r x e g h = rw (h, g, e)
