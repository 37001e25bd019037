-- Rewritten tables, each statistic named by column and type, and how a join of two folds. Assumes nothing.
use Rattle.std.specs.Prelude.{◌≡◌, refl, Bool, true, false}
use Rattle.operators.specs.declared.Operator.{Operator}
use Rattle.kleene.specs.declared.Joining.{Joining}
use Rattle.kleene.specs.declared.Joining.TheVariants.{And, Or}
use Rattle.literals.specs.Literals.{Value}
use Rattle.statistics.specs.declared.Statistic.{Statistic}
use Rattle.table.specs.declared.Known.{Known}
use Rattle.table.specs.declared.Known.TheVariants.{False, True, Open}
use Rattle.table.specs.declared.Folded.{Folded}
use Rattle.table.specs.declared.Folded.TheVariants.{Fixed, Left, Right, Both}

pub data Table : Type 0 where
  -- false or true
  always : Bool → Table
  both : Joining → Table → Table → Table
  -- a statistic against a literal; whether the literal is written on the left
  against : Operator → Statistic → Bool → Value → Table
  -- blanks > 0
  positive : Statistic → Table
  -- blanks ≠ rows
  differ : Statistic → Statistic → Table
  -- a truth-value statistic
  holds : Statistic → Table
  negation : Table → Table

-- "Unhandled" gives true
abbrev pub unhandled : Table
unhandled = always true

abbrev pub known_bool : Bool → Known
known_bool true = True
known_bool false = False

abbrev pub known : Table → Known
known (always b) = known_bool b
known (both j l r) = Open
known (against o s b v) = Open
known (positive s) = Open
known (differ s t) = Open
known (holds s) = Open
known (negation t) = Open

-- AND: false if either is false; a true side vanishes. OR: dually
abbrev pub folds : Joining → Known → Known → Folded
folds And False r = Fixed false
folds And True r = Right
folds And Open False = Fixed false
folds And Open True = Left
folds And Open Open = Both
folds Or True r = Fixed true
folds Or False r = Right
folds Or Open True = Fixed true
folds Or Open False = Left
folds Or Open Open = Both

abbrev pub folded : Folded → Joining → Table → Table → Table
folded (Fixed b) j l r = always b
folded Left j l r = l
folded Right j l r = r
folded Both j l r = both j l r

abbrev pub joined : Joining → Table → Table → Table
joined j l r = folded (folds j (known l) (known r)) j l r

-- what a fold is known to be, from its sides
abbrev pub known_fold : Folded → Known → Known → Known
known_fold (Fixed b) l r = known_bool b
known_fold Left l r = l
known_fold Right l r = r
known_fold Both l r = Open

pub known_folded : (f : Folded) (j : Joining) (l r : Table) → known (folded f j l r) ≡ known_fold f (known l) (known r)
known_folded (Fixed b) j l r = refl
known_folded Left j l r = refl
known_folded Right j l r = refl
known_folded Both j l r = refl
