-- How large a table is: its levels and its words; and a property of every statistic or literal that it names. Assumes nothing.
use Rattle.std.specs.Prelude.{◌≡◌, refl, List, ℕ, suc, ◌+◌, max, length}
use Rattle.std.proofs.Common.{arith, length-append}
use Rattle.literals.specs.Literals.{Value}
use Rattle.statistics.specs.declared.Statistic.{Statistic}
use Rattle.table.specs.Tables.{Table, always, both, against, positive, differ, holds, negation}
use Rattle.table.specs.Encoding.{pool_of, table_words}

-- levels; the root is 1, a literal is none
abbrev pub table_height : Table → ℕ
table_height (always b) = 1
table_height (both j l r) = suc (max (table_height l) (table_height r))
table_height (against o s b v) = 1
table_height (positive s) = 1
table_height (differ s t) = 1
table_height (holds s) = 1
table_height (negation t) = suc (table_height t)

-- words, literals included
abbrev pub table_width : Table → ℕ
table_width (always b) = 1
table_width (both j l r) = 1 + table_width l + table_width r
table_width (against o s b v) = 2
table_width (positive s) = 1
table_width (differ s t) = 1
table_width (holds s) = 1
table_width (negation t) = 1 + table_width t

pub width_is : (list : List Statistic) (o : ℕ) (t : Table) → length (table_words list o t) ≡ table_width t
unfolding table_words
width_is list o (always b) = refl
width_is list o (both j l r) =
    let a = width_is list o l in
    let b = width_is list (o + length (pool_of l)) r in
    rw (length-append (table_words list o l) (table_words list (o + length (pool_of l)) r)) (omega arith)
width_is list o (against op s b v) = refl
width_is list o (positive s) = refl
width_is list o (differ s t) = refl
width_is list o (holds s) = refl
width_is list o (negation t) = let a = width_is list o t in omega arith

-- P holds of every statistic that a table names
abbrev pub Names : (Statistic → Type 0) → Table → Type 0
Names P (always b) = Unit {0}
Names P (both j l r) = Names P l × Names P r
Names P (against o s b v) = P s
Names P (positive s) = P s
Names P (differ s t) = P s × P t
Names P (holds s) = P s
Names P (negation t) = Names P t

-- P holds of every literal
abbrev pub Literals : (Value → Type 0) → Table → Type 0
Literals P (always b) = Unit {0}
Literals P (both j l r) = Literals P l × Literals P r
Literals P (against o s b v) = P v
Literals P (positive s) = Unit {0}
Literals P (differ s t) = Unit {0}
Literals P (holds s) = Unit {0}
Literals P (negation t) = Literals P t

pub names_map : (P Q : Statistic → Type 0) → ((s : Statistic) → P s → Q s) → (t : Table) → Names P t → Names Q t
names_map P Q f (always b) h = tt
names_map P Q f (both j l r) h = (names_map P Q f l h.0, names_map P Q f r h.1)
names_map P Q f (against o s b v) h = f s h
names_map P Q f (positive s) h = f s h
names_map P Q f (differ s t) h = (f s h.0, f t h.1)
names_map P Q f (holds s) h = f s h
names_map P Q f (negation t) h = names_map P Q f t h
