-- A literal that is not null: a join's word, then its sides. Assumes nothing.
use Rattle.std.specs.Prelude.{◌≡◌, List, ℕ, refl}
use Rattle.kleene.specs.declared.Joining.TheVariants.{Or}
use Rattle.literals.specs.Literals.{value_of}
use Rattle.literals.specs.declared.Literal.{Literal}
use Rattle.literals.specs.declared.Literal.TheVariants.{Null, Int, Text, Truth}
use Rattle.predicate.specs.declared.Column.{Column}
use Rattle.table.specs.Tables.{both}
use Rattle.table.specs.Comparisons.{has_blanks, unequal_form, distinct_form}
use Rattle.writing.specs.WriterLaws.{keeps_then, few_kept, room_left_by, room_right_by, both_by}
use Rattle.forms.proofs.build_is_distinct_from.Goals as goal

distinct_other : (c : Column) (pool : List ℕ) (l : Literal) → (l ≡ Null → ⊥)
    → distinct_form c (value_of pool l) ≡ both Or (has_blanks c) (unequal_form c (value_of pool l))
distinct_other c pool Null n = absurd (n refl)
distinct_other c pool (Int z) n = refl
distinct_other c pool (Text r) n = refl
distinct_other c pool (Truth b) n = refl

pub column_has_nulls_expr-requires : goal.column_has_nulls_expr-requires
column_has_nulls_expr-requires c =
    let m = rw (distinct_other c.args.c c.args.input.now c.args.l c.in_default.not-Null) at c.requires.2 in
    let r = room_left_by Or _ _ _ m _ c.put_join.ensures in
    (few_kept _ _ c.put_join.ensures.keeps c.requires.0, r.words)

pub build_ne_statistics_expr-requires : goal.build_ne_statistics_expr-requires
build_ne_statistics_expr-requires c =
    let m = rw (distinct_other c.args.c c.args.input.now c.args.l c.in_default.not-Null) at c.requires.2 in
    let k = keeps_then _ _ _ c.put_join.ensures.keeps c.column_has_nulls_expr.ensures.keeps in
    (few_kept _ _ k c.requires.0, c.requires.1, room_right_by Or _ _ _ m _ c.put_join.ensures _ c.column_has_nulls_expr.ensures)

pub returns-in_default : goal.returns-in_default
returns-in_default c =
    rw (distinct_other c.args.c c.args.input.now c.args.l c.in_default.not-Null)
    (both_by Or _ _ _ _ _ _ c.put_join.ensures c.column_has_nulls_expr.ensures c.build_ne_statistics_expr.ensures)
