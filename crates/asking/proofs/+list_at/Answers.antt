-- Where the node was read, the predicate is the node's; then each arm. Assumes nothing.
use borrow.Author.Rules.{rules}
use mathlib.Core.Path.{refl, sym, ◌∙◌}
use mathlib.Core.List.{List}
use Prim.Native.Nat.{ℕ, ◌-◌, ◌+◌}
use Rattle.words.specs.Word.{words_of}
use Rattle.predicate.specs.Predicates.{predicate_at, read_zero, read_node}
use Rattle.walking.specs.Places.{near_first, near_second}
use Rattle.statistics.specs.declared.Statistic.{Statistic}
use Rattle.table.specs.Rewriting.{lists}
use Rattle.listing.specs.ListingLaws.{room_first, room_next, grown_then, grown_none}
use Rattle.asking.proofs.+list_at.Goals as goal

-- what the sides of a join ask for: the first, and the second behind it
abbrev first : (schema pool ws : List ℕ) (limit depth at : ℕ) → List Statistic
first schema pool ws limit depth at = lists limit schema (predicate_at pool ws (depth - 1) (at + 1)).predicate

abbrev second : (schema pool ws : List ℕ) (limit depth at : ℕ) → List Statistic
second schema pool ws limit depth at =
    let f = predicate_at pool ws (depth - 1) in
    lists limit schema (f (f (at + 1)).next).predicate

pub returns-then-depth-eq0 : goal.returns-then-depth-eq0
unfolding lists
returns-then-depth-eq0 t c =
    rw (read_zero _ _ _ _ c.if-depth-eq0.true) (record { next = refl; list = grown_none _ _ c.requires.2.front })

pub list_at-first-requires : goal.list_at-first-requires
unfolding lists
list_at-first-requires t c =
    let a = c.args in
    let p = rw (read_node _ _ _ _ c.if-depth-eq0.false _ (sym c.in-Join.is ∙ c.node_at.ensures)) at c.requires in
    (search rules, (near_first a.r.now.pool.now _ _ _ tt (sym c.in-Join.is ∙ c.node_at.ensures), p.1.0, room_first (first a.r.now.schema.now a.r.now.pool.now (words_of a.r.now.words.now) a.r.now.limit a.depth a.at) (second a.r.now.schema.now a.r.now.pool.now (words_of a.r.now.words.now) a.r.now.limit a.depth a.at) _ _ p.2))

pub list_at-requires : goal.list_at-requires
unfolding lists
list_at-requires t c =
    let a = c.args in
    let p = rw (read_node _ _ _ _ c.if-depth-eq0.false _ (sym c.in-Join.is ∙ c.node_at.ensures)) at c.requires in
    let e = c.list_at-first.ensures in
    (search rules, rw e.next (near_second _ _ _ _ tt (sym c.in-Join.is ∙ c.node_at.ensures) _, p.1.1, room_next (first a.r.now.schema.now a.r.now.pool.now (words_of a.r.now.words.now) a.r.now.limit a.depth a.at) (second a.r.now.schema.now a.r.now.pool.now (words_of a.r.now.words.now) a.r.now.limit a.depth a.at) _ _ _ _ e.list p.2))

pub list_not-m-requires : goal.list_not-m-requires
unfolding lists
list_not-m-requires t c =
    rw (read_node _ _ _ _ c.if-depth-eq0.false _ (sym c.in-Not.is ∙ c.node_at.ensures)) at c.requires.2

pub skip-requires : goal.skip-requires
skip-requires t c =
    near_first c.args.r.now.pool.now _ _ _ tt (sym c.in-Not.is ∙ c.node_at.ensures)

pub list_column-requires : goal.list_column-requires
unfolding lists
list_column-requires t c =
    rw (read_node _ _ _ _ c.if-depth-eq0.false _ (sym c.in-TruthColumn.is ∙ c.node_at.ensures)) at c.requires.2

pub list_blanks-requires : goal.list_blanks-requires
unfolding lists
list_blanks-requires t c =
    rw (read_node _ _ _ _ c.if-depth-eq0.false _ (sym c.in-IsNull.is ∙ c.node_at.ensures)) at c.requires.2

pub list_blanks_rows-requires : goal.list_blanks_rows-requires
unfolding lists
list_blanks_rows-requires t c =
    rw (read_node _ _ _ _ c.if-depth-eq0.false _ (sym c.in-IsNotNull.is ∙ c.node_at.ensures)) at c.requires.2

pub list_turned-requires : goal.list_turned-requires
unfolding lists
list_turned-requires t c =
    rw (read_node _ _ _ _ c.if-depth-eq0.false _ (sym c.in-Comparison.is ∙ c.node_at.ensures)) at c.requires.2

pub list_in-requires : goal.list_in-requires
unfolding lists
list_in-requires t c =
    (c.requires.0, rw (read_node _ _ _ _ c.if-depth-eq0.false _ (sym c.in-List.is ∙ c.node_at.ensures)) at c.requires.2)

pub list_like-requires : goal.list_like-requires
unfolding lists
list_like-requires t c =
    let p = rw (read_node _ _ _ _ c.if-depth-eq0.false _ (sym c.in-Like.is ∙ c.node_at.ensures)) at c.requires in
    (p.1.1, p.2)

pub returns-in-Constant : goal.returns-in-Constant
unfolding lists
returns-in-Constant t c =
    rw (read_node _ _ _ _ c.if-depth-eq0.false _ (sym c.in-Constant.is ∙ c.node_at.ensures)) (record { next = refl; list = grown_none _ _ c.requires.2.front })

pub returns-in-Join : goal.returns-in-Join
unfolding lists
returns-in-Join t c =
    let a = c.args in
    let e = c.list_at-first.ensures in
    let g = rw e.next at c.list_at.ensures in
    rw (read_node _ _ _ _ c.if-depth-eq0.false _ (sym c.in-Join.is ∙ c.node_at.ensures)) (record { next = g.next; list = grown_then (first a.r.now.schema.now a.r.now.pool.now (words_of a.r.now.words.now) a.r.now.limit a.depth a.at) (second a.r.now.schema.now a.r.now.pool.now (words_of a.r.now.words.now) a.r.now.limit a.depth a.at) _ _ _ _ e.list _ _ c.requires.2.front g.list })

pub returns-in-Not : goal.returns-in-Not
unfolding lists
returns-in-Not t c =
    rw (read_node _ _ _ _ c.if-depth-eq0.false _ (sym c.in-Not.is ∙ c.node_at.ensures)) (record { next = c.skip.ensures; list = c.list_not-m.ensures })

pub returns-in-TruthColumn : goal.returns-in-TruthColumn
unfolding lists
returns-in-TruthColumn t c =
    rw (read_node _ _ _ _ c.if-depth-eq0.false _ (sym c.in-TruthColumn.is ∙ c.node_at.ensures)) (record { next = refl; list = c.list_column.ensures })

pub returns-in-IsNull : goal.returns-in-IsNull
unfolding lists
returns-in-IsNull t c =
    rw (read_node _ _ _ _ c.if-depth-eq0.false _ (sym c.in-IsNull.is ∙ c.node_at.ensures)) (record { next = refl; list = c.list_blanks.ensures })

pub returns-in-IsNotNull : goal.returns-in-IsNotNull
unfolding lists
returns-in-IsNotNull t c =
    rw (read_node _ _ _ _ c.if-depth-eq0.false _ (sym c.in-IsNotNull.is ∙ c.node_at.ensures)) (record { next = refl; list = c.list_blanks_rows.ensures })

pub returns-in-Comparison : goal.returns-in-Comparison
unfolding lists
returns-in-Comparison t c =
    rw (read_node _ _ _ _ c.if-depth-eq0.false _ (sym c.in-Comparison.is ∙ c.node_at.ensures)) (record { next = refl; list = c.list_turned.ensures })

pub returns-in-List : goal.returns-in-List
unfolding lists
returns-in-List t c =
    rw (c.from.ensures, read_node _ _ _ _ c.if-depth-eq0.false _ (sym c.in-List.is ∙ c.node_at.ensures)) (record { next = refl; list = c.list_in.ensures })

pub returns-in-Like : goal.returns-in-Like
unfolding lists
returns-in-Like t c =
    rw (read_node _ _ _ _ c.if-depth-eq0.false _ (sym c.in-Like.is ∙ c.node_at.ensures)) (record { next = refl; list = c.list_like.ensures })
