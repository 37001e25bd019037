-- The members of a list, joined from the left, are what the list folds to. Assumes nothing.
use Rattle.std.specs.Prelude.{◌≡◌, Bool, true, cond, ◌&&◌, ℕ}
use Rattle.std.proofs.Common.{sym, ◌∙◌, ap, inl, inr}
use mathlib.Core.List.{List, [], ◌∷◌, ◌++◌, append_assoc, append-nil}
use Rattle.kleene.specs.declared.Joining.{Joining}
use Rattle.kleene.specs.declared.Joining.TheVariants.{And, Or}
use Rattle.literals.specs.Literals.{Value}
use Rattle.predicate.specs.declared.Column.{Column}
use Rattle.table.specs.declared.Known.TheVariants.{Open}
use Rattle.table.specs.Tables.{Table, always, known, joined}
use Rattle.table.specs.Constants.{Solid, solid_open}
use Rattle.table.specs.Rewriting.{list_joining, nested_table}
use Rattle.table.specs.Nests.{AllSolid, Member, Members, all_open, and_all, is_open, joined_all, list_fold, nest, nest_snoc, nest_solid, or_true, solid_snoc, member_table, member_tables, member_is, members_are, members_joined}

or_all : (t : Table) (ts us : List Table) → Solid t → AllSolid ts → Members us
    → joined_all Or (nest Or t ts) us ≡ cond (all_open us) (nest Or t (ts ++ us)) (always true)
or_all t ts [] s a m = ap (nest Or t) (sym (append-nil ts))
or_all t ts (u ∷ us) s a m = go m.0 (or_all t (ts ++ (u ∷ [])) us s)
  where
    open_nest : known (nest Or t ts) ≡ Open
    open_nest = solid_open (nest Or t ts) (nest_solid Or t ts s a)

    go : Member u → (AllSolid (ts ++ (u ∷ [])) → Members us → joined_all Or (nest Or t (ts ++ (u ∷ []))) us ≡ cond (all_open us) (nest Or t ((ts ++ (u ∷ [])) ++ us)) (always true))
        → joined_all Or (joined Or (nest Or t ts) u) us ≡ cond (is_open (known u) && all_open us) (nest Or t (ts ++ (u ∷ us))) (always true)
    go (inl e) more = rw (e, open_nest) (or_true us)
    go (inr o) more =
        rw (solid_open u o, open_nest, ← nest_snoc Or t ts u)
        (more (solid_snoc ts u a o) m.1 ∙ ap (λ l. cond (all_open us) (nest Or t l) (always true)) (append_assoc ts (u ∷ []) us))

-- members joined from the left are what the list folds to
pub list_folds : (j : Joining) (t : Table) (us : List Table) → Member t → Members us → joined_all j t us ≡ list_fold j (t ∷ us)
unfolding AllSolid
list_folds And t us (inl e) m = rw e (and_all [] us tt m)
list_folds And t us (inr s) m = rw (solid_open t s) (and_all (t ∷ []) us (s, tt) m)
list_folds Or t us (inl e) m = rw e (or_true us)
list_folds Or t us (inr s) m = rw (solid_open t s) (or_all t [] us s tt m)

module _ (schema : List ℕ) (b : Bool) (c : Column) (n : ℕ) where
  -- a list with a member is rewritten to what its members fold to
  pub nested_folds : (v : Value) (vs : List Value) → nested_table schema b c n (v ∷ vs) ≡ list_fold (list_joining b) (member_tables schema b c n (v ∷ vs))
  nested_folds v vs = members_joined schema b c n (member_table schema b c n v) vs
      ∙ list_folds (list_joining b) (member_table schema b c n v) (member_tables schema b c n vs) (member_is schema b c n v) (members_are schema b c n vs)
