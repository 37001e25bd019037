-- A list's table: what it folds to, and its words and pool, as a writer makes them: the joins first, then the open members in order.
-- Assumes nothing.
use Rattle.std.specs.Prelude.{◌≡◌, Bool, true, false, cond, ◌&&◌, ◌⊎◌, ℕ, zero, suc, ◌+◌, length, replicate}
use Rattle.std.proofs.Math.Path.{refl}
use Rattle.std.proofs.Common.{sym, ◌∙◌, ap, inl, inr, add_assoc, length-append}
use mathlib.Core.List.{List, [], ◌∷◌, ◌++◌, append_assoc, append-nil}
use Rattle.kleene.specs.declared.Joining.{Joining}
use Rattle.kleene.specs.declared.Joining.TheVariants.{And, Or}
use Rattle.literals.specs.Literals.{Value}
use Rattle.predicate.specs.declared.Column.{Column}
use Rattle.statistics.specs.declared.Statistic.{Statistic}
use Rattle.table.specs.declared.Known.{Known}
use Rattle.table.specs.declared.Known.TheVariants.{False, True, Open}
use Rattle.table.specs.Tables.{Table, always, both, known, joined}
use Rattle.table.specs.Encoding.{joining_kind, table_word, pool_of, table_words}
use Rattle.table.specs.Constants.{Solid, solid_open, form_solid}
use Rattle.predicate.specs.Checking.{type_in}
use Rattle.table.specs.Comparisons.{Turned, asks, stays, turned, turned_form}
use Rattle.table.specs.Rewriting.{comparison_table, list_operator, list_joining, members_table}

-- ---- joined from the left

abbrev pub nest : Joining → Table → List Table → Table
nest j t [] = t
nest j t (u ∷ us) = nest j (both j t u) us

abbrev pub join_word : Joining → ℕ
join_word j = table_word (joining_kind j) 0 0 0 0

-- the words of tables one after the other, the first one's literals at an offset
abbrev pub run_words : List Statistic → ℕ → List Table → List ℕ
run_words list o [] = []
run_words list o (t ∷ ts) = table_words list o t ++ run_words list (o + length (pool_of t)) ts

abbrev pub run_pool : List Table → List ℕ
run_pool [] = []
run_pool (t ∷ ts) = pool_of t ++ run_pool ts

replicate_cons : (n w : ℕ) (ws : List ℕ) → replicate n w ++ (w ∷ ws) ≡ w ∷ (replicate n w ++ ws)
replicate_cons zero w ws = refl
replicate_cons (suc n) w ws = ap (λ l. w ∷ l) (replicate_cons n w ws)

-- a nest's words: a join for each table but the first, then the tables in order
pub nest_words : (list : List Statistic) (j : Joining) (o : ℕ) (t : Table) (us : List Table)
    → table_words list o (nest j t us) ≡ replicate (length us) (join_word j) ++ run_words list o (t ∷ us)
unfolding table_words pool_of
nest_words list j o t [] = sym (append-nil (table_words list o t))
nest_words list j o t (u ∷ us) =
    nest_words list j o (both j t u) us
    ∙ replicate_cons (length us) (join_word j) ((table_words list o t ++ table_words list (o + length (pool_of t)) u) ++ run_words list (o + length (pool_of t ++ pool_of u)) us)
    ∙ ap (λ l. join_word j ∷ (replicate (length us) (join_word j) ++ l))
    (append_assoc (table_words list o t) (table_words list (o + length (pool_of t)) u) (run_words list (o + length (pool_of t ++ pool_of u)) us)
    ∙ ap (λ n. table_words list o t ++ (table_words list (o + length (pool_of t)) u ++ run_words list n us))
    (ap (λ n. o + n) (length-append (pool_of t) (pool_of u)) ∙ sym (add_assoc o (length (pool_of t)) (length (pool_of u)))))

pub nest_pool : (j : Joining) (t : Table) (us : List Table) → pool_of (nest j t us) ≡ run_pool (t ∷ us)
unfolding pool_of
nest_pool j t [] = sym (append-nil (pool_of t))
nest_pool j t (u ∷ us) = nest_pool j (both j t u) us ∙ append_assoc (pool_of t) (pool_of u) (run_pool us)

pub nest_snoc : (j : Joining) (t : Table) (us : List Table) (u : Table) → nest j t (us ++ (u ∷ [])) ≡ both j (nest j t us) u
nest_snoc j t [] u = refl
nest_snoc j t (v ∷ us) u = nest_snoc j (both j t v) us u

-- ---- what a list's members fold to

-- a member is unhandled or solid
abbrev pub Member : Table → Type 0
Member t = (t ≡ always true) ⊎ Solid t

abbrev pub Members : List Table → Type 0
Members [] = Unit {0}
Members (t ∷ ts) = Member t × Members ts

abbrev pub is_open : Known → Bool
is_open False = false
is_open True = false
is_open Open = true

abbrev pub kept_if : Bool → Table → List Table → List Table
kept_if true t ts = t ∷ ts
kept_if false t ts = ts

-- the members that stay
abbrev pub opens : List Table → List Table
opens [] = []
opens (t ∷ ts) = kept_if (is_open (known t)) t (opens ts)

abbrev pub all_open : List Table → Bool
all_open [] = true
all_open (t ∷ ts) = is_open (known t) && all_open ts

-- nothing that stays is unhandled
abbrev pub nest_of : Joining → List Table → Table
nest_of j [] = always true
nest_of j (t ∷ ts) = nest j t ts

-- of an OR, one unhandled member makes all unhandled; of an AND it vanishes
abbrev pub list_fold : Joining → List Table → Table
list_fold And ts = nest_of And (opens ts)
list_fold Or ts = cond (all_open ts) (nest_of Or ts) (always true)

-- tables joined from the left, folding as they are
abbrev pub joined_all : Joining → Table → List Table → Table
joined_all j t [] = t
joined_all j t (u ∷ us) = joined_all j (joined j t u) us

unfoldable pub AllSolid : List Table → Type 0
AllSolid [] = Unit {0}
AllSolid (t ∷ ts) = Solid t × AllSolid ts

pub nest_solid : (j : Joining) (t : Table) (us : List Table) → Solid t → AllSolid us → Solid (nest j t us)
unfolding AllSolid
nest_solid j t [] s a = s
nest_solid j t (u ∷ us) s a = nest_solid j (both j t u) us (s, a.0) a.1

pub solid_snoc : (ts : List Table) (u : Table) → AllSolid ts → Solid u → AllSolid (ts ++ (u ∷ []))
unfolding AllSolid
solid_snoc [] u a s = (s, tt)
solid_snoc (t ∷ ts) u a s = (a.0, solid_snoc ts u a.1 s)

-- one member more, of an AND
and_more : (ts : List Table) (u : Table) → AllSolid ts → Member u → (vs : List Table) × (joined And (nest_of And ts) u ≡ nest_of And vs) × (vs ≡ ts ++ kept_if (is_open (known u)) u []) × AllSolid vs
unfolding AllSolid
and_more [] u a (inl e) = ([], rw e, rw e, tt)
and_more [] u a (inr s) = (u ∷ [], refl, rw (solid_open u s), (s, tt))
and_more (t ∷ ts) u a (inl e) =
    (t ∷ ts, rw (e, solid_open (nest And t ts) (nest_solid And t ts a.0 a.1)), rw e (sym (append-nil (t ∷ ts))), a)
and_more (t ∷ ts) u a (inr s) = (
  t ∷ (ts ++ (u ∷ [])),
  rw (solid_open u s, solid_open (nest And t ts) (nest_solid And t ts a.0 a.1)) (sym (nest_snoc And t ts u)),
  rw (solid_open u s),
  (a.0, solid_snoc ts u a.1 s),
)

kept_append : (b : Bool) (t : Table) (ts : List Table) → kept_if b t [] ++ ts ≡ kept_if b t ts
kept_append true t ts = refl
kept_append false t ts = refl

pub and_all : (ts us : List Table) → AllSolid ts → Members us → joined_all And (nest_of And ts) us ≡ nest_of And (ts ++ opens us)
and_all ts [] a m = ap (nest_of And) (sym (append-nil ts))
and_all ts (u ∷ us) a m =
    let h = and_more ts u a m.0 in
    ap (λ t. joined_all And t us) h.1
    ∙ and_all h.0 us h.3 m.1
    ∙ ap (λ l. nest_of And (l ++ opens us)) h.2
    ∙ ap (nest_of And) (append_assoc ts (kept_if (is_open (known u)) u []) (opens us) ∙ ap (λ l. ts ++ l) (kept_append (is_open (known u)) u (opens us)))

pub or_true : (us : List Table) → joined_all Or (always true) us ≡ always true
or_true [] = refl
or_true (u ∷ us) = or_true us

-- ---- the members of a predicate's list

pub turned_member : (c : Column) (t : Turned) → Member (turned_form c t)
turned_member c (asks o v) = inr (form_solid c o v)
turned_member c stays = inl refl

module _ (schema : List ℕ) (b : Bool) (c : Column) (n : ℕ) where
  abbrev pub member_table : Value → Table
  member_table v = comparison_table schema (list_operator b) c n false v

  abbrev pub member_tables : List Value → List Table
  member_tables [] = []
  member_tables (v ∷ vs) = member_table v ∷ member_tables vs

  pub member_is : (v : Value) → Member (member_table v)
  member_is v = turned_member c (turned (type_in schema c.0) (list_operator b) n false v)

  pub members_are : (vs : List Value) → Members (member_tables vs)
  members_are [] = tt
  members_are (v ∷ vs) = (member_is v, members_are vs)

  pub members_joined : (t : Table) (vs : List Value) → members_table schema b c n t vs ≡ joined_all (list_joining b) t (member_tables vs)
  unfolding members_table
  members_joined t [] = refl
  members_joined t (v ∷ vs) = members_joined (joined (list_joining b) t (member_table v)) vs
