-- Refusals 4, 5 and 6 and what is just accepted, each from its smallest words, as one statement over one list. Assumes nothing.
use Rattle.std.specs.Prelude.{◌≡◌, refl, List, [], ◌∷◌, ◌++◌, map, ℕ, zero, suc, take, replicate}
use Rattle.words.specs.Layout.{packed}
use Rattle.literals.specs.Literals.{literal_layout, suits, literal_of}
use Rattle.text.specs.Machine.{is_utf8, runs, step_of, lead_of}
use Rattle.predicate.specs.Nodes.{node_layout, node_of}
use Rattle.predicate.specs.Checking.{formed, check_literal, check_literals, node_fault, check_from, predicate_fault}

-- the words of a predicate, and the fault that they have
pub record Case : Type 0 where
  pub fault : ℕ
  pub words : List ℕ

abbrev pub gives : ℕ → List ℕ → Case
gives n ws = record { fault = n; words = ws }

-- ---- what the cases are written with

-- a column of each type
abbrev pub schema : List ℕ
schema = 1 ∷ 2 ∷ 3 ∷ []

abbrev integers : ℕ
integers = 0

abbrev texts : ℕ
texts = 1

abbrev truths : ℕ
truths = 2

abbrev nowhere : ℕ
nowhere = 3

-- 1,025 bytes, of which the first is no UTF-8
abbrev pub pool : List ℕ
pool = 0xFF ∷ replicate 1024 97

-- kind, operator, column, flips, literal-first, count, zero
abbrev node : ℕ → ℕ → ℕ → ℕ → ℕ → ℕ → ℕ → ℕ
node k o c f l n z = packed node_layout (k ∷ o ∷ c ∷ f ∷ l ∷ n ∷ z ∷ [])

-- type, length, zero, offset
abbrev literal : ℕ → ℕ → ℕ → ℕ → ℕ
literal k n z o = packed literal_layout (k ∷ n ∷ z ∷ o ∷ [])

abbrev constant : ℕ
constant = node 0 1 0 0 0 0 0

abbrev and : ℕ
and = node 1 0 0 0 0 0 0

abbrev not : ℕ
not = node 3 0 0 0 0 0 0

abbrev equal : ℕ → ℕ
equal c = node 7 0 c 0 0 0 0

abbrev one_of : ℕ → ℕ → ℕ
one_of c n = node 8 0 c 0 0 n 0

abbrev likes : ℕ → ℕ
likes c = node 9 0 c 0 0 0 0

abbrev null : ℕ
null = literal 0 0 0 0

abbrev integer : ℕ
integer = literal 1 8 0 0

abbrev text : ℕ → ℕ → ℕ
text n o = literal 2 n 0 o

abbrev truth : ℕ → ℕ
truth o = literal 3 0 0 o

-- a tree of ANDs with n levels more than one: 2 ^ (n + 1) - 1 nodes
abbrev full : ℕ → List ℕ
full zero = constant ∷ []
full (suc n) = and ∷ (full n ++ full n)

-- ---- 4

-- unknown kinds
abbrev kinds : List Case
kinds = map (λ (k : ℕ). gives 4 (node k 0 0 0 0 0 0 ∷ [])) (10 ∷ 11 ∷ 12 ∷ 13 ∷ 14 ∷ 15 ∷ [])

-- the first operator that a kind has not
abbrev operators : List Case
operators =
    gives 4 (node 0 3 0 0 0 0 0 ∷ [])
    ∷ gives 4 (node 7 8 integers 0 0 0 0 ∷ [])
    ∷ gives 4 (node 8 2 integers 0 0 0 0 ∷ [])
    ∷ gives 4 (node 9 2 texts 0 0 0 0 ∷ [])
    ∷ map (λ (k : ℕ). gives 4 (node k 1 0 0 0 0 0 ∷ [])) (1 ∷ 2 ∷ 3 ∷ 4 ∷ 5 ∷ 6 ∷ [])

-- column, flips, literal-first and count, each in the kinds that have it not, and the unnamed bits
abbrev fields : List Case
fields =
    map (λ (k : ℕ). gives 4 (node k 0 1 0 0 0 0 ∷ [])) (0 ∷ 1 ∷ 2 ∷ 3 ∷ [])
    ++ map (λ (k : ℕ). gives 4 (node k 0 0 1 0 0 0 ∷ [])) (0 ∷ 1 ∷ 2 ∷ 3 ∷ 4 ∷ 5 ∷ 6 ∷ 9 ∷ [])
    ++ map (λ (k : ℕ). gives 4 (node k 0 0 0 1 0 0 ∷ [])) (0 ∷ 1 ∷ 2 ∷ 3 ∷ 4 ∷ 5 ∷ 6 ∷ 8 ∷ 9 ∷ [])
    ++ map (λ (k : ℕ). gives 4 (node k 0 0 0 0 1 0 ∷ [])) (0 ∷ 1 ∷ 2 ∷ 3 ∷ 4 ∷ 5 ∷ 6 ∷ 7 ∷ 9 ∷ [])
    ++ map (λ (k : ℕ). gives 4 (node k 0 0 0 0 0 1 ∷ [])) (0 ∷ 1 ∷ 2 ∷ 3 ∷ 4 ∷ 5 ∷ 6 ∷ 7 ∷ 8 ∷ 9 ∷ [])

-- a null has nothing else, also where its length is over 1,024; the unnamed bits
abbrev literals : List Case
literals =
    map (λ (l : ℕ). gives 4 (equal integers ∷ l ∷ []))
    (literal 0 1 0 0 ∷ literal 0 1025 0 0 ∷ literal 0 0 0 1 ∷ literal 0 0 1 0 ∷ literal 1 8 1 0 ∷ literal 2 0 1 0 ∷ literal 3 0 1 0 ∷ [])

-- words run out
abbrev runs_out : List Case
runs_out =
    gives 4 []
    ∷ gives 4 (not ∷ [])
    ∷ gives 4 (and ∷ constant ∷ [])
    ∷ gives 4 (equal integers ∷ [])
    ∷ gives 4 (likes texts ∷ [])
    ∷ gives 4 (one_of integers 2 ∷ integer ∷ [])
    -- the literal that is there is judged first
    ∷ gives 6 (one_of integers 2 ∷ text 0 0 ∷ [])
    -- the missing word would be at depth 33, or the 256th node
    ∷ gives 4 (replicate 32 not)
    ∷ gives 4 (take 255 (not ∷ full 7))
    ∷ []

-- words are left over, which is judged last
abbrev left_over : List Case
left_over =
    gives 4 (constant ∷ constant ∷ [])
    ∷ gives 4 (equal integers ∷ null ∷ null ∷ [])
    ∷ gives 6 (equal nowhere ∷ null ∷ null ∷ [])
    ∷ []

-- ---- 5

-- just within a limit, and just past it
abbrev limits : List Case
limits =
    -- nodes
    gives 0 (full 7)
    ∷ gives 5 (not ∷ full 7)
    -- depth
    ∷ gives 0 (replicate 31 not ++ constant ∷ [])
    ∷ gives 5 (replicate 32 not ++ constant ∷ [])
    -- list literals, by the count, before their column and the literals themselves
    ∷ gives 0 (one_of integers 256 ∷ replicate 256 null)
    ∷ gives 5 (one_of nowhere 257 ∷ [])
    ∷ gives 5 (and ∷ one_of integers 1 ∷ null ∷ one_of integers 256 ∷ [])
    -- a literal's bytes, by its length alone
    ∷ gives 0 (equal texts ∷ text 1024 1 ∷ [])
    ∷ gives 5 (equal texts ∷ text 1025 0 ∷ [])
    ∷ gives 5 (equal integers ∷ text 1025 0 ∷ [])
    ∷ gives 5 (equal integers ∷ literal 1 1025 0 0 ∷ [])
    ∷ gives 5 (equal truths ∷ literal 3 1025 0 0 ∷ [])
    -- the bytes of all literals, also where they are the same
    ∷ gives 0 (one_of texts 8 ∷ replicate 8 (text 1024 0))
    ∷ gives 5 (one_of texts 9 ∷ (replicate 8 (text 1024 0) ++ text 1 0 ∷ []))
    ∷ gives 5 (and ∷ one_of texts 8 ∷ (replicate 8 (text 1024 0) ++ equal texts ∷ text 1 0 ∷ []))
    ∷ []

-- ---- 6

-- a column that is not in the schema, or of another type; flips on text
abbrev columns : List Case
columns =
    map (λ (k : ℕ). gives 6 (node k 0 nowhere 0 0 0 0 ∷ [])) (4 ∷ 5 ∷ 6 ∷ 7 ∷ 8 ∷ 9 ∷ [])
    ++ gives 6 (node 4 0 integers 0 0 0 0 ∷ [])
    ∷ gives 6 (node 4 0 texts 0 0 0 0 ∷ [])
    ∷ gives 6 (likes integers ∷ [])
    ∷ gives 6 (likes truths ∷ [])
    ∷ gives 6 (node 7 0 texts 1 0 0 0 ∷ [])
    ∷ gives 6 (node 8 0 texts 1 0 0 0 ∷ [])
    ∷ []

-- a literal of another type, of a bad length or truth value, outside the pool
abbrev misfits : List Case
misfits =
    gives 6 (equal integers ∷ text 0 0 ∷ [])
    ∷ gives 6 (equal integers ∷ truth 0 ∷ [])
    ∷ gives 6 (equal texts ∷ integer ∷ [])
    ∷ gives 6 (equal texts ∷ truth 0 ∷ [])
    ∷ gives 6 (equal truths ∷ integer ∷ [])
    ∷ gives 6 (equal truths ∷ text 0 0 ∷ [])
    ∷ gives 6 (likes texts ∷ integer ∷ [])
    ∷ gives 6 (one_of integers 2 ∷ integer ∷ text 0 0 ∷ [])
    ∷ gives 6 (equal integers ∷ literal 1 7 0 0 ∷ [])
    ∷ gives 6 (equal integers ∷ literal 1 9 0 0 ∷ [])
    ∷ gives 6 (equal integers ∷ literal 1 8 0 1018 ∷ [])
    ∷ gives 6 (equal texts ∷ text 1 1025 ∷ [])
    ∷ gives 6 (equal texts ∷ text 0 1026 ∷ [])
    ∷ gives 6 (equal truths ∷ truth 2 ∷ [])
    ∷ gives 6 (equal truths ∷ literal 3 1 0 0 ∷ [])
    -- LIKE and NOT LIKE of what is no UTF-8
    ∷ gives 6 (likes texts ∷ text 1 0 ∷ [])
    ∷ gives 6 (node 9 1 texts 0 0 0 0 ∷ text 1 0 ∷ [])
    ∷ []

-- ---- in order

-- in one word 4 before 5 before 6; the first faulty word decides
abbrev in_order : List Case
in_order =
    gives 4 (node 8 0 nowhere 0 0 257 1 ∷ [])
    ∷ gives 5 (node 8 0 nowhere 0 0 257 0 ∷ [])
    ∷ gives 6 (node 8 0 nowhere 0 0 256 0 ∷ [])
    ∷ gives 4 (equal integers ∷ literal 2 1025 1 1 ∷ [])
    ∷ gives 5 (equal integers ∷ literal 2 1025 0 1 ∷ [])
    ∷ gives 6 (equal integers ∷ literal 2 1024 0 1 ∷ [])
    ∷ gives 6 (and ∷ equal nowhere ∷ node 10 0 0 0 0 0 0 ∷ [])
    ∷ gives 4 (and ∷ equal integers ∷ literal 0 1 0 0 ∷ equal nowhere ∷ [])
    ∷ []

-- ---- accepted

abbrev accepted : List Case
accepted =
    map (λ (o : ℕ). gives 0 (node 0 o 0 0 0 0 0 ∷ [])) (0 ∷ 1 ∷ 2 ∷ [])
    ++ map (λ (c : ℕ). gives 0 (node 5 0 c 0 0 0 0 ∷ [])) (integers ∷ texts ∷ truths ∷ [])
    ++ map (λ (c : ℕ). gives 0 (node 6 0 c 0 0 0 0 ∷ [])) (integers ∷ texts ∷ truths ∷ [])
    ++ map (λ (o : ℕ). gives 0 (node 7 o truths 255 1 0 0 ∷ truth 1 ∷ [])) (0 ∷ 1 ∷ 2 ∷ 3 ∷ 4 ∷ 5 ∷ 6 ∷ 7 ∷ [])
    ++ gives 0 (node 4 0 truths 0 0 0 0 ∷ [])
    ∷ gives 0 (node 7 0 integers 255 1 0 0 ∷ literal 1 8 0 1017 ∷ [])
    -- a list of none
    ∷ gives 0 (one_of texts 0 ∷ [])
    -- an empty text at the pool's end; a text that is no pattern need not be UTF-8
    ∷ gives 0 (equal texts ∷ text 0 1025 ∷ [])
    ∷ gives 0 (equal texts ∷ text 1 0 ∷ [])
    -- patterns, and none
    ∷ gives 0 (likes texts ∷ text 1 1 ∷ [])
    ∷ gives 0 (likes texts ∷ null ∷ [])
    ∷ []

-- ---- all

abbrev pub cases : List Case
cases =
    kinds
    ++ operators
    ++ fields
    ++ literals
    ++ runs_out
    ++ left_over
    ++ limits
    ++ columns
    ++ misfits
    ++ in_order
    ++ accepted

pub refusals : map (λ (c : Case). predicate_fault schema pool c.words) cases ≡ map (λ (c : Case). c.fault) cases
unfolding predicate_fault check_from node_fault check_literals check_literal formed node_of suits literal_of is_utf8 runs step_of lead_of
refusals = refl
