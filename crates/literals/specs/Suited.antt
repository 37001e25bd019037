-- What a literal's word says that suits a column: its type, its length, and that its bytes lie inside the pool. Assumes nothing.
use Rattle.std.specs.Prelude.{◌≡◌, refl, Bool, true, false, ◌&&◌, ◌||◌, List, [], ◌∷◌, ℕ, zero, suc, ◌≤◌, get_or, eqb, leb, ltb}
use Rattle.std.proofs.lemmas.Bool.{false≢true}
use Rattle.std.proofs.Common.{arith, leb-true, eqb-true, le-ltb}
use Rattle.words.specs.Word.{word_at}
use Rattle.words.specs.Pools.{Inside}
use Rattle.words.specs.Tests.{and_both, or_other}
use Rattle.literals.specs.Signed.{signed}
use Rattle.literals.specs.Literals.{type_of, length_of, zero_of, offset_of, null_type, integer_type, text_type, truth_type, integer_bytes, plain, inside, suits, literal_of}
use Rattle.literals.specs.LiteralLaws.{literal_null_lem, literal_int, literal_text, literal_truth}
use Rattle.literals.specs.declared.Literal.{Literal}
use Rattle.literals.specs.declared.Literal.TheVariants.{Null, Int, Text, Truth}

-- what the word w of a literal says that suits a column of this type
abbrev pub Suited : List ℕ → ℕ → ℕ → Literal → Type 0
Suited pool type w Null = type_of w ≡ null_type
Suited pool type w (Int z) =
    (type_of w ≡ integer_type) × (type ≡ integer_type) × (length_of w ≡ integer_bytes) × Inside pool (record { at = offset_of w; len = length_of w })
    × (z ≡ signed (word_at pool (offset_of w)))
Suited pool type w (Text r) = (type_of w ≡ text_type) × (type ≡ text_type) × Inside pool r × (r ≡ record { at = offset_of w; len = length_of w })
Suited pool type w (Truth b) = (type_of w ≡ truth_type) × (type ≡ truth_type) × (length_of w ≡ 0) × (offset_of w ≤ 1)

pub suited : (pool : List ℕ) (type w : ℕ) → suits pool type w ≡ true → Suited pool type w (literal_of pool w)
unfolding suits
suited pool type w e = go (type_of w) refl e
  where
    go : (k : ℕ) → type_of w ≡ k
        → get_or (true ∷ (eqb type integer_type && (eqb (length_of w) integer_bytes && inside pool w)) ∷ (eqb type text_type && inside pool w)
        ∷ (eqb type truth_type && (eqb (length_of w) 0 && leb (offset_of w) 1)) ∷ []) k false ≡ true
        → Suited pool type w (literal_of pool w)
    go zero k e = rw (literal_null_lem pool w k) k
    go (suc zero) k e =
        let a = and_both (eqb type integer_type) (eqb (length_of w) integer_bytes && inside pool w) e in
        let b = and_both (eqb (length_of w) integer_bytes) (inside pool w) a.1 in
        rw (literal_int pool w k) (k, eqb-true _ _ a.0, eqb-true _ _ b.0, leb-true _ _ b.1, refl)
    go (suc (suc zero)) k e =
        let a = and_both (eqb type text_type) (inside pool w) e in
        rw (literal_text pool w k) (k, eqb-true _ _ a.0, leb-true _ _ a.1, refl)
    go (suc (suc (suc zero))) k e =
        let a = and_both (eqb type truth_type) (eqb (length_of w) 0 && leb (offset_of w) 1) e in
        let b = and_both (eqb (length_of w) 0) (leb (offset_of w) 1) a.1 in
        rw (literal_truth pool w k) (k, eqb-true _ _ a.0, eqb-true _ _ b.0, leb-true _ _ b.1)
    go (suc (suc (suc (suc k)))) e f = absurd (false≢true f)

-- a null whose unused fields are zero has no length
pub plain_null : (w : ℕ) → plain w ≡ true → type_of w ≡ null_type → length_of w ≡ 0
plain_null w e k =
    let rest : Bool = eqb (length_of w) 0 && eqb (offset_of w) 0 in
    let a = and_both (eqb (zero_of w) 0) (ltb 0 (type_of w) || rest) e in
    let b = or_other (ltb 0 (type_of w)) rest a.1 (le-ltb 0 (type_of w) (omega arith)) in
    eqb-true _ _ (and_both (eqb (length_of w) 0) (eqb (offset_of w) 0) b).0
