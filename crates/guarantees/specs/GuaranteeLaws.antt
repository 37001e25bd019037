-- Guarantee words: their fields are what was packed, and each is a word. Assumes nothing.
use Rattle.std.specs.Prelude.{◌≡◌, refl, List, [], ◌∷◌, ℕ, suc, ◌^◌, ◌<◌, length}
use Rattle.std.proofs.Common.{ap, arith, lit<}
use Rattle.words.specs.Layout.{Within}
use Rattle.words.specs.LayoutLaws.{packed_within, field_packed}
use Rattle.words.specs.WordLaws.{AllBelow, below_cons}
use Rattle.literals.specs.Literals.{bit_of}
use Rattle.literals.specs.LiteralLaws.{bit_below}
use Rattle.guarantees.specs.Guarantees.{Guarantee, guarantee_layout, column_field, not_in_field, zero_field, guarantee_word, guarantee_words}

-- a guarantee that a word can hold
pub record Small (g : Guarantee) : Type 0 where
  pub column : g.of.0 < 256
  pub place : g.place < 2 ^ 16

abbrev parts : Guarantee → List ℕ
parts g = g.of.0 ∷ bit_of g.not_in ∷ g.place ∷ 0 ∷ []

module _ (g : Guarantee) (h : Small g) where
  parts_within : Within guarantee_layout (parts g)
  parts_within = (h.column, (bit_below g.not_in, (h.place, (lit< tt, tt))))

  pub guarantee_column : column_field (guarantee_word g) ≡ g.of.0
  guarantee_column = field_packed guarantee_layout (parts g) 0 parts_within

  pub guarantee_not_in : not_in_field (guarantee_word g) ≡ bit_of g.not_in
  guarantee_not_in = field_packed guarantee_layout (parts g) 1 parts_within

  pub guarantee_zero : zero_field (guarantee_word g) ≡ 0
  guarantee_zero = field_packed guarantee_layout (parts g) 3 parts_within

  pub guarantee_below : guarantee_word g < 2 ^ 64
  guarantee_below = packed_within guarantee_layout (parts g) parts_within

abbrev pub AllSmall : List Guarantee → Type 0
AllSmall [] = Unit {0}
AllSmall (g ∷ gs) = Small g × AllSmall gs

pub length_guarantees : (gs : List Guarantee) → length (guarantee_words gs) ≡ length gs
length_guarantees [] = refl
length_guarantees (g ∷ gs) = ap suc (length_guarantees gs)

pub guarantees_below : (gs : List Guarantee) → AllSmall gs → AllBelow (2 ^ 64) (guarantee_words gs)
guarantees_below [] h = λ k. omega arith
guarantees_below (g ∷ gs) h = below_cons (2 ^ 64) (guarantee_word g) (guarantee_words gs) (guarantee_below g h.0) (guarantees_below gs h.1)
