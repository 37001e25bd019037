-- Kleene's AND, OR and NOT by what they mean: unknown is either of false and true, and a result is known where it is the same whichever.
-- Assumes nothing.
use Rattle.std.specs.Prelude.{Bool, true, false, not, ◌&&◌, ◌||◌, List, [], ◌∷◌, ◌++◌, ℕ}
use Rattle.kleene.specs.declared.Truth.{Truth}
use Rattle.kleene.specs.declared.Truth.TheVariants.{False, Unknown, True}
use Rattle.kleene.specs.declared.Joining.{Joining}
use Rattle.kleene.specs.declared.Joining.TheVariants.{And, Or}

abbrev pub truth_of : Bool → Truth
truth_of true = True
truth_of false = False

-- the place of a truth value in a table
abbrev pub place_of : Truth → ℕ
place_of False = 0
place_of Unknown = 1
place_of True = 2

-- what a truth value may turn out to be
abbrev pub maybe : Truth → List Bool
maybe False = false ∷ []
maybe Unknown = false ∷ true ∷ []
maybe True = true ∷ []

-- one truth value for all that may turn out, unknown where they differ
abbrev pub agree : Bool → List Bool → Truth
agree b [] = truth_of b
agree true (true ∷ bs) = agree true bs
agree false (false ∷ bs) = agree false bs
agree true (false ∷ bs) = Unknown
agree false (true ∷ bs) = Unknown

abbrev pub together : List Bool → Truth
together [] = Unknown
together (b ∷ bs) = agree b bs

abbrev pub mapped : (Bool → Bool) → List Bool → List Bool
mapped f [] = []
mapped f (b ∷ bs) = f b ∷ mapped f bs

abbrev pub crossed : (Bool → Bool → Bool) → List Bool → List Bool → List Bool
crossed f [] bs = []
crossed f (a ∷ cs) bs = mapped (f a) bs ++ crossed f cs bs

-- an operation on truth values by the same on what they may be
abbrev pub lifted : (Bool → Bool → Bool) → Truth → Truth → Truth
lifted f a b = together (crossed f (maybe a) (maybe b))

abbrev pub kleene_and : Truth → Truth → Truth
kleene_and a b = lifted ◌&&◌ a b

abbrev pub kleene_or : Truth → Truth → Truth
kleene_or a b = lifted ◌||◌ a b

abbrev pub kleene_not : Truth → Truth
kleene_not a = together (mapped not (maybe a))

abbrev pub kleene : Joining → Truth → Truth → Truth
kleene And a b = kleene_and a b
kleene Or a b = kleene_or a b
