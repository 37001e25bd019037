-- AND, OR and NOT as tables, each checked against what it means. Assumes nothing.
use Rattle.std.specs.Prelude.{◌≡◌, refl, List, [], ◌∷◌, get_or}
use Rattle.kleene.specs.Truths.{place_of, kleene_and, kleene_or, kleene_not}
use Rattle.kleene.specs.declared.Truth.{Truth}
use Rattle.kleene.specs.declared.Truth.TheVariants.{False, Unknown, True}

abbrev pub ands : List (List Truth)
ands = (False ∷ False ∷ False ∷ []) ∷ (False ∷ Unknown ∷ Unknown ∷ []) ∷ (False ∷ Unknown ∷ True ∷ []) ∷ []

abbrev pub ors : List (List Truth)
ors = (False ∷ Unknown ∷ True ∷ []) ∷ (Unknown ∷ Unknown ∷ True ∷ []) ∷ (True ∷ True ∷ True ∷ []) ∷ []

abbrev pub nots : List Truth
nots = True ∷ Unknown ∷ False ∷ []

pub and_rule : (a b : Truth) → get_or (get_or ands (place_of a) []) (place_of b) False ≡ kleene_and a b
and_rule False False = refl
and_rule False Unknown = refl
and_rule False True = refl
and_rule Unknown False = refl
and_rule Unknown Unknown = refl
and_rule Unknown True = refl
and_rule True False = refl
and_rule True Unknown = refl
and_rule True True = refl

pub or_rule : (a b : Truth) → get_or (get_or ors (place_of a) []) (place_of b) False ≡ kleene_or a b
or_rule False False = refl
or_rule False Unknown = refl
or_rule False True = refl
or_rule Unknown False = refl
or_rule Unknown Unknown = refl
or_rule Unknown True = refl
or_rule True False = refl
or_rule True Unknown = refl
or_rule True True = refl

pub not_rule : (a : Truth) → get_or nots (place_of a) False ≡ kleene_not a
not_rule False = refl
not_rule Unknown = refl
not_rule True = refl
