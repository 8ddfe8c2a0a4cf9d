-- Four traces and how many whole records each begins with. Assumes nothing.
use mathlib.Core.Path.{◌≡◌, refl}
use mathlib.Core.List.{[], ◌∷◌}
use Rattle.framing.specs.Kinds.{body_of}
use Rattle.trace.specs.Reading.{records_in}

-- next wake, then retry for hop 113, up to the end
pub two : records_in (18 ∷ 10 ∷ 113 ∷ 0 ∷ []) ≡ 2
unfolding body_of
two = refl

-- the same a byte short: the second is cut
pub cut : records_in (18 ∷ 10 ∷ 113 ∷ []) ≡ 1
unfolding body_of
cut = refl

-- a kind of no event between them: what follows is not reached
pub unknown : records_in (18 ∷ 23 ∷ 10 ∷ 113 ∷ 0 ∷ []) ≡ 1
unfolding body_of
unknown = refl

pub empty : records_in [] ≡ 0
empty = refl
