-- Listings and maps in full, as numbers. Assumes nothing.
use Rattle.std.specs.Prelude.{None, Some}
use mathlib.Core.Path.{◌≡◌, refl}
use mathlib.Core.List.{[], ◌∷◌}
use Rattle.answers.specs.Items.{items_bytes}
use Rattle.listings.specs.Listings.{short_items, key_items, abandoned_items, wake_items}
use Rattle.listings.specs.Maps.{keys_with, shorts_with}

-- two of three numbers, the lower byte first
pub shorts : items_bytes (short_items (258 ∷ 7 ∷ 9 ∷ []) 2) ≡ 136 ∷ 2 ∷ 1 ∷ 136 ∷ 7 ∷ 0 ∷ []
shorts = refl

-- source 258, sequence 3
pub key : items_bytes (key_items (196866 ∷ []) 1) ≡ 138 ∷ 2 ∷ 1 ∷ 3 ∷ []
key = refl

pub abandoned : items_bytes (abandoned_items (1 ∷ 65 ∷ 2 ∷ 66 ∷ []) 1) ≡ 139 ∷ 1 ∷ 0 ∷ 0 ∷ 0 ∷ 65 ∷ 0 ∷ 0 ∷ 0 ∷ []
abandoned = refl

pub wakes : items_bytes (wake_items (Some 257)) ≡ 135 ∷ 1 ∷ 1 ∷ 0 ∷ 0 ∷ 0 ∷ 0 ∷ 0 ∷ 0 ∷ []
wakes = refl

pub sleeps : items_bytes (wake_items None) ≡ []
sleeps = refl

-- a new address in its place, and one that is there
pub between : keys_with 5 (3 ∷ 8 ∷ []) ≡ 3 ∷ 5 ∷ 8 ∷ []
between = refl

pub between-shorts : shorts_with 5 9 (3 ∷ 8 ∷ []) (1 ∷ 2 ∷ []) ≡ 1 ∷ 9 ∷ 2 ∷ []
between-shorts = refl

pub again : keys_with 8 (3 ∷ 8 ∷ []) ≡ 3 ∷ 8 ∷ []
again = refl

pub again-shorts : shorts_with 8 9 (3 ∷ 8 ∷ []) (1 ∷ 2 ∷ []) ≡ 1 ∷ 9 ∷ []
again-shorts = refl
