-- The answers of a trace that are a list: an item for each of the first n numbers of a lent array, in their order.
use Rattle.std.specs.Prelude.{ℕ, ◌*◌, ◌%◌, List, [], ◌∷◌, map, take, Option, None, Some}
use Rattle.codes.specs.Codes.{quorum_from}
use Rattle.listings.specs.Types.{Item, Time, ShortAddress, ExtendedAddress, Key, Abandonment, DestinationAddress}

-- ---- one item

abbrev pub short_item : ℕ → Item
short_item x = ShortAddress (x % 65536)

abbrev pub long_item : ℕ → Item
long_item x = ExtendedAddress x

abbrev pub destination_item : ℕ → Item
destination_item x = DestinationAddress x

abbrev pub key_item : ℕ → Item
key_item x = Key (quorum_from x)

-- id and waiter
abbrev pub abandoned_item : ℕ → ℕ → Item
abandoned_item id waiter = Abandonment (id % 4294967296) (waiter % 4294967296)

-- ---- the items of the first n

abbrev pub short_items : List ℕ → ℕ → List Item
short_items xs n = map short_item (take n xs)

abbrev pub long_items : List ℕ → ℕ → List Item
long_items xs n = map long_item (take n xs)

abbrev pub destination_items : List ℕ → ℕ → List Item
destination_items xs n = map destination_item (take n xs)

abbrev pub key_items : List ℕ → ℕ → List Item
key_items xs n = map key_item (take n xs)

-- numbers two by two; one left over is none
abbrev pub by_two : List ℕ → List Item
by_two [] = []
by_two (x ∷ []) = []
by_two (x ∷ y ∷ xs) = abandoned_item x y ∷ by_two xs

abbrev pub abandoned_items : List ℕ → ℕ → List Item
abandoned_items xs n = by_two (take (n * 2) xs)

-- ---- the next wake

-- its time, or nothing
abbrev pub wake_items : Option ℕ → List Item
wake_items None = []
wake_items (Some t) = Time t ∷ []
