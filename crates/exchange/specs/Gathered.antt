-- Event 20: the lists, and how they are gathered in four lent arrays before they are written.
use Rattle.std.specs.Prelude.{ℕ, ◌+◌, ◌*◌, ◌≤◌, List, [], ◌∷◌, ◌++◌, map, length}
use Rattle.records.specs.Records.{destination_address}
use Rattle.codes.specs.Codes.{quorum_word}
use Rattle.lent.specs.Fills.{Filled}
use Rattle.listings.specs.Listings.{destination_items, key_items, short_items, long_items}
use Rattle.model.specs.Steps.{members_of}
use Rattle.casting.specs.Rules.{awaited_of}
use Rattle.exchange.specs.Types.{Unicast, Destination, Broadcast, Item, Done, DestinationAddress, Key, ShortAddress, ExtendedAddress, Sizes, Shorts, Longs}

-- destinations, keys, the short set, the extended set, 129
abbrev pub listed_items : List Unicast → List Destination → List Broadcast → List ℕ → List ℕ → List Item
listed_items us hs bs es ns =
    map DestinationAddress (map destination_address hs)
    ++ (map Key (awaited_of bs)
    ++ (map ShortAddress (members_of Shorts es ns us) ++ (map ExtendedAddress (members_of Longs es ns us) ++ (Done ∷ []))))

-- each array begins with its list
pub record Gathered (us : List Unicast) (hs : List Destination) (bs : List Broadcast) (es ns ds ks ss ls ds' ks' ss' ls' : List ℕ) (n : Sizes) : Type 0 where
  pub destinations : Filled 0 (map destination_address hs) ds ds' n.destinations
  pub keys : Filled 0 (map quorum_word (awaited_of bs)) ks ks' n.keys
  pub shorts : Filled 0 (members_of Shorts es ns us) ss ss' n.shorts
  pub longs : Filled 0 (members_of Longs es ns us) ls ls' n.longs

-- no more than the arrays have
pub record Few (n : Sizes) : Type 0 where
  pub destinations : n.destinations ≤ 16
  pub keys : n.keys ≤ 16
  pub shorts : n.shorts ≤ 32
  pub longs : n.longs ≤ 32

pub record Roomy (ds ks ss ls : List ℕ) (n : Sizes) : Type 0 where
  pub few : Few n
  pub destinations : n.destinations ≤ length ds
  pub keys : n.keys ≤ length ks
  pub shorts : n.shorts ≤ length ss
  pub longs : n.longs ≤ length ls

-- the items that the arrays say, and how many bytes they take
abbrev pub gathered_items : List ℕ → List ℕ → List ℕ → List ℕ → Sizes → List Item
gathered_items ds ks ss ls n =
    destination_items ds n.destinations
    ++ (key_items ks n.keys ++ (short_items ss n.shorts ++ (long_items ls n.longs ++ (Done ∷ []))))

abbrev pub gathered_long : Sizes → ℕ
gathered_long n = n.destinations * 3 + n.keys * 4 + n.shorts * 3 + n.longs * 9 + 1
