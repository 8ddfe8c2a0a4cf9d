-- The lists that a call puts into lent arrays, as answers: the items of an array's front have the bytes of the items of the list, and how long they are.
-- Assumes nothing.
use Rattle.std.specs.Prelude.{Option, None, Some}
use Prim.Native.Nat.{ℕ, zero, suc, ◌+◌, ◌-◌, ◌*◌, ◌/◌, ◌%◌, ◌^◌, ◌≤◌, ◌<◌}
use native.Mathlib.Nat.{mul_assoc, mul_comm, pow-suc, zero-add}
use native.Mathlib.Omega.{arith}
use mathlib.Core.Path.{◌≡◌, refl, sym, ap, ap₂, ◌∙◌}
use mathlib.Core.Bool.{Bool, true, false}
use mathlib.Core.List.{List, [], ◌∷◌, ◌++◌, map, map-map}
use lib.ListN.{length, take, drop, get_or, length-map}
use lib.Seq.{length-sets}
use lib.Dec.{eqb}
use Rattle.records.specs.Pick.{pick}
use Rattle.records.specs.Records.{destination_address}
use Rattle.rows.specs.Lists.{All}
use Rattle.rows.specs.Rows.{rows_from, flat}
use Rattle.rows.specs.Tables.{rows_of, live, Held}
use Rattle.rows.proofs.Flat.{length-flat}
use Rattle.rows.proofs.Promises.{held-length}
use Rattle.codes.specs.Codes.{flag, quorum_word, quorum_from, schedule_from}
use Rattle.codes.proofs.Backs.{quorum-back}
use Rattle.tables.specs.Layouts.{unicast_table, destination_table, broadcast_table, broadcast_layout, broadcast_head}
use Rattle.records.specs.declared.Schedule.TheVariants.{Once, PassiveAck, FixedInterval}
use Rattle.casting.specs.Rules.{awaited_by, awaited_head, listed, awaited_of}
use Rattle.model.specs.Steps.{members_of}
use Rattle.model.proofs.Kepts.{all_map}
use Rattle.doing.specs.Parts.{entry_words, Listed}
use Rattle.lent.specs.Fills.{Filled}
use Rattle.lent.proofs.Fillings.{members-few}
use Rattle.answers.specs.Bytes.{le_bytes, Written}
use Rattle.answers.specs.Items.{item_bytes, items_bytes}
use Rattle.answers.proofs.Writings.{written-long}
use Rattle.answers.proofs.Lists.{items-append, items-length}
use Rattle.listings.specs.Listings.{short_item, key_item, abandoned_item, short_items, long_items, destination_items, key_items, by_two, abandoned_items}
use Rattle.listings.proofs.Pairings.{take-front}
use Rattle.listings.proofs.Puttings.{shorts-long, longs-long, destinations-long, keys-long}
use Rattle.exchange.specs.Types.{Unicast, Destination, Broadcast, Entry, QuorumKey, Item, Done, DestinationAddress, Key, ShortAddress, ExtendedAddress, Sizes, Shorts, Longs}
use Rattle.exchange.specs.World.{abandonment}
use Rattle.exchange.specs.Answering.{Answering}
use Rattle.exchange.specs.Gathered.{listed_items, Gathered, Few, Roomy, gathered_items, gathered_long}
use Rattle.exchange.proofs.Answers.{answering-as, no_room, all_fit, done-bytes, done-long}

-- ---- the bytes of a number are those of its lower part

le-over : (width r q : ℕ) → le_bytes width (r + 256 ^ width * q) ≡ le_bytes width r
le-over zero r q = refl
le-over (suc width) r q =
    let m : ℕ = 256 ^ width * q in
    let e : 256 ^ suc width * q ≡ 256 * m = ap (λ (n : ℕ). n * q) (pow-suc 256 width ∙ mul_comm (256 ^ width) 256) ∙ mul_assoc 256 (256 ^ width) q in
    let a : (r + 256 ^ suc width * q) % 256 ≡ r % 256 = ap (λ (n : ℕ). (r + n) % 256) e ∙ omega arith in
    let b : (r + 256 ^ suc width * q) / 256 ≡ r / 256 + m = ap (λ (n : ℕ). (r + n) / 256) e ∙ omega arith in
    ap₂ (λ (x : ℕ) (l : List ℕ). x ∷ l) a (ap (le_bytes width) b ∙ le-over width (r / 256) q)

pub le-two : (n : ℕ) → le_bytes 2 (n % 65536) ≡ le_bytes 2 n
le-two n =
    let e : n % 65536 + 65536 * (n / 65536) ≡ n = omega arith in
    sym (le-over 2 (n % 65536) (n / 65536)) ∙ ap (le_bytes 2) e

pub le_four : (n : ℕ) → le_bytes 4 (n % 4294967296) ≡ le_bytes 4 n
le_four n =
    let e : n % 4294967296 + 4294967296 * (n / 4294967296) ≡ n = omega arith in
    sym (le-over 4 (n % 4294967296) (n / 4294967296)) ∙ ap (le_bytes 4) e

-- ---- what holds of all

module _ {A : Type 0} (P : A → Type 0) where
  all_of : ((x : A) → P x) → (xs : List A) → All P xs
  all_of h [] = tt
  all_of h (x ∷ xs) = (h x, all_of h xs)

  all_take : (n : ℕ) (xs : List A) → All P xs → All P (take n xs)
  all_take zero xs a = tt
  all_take (suc n) [] a = tt
  all_take (suc n) (x ∷ xs) a = (a.0, all_take n xs a.1)

  -- records read out of words
  all-rows : (width : ℕ) (read : List ℕ → A) → ((v : List ℕ) → P (read v)) → (n : ℕ) (ws : List ℕ) → All P (rows_from width read n ws)
  all-rows width read h zero ws = tt
  all-rows width read h (suc n) ws = (h (take width ws), all-rows width read h n (drop width ws))

module _ {A : Type 0} (f g : A → Item) where
  -- items of the same bytes, one by one
  pub items-same : (xs : List A) → All (λ (x : A). item_bytes (f x) ≡ item_bytes (g x)) xs → items_bytes (map f xs) ≡ items_bytes (map g xs)
  items-same [] a = refl
  items-same (x ∷ xs) a = ap₂ (λ (k l : List ℕ). k ++ l) a.0 (items-same xs a.1)

  pub items_alike : ((x : A) → item_bytes (f x) ≡ item_bytes (g x)) → (xs : List A) → items_bytes (map f xs) ≡ items_bytes (map g xs)
  items_alike h xs = items-same xs (all_of (λ (x : A). item_bytes (f x) ≡ item_bytes (g x)) h xs)

-- items are no longer than with others behind them, and where both fit, the others do once the first are written
module _ (is js : List Item) where
  pub first_short : length (items_bytes is) ≤ length (items_bytes (is ++ js))
  first_short = omega (arith, items-length is js)

  pub rest-fits : {at : ℕ} {out out' : List ℕ} {r : ℕ} → at + length (items_bytes (is ++ js)) ≤ length out → Written at (items_bytes is) out out' r
      → r + length (items_bytes js) ≤ length out'
  rest-fits h w = omega (arith, items-length is js, w.next, written-long w)

-- ---- the front of an array

-- an array begins with the numbers that were put into it
pub filled-front : {xs out out' : List ℕ} {n : ℕ} → Filled 0 xs out out' n → length xs ≤ length out → take n out' ≡ xs
filled-front {xs} {out} f h = ap₂ (λ (k : ℕ) (l : List ℕ). take k l) (f.next ∙ zero-add (length xs)) f.words ∙ take-front out xs h

pub filled-long : {xs out out' : List ℕ} {n : ℕ} → Filled 0 xs out out' n → length out' ≡ length out
filled-long {xs} {out} f = ap length f.words ∙ length-sets out 0 xs

module _ {xs out out' : List ℕ} {n : ℕ} (f : Filled 0 xs out out' n) (h : length xs ≤ length out) where
  pub shorts-bytes : items_bytes (short_items out' n) ≡ items_bytes (map ShortAddress xs)
  shorts-bytes =
      ap (λ (l : List ℕ). items_bytes (map short_item l)) (filled-front f h)
      ∙ items_alike short_item ShortAddress (λ (x : ℕ). ap (λ (l : List ℕ). 136 ∷ l) (le-two x)) xs

  pub longs-bytes : items_bytes (long_items out' n) ≡ items_bytes (map ExtendedAddress xs)
  longs-bytes = ap (λ (l : List ℕ). items_bytes (map ExtendedAddress l)) (filled-front f h)

  pub destinations-bytes : items_bytes (destination_items out' n) ≡ items_bytes (map DestinationAddress xs)
  destinations-bytes = ap (λ (l : List ℕ). items_bytes (map DestinationAddress l)) (filled-front f h)

-- ---- keys

-- a key that its word says again
abbrev pub Narrow : QuorumKey → Type 0
Narrow k = (k.src < 65536) × (k.sequence < 256)

pub keys-bytes : (ks : List QuorumKey) {out out' : List ℕ} {n : ℕ} → All Narrow ks → Filled 0 (map quorum_word ks) out out' n → length ks ≤ length out
    → items_bytes (key_items out' n) ≡ items_bytes (map Key ks)
keys-bytes ks {out} a f h =
    let l : length (map quorum_word ks) ≤ length out = omega (arith, length-map ks quorum_word) in
    ap (λ (l : List ℕ). items_bytes (map key_item l)) (filled-front f l)
    ∙ ap items_bytes (map-map key_item quorum_word ks)
    ∙ items-same (λ (k : QuorumKey). key_item (quorum_word k)) Key ks
    (all_map Narrow _ (λ k p. ap (λ (x : QuorumKey). item_bytes (Key x)) (quorum-back k p.0 p.1).back) ks a)

pub from-narrow : (x : ℕ) → Narrow (quorum_from x)
from-narrow x = (omega arith, omega arith)

pub awaited-few : (bs : List Broadcast) → length (awaited_of bs) ≤ length bs
awaited-few [] = omega arith
awaited-few (b ∷ bs) = go (awaited_head (broadcast_head b)) (awaited-few bs)
  where
    go : (x : Option QuorumKey) → length (awaited_of bs) ≤ length bs → length (listed x (awaited_of bs)) ≤ suc (length bs)
    go None h = omega arith
    go (Some k) h = omega arith

-- the key that a broadcast awaits, if any, is narrow
abbrev Asks : Broadcast → Type 0
Asks b = All Narrow (listed (awaited_head (broadcast_head b)) [])

asks-narrow : (bs : List Broadcast) → All Asks bs → All Narrow (awaited_of bs)
asks-narrow [] a = tt
asks-narrow (b ∷ bs) a = go (awaited_head (broadcast_head b)) a.0 (asks-narrow bs a.1)
  where
    go : (x : Option QuorumKey) → All Narrow (listed x []) → All Narrow (awaited_of bs) → All Narrow (listed x (awaited_of bs))
    go None h r = r
    go (Some k) h r = (h.0, r)

schedule-narrow : (heard : Bool) (tag copies what next : ℕ) → All Narrow (listed (awaited_by heard (schedule_from tag copies what next)) [])
schedule-narrow heard tag copies what next = go (eqb tag 0) (eqb tag 1) heard
  where
    go : (a b c : Bool) → All Narrow (listed (awaited_by c (pick a Once (pick b (PassiveAck (quorum_from what) (copies % 256) next) (FixedInterval (what % 4294967296) (copies % 256) next)))) [])
    go true b c = tt
    go false true true = tt
    go false true false = (from-narrow what, tt)
    go false false c = tt

-- records come out of words
pub keys-narrow : (ws : List ℕ) (n : ℕ) → All Narrow (awaited_of (live broadcast_table ws n))
unfolding rows_of broadcast_layout
keys-narrow ws n =
    asks-narrow (live broadcast_table ws n)
    (all_take Asks n (rows_of broadcast_table ws)
    (all-rows Asks broadcast_layout.width broadcast_layout.record_of
    (λ v. schedule-narrow (flag (get_or v 6 0 / 64 % 2)) (get_or v 6 0 / 128 % 4) (get_or v 6 0 / 512 % 256) (get_or v 5 0) (get_or v 4 0))
    broadcast_table.room ws))

-- ---- abandoned sends

two-words : (es : List Entry) → by_two (flat entry_words es) ≡ map (λ (e : Entry). abandoned_item e.id e.waiter) es
two-words [] = refl
two-words (e ∷ es) = ap (λ (l : List Item). abandoned_item e.id e.waiter ∷ l) (two-words es)

pub listed-long : {at : ℕ} {es : List Entry} {list list' : List ℕ} {n : ℕ} → Listed at es list list' n → length list' ≡ length list
listed-long {at} {es} {list} {list'} {n} h = ap length h.words ∙ length-sets list (at * 2) (flat entry_words es)

pub abandoned-bytes : {es : List Entry} {list list' : List ℕ} {n : ℕ} → Listed 0 es list list' n → length list ≡ 128 → length es ≤ 64
    → items_bytes (abandoned_items list' n) ≡ items_bytes (map abandonment es)
abandoned-bytes {es} {list} {list'} {n} l e h =
    let k : length (flat entry_words es) ≡ length es * 2 = length-flat 2 entry_words (λ x. refl) es in
    let m : n * 2 ≡ length (flat entry_words es) = omega (arith, l.next) in
    let f : take (n * 2) list' ≡ flat entry_words es =
    ap₂ (λ (j : ℕ) (v : List ℕ). take j v) m l.words ∙ take-front list (flat entry_words es) (omega arith) in
    ap (λ (v : List ℕ). items_bytes (by_two v)) f ∙ ap items_bytes (two-words es)
    ∙ items_alike (λ (x : Entry). abandoned_item x.id x.waiter) abandonment
    (λ (x : Entry). ap₂ (λ (u v : List ℕ). 139 ∷ (u ++ v)) (le_four x.id) (le_four x.waiter)) es

-- ---- the four lists of event 20

-- each list and what follows it
abbrev pub from_longs : List ℕ → Sizes → List Item
from_longs ls n = long_items ls n.longs ++ (Done ∷ [])

abbrev pub from_shorts : List ℕ → List ℕ → Sizes → List Item
from_shorts ss ls n = short_items ss n.shorts ++ from_longs ls n

abbrev pub from_keys : List ℕ → List ℕ → List ℕ → Sizes → List Item
from_keys ks ss ls n = key_items ks n.keys ++ from_shorts ss ls n

four_bytes : (is js ks ls : List Item)
    → items_bytes (is ++ (js ++ (ks ++ (ls ++ (Done ∷ []))))) ≡ items_bytes is ++ (items_bytes js ++ (items_bytes ks ++ (items_bytes ls ++ (129 ∷ []))))
four_bytes is js ks ls =
    items-append is (js ++ (ks ++ (ls ++ (Done ∷ []))))
    ∙ ap (λ (l : List ℕ). items_bytes is ++ l) (items-append js (ks ++ (ls ++ (Done ∷ []))))
    ∙ ap (λ (l : List ℕ). items_bytes is ++ (items_bytes js ++ l)) (items-append ks (ls ++ (Done ∷ [])))
    ∙ ap (λ (l : List ℕ). items_bytes is ++ (items_bytes js ++ (items_bytes ks ++ l))) (done-bytes ls)

-- how long they are
pub roomy-long : {ds ks ss ls : List ℕ} {n : Sizes} → Roomy ds ks ss ls n → length (items_bytes (gathered_items ds ks ss ls n)) ≡ gathered_long n
roomy-long {ds} {ks} {ss} {ls} {n} r =
    let a = items-length (destination_items ds n.destinations) (from_keys ks ss ls n) in
    let b = items-length (key_items ks n.keys) (from_shorts ss ls n) in
    let c = items-length (short_items ss n.shorts) (from_longs ls n) in
    let d = done-long (long_items ls n.longs) in
    omega (arith, a, b, c, d, destinations-long ds n.destinations r.destinations, keys-long ks n.keys r.keys, shorts-long ss n.shorts r.shorts, longs-long ls n.longs r.longs)

module _ {us : List Unicast} {hs : List Destination} {bs : List Broadcast} {es ns ds ks ss ls ds' ks' ss' ls' : List ℕ} {n : Sizes}
    (g : Gathered us hs bs es ns ds ks ss ls ds' ks' ss' ls' n) (d : length ds ≡ 16) (k : length ks ≡ 16) (s : length ss ≡ 32) (l : length ls ≡ 32)
    (few-us : length us ≤ 32) (few-hs : length hs ≤ 16) (few-bs : length bs ≤ 16) where
  pub gathered-few : Few n
  gathered-few =
      record {
        destinations = omega (arith, g.destinations.next, length-map hs destination_address);
        keys = omega (arith, g.keys.next, length-map (awaited_of bs) quorum_word, awaited-few bs);
        shorts = omega (arith, g.shorts.next, members-few Shorts es ns us);
        longs = omega (arith, g.longs.next, members-few Longs es ns us);
      }

  pub gathered-roomy : Roomy ds' ks' ss' ls' n
  gathered-roomy =
      let few : Few n = gathered-few in
      record {
        few = few;
        destinations = omega (arith, few.destinations, filled-long g.destinations);
        keys = omega (arith, few.keys, filled-long g.keys);
        shorts = omega (arith, few.shorts, filled-long g.shorts);
        longs = omega (arith, few.longs, filled-long g.longs);
      }

  pub gathered-is : All Narrow (awaited_of bs) → items_bytes (gathered_items ds' ks' ss' ls' n) ≡ items_bytes (listed_items us hs bs es ns)
  gathered-is a =
      let e₁ = destinations-bytes g.destinations (omega (arith, length-map hs destination_address)) in
      let e₂ = keys-bytes (awaited_of bs) a g.keys (omega (arith, awaited-few bs)) in
      let e₃ = shorts-bytes g.shorts (omega (arith, members-few Shorts es ns us)) in
      let e₄ = longs-bytes g.longs (omega (arith, members-few Longs es ns us)) in
      four_bytes (destination_items ds' n.destinations) (key_items ks' n.keys) (short_items ss' n.shorts) (long_items ls' n.longs)
      ∙ (λ i. e₁ i ++ (e₂ i ++ (e₃ i ++ (e₄ i ++ (129 ∷ [])))))
      ∙ sym (four_bytes (map DestinationAddress (map destination_address hs)) (map Key (awaited_of bs)) (map ShortAddress (members_of Shorts es ns us)) (map ExtendedAddress (members_of Longs es ns us)))

-- gathered out of the tables, they say the lists
pub record Saying (items : List Item) (ds ks ss ls : List ℕ) (n : Sizes) : Type 0 where
  pub roomy : Roomy ds ks ss ls n
  pub long : length (items_bytes (gathered_items ds ks ss ls n)) ≡ gathered_long n
  pub is : items_bytes (gathered_items ds ks ss ls n) ≡ items_bytes items

pub gathered-says : {ws hw bw es ns ds ks ss ls ds' ks' ss' ls' : List ℕ} {i j k : ℕ} {n : Sizes}
    → Held unicast_table ws i → Held destination_table hw j → Held broadcast_table bw k
    → Gathered (live unicast_table ws i) (live destination_table hw j) (live broadcast_table bw k) es ns ds ks ss ls ds' ks' ss' ls' n
    → length ds ≡ 16 → length ks ≡ 16 → length ss ≡ 32 → length ls ≡ 32
    → Saying (listed_items (live unicast_table ws i) (live destination_table hw j) (live broadcast_table bw k) es ns) ds' ks' ss' ls' n
gathered-says {ws} {hw} {bw} {i = i} {j} {k} u h b g p q r t =
    let few-us : length (live unicast_table ws i) ≤ 32 = omega (arith, held-length u, u.within) in
    let few-hs : length (live destination_table hw j) ≤ 16 = omega (arith, held-length h, h.within) in
    let few-bs : length (live broadcast_table bw k) ≤ 16 = omega (arith, held-length b, b.within) in
    let roomy = gathered-roomy g p q r t few-us few-hs few-bs in
    record { roomy = roomy; long = roomy-long roomy; is = gathered-is g p q r t few-us few-hs few-bs (keys-narrow bw k) }

module _ {items : List Item} {ds ks ss ls : List ℕ} {n : Sizes} (g : Saying items ds ks ss ls n) {at : ℕ} {out : List ℕ} (room : at + 6 ≤ length out) where
  pub says_nothing : length out - at - 6 < gathered_long n → Answering items at out out 0
  says_nothing h = answering-as g.is (no_room {is = gathered_items ds ks ss ls n} room (omega (arith, g.long)))

  pub says_all : {out' : List ℕ} {r : ℕ} → gathered_long n ≤ length out - at - 6 → Written at (items_bytes (gathered_items ds ks ss ls n)) out out' r
      → Answering items at out out' r
  says_all h w = answering-as g.is (all_fit {is = gathered_items ds ks ss ls n} room (omega (arith, g.long)) w)
