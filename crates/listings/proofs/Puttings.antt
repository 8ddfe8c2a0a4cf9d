-- Items of a list written in turn, by what is left of it; and the items of the first n numbers: how many, which, and how long. Assumes nothing.
use Rattle.std.specs.Prelude.{Some}
use Prim.Native.Nat.{ℕ, zero, suc, ◌+◌, ◌*◌, ◌≤◌, ◌<◌}
use native.Mathlib.Nat.{add-zero, add_assoc, add_comm, suc-mul}
use native.Mathlib.Omega.{arith}
use mathlib.Core.Path.{◌≡◌, refl, sym, ap, ap₂, ◌∙◌}
use mathlib.Core.List.{List, [], ◌∷◌, ◌++◌, map}
use lib.ListN.{length, take, drop, get_or, length-append, length-map, drop_of_length-le}
use lib.Seq.{sets, length-sets, length-take-le, get_or-take, drop-cons}
use Rattle.rows.proofs.Sets.{sets-append}
use Rattle.answers.specs.Bytes.{Written}
use Rattle.answers.specs.Items.{item_bytes, items_bytes}
use Rattle.answers.proofs.Writings.{written_as}
use Rattle.listings.specs.Types.{Item, Done}
use Rattle.listings.specs.Listings.{short_item, long_item, destination_item, key_item, abandoned_item, short_items, long_items, destination_items, key_items, by_two, abandoned_items, wake_items}

-- ---- what is left of a list of items

pub items-turn : (is : List Item) (j : ℕ) → j < length is → items_bytes (drop j is) ≡ item_bytes (get_or is j Done) ++ items_bytes (drop (j + 1) is)
items-turn is j h =
    let f : suc j ≡ j + 1 = omega arith in
    ap items_bytes (drop-cons is j Done h) ∙ ap (λ (k : ℕ). item_bytes (get_or is j Done) ++ items_bytes (drop k is)) f

pub items_left : (is : List Item) (j : ℕ) → j < length is
    → length (items_bytes (drop j is)) ≡ length (item_bytes (get_or is j Done)) + length (items_bytes (drop (j + 1) is))
items_left is j h = ap length (items-turn is j h) ∙ length-append (item_bytes (get_or is j Done)) (items_bytes (drop (j + 1) is))

-- writing what is left of the n items, from here, gives the whole
pub record Putting (is : List Item) (n at₀ : ℕ) (out₀ out : List ℕ) (at i : ℕ) : Type 0 where
  pub count : n ≡ length is
  pub low : i ≤ n
  pub long : length out ≡ length out₀
  pub place : at + length (items_bytes (drop i is)) ≡ at₀ + length (items_bytes is)
  pub goes : sets out at (items_bytes (drop i is)) ≡ sets out₀ at₀ (items_bytes is)

pub put-start : (is : List Item) (n at : ℕ) (out : List ℕ) → n ≡ length is → Putting is n at out out at 0
put-start is n at out e = record { count = e; low = omega arith; long = refl; place = refl; goes = refl }

module _ {is : List Item} {n at₀ : ℕ} {out₀ out : List ℕ} {at i : ℕ} (p : Putting is n at₀ out₀ out at i) where
  pub put-turn : {a : Item} {out' : List ℕ} {r : ℕ} → i < n → get_or is i Done ≡ a → Written at (item_bytes a) out out' r → Putting is n at₀ out₀ out' r (i + 1)
  put-turn {a} {out'} {r} h e w =
      let c = p.count in
      let l : i < length is = omega arith in
      let bs : List ℕ = item_bytes (get_or is i Done) in
      let v : Written at bs out out' r = written_as (ap item_bytes (sym e)) w in
      let rest : List ℕ = items_bytes (drop (i + 1) is) in
      record {
        count = c;
        low = omega arith;
        long = ap length v.holds ∙ length-sets out at bs ∙ p.long;
        place = ap (λ (k : ℕ). k + length rest) v.next ∙ add_assoc at (length bs) (length rest)
            ∙ ap (λ (k : ℕ). at + k) (sym (items_left is i l)) ∙ p.place;
        goes = ap₂ (λ (l : List ℕ) (k : ℕ). sets l k rest) v.holds v.next ∙ sym (sets-append out at bs rest)
            ∙ ap (sets out at) (sym (items-turn is i l)) ∙ p.goes;
      }

  pub put-end : n ≤ i → Written at₀ (items_bytes is) out₀ out at
  put-end h =
      let c = p.count in
      let l : length is ≤ i = omega arith in
      let e : items_bytes (drop i is) ≡ [] = ap items_bytes (drop_of_length-le is l) in
      record {
        holds = ap (sets out at) (sym e) ∙ p.goes;
        next = sym (add-zero at) ∙ ap (λ (l : List ℕ). at + length l) (sym e) ∙ p.place;
      }

  -- the next item fits
  pub put-room : {a : Item} → i < n → get_or is i Done ≡ a → at₀ + length (items_bytes is) ≤ length out₀ → at + length (item_bytes a) ≤ length out
  put-room {a} h e b =
      let c = p.count in
      let f : length (item_bytes (get_or is i Done)) ≡ length (item_bytes a) = ap (λ (x : Item). length (item_bytes x)) e in
      let g = items_left is i (omega arith) in
      let l = p.long in
      let q = p.place in
      omega arith

-- ---- the items of the first n numbers

-- how many
pub map-count : (f : ℕ → Item) (xs : List ℕ) (n : ℕ) → n ≤ length xs → n ≡ length (map f (take n xs))
map-count f xs n h = sym (length-map (take n xs) f ∙ length-take-le n xs h)

-- which, of a whole list
item-at : (f : ℕ → Item) (ks : List ℕ) (i : ℕ) → i < length ks → get_or (map f ks) i Done ≡ f (get_or ks i 0)
item-at f [] i l = absurd (omega arith)
item-at f (k ∷ ks) zero l = refl
item-at f (k ∷ ks) (suc i) l = item-at f ks i (omega arith)

-- which
pub map-item : (f : ℕ → Item) (xs : List ℕ) (n i : ℕ) → n ≤ length xs → i < n → get_or (map f (take n xs)) i Done ≡ f (get_or xs i 0)
map-item f xs n i h l = item-at f (take n xs) i (omega (arith, length-take-le n xs h)) ∙ ap f (get_or-take n xs i 0 l)

-- the next number's item fits, and writing it leaves what is behind it
module _ (f : ℕ → Item) (xs : List ℕ) {n at₀ : ℕ} {out₀ out : List ℕ} {at i : ℕ} (p : Putting (map f (take n xs)) n at₀ out₀ out at i) (l : i < length (take n xs)) where
  below : i < n
  below = omega (arith, p.count, length-map (take n xs) f)

  pub number-room : at₀ + length (items_bytes (map f (take n xs))) ≤ length out₀ → at + length (item_bytes (f (get_or (take n xs) i 0))) ≤ length out
  number-room b = put-room p below (item-at f (take n xs) i l) b

  pub number-turn : {out' : List ℕ} {r : ℕ} → Written at (item_bytes (f (get_or (take n xs) i 0))) out out' r → Putting (map f (take n xs)) n at₀ out₀ out' r (i + 1)
  number-turn w = put-turn p below (item-at f (take n xs) i l) w

-- how long, where every item has k bytes
pub map-long : (f : ℕ → Item) (k : ℕ) → ((x : ℕ) → length (item_bytes (f x)) ≡ k) → (xs : List ℕ) (n : ℕ) → n ≤ length xs
    → length (items_bytes (map f (take n xs))) ≡ n * k
map-long f k e xs zero h = omega arith
map-long f k e [] (suc n) h = absurd (omega arith)
map-long f k e (x ∷ xs) (suc n) h =
    let u : length (items_bytes (map f (take n xs))) ≡ n * k = map-long f k e xs n (omega arith) in
    length-append (item_bytes (f x)) (items_bytes (map f (take n xs))) ∙ ap₂ (λ (a b : ℕ). a + b) (e x) u ∙ add_comm k (n * k) ∙ sym (suc-mul n k)

pub shorts-long : (xs : List ℕ) (n : ℕ) → n ≤ length xs → length (items_bytes (short_items xs n)) ≡ n * 3
shorts-long xs n h = map-long short_item 3 (λ x. refl) xs n h

pub longs-long : (xs : List ℕ) (n : ℕ) → n ≤ length xs → length (items_bytes (long_items xs n)) ≡ n * 9
longs-long xs n h = map-long long_item 9 (λ x. refl) xs n h

pub destinations-long : (xs : List ℕ) (n : ℕ) → n ≤ length xs → length (items_bytes (destination_items xs n)) ≡ n * 3
destinations-long xs n h = map-long destination_item 3 (λ x. refl) xs n h

pub keys-long : (xs : List ℕ) (n : ℕ) → n ≤ length xs → length (items_bytes (key_items xs n)) ≡ n * 4
keys-long xs n h = map-long key_item 4 (λ x. refl) xs n h

-- ---- two by two

two-step : (x y : ℕ) (xs : List ℕ) (n : ℕ) → abandoned_items (x ∷ y ∷ xs) (suc n) ≡ abandoned_item x y ∷ abandoned_items xs n
two-step x y xs n =
    let e : suc n * 2 ≡ suc (suc (n * 2)) = omega arith in
    ap (λ (k : ℕ). by_two (take k (x ∷ y ∷ xs))) e

pub two-count : (xs : List ℕ) (n : ℕ) → n * 2 ≤ length xs → n ≡ length (abandoned_items xs n)
two-count xs zero h = refl
two-count [] (suc n) h = absurd (omega arith)
two-count (x ∷ []) (suc n) h = absurd (omega arith)
two-count (x ∷ y ∷ xs) (suc n) h = ap suc (two-count xs n (omega arith)) ∙ ap length (sym (two-step x y xs n))

pub two-item : (xs : List ℕ) (n i : ℕ) → n * 2 ≤ length xs → i < n
    → get_or (abandoned_items xs n) i Done ≡ abandoned_item (get_or xs (i * 2) 0) (get_or xs (i * 2 + 1) 0)
two-item xs zero i h l = absurd (omega arith)
two-item [] (suc n) i h l = absurd (omega arith)
two-item (x ∷ []) (suc n) i h l = absurd (omega arith)
two-item (x ∷ y ∷ xs) (suc n) zero h l = ap (λ (is : List Item). get_or is 0 Done) (two-step x y xs n)
two-item (x ∷ y ∷ xs) (suc n) (suc i) h l =
    let a : suc (suc (i * 2)) ≡ suc i * 2 = omega arith in
    let b : suc (suc (i * 2 + 1)) ≡ suc i * 2 + 1 = omega arith in
    ap (λ (is : List Item). get_or is (suc i) Done) (two-step x y xs n) ∙ two-item xs n i (omega arith) (omega arith)
    ∙ ap₂ (λ (j k : ℕ). abandoned_item (get_or (x ∷ y ∷ xs) j 0) (get_or (x ∷ y ∷ xs) k 0)) a b

pub abandoned-long : (xs : List ℕ) (n : ℕ) → n * 2 ≤ length xs → length (items_bytes (abandoned_items xs n)) ≡ n * 9
abandoned-long xs zero h = refl
abandoned-long [] (suc n) h = absurd (omega arith)
abandoned-long (x ∷ []) (suc n) h = absurd (omega arith)
abandoned-long (x ∷ y ∷ xs) (suc n) h =
    let u : length (items_bytes (abandoned_items xs n)) ≡ n * 9 = abandoned-long xs n (omega arith) in
    let v = length-append (item_bytes (abandoned_item x y)) (items_bytes (abandoned_items xs n)) in
    ap (λ (is : List Item). length (items_bytes is)) (two-step x y xs n) ∙ v ∙ omega arith

-- ---- the next wake

-- nothing, or 9
pub wake-long : (t : ℕ) → length (items_bytes (wake_items (Some t))) ≡ 9
wake-long t = refl
