-- What the code's tests and searches say of enqueueing, retrying and taking. Assumes nothing.
use Rattle.std.specs.Prelude.{Option, None, Some, option_map, is_some, unwrap_or}
use Prim.Native.Nat.{ℕ, suc, ◌≤◌, ◌<◌}
use native.Mathlib.Omega.{arith}
use mathlib.Core.Path.{◌≡◌, refl, sym, ap, ap₂, ◌∙◌}
use mathlib.Core.Bool.{Bool, true, false, not, ◌&&◌, ◌||◌}
use mathlib.Core.List.{List, [], ◌∷◌}
use lib.ListN.{length}
use lib.Dec.{ltb, leb, eqb}
use borrow.Author.Tests.{le-leb, lt-leb, lt-ltb, le-ltb}
use Rattle.records.specs.Pick.{pick}
use Rattle.records.specs.Records.{unrouted_id, destination_address}
use Rattle.rows.specs.Lists.{insert_by, remove_at, lookup, find_by}
use Rattle.rows.specs.Moves.{first_at, any_of}
use Rattle.rows.specs.Tables.{Table, live, Held, Holds, Entered}
use Rattle.rows.proofs.Promises.{find_first, never-full}
use Rattle.unrouted.specs.Types.{Unrouted, Destination, NotHeld, Declined, Granted}
use Rattle.unrouted.specs.Rules.{goes_to, is_held, holding, no_room, enqueue_of, retry_by, retry_of, drop_first}

-- ---- an enqueue

module _ (u : Unrouted) (us : List Unrouted) (hs : List Destination) where
  pub full-sends : 16 ≤ length us → no_room u us hs ≡ true
  full-sends l = ap (λ (b : Bool). b || (not (is_held u.destination hs) && leb 16 (length hs))) (le-leb 16 (length us) l)

  module _ (l : length us < 16) where
    open-sends : no_room u us hs ≡ not (is_held u.destination hs) && leb 16 (length hs)
    open-sends = ap (λ (b : Bool). b || (not (is_held u.destination hs) && leb 16 (length hs))) (lt-leb 16 (length us) l)

    pub full-held : is_held u.destination hs ≡ false → 16 ≤ length hs → no_room u us hs ≡ true
    full-held e m = open-sends ∙ ap₂ (λ (b c : Bool). not b && c) e (le-leb 16 (length hs) m)

    pub room-held : is_held u.destination hs ≡ true → no_room u us hs ≡ false
    room-held e = open-sends ∙ ap (λ (b : Bool). not b && leb 16 (length hs)) e

    pub room-new : is_held u.destination hs ≡ false → length hs < 16 → no_room u us hs ≡ false
    room-new e m = open-sends ∙ ap₂ (λ (b c : Bool). not b && c) e (lt-leb 16 (length hs) m)

  pub refused : (attempts : ℕ) → no_room u us hs ≡ true → None ≡ enqueue_of attempts u us hs
  refused attempts e =
      sym (ap (λ (b : Bool). pick b None (Some (length (insert_by unrouted_id u us), length (holding attempts u.destination hs)))) e)

  pub granted : (attempts : ℕ) {n k : ℕ} → no_room u us hs ≡ false → n ≡ length (insert_by unrouted_id u us) → k ≡ length (holding attempts u.destination hs)
      → Some (n, k) ≡ enqueue_of attempts u us hs
  granted attempts {n} {k} e p q =
      ap (λ (i : ℕ). Some (i, k)) p ∙ ap (λ (j : ℕ). Some (length (insert_by unrouted_id u us), j)) q ∙ sym (ap (λ (b : Bool). pick b None (Some (length (insert_by unrouted_id u us), length (holding attempts u.destination hs)))) e)

-- ---- a record that enters where a place is free

module _ {A : Type 0} {t : Table A} {ws ws' : List ℕ} {n : ℕ} {u : A} where
  pub enters : (d : ℕ) (r : Option ℕ) → Held t ws n → n < t.room → Entered t ws n u ws' r → Holds t ws' (unwrap_or r d) (insert_by t.key u (live t ws n))
  enters d None h l e = absurd (never-full h l e refl)
  enters d (Some m) h l e = e.table

-- ---- a destination that is held

-- it is held where a look for it finds a place
pub held-is : (d : ℕ) (hs : List Destination) {o : Option ℕ} → o ≡ find_by destination_address d hs → is_some o ≡ is_held d hs
held-is d hs e = ap is_some (e ∙ find_first destination_address d hs) ∙ go hs
  where
    more : (o : Option ℕ) → is_some (option_map suc o) ≡ is_some o
    more None = refl
    more (Some i) = refl

    here : (b : Bool) (o : Option ℕ) {r : Bool} → is_some o ≡ r → is_some (pick b (Some 0) (option_map suc o)) ≡ pick b true r
    here true o e = refl
    here false o e = more o ∙ e

    go : (hs : List Destination) → is_some (first_at (λ (h : Destination). eqb h.address d) hs) ≡ is_held d hs
    go [] = refl
    go (h ∷ hs) = here (eqb h.address d) (first_at (λ (h : Destination). eqb h.address d) hs) (go hs)

-- ---- a retry

module _ (d : ℕ) (us : List Unrouted) (hs : List Destination) where
  pub not-held : lookup destination_address d hs ≡ None → NotHeld ≡ retry_of d us hs
  not-held e = sym (ap (retry_by (any_of (goes_to d) us)) e)

  by : (h : Destination) (b c : Bool) → lookup destination_address d hs ≡ Some h → any_of (goes_to d) us ≡ b → ltb 0 h.retries ≡ c
      → pick (b && c) Granted Declined ≡ retry_of d us hs
  by h b c e p q =
      sym (ap (retry_by (any_of (goes_to d) us)) e ∙ ap₂ (λ (x y : Bool). pick (x && y) Granted Declined) p q)

  pub none_left : (h : Destination) → lookup destination_address d hs ≡ Some h → h.retries ≡ 0 → Declined ≡ retry_of d us hs
  none_left h e z = never (any_of (goes_to d) us) ∙ by h (any_of (goes_to d) us) false e refl (le-ltb 0 h.retries (omega arith))
    where
      never : (b : Bool) → Declined ≡ pick (b && false) Granted Declined
      never true = refl
      never false = refl

  pub none-waits : (h : Destination) → lookup destination_address d hs ≡ Some h → any_of (goes_to d) us ≡ false → Declined ≡ retry_of d us hs
  none-waits h e w = by h false (ltb 0 h.retries) e w refl

  pub spends : (h : Destination) → lookup destination_address d hs ≡ Some h → any_of (goes_to d) us ≡ true → (h.retries ≡ 0 → ⊥) → Granted ≡ retry_of d us hs
  spends h e w z = by h true true e w (lt-ltb 0 h.retries (above h.retries z))
    where
      above : (n : ℕ) → (n ≡ 0 → ⊥) → 0 < n
      above n f = omega (arith, f)

-- ---- a take

pub drops : (q : Unrouted → Bool) (us : List Unrouted) (i : ℕ) → first_at q us ≡ Some i → drop_first q us ≡ remove_at i us
drops q [] i e = refl
drops q (u ∷ us) i e = go (q u) (first_at q us) (drops q us) refl e
  where
    go : (b : Bool) (o : Option ℕ) → ((j : ℕ) → first_at q us ≡ Some j → drop_first q us ≡ remove_at j us) → first_at q us ≡ o
        → pick b (Some 0) (option_map suc o) ≡ Some i → pick b us (u ∷ drop_first q us) ≡ remove_at i (u ∷ us)
    go true o r f e = let z : 0 ≡ i = cc in ap (λ (j : ℕ). remove_at j (u ∷ us)) z
    go false None r f e = let z : ◌≡◌ {A = ℕ} 0 1 = cc in absurd (omega arith)
    go false (Some j) r f e =
        let z : suc j ≡ i = cc in
        ap (λ (l : List Unrouted). u ∷ l) (r j f) ∙ ap (λ (k : ℕ). remove_at k (u ∷ us)) z
