-- What a reader may take from the rules of unrouted sends: when 4 and 9 are given, which send a route takes, and that no send is lost. Assumes nothing.
use Rattle.std.specs.Prelude.{None, Some}
use Prim.Native.Nat.{ℕ, ◌+◌, ◌≤◌}
use native.Mathlib.Omega.{arith}
use mathlib.Core.Path.{◌≡◌, refl, sym, ap}
use mathlib.Core.Bool.{Bool, true, false, not, ◌&&◌, ◌||◌}
use mathlib.Core.List.{List, [], ◌∷◌}
use mathlib.Core.Logic.{◌⊎◌, inl, inr}
use lib.ListN.{length}
use lib.Dec.{ltb, leb, eqb}
use borrow.Author.Tests.{leb-true}
use Rattle.records.specs.Pick.{pick}
use Rattle.records.specs.Records.{unrouted_id, unrouted_entry, destination_address}
use Rattle.records.specs.declared.Entry.{Entry}
use Rattle.records.proofs.Cases.{either, never}
use Rattle.rows.specs.Lists.{All, Rising, lookup}
use Rattle.rows.specs.Moves.{each, at_first, first_of, any_of, count, each_told, at_first_told, has_id, settled_of}
use Rattle.rows.specs.Moves.{Same}
use Rattle.rows.proofs.Promises.{entries, each-count, first_count, first-oldest}
use Rattle.unrouted.specs.Types.{Unrouted, Destination, Which, NotHeld, Declined, Granted}
use Rattle.unrouted.specs.Rules.{chosen, sweep_turn, cancel_turn, goes_to, is_held, no_room, retry_by, retry_of}

-- ---- 4, exactly: the table is full, or the destination is new and 16 are held (when: full-sends, full-held in Lists)

pub no-room-means : (u : Unrouted) (us : List Unrouted) (hs : List Destination) → no_room u us hs ≡ true
    → (16 ≤ length us) ⊎ ((is_held u.destination hs ≡ false) × (16 ≤ length hs))
no-room-means u us hs e = sends (leb 16 (length us)) refl e
  where
    held : (b c : Bool) → is_held u.destination hs ≡ b → leb 16 (length hs) ≡ c → not b && c ≡ true → (is_held u.destination hs ≡ false) × (16 ≤ length hs)
    held true c p r e = never e
    held false false p r e = never e
    held false true p r e = (p, leb-true 16 (length hs) r)

    sends : (b : Bool) → leb 16 (length us) ≡ b → b || (not (is_held u.destination hs) && leb 16 (length hs)) ≡ true
        → (16 ≤ length us) ⊎ ((is_held u.destination hs ≡ false) × (16 ≤ length hs))
    sends true l e = inl (leb-true 16 (length us) l)
    sends false l e = inr (held (is_held u.destination hs) (leb 16 (length hs)) refl refl e)

-- ---- 9, exactly: the destination is not held

looked : (d : ℕ) (hs : List Destination) → is_held d hs ≡ false → lookup destination_address d hs ≡ None
looked d [] e = refl
looked d (h ∷ hs) e = go (eqb h.address d) e (looked d hs)
  where
    go : (b : Bool) → pick b true (is_held d hs) ≡ false → (is_held d hs ≡ false → lookup destination_address d hs ≡ None) → pick b (Some h) (lookup destination_address d hs) ≡ None
    go true e ih = never (sym e)
    go false e ih = ih e

pub nine-when : (d : ℕ) (us : List Unrouted) (hs : List Destination) → is_held d hs ≡ false → retry_of d us hs ≡ NotHeld
nine-when d us hs e = ap (retry_by (any_of (goes_to d) us)) (looked d hs e)

pub nine-means : (d : ℕ) (us : List Unrouted) (hs : List Destination) → retry_of d us hs ≡ NotHeld → is_held d hs ≡ false
nine-means d us [] e = refl
nine-means d us (h ∷ hs) e = go (eqb h.address d) e (nine-means d us hs)
  where
    some-held : (b : Bool) → pick b Granted Declined ≡ NotHeld → ⊥
    some-held true e = let z : ◌≡◌ {A = ℕ} 0 1 = cc in omega arith
    some-held false e = let z : ◌≡◌ {A = ℕ} 0 1 = cc in omega arith

    go : (b : Bool) → retry_by (any_of (goes_to d) us) (pick b (Some h) (lookup destination_address d hs)) ≡ NotHeld
        → (retry_by (any_of (goes_to d) us) (lookup destination_address d hs) ≡ NotHeld → is_held d hs ≡ false) → pick b true (is_held d hs) ≡ false
    go true e ih = absurd (some-held (any_of (goes_to d) us && ltb 0 h.retries) e)
    go false e ih = ih e

-- ---- a route takes the oldest send to its destination

pub takes-oldest : (d lo : ℕ) (us : List Unrouted) (u : Unrouted) → Rising unrouted_id lo us → first_of (goes_to d) us ≡ Some u
    → All (λ (v : Unrouted). goes_to d v ≡ true → u.id ≤ v.id) us
takes-oldest d lo us u r e = first-oldest unrouted_id (goes_to d) lo us u r e

-- ---- a send that stays is the one that it was, and the sends before are those that stay and those that are settled

pub sweep-same : (which : Which) (u : Unrouted) → Same unrouted_entry u (sweep_turn which u)
sweep-same which u = either (Same unrouted_entry u) (chosen which u) tt refl

pub sweep-count : (p : Entry → Bool) (which : Which) (us : List Unrouted)
    → entries unrouted_entry p us ≡ entries unrouted_entry p (each (sweep_turn which) us) + count p (settled_of (each_told unrouted_entry (sweep_turn which) us))
sweep-count p which us = each-count unrouted_entry p (sweep_turn which) (sweep-same which) us

pub cancel-count : (p : Entry → Bool) (i : ℕ) (us : List Unrouted)
    → entries unrouted_entry p us
    ≡ entries unrouted_entry p (at_first (has_id unrouted_entry i) cancel_turn us) + count p (settled_of (at_first_told unrouted_entry (has_id unrouted_entry i) cancel_turn us))
cancel-count p i us = first_count unrouted_entry p (has_id unrouted_entry i) cancel_turn (λ u. tt) us
