-- The held destinations after an enqueue, a retry, and the end of a discovery: the table is kept, and which are held. Assumes nothing.
use Prim.Native.Nat.{ℕ, ◌-◌, ◌<◌}
use mathlib.Core.Path.{◌≡◌, refl, sym, ap}
use mathlib.Core.Bool.{Bool, true, false, not, ◌&&◌, ◌||◌}
use mathlib.Core.List.{List, [], ◌∷◌}
use lib.ListN.{length}
use lib.Dec.{leb, eqb}
use borrow.Author.Tests.{eqb-false, leb-false}
use Rattle.records.specs.Pick.{pick}
use Rattle.records.specs.Limits.{unrouted_room, destination_room}
use Rattle.records.specs.Records.{destination_address}
use Rattle.records.specs.declared.Entry.{Entry}
use Rattle.records.proofs.Cases.{either, either-by, never}
use Rattle.rows.specs.Lists.{remove_by}
use Rattle.rows.specs.Moves.{has_id}
use Rattle.rows.specs.declared.Turn.TheVariants.{Keeps}
use Rattle.unrouted.specs.Rules.{goes_to, is_held, newly_held, holding, no_room, spent_by}
use Rattle.model.specs.Types.{Unrouted, Destination, Granted}
use Rattle.model.specs.Sound.{Kept}
use Rattle.model.proofs.Kepts.{kept-insert, has-inserted, has-insert, has-remove, shrinks-first}

-- an enqueue has room for its send, and for its destination if that is new
pub room-means : (u : Unrouted) (us : List Unrouted) (hs : List Destination) → no_room u us hs ≡ false
    → (length us < unrouted_room) × (is_held u.destination hs ≡ false → length hs < destination_room)
room-means u us hs e = go (leb unrouted_room (length us)) (leb destination_room (length hs)) refl refl e
  where
    go : (a b : Bool) → leb unrouted_room (length us) ≡ a → leb destination_room (length hs) ≡ b → a || (not (is_held u.destination hs) && b) ≡ false
        → (length us < unrouted_room) × (is_held u.destination hs ≡ false → length hs < destination_room)
    go true b p q e = never (sym e)
    go false true p q e = (leb-false unrouted_room (length us) p, λ n. never (sym (rw n at e)))
    go false false p q e = (leb-false unrouted_room (length us) p, λ n. leb-false destination_room (length hs) q)

-- holding a destination drops none, holds it, and keeps the table
module _ (attempts d : ℕ) (hs : List Destination) where
  pub held-still : (k : ℕ) → is_held k hs ≡ true → is_held k (holding attempts d hs) ≡ true
  held-still k h = either (λ (l : List Destination). is_held k l ≡ true) (is_held d hs) h (has-insert destination_address k (newly_held attempts d) hs h)

  pub held_new : is_held d (holding attempts d hs) ≡ true
  held_new = either-by (λ (l : List Destination). is_held d l ≡ true) (is_held d hs) (λ e. e) (λ e. has-inserted destination_address (newly_held attempts d) hs)

  pub held_kept : (is_held d hs ≡ false → length hs < destination_room) → Kept destination_address destination_room hs
      → Kept destination_address destination_room (holding attempts d hs)
  held_kept l h =
      either-by (Kept destination_address destination_room) (is_held d hs) (λ e. h) (λ e. kept-insert destination_address (newly_held attempts d) (l e) h)

-- a send that does not go to a destination waits for another, which is still held without it
pub held-without : (d : ℕ) (hs : List Destination) (u : Unrouted) → goes_to d u ≡ false → is_held u.destination hs ≡ true
    → is_held u.destination (remove_by destination_address d hs) ≡ true
held-without d hs u e h = has-remove destination_address d u.destination hs (λ q. eqb-false u.destination d e (sym q)) h

-- a retry spent keeps the table and what is held. A destination as the entry of a table: its address for an id
abbrev hold_entry : Destination → Entry
hold_entry h = record { id = h.address; waiter = 0; frame = 0 }

pub spent-kept : (d : ℕ) {hs : List Destination} → Kept destination_address destination_room hs → Kept destination_address destination_room (spent_by Granted d hs)
spent-kept d h = (shrinks-first hold_entry h (λ (x : Destination). Keeps (record { address = x.address; retries = x.retries - 1 })) (λ x. refl) (has_id hold_entry d)).kept

pub spent-held : (d k : ℕ) (hs : List Destination) → is_held k (spent_by Granted d hs) ≡ is_held k hs
spent-held d k [] = refl
spent-held d k (h ∷ hs) =
    either (λ (l : List Destination). is_held k l ≡ is_held k (h ∷ hs)) (eqb h.address d) refl (ap (pick (eqb h.address k) true) (spent-held d k hs))
