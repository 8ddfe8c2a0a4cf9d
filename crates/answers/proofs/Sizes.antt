-- How long each answer is: its kind's length in 01's list, and one for the kind itself. Assumes nothing.
use Rattle.std.specs.Prelude.{Option, None, Some}
use Prim.Native.Nat.{ℕ, ◌+◌, ◌≤◌}
use native.Mathlib.Omega.{arith}
use mathlib.Core.Path.{◌≡◌, refl}
use lib.ListN.{length, get_or}
use Rattle.answers.specs.Types.{Verdict, Entry, Action, Transmit, Unicasting, Broadcasting, Item, Refused, Done, Id, Handoff, Settlement, Flight, YesNo, Time, ShortAddress, ExtendedAddress, Key, Abandonment, DestinationAddress, End}
use Rattle.answers.specs.Items.{settled_bytes, flight_bytes, item_bytes, action_item, action_bytes}
use Rattle.framing.specs.Kinds.{body_of}

pub settled-long : (e : Entry) (v : Verdict) (hop : Option ℕ) → length (settled_bytes e v hop) ≡ 28
settled-long e v None = refl
settled-long e v (Some x) = refl

pub flight-long : (id frame : ℕ) (t : Transmit) → length (flight_bytes id frame t) ≡ 13
flight-long id frame (Unicasting hop pending) = refl
flight-long id frame Broadcasting = refl

-- the kind of an answer: its first byte
abbrev pub kind_of : Item → ℕ
kind_of i = get_or (item_bytes i) 0 0

pub item-long : (i : Item) → length (item_bytes i) ≡ 1 + body_of (kind_of i)
unfolding body_of
item-long (Refused r) = refl
item-long Done = refl
item-long (Id n) = refl
item-long (Handoff id waiter) = refl
item-long (Settlement e v hop) = settled-long e v hop
item-long (Flight id frame t) = flight-long id frame t
item-long (YesNo b) = refl
item-long (Time t) = refl
item-long (ShortAddress x) = refl
item-long (ExtendedAddress x) = refl
item-long (Key k) = refl
item-long (Abandonment id waiter) = refl
item-long (DestinationAddress x) = refl
item-long (End status consumed) = refl

pub item-short : (i : Item) → length (item_bytes i) ≤ 28
item-short (Refused r) = omega arith
item-short Done = omega arith
item-short (Id n) = omega arith
item-short (Handoff id waiter) = omega arith
item-short (Settlement e v hop) = omega (arith, settled-long e v hop)
item-short (Flight id frame t) = omega (arith, flight-long id frame t)
item-short (YesNo b) = omega arith
item-short (Time t) = omega arith
item-short (ShortAddress x) = omega arith
item-short (ExtendedAddress x) = omega arith
item-short (Key k) = omega arith
item-short (Abandonment id waiter) = omega arith
item-short (DestinationAddress x) = omega arith
item-short (End status consumed) = omega arith

pub item-some : (i : Item) → 1 ≤ length (item_bytes i)
item-some i = omega (arith, item-long i)

pub action-short : (a : Action) → length (action_bytes a) ≤ 28
action-short a = item-short (action_item a)
