-- Each answer as 01 lays it out: the number of its kind, then its values, the lower byte first; absent parts are zero.
use Rattle.std.specs.Prelude.{ℕ, List, [], ◌∷◌, ◌++◌, Option, None, Some}
use Rattle.records.specs.Pick.{bit}
use Rattle.records.specs.Numbers.{refusal_number, verdict_number, verdict_address, verdict_code}
use Rattle.codes.specs.Codes.{address_tag, address_word}
use Rattle.answers.specs.Bytes.{le_bytes}
use Rattle.answers.specs.Types.{Address, QuorumKey, Verdict, Entry, Action, HandedOff, Settled, Transmit, Unicasting, Broadcasting, Item, Refused, Done, Id, Handoff, Settlement, Flight, YesNo, Time, ShortAddress, ExtendedAddress, Key, Abandonment, DestinationAddress, End}

-- ---- parts

-- tag, then 8 bytes
abbrev pub address_bytes : Address → List ℕ
address_bytes a = address_tag a ∷ le_bytes 8 (address_word a)

-- flag, hop
abbrev pub hop_bytes : Option ℕ → List ℕ
hop_bytes None = 0 ∷ le_bytes 2 0
hop_bytes (Some x) = 1 ∷ le_bytes 2 x

-- number, address, code
abbrev pub verdict_bytes : Verdict → List ℕ
verdict_bytes v = verdict_number v ∷ (address_bytes (verdict_address v) ++ le_bytes 2 (verdict_code v))

-- 1 for broadcast, hop, pending
abbrev pub transmit_bytes : Transmit → List ℕ
transmit_bytes (Unicasting hop pending) = 0 ∷ (le_bytes 2 hop ++ (bit pending ∷ []))
transmit_bytes Broadcasting = 1 ∷ (le_bytes 2 0 ++ (0 ∷ []))

-- ---- items

-- id, waiter, frame, verdict, hop
abbrev pub settled_bytes : Entry → Verdict → Option ℕ → List ℕ
settled_bytes e v hop = 132 ∷ (le_bytes 4 e.id ++ (le_bytes 4 e.waiter ++ (le_bytes 4 e.frame ++ (verdict_bytes v ++ hop_bytes hop))))

-- id, frame, how it goes out
abbrev pub flight_bytes : ℕ → ℕ → Transmit → List ℕ
flight_bytes id frame t = 133 ∷ (le_bytes 4 id ++ (le_bytes 4 frame ++ transmit_bytes t))

abbrev pub key_bytes : QuorumKey → List ℕ
key_bytes k = 138 ∷ (le_bytes 2 k.src ++ (k.sequence ∷ []))

abbrev pub end_bytes : ℕ → ℕ → List ℕ
end_bytes status consumed = 141 ∷ status ∷ le_bytes 4 consumed

abbrev pub item_bytes : Item → List ℕ
item_bytes (Refused r) = 128 ∷ refusal_number r ∷ []
item_bytes Done = 129 ∷ []
item_bytes (Id n) = 130 ∷ le_bytes 4 n
item_bytes (Handoff id waiter) = 131 ∷ (le_bytes 4 id ++ le_bytes 4 waiter)
item_bytes (Settlement e v hop) = settled_bytes e v hop
item_bytes (Flight id frame t) = flight_bytes id frame t
item_bytes (YesNo b) = 134 ∷ bit b ∷ []
item_bytes (Time t) = 135 ∷ le_bytes 8 t
item_bytes (ShortAddress x) = 136 ∷ le_bytes 2 x
item_bytes (ExtendedAddress x) = 137 ∷ le_bytes 8 x
item_bytes (Key k) = key_bytes k
item_bytes (Abandonment id waiter) = 139 ∷ (le_bytes 4 id ++ le_bytes 4 waiter)
item_bytes (DestinationAddress x) = 140 ∷ le_bytes 2 x
item_bytes (End status consumed) = end_bytes status consumed

-- one after the other
abbrev pub items_bytes : List Item → List ℕ
items_bytes [] = []
items_bytes (i ∷ is) = item_bytes i ++ items_bytes is

-- ---- actions

-- the answer that tells an action
abbrev pub action_item : Action → Item
action_item (HandedOff id waiter) = Handoff id waiter
action_item (Settled e v hop) = Settlement e v hop

abbrev pub action_bytes : Action → List ℕ
action_bytes a = item_bytes (action_item a)

abbrev pub actions_bytes : List Action → List ℕ
actions_bytes [] = []
actions_bytes (a ∷ acts) = action_bytes a ++ actions_bytes acts
