-- THE LEDGER. Each send, from the call that issues its id on, is at every moment in exactly one place: live in one table, or settled once, or listed
-- once by an abandon, with the waiter and the frame that it came with; and a finished id never comes back. Definitions first, then the claims.
use Rattle.std.specs.Prelude.{ℕ, zero, suc, ◌+◌, ◌≤◌, ◌<◌, ◌≡◌, Bool, true, ◌&&◌, ◌⊎◌, ◌↔◌, length, eqb}
use mathlib.Core.List.{List, [], ◌∷◌, ◌++◌, map, Memᴰ}
use Rattle.records.specs.Limits.{no_id}
use Rattle.records.specs.Records.{unicast_entry, unrouted_entry, broadcast_entry}
use Rattle.records.specs.declared.Entry.{Entry}
use Rattle.rows.specs.Moves.{count, settled_of}
use Rattle.model.specs.declared.Answer.{Answer}
use Rattle.model.specs.declared.Answer.TheVariants.{Denied, Accepted, Issued, Replied, NothingQueued, InFlight}
use Rattle.model.specs.Model.{Model, fresh_of}
use Rattle.model.specs.Sound.{SoundModel}
use Rattle.model.specs.Steps.{Call, Reply, Outcome, step_of, after}
use Rattle.model.specs.Steps.Call.{EnqueueUnicast, EnqueueCopy, EnqueueUnrouted, EnqueueBroadcast, Dequeue, Transmitted, Poll, AckReceived, RetryDiscovery, FailUnrouted, RouteUnicasts, Delivered, DropIndirect, Cancel, Tick, Abandon, NextWake, Destinations, AwaitingQuorum, PollAddresses, HasUnrouted, HasAwaiting}
use Rattle.model.specs.Steps.Reply.{Says, Wakes, Lists, Keys, Matches, Leaves}

-- ---- one call: what it issues, settles and lists. An Entry is a send's id, its waiter and its frame.

-- the id in a reply: one where it says Issued, else none
abbrev pub id_said : Answer → List ℕ
id_said (Issued i) = i ∷ []
id_said (Denied x) = []
id_said Accepted = []
id_said (Replied b) = []
id_said NothingQueued = []
id_said (InFlight i f t) = []

abbrev pub id_in : Reply → List ℕ
id_in (Says a) = id_said a
id_in (Wakes t) = []
id_in (Lists l) = []
id_in (Keys l) = []
id_in (Matches l k) = []
id_in (Leaves l) = []

-- issued: by an enqueue, the id that it says with the waiter and the frame that it was made with; by any other call nothing
abbrev pub issued_as : ℕ → ℕ → Outcome → List Entry
issued_as w f o = map (λ (i : ℕ). record { id = i; waiter = w; frame = f }) (id_in o.reply)

abbrev pub issued_by : Call → Outcome → List Entry
issued_by (EnqueueUnicast s u now) o = issued_as u.waiter u.frame o
issued_by (EnqueueCopy s broadcast u now) o = issued_as u.waiter u.frame o
issued_by (EnqueueUnrouted s u now) o = issued_as u.waiter u.frame o
issued_by (EnqueueBroadcast s b now) o = issued_as b.waiter b.frame o
issued_by (Dequeue now) o = []
issued_by (Transmitted from id frame x now delay) o = []
issued_by (Poll eui nwk now) o = []
issued_by (AckReceived k) o = []
issued_by (RetryDiscovery d) o = []
issued_by (FailUnrouted d) o = []
issued_by (RouteUnicasts s d now n rs) o = []
issued_by (Delivered k) o = []
issued_by (DropIndirect eui nwk) o = []
issued_by (Cancel id) o = []
issued_by (Tick now) o = []
issued_by Abandon o = []
issued_by NextWake o = []
issued_by Destinations o = []
issued_by AwaitingQuorum o = []
issued_by (PollAddresses es ns) o = []
issued_by (HasUnrouted d) o = []
issued_by (HasAwaiting a) o = []

-- settled: the sends of its Settled actions
abbrev pub settled_by : Outcome → List Entry
settled_by o = settled_of o.actions

-- listed: the sends that its reply leaves to the caller (an abandon's; no other call's reply has any)
abbrev pub listed_in : Reply → List Entry
listed_in (Leaves l) = l
listed_in (Says a) = []
listed_in (Wakes t) = []
listed_in (Lists l) = []
listed_in (Keys l) = []
listed_in (Matches l k) = []

abbrev pub listed_by : Outcome → List Entry
listed_by o = listed_in o.reply

-- live: the sends of the three tables
abbrev pub live_in : Model → List Entry
live_in m = map unicast_entry m.unicasts ++ (map unrouted_entry m.unrouted ++ map broadcast_entry m.broadcasts)

-- ---- a history: calls in the order in which they are made, each with its outcome. Any calls: refused ones stand in it too, and nothing is asked of
-- the times that are handed in, which may go back.

abbrev pub Made : Type 0
Made = Call × Outcome

abbrev pub history : Model → List Call → List Made
history m [] = []
history m (c ∷ cs) = (c, step_of m c) ∷ history (step_of m c).model cs

-- all that its calls said, issued, settled and listed
abbrev pub gathered : {A : Type 0} → (Made → List A) → List Made → List A
gathered f [] = []
gathered f (x ∷ h) = f x ++ gathered f h

abbrev pub ever_said : List Made → List ℕ
ever_said h = gathered (λ (x : Made). id_in x.1.reply) h

abbrev pub ever_issued : List Made → List Entry
ever_issued h = gathered (λ (x : Made). issued_by x.0 x.1) h

abbrev pub ever_settled : List Made → List Entry
ever_settled h = gathered (λ (x : Made). settled_by x.1) h

abbrev pub ever_listed : List Made → List Entry
ever_listed h = gathered (λ (x : Made). listed_by x.1) h

-- the history of the calls cs from fresh tables whose first id is given, and the tables as it leaves them
abbrev pub past : ℕ → List Call → List Made
past first cs = history (fresh_of first) cs

abbrev pub present : ℕ → List Call → Model
present first cs = after (fresh_of first) cs

-- two tests on a send: it is e (id, waiter and frame: is-means proves that), it has the id i
abbrev pub is : Entry → Entry → Bool
is e x = eqb x.id e.id && (eqb x.waiter e.waiter && eqb x.frame e.frame)

abbrev pub has : ℕ → Entry → Bool
has i x = eqb x.id i

-- ---- the claims, for any calls and any first id (no_id is the largest u32, so every first id has `first ≤ no_id`)

-- 1. ISSUED IN ORDER. The ids issued are the first one and those that follow it, none left out, none twice; the next id is the one after them; and no
-- other id was said to be issued.
abbrev pub ids_from : ℕ → ℕ → List ℕ
ids_from i zero = []
ids_from i (suc n) = i ∷ ids_from (suc i) n

pub record InOrder (first : ℕ) (cs : List Call) : Type 0 where
  pub ids : map (λ (e : Entry). e.id) (ever_issued (past first cs)) ≡ ids_from first (length (ever_issued (past first cs)))
  pub next : (present first cs).next ≡ first + length (ever_issued (past first cs))
  pub last : (present first cs).next ≤ no_id
  pub said : ever_said (past first cs) ≡ map (λ (e : Entry). e.id) (ever_issued (past first cs))

abbrev pub IssuedInOrder : Type 0
IssuedInOrder = (first : ℕ) (cs : List Call) → first ≤ no_id → InOrder first cs

-- 2. EACH IN ONE PLACE. A send that was issued is in exactly one of five places, and there once: in one of the three tables, among the settled, or among
-- the listed. It is there with the id, waiter and frame that it was issued with, and in no place is anything else with its id.
abbrev pub places : ℕ → List Call → (Entry → Bool) → List ℕ
places first cs p =
    count p (map unicast_entry (present first cs).unicasts)
    ∷ count p (map unrouted_entry (present first cs).unrouted)
    ∷ count p (map broadcast_entry (present first cs).broadcasts)
    ∷ count p (ever_settled (past first cs))
    ∷ count p (ever_listed (past first cs)) ∷ []

abbrev pub AllNone : List ℕ → Type 0
AllNone [] = Unit {0}
AllNone (n ∷ ns) = (n ≡ 0) × AllNone ns

abbrev pub JustOne : List ℕ → Type 0
JustOne [] = ⊥
JustOne (n ∷ ns) = ((n ≡ 1) × AllNone ns) ⊎ ((n ≡ 0) × JustOne ns)

pub record Accounted (first : ℕ) (cs : List Call) (e : Entry) : Type 0 where
  pub itself : JustOne (places first cs (is e))
  pub its-id : JustOne (places first cs (has e.id))

abbrev pub EachInOnePlace : Type 0
EachInOnePlace = (first : ℕ) (cs : List Call) (e : Entry) → first ≤ no_id → Memᴰ e (ever_issued (past first cs)) → Accounted first cs e

-- 3. NEVER AGAIN. An id that the calls cs finished, that is settled or listed, they finished once; and whatever calls ds follow, it is not live after
-- them, and they do not issue it, settle it or list it.
abbrev pub finished : ℕ → List Call → ℕ → ℕ
finished first cs i = count (has i) (ever_settled (past first cs)) + count (has i) (ever_listed (past first cs))

abbrev pub rest : ℕ → List Call → List Call → List Made
rest first cs ds = history (present first cs) ds

pub record Over (first : ℕ) (cs ds : List Call) (i : ℕ) : Type 0 where
  pub once : finished first cs i ≡ 1
  pub live : count (has i) (live_in (present first (cs ++ ds))) ≡ 0
  pub issued : count (has i) (ever_issued (rest first cs ds)) ≡ 0
  pub settled : count (has i) (ever_settled (rest first cs ds)) ≡ 0
  pub listed : count (has i) (ever_listed (rest first cs ds)) ≡ 0

abbrev pub NeverAgain : Type 0
NeverAgain = (first : ℕ) (cs ds : List Call) (i : ℕ) → first ≤ no_id → 0 < finished first cs i → Over first cs ds i

-- (the history of cs and then ds is that of cs, and then this rest)
abbrev pub RestIsRest : Type 0
RestIsRest = (first : ℕ) (cs ds : List Call) → past first (cs ++ ds) ≡ past first cs ++ rest first cs ds

-- 4. NO OTHER ID. An id below the first, or from the next on, was not issued, and in no place is anything with it.
abbrev pub NoOtherId : Type 0
NoOtherId =
    (first : ℕ) (cs : List Call) (i : ℕ) → first ≤ no_id → (i < first) ⊎ ((present first cs).next ≤ i)
    → (count (has i) (ever_issued (past first cs)) ≡ 0) × AllNone (places first cs (has i))

-- 5. ALL BALANCES. Whatever is asked of id, waiter and frame: the sends that were issued are those that are live, those settled and those listed.
abbrev pub AllBalances : Type 0
AllBalances =
    (first : ℕ) (cs : List Call) (p : Entry → Bool) → first ≤ no_id
    → count p (ever_issued (past first cs))
    ≡ count p (live_in (present first cs)) + (count p (ever_settled (past first cs)) + count p (ever_listed (past first cs)))

-- 6. EACH CALL BALANCES. The sends live before it and those that it issues are those live after it, those that it settles and those that it lists.
abbrev pub EachCallBalances : Type 0
EachCallBalances =
    (m : Model) (c : Call) (p : Entry → Bool) → SoundModel m
    → count p (live_in m) + count p (issued_by c (step_of m c))
    ≡ count p (live_in (step_of m c).model) + (count p (settled_by (step_of m c)) + count p (listed_by (step_of m c)))

-- the test `is` means what it says
abbrev pub IsMeans : Type 0
IsMeans = (e x : Entry) → (is e x ≡ true) ↔ (x ≡ e)
