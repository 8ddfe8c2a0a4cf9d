-- Actions in words: which words tell an action, what they say, and what a buffer holds once actions are told from a place on.
use Rattle.std.specs.Prelude.{ℕ, ◌+◌, ◌*◌, ◌/◌, ◌%◌, ◌<◌, ◌≡◌, List, [], ◌∷◌, length, get_or, eqb, Option}
use Rattle.std.proofs.lemmas.List.Edits.{sets}
use Rattle.records.specs.Pick.{pick}
use Rattle.records.specs.Numbers.{verdict_number, verdict_address, verdict_code}
use Rattle.records.specs.declared.Address.{Address}
use Rattle.records.specs.declared.SendFailure.{SendFailure}
use Rattle.records.specs.declared.SendFailure.TheVariants.{HandoffTimeout, ApsAckTimeout, IndirectExpired, RouteDiscoveryTimeout, BroadcastQuorumNotReached, Cancelled}
use Rattle.records.specs.declared.Verdict.{Verdict}
use Rattle.records.specs.declared.Verdict.TheVariants.{Success, Failure, Code}
use Rattle.records.specs.declared.Action.{Action}
use Rattle.records.specs.declared.Action.TheVariants.{HandedOff, Settled}
use Rattle.codes.specs.Codes.{Coded, opt16_word, opt16_from, address_tag, address_word, address_from}
use Rattle.rows.specs.Lists.{All}
use Rattle.rows.specs.Rows.{flat}

-- ---- verdicts by number

abbrev pub failure_from : ℕ → Address → SendFailure
failure_from n a =
    pick (eqb n 1) HandoffTimeout
    (pick (eqb n 2) ApsAckTimeout
    (pick (eqb n 3) (IndirectExpired a) (pick (eqb n 4) RouteDiscoveryTimeout (pick (eqb n 5) BroadcastQuorumNotReached Cancelled))))

abbrev pub verdict_from : ℕ → Address → ℕ → Verdict
verdict_from n a c = pick (eqb n 0) Success (pick (eqb n 7) (Code c) (Failure (failure_from n a)))

-- the word of a settled action that holds all but its numbers
abbrev pub settled_tags : Verdict → Option ℕ → ℕ
settled_tags v hop = 1 + 2 * (verdict_number v + 8 * (address_tag (verdict_address v) + 4 * (verdict_code v + 65536 * opt16_word hop)))

-- r is that word; what is narrow in it
pub record CodedTags (v : Verdict) (hop : Option ℕ) (r : ℕ) : Type 0 where
  pub is : r ≡ settled_tags v hop
  pub code : verdict_code v < 65536
  pub hop-back : Coded opt16_word opt16_from 131072 hop (opt16_word hop)

-- ---- an action in five words

abbrev pub action_words : Action → List ℕ
action_words (HandedOff id waiter) = id ∷ waiter ∷ 0 ∷ 0 ∷ 0 ∷ []
action_words (Settled e v hop) = e.id ∷ e.waiter ∷ e.frame ∷ settled_tags v hop ∷ address_word (verdict_address v) ∷ []

abbrev pub action_from : ℕ → ℕ → ℕ → ℕ → ℕ → Action
action_from id waiter frame tags address =
    pick (eqb (tags % 2) 0) (HandedOff (id % 4294967296) (waiter % 4294967296))
    (Settled (record { id = id % 4294967296; waiter = waiter % 4294967296; frame = frame % 4294967296 })
    (verdict_from (tags / 2 % 8) (address_from (tags / 16 % 4) address) (tags / 64 % 65536 % 65536)) (opt16_from (tags / 4194304 % 131072)))

-- what the words of an action say
abbrev pub action_of : List ℕ → Action
action_of v = action_from (get_or v 0 0) (get_or v 1 0) (get_or v 2 0) (get_or v 3 0) (get_or v 4 0)

-- what is told at a place
abbrev pub action_at : ℕ → List ℕ → Action
action_at i ws = action_from (get_or ws (i * 5) 0) (get_or ws (i * 5 + 1) 0) (get_or ws (i * 5 + 2) 0) (get_or ws (i * 5 + 3) 0) (get_or ws (i * 5 + 4) 0)

-- an action that says itself again
abbrev pub Exact : Action → Type 0
Exact a = action_of (action_words a) ≡ a

-- ---- the buffer

-- the words with these actions told from place m on
abbrev pub tell : ℕ → List Action → List ℕ → List ℕ
tell m acts ws = sets ws (m * 5) (flat action_words acts)

-- ws' has the actions told from place m on, r is the next place, and each action says itself again
pub record Told (m : ℕ) (acts : List Action) (ws ws' : List ℕ) (r : ℕ) : Type 0 where
  pub words : ws' ≡ tell m acts ws
  pub next : r ≡ m + length acts
  pub exact : All Exact acts
