-- What a trace run writes for one event: the call's answer, the actions that it told, then 129; or one 128 alone. And the actions that a buffer tells.
use Rattle.std.specs.Prelude.{ℕ, zero, suc, ◌≤◌, ◌<◌, ◌≡◌, Bool, true, false, List, [], ◌∷◌, ◌++◌, map, length, get_or}
use Rattle.records.specs.Pick.{pick}
use Rattle.actions.specs.Told.{action_at}
use Rattle.answers.specs.Items.{items_bytes, action_item}
use Rattle.replies.specs.Types.{Action, HandedOff, Answer, Denied, Accepted, Issued, Replied, NothingQueued, InFlight, Item, Refused, Done, Id, Flight, YesNo}

-- ---- what a buffer tells

-- the n actions from place i on
abbrev pub acts_from : List ℕ → ℕ → ℕ → List Action
acts_from told i zero = []
acts_from told i (suc n) = action_at i told ∷ acts_from told (suc i) n

-- the first n actions
abbrev pub acts_of : List ℕ → ℕ → List Action
acts_of told n = acts_from told 0 n

-- the buffer tells these actions at its first n places
pub record Reads (acts : List Action) (told : List ℕ) (n : ℕ) : Type 0 where
  pub count : n ≡ length acts
  pub few : n ≤ 112
  pub reads : (i : ℕ) → i < n → action_at i told ≡ get_or acts i (HandedOff 0 0)

-- ---- the reply

abbrev pub denies : Answer → Bool
denies (Denied x) = true
denies Accepted = false
denies (Issued i) = false
denies (Replied b) = false
denies NothingQueued = false
denies (InFlight i f t) = false

abbrev pub answer_items : Answer → List Item
answer_items (Denied x) = Refused x ∷ []
answer_items Accepted = []
answer_items (Issued i) = Id i ∷ []
answer_items (Replied b) = YesNo b ∷ []
answer_items NothingQueued = []
answer_items (InFlight i f t) = Flight i f t ∷ []

-- a refusal stands alone
abbrev pub reply_items : Answer → List Action → List Item
reply_items a acts = pick (denies a) (answer_items a) (answer_items a ++ (map action_item acts ++ (Done ∷ [])))

abbrev pub reply_bytes : Answer → List Action → List ℕ
reply_bytes a acts = items_bytes (reply_items a acts)
