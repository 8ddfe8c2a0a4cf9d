-- What one event of a trace does: to the send tables, the settings and the address map, and what is answered.
use Rattle.std.specs.Prelude.{ℕ, Bool, false, ◌||◌, List, [], ◌∷◌, ◌++◌, map, ltb, eqb, length, take}
use Rattle.records.specs.Pick.{pick}
use Rattle.records.specs.Numbers.{default_settings}
use Rattle.model.specs.Model.{Model, fresh_of, lent_model}
use Rattle.model.specs.Steps.{Call, EnqueueUnicast, EnqueueCopy, EnqueueUnrouted, EnqueueBroadcast, Dequeue, Transmitted, Poll, AckReceived, RetryDiscovery, FailUnrouted, RouteUnicasts, Delivered, DropIndirect, Cancel, Tick, Abandon, NextWake, Destinations, AwaitingQuorum, PollAddresses, HasUnrouted, HasAwaiting, Reply, Says, Wakes, Lists, Keys, Matches, Leaves, Outcome, step_of}
use Rattle.answers.specs.Items.{action_item}
use Rattle.replies.specs.Replies.{denies, answer_items}
use Rattle.listings.specs.Listings.{wake_items}
use Rattle.listings.specs.Maps.{keys_with, shorts_with}
use Rattle.exchange.specs.Types.{Settings, Counts, Resolved, Entry, NoPlace, FieldMalformed, Item, Refused, Done, ShortAddress, ExtendedAddress, Key, Abandonment, DestinationAddress, Event, OnSettings, OnUnicast, OnCopy, OnUnrouted, OnBroadcast, OnDequeue, OnReport, OnPoll, OnAck, OnRetry, OnFail, OnRoute, OnDelivered, OnDrop, OnCancel, OnTick, OnAbandon, OnNextWake, OnPair, OnLists, OnHasUnrouted, OnHasAwaiting, Malformed}

-- ---- what a run keeps

-- the send tables, the settings, and the address map: extended addresses rising, and the short address of each
pub record World : Type 0 where
  pub model : Model
  pub settings : Settings
  pub longs : List ℕ
  pub shorts : List ℕ

-- fresh tables whose first id is 0, the default settings and an empty map
abbrev pub fresh_world : World
fresh_world = record { model = fresh_of 0; settings = default_settings; longs = []; shorts = [] }

abbrev pub with_model : World → Model → World
with_model w m = record { model = m; settings = w.settings; longs = w.longs; shorts = w.shorts }

abbrev pub with_settings : World → Settings → World
with_settings w s = record { model = w.model; settings = s; longs = w.longs; shorts = w.shorts }

abbrev pub with_pair : World → ℕ → ℕ → World
with_pair w x y = record { model = w.model; settings = w.settings; longs = keys_with x w.longs; shorts = shorts_with x y w.longs w.shorts }

-- ---- what a call's reply answers

abbrev pub abandonment : Entry → Item
abandonment e = Abandonment e.id e.waiter

abbrev pub said : Reply → List Item
said (Says a) = answer_items a
said (Wakes t) = wake_items t
said (Lists ds) = map DestinationAddress ds
said (Keys ks) = map Key ks
said (Matches ss ls) = map ShortAddress ss ++ map ExtendedAddress ls
said (Leaves es) = map abandonment es

abbrev pub refused : Reply → Bool
refused (Says a) = denies a
refused (Wakes t) = false
refused (Lists ds) = false
refused (Keys ks) = false
refused (Matches ss ls) = false
refused (Leaves es) = false

-- a refusal alone; or what is said, the actions, and 129
abbrev pub told : Outcome → List Item
told o = pick (refused o.reply) (said o.reply) (said o.reply ++ (map action_item o.actions ++ (Done ∷ [])))

-- ---- one event

-- the world after it, and its answers
pub record Step : Type 0 where
  pub world : World
  pub items : List Item

abbrev pub called : World → Outcome → Step
called w o = record { world = with_model w o.model; items = told o }

abbrev pub made : World → Call → Step
made w c = called w (step_of w.model c)

-- destinations, keys, the two sets
abbrev pub list_items : World → List Item
list_items w =
    said (step_of w.model Destinations).reply
    ++ (said (step_of w.model AwaitingQuorum).reply ++ (said (step_of w.model (PollAddresses w.longs w.shorts)).reply ++ (Done ∷ [])))

abbrev pub step_on : World → Event → List Resolved → Step
step_on w (OnSettings s) rs = record { world = with_settings w s; items = Done ∷ [] }
step_on w (OnUnicast now u) rs = made w (EnqueueUnicast w.settings u now)
step_on w (OnCopy id now u) rs = made w (EnqueueCopy w.settings id u now)
step_on w (OnUnrouted now u) rs = made w (EnqueueUnrouted w.settings u now)
step_on w (OnBroadcast now u) rs = made w (EnqueueBroadcast w.settings u now)
step_on w (OnDequeue now) rs = made w (Dequeue now)
step_on w (OnReport from id frame x now delay) rs = made w (Transmitted from id frame x now delay)
step_on w (OnPoll now eui nwk) rs = made w (Poll eui nwk now)
step_on w (OnAck k) rs = made w (AckReceived k)
step_on w (OnRetry d) rs = made w (RetryDiscovery d)
step_on w (OnFail d) rs = made w (FailUnrouted d)
step_on w (OnRoute now d n) rs = made w (RouteUnicasts w.settings d now n rs)
step_on w (OnDelivered k) rs = made w (Delivered k)
step_on w (OnDrop eui nwk) rs = made w (DropIndirect eui nwk)
step_on w (OnCancel id) rs = made w (Cancel id)
step_on w (OnTick now) rs = made w (Tick now)
step_on w OnAbandon rs = made w Abandon
step_on w OnNextWake rs = made w NextWake
step_on w (OnPair x y) rs =
    pick (ltb 32 (length (keys_with x w.longs))) (record { world = w; items = Refused NoPlace ∷ [] })
    (record { world = with_pair w x y; items = Done ∷ [] })
step_on w OnLists rs = record { world = w; items = list_items w }
step_on w (OnHasUnrouted d) rs = made w (HasUnrouted d)
step_on w (OnHasAwaiting a) rs = made w (HasAwaiting a)
step_on w Malformed rs = record { world = w; items = Refused FieldMalformed ∷ [] }

-- a kind that the run sees to itself: settings, abandon, next wake, a pair, the lists; any other is handed to the tables
abbrev pub is_own : ℕ → Bool
is_own k = eqb k 1 || (eqb k 17 || (eqb k 18 || (eqb k 19 || eqb k 20)))

-- ---- a world in lent arrays

abbrev pub world_of : Counts → List ℕ → List ℕ → List ℕ → List ℕ → Settings → List ℕ → List ℕ → ℕ → World
world_of c ws vs ds bs s es ns pairs = record { model = lent_model c ws vs ds bs; settings = s; longs = take pairs es; shorts = take pairs ns }
