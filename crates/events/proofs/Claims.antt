-- Worked records: 01's example trace, and records that are in or out of their form.
use Rattle.std.specs.Prelude.{None}
use Prim.Native.Nat.{ℕ}
use mathlib.Core.Path.{◌≡◌, refl}
use mathlib.Core.List.{List, [], ◌∷◌, ◌++◌}
use lib.ListN.{replicate, take, drop}
use Rattle.framing.specs.Kinds.{body_of}
use Rattle.framing.specs.Reader.{stands_at}
use Rattle.events.specs.Events.{event_of}
use Rattle.events.specs.Arrivals.{unicast_of, broadcast_of}
use Rattle.events.specs.Signals.{dequeue_of, poll_of, has_awaiting_of}
use Rattle.events.specs.Routes.{route_of}
use Rattle.events.specs.Types.{Short, UserNormal, StackCritical, OnHandoff, Once, OnUnicast, OnBroadcast, OnDequeue, OnPoll, OnRoute, Malformed}
use Rattle.framing.specs.declared.Standing.TheVariants.{Record, Unknown, Cut, End}

abbrev zeros : ℕ → List ℕ
zeros n = replicate n 0

-- 01's input: a broadcast, then a dequeue
abbrev sample : List ℕ
sample = 5 ∷ zeros 8 ++ (7 ∷ 0 ∷ 0 ∷ 0 ∷ 9 ∷ 0 ∷ 0 ∷ 0 ∷ 2 ∷ []) ++ zeros 17 ++ (6 ∷ zeros 8)

pub first-stands : stands_at sample 0 ≡ Record 5 1 35
unfolding body_of
first-stands = refl

pub second-stands : stands_at sample 35 ≡ Record 6 36 44
unfolding body_of
second-stands = refl

pub end-stands : stands_at sample 44 ≡ End
unfolding body_of
end-stands = refl

pub first-is : event_of 5 (take 34 (drop 1 sample)) ≡ OnBroadcast 0 (record { frame = 7; waiter = 9; priority = UserNormal; schedule = Once })
unfolding event_of broadcast_of
first-is = refl

pub second_is : event_of 6 (take 8 (drop 36 sample)) ≡ OnDequeue 0
unfolding event_of dequeue_of
second_is = refl

-- a kind of no event is unknown even as the last byte; an event's without its body is cut
pub zero-unknown : stands_at (0 ∷ []) 0 ≡ Unknown
unfolding body_of
zero-unknown = refl

pub past-unknown : stands_at (23 ∷ []) 0 ≡ Unknown
unfolding body_of
past-unknown = refl

pub answer-unknown : stands_at (129 ∷ []) 0 ≡ Unknown
unfolding body_of
answer-unknown = refl

pub cut_off : stands_at (16 ∷ zeros 7) 0 ≡ Cut
unfolding body_of
cut_off = refl

-- priority 5 is in form and 6 is not
abbrev unicast : ℕ → List ℕ → List ℕ
unicast priority address = zeros 16 ++ (priority ∷ 0 ∷ 0 ∷ []) ++ address ++ zeros 15

pub five-is :
    event_of 2 (unicast 5 (1 ∷ 255 ∷ 255 ∷ zeros 6)) ≡ OnUnicast 0
    (record { frame = 0; waiter = 0; priority = StackCritical; confirm = OnHandoff; next_hop = 0; poll_address = Short 65535 })
unfolding event_of unicast_of
five-is = refl

pub six-is-out : event_of 2 (unicast 6 (zeros 9)) ≡ Malformed
unfolding event_of unicast_of
six-is-out = refl

-- a short address above 65535, and an absent one that is not zero
pub wide-is-out : event_of 2 (unicast 0 (1 ∷ 0 ∷ 0 ∷ 1 ∷ zeros 6)) ≡ Malformed
unfolding event_of unicast_of
wide-is-out = refl

pub absent-is-zero : event_of 2 (unicast 0 (0 ∷ 0 ∷ 0 ∷ 0 ∷ 0 ∷ 0 ∷ 0 ∷ 0 ∷ 1 ∷ [])) ≡ Malformed
unfolding event_of unicast_of
absent-is-zero = refl

-- a poll with both flags 0 is in form; has awaiting without an address is not
pub neither-polls : event_of 8 (zeros 20) ≡ OnPoll 0 None None
unfolding event_of poll_of
neither-polls = refl

pub none-awaits : event_of 22 (zeros 9) ≡ Malformed
unfolding event_of has_awaiting_of
none-awaits = refl

-- a route with sixteen results, and one with a result past its count
pub sixteen-route : event_of 12 (zeros 10 ++ (16 ∷ zeros 224)) ≡ OnRoute 0 0 16
unfolding event_of route_of
sixteen-route = refl

pub past-count-is-out : event_of 12 (zeros 11 ++ zeros 223 ++ (1 ∷ [])) ≡ Malformed
unfolding event_of route_of
past-count-is-out = refl

pub over-count-is-out : event_of 12 (zeros 10 ++ (17 ∷ zeros 224)) ≡ Malformed
unfolding event_of route_of
over-count-is-out = refl
