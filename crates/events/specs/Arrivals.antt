-- Kinds 2 to 5: the sends that are handed in. Each begins with now 8, frame 4, waiter 4, priority 1.
use Rattle.std.specs.Prelude.{ℕ, ◌+◌, List, Option, None, Some}
use Rattle.fields.specs.Bytes.{number}
use Rattle.fields.specs.Parts.{priority_by, address_at, confirm_at, schedule_at}
use Rattle.events.specs.Types.{Event, OnUnicast, OnCopy, OnUnrouted, OnBroadcast, Malformed}
use Rattle.records.specs.declared.Priority.{Priority}
use Rattle.records.specs.declared.Address.{Address}
use Rattle.records.specs.declared.Confirm.{Confirm}
use Rattle.records.specs.declared.Schedule.{Schedule}
use Rattle.model.specs.declared.NewUnicast.{NewUnicast}

-- ---- a unicast: then hop 2, address 9, confirm 15

abbrev pub unicast_with : ℕ → ℕ → ℕ → Option Priority → Option Address → Option Confirm → Option NewUnicast
unicast_with frame waiter hop (Some p) (Some a) (Some c) =
    Some (record { frame = frame; waiter = waiter; priority = p; confirm = c; next_hop = hop; poll_address = a })
unicast_with frame waiter hop (Some p) (Some a) None = None
unicast_with frame waiter hop (Some p) None c = None
unicast_with frame waiter hop None a c = None

abbrev pub unicast_at : ℕ → List ℕ → Option NewUnicast
unicast_at at b =
    unicast_with (number 4 (at + 8) b) (number 4 (at + 12) b) (number 2 (at + 17) b) (priority_by (number 1 (at + 16) b)) (address_at (at + 19) b)
    (confirm_at (at + 28) b)

abbrev pub unicast_event : ℕ → Option NewUnicast → Event
unicast_event clock (Some u) = OnUnicast clock u
unicast_event clock None = Malformed

-- 2
unfoldable pub unicast_of : List ℕ → Event
unicast_of b = unicast_event (number 8 0 b) (unicast_at 0 b)

-- 3: the broadcast's id 4, then as 2
abbrev pub copy_event : ℕ → ℕ → Option NewUnicast → Event
copy_event id clock (Some u) = OnCopy id clock u
copy_event id clock None = Malformed

unfoldable pub copy_of : List ℕ → Event
copy_of b = copy_event (number 4 0 b) (number 8 4 b) (unicast_at 4 b)

-- 4: destination 2 for the hop, and no address
abbrev pub unrouted_with : ℕ → ℕ → ℕ → ℕ → Option Priority → Option Confirm → Event
unrouted_with clock frame waiter destination (Some p) (Some c) =
    OnUnrouted clock (record { frame = frame; waiter = waiter; priority = p; confirm = c; destination = destination })
unrouted_with clock frame waiter destination (Some p) None = Malformed
unrouted_with clock frame waiter destination None c = Malformed

unfoldable pub unrouted_of : List ℕ → Event
unrouted_of b = unrouted_with (number 8 0 b) (number 4 8 b) (number 4 12 b) (number 2 17 b) (priority_by (number 1 16 b)) (confirm_at 19 b)

-- 5: the schedule 17
abbrev pub broadcast_with : ℕ → ℕ → ℕ → Option Priority → Option Schedule → Event
broadcast_with clock frame waiter (Some p) (Some s) = OnBroadcast clock (record { frame = frame; waiter = waiter; priority = p; schedule = s })
broadcast_with clock frame waiter (Some p) None = Malformed
broadcast_with clock frame waiter None s = Malformed

unfoldable pub broadcast_of : List ℕ → Event
broadcast_of b = broadcast_with (number 8 0 b) (number 4 8 b) (number 4 12 b) (priority_by (number 1 16 b)) (schedule_at 17 b)
