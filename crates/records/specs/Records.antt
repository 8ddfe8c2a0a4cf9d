-- The blank record of each table, and what a record is kept under and known by.
use Rattle.std.specs.Prelude.{ℕ, false, None}
use Rattle.records.specs.Types.{Unicast, Unrouted, Broadcast, Destination, Entry, Background, OnHandoff, Absent, Queued, Once, Idle}

-- zeros and first variants
abbrev pub blank_unicast : Unicast
blank_unicast =
    record {
      id = 0;
      frame = 0;
      waiter = 0;
      priority = Background;
      confirm = OnHandoff;
      next_hop = 0;
      poll_address = Absent;
      attempts_remaining = 0;
      stage = Queued;
      deadline = 0;
      copy_of = None;
    }

abbrev pub blank_unrouted : Unrouted
blank_unrouted = record { id = 0; frame = 0; waiter = 0; priority = Background; confirm = OnHandoff; destination = 0; deadline = 0 }

abbrev pub blank_broadcast : Broadcast
blank_broadcast =
    record {
      id = 0;
      frame = 0;
      waiter = 0;
      priority = Background;
      schedule = Once;
      copy = Idle;
      handed_off = false;
      quorum_heard = false;
      last_error = None;
      deadline = 0;
    }

abbrev pub blank_destination : Destination
blank_destination = record { address = 0; retries = 0 }

-- the key that a record is kept under
abbrev pub unicast_id : Unicast → ℕ
unicast_id u = u.id

abbrev pub unrouted_id : Unrouted → ℕ
unrouted_id u = u.id

abbrev pub broadcast_id : Broadcast → ℕ
broadcast_id b = b.id

abbrev pub destination_address : Destination → ℕ
destination_address d = d.address

-- a send's id and the two handles that it came with
abbrev pub unicast_entry : Unicast → Entry
unicast_entry u = record { id = u.id; waiter = u.waiter; frame = u.frame }

abbrev pub unrouted_entry : Unrouted → Entry
unrouted_entry u = record { id = u.id; waiter = u.waiter; frame = u.frame }

abbrev pub broadcast_entry : Broadcast → Entry
broadcast_entry b = record { id = b.id; waiter = b.waiter; frame = b.frame }
