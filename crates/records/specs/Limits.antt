-- The limits that 01 sets.
use Rattle.std.specs.Prelude.{ℕ}

-- the last time that may be handed in, 2^62
abbrev pub last_time : ℕ
last_time = 4611686018427387904

-- the id that is never given
abbrev pub no_id : ℕ
no_id = 4294967295

-- the number of places of each table
abbrev pub unicast_room : ℕ
unicast_room = 32

abbrev pub unrouted_room : ℕ
unrouted_room = 16

abbrev pub destination_room : ℕ
destination_room = 16

abbrev pub broadcast_room : ℕ
broadcast_room = 16
