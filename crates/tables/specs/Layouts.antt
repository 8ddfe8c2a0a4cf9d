-- The four tables: how each record lies in words, and what a scan reads of it.
use Rattle.std.specs.Prelude.{ℕ, ◌+◌, ◌*◌, ◌/◌, ◌%◌, ◌<◌, ◌≡◌, List, [], ◌∷◌, get_or}
use Rattle.records.specs.Limits.{unicast_room, unrouted_room, destination_room, broadcast_room}
use Rattle.records.specs.Priorities.{rank_of}
use Rattle.records.specs.Records.{blank_unicast, blank_unrouted, blank_broadcast, blank_destination, unicast_id, unrouted_id, broadcast_id, destination_address}
use Rattle.records.specs.declared.Unicast.{Unicast}
use Rattle.records.specs.declared.Unrouted.{Unrouted}
use Rattle.records.specs.declared.Broadcast.{Broadcast}
use Rattle.records.specs.declared.Destination.{Destination}
use Rattle.tables.specs.declared.unicast_rows.UnicastHead.{UnicastHead}
use Rattle.tables.specs.declared.unrouted_rows.UnroutedHead.{UnroutedHead}
use Rattle.tables.specs.declared.broadcast_rows.BroadcastHead.{BroadcastHead}
use Rattle.records.specs.Pick.{bit}
use Rattle.codes.specs.Codes.{Coded, opt16_word, opt16_from, opt32_word, opt32_from, priority_from, flag, address_tag, address_word, address_from, stage_tag, stage_time, stage_from, copy_tag, copy_from, schedule_tag, schedule_copies, schedule_what, schedule_next, schedule_from, confirm_first, confirm_second, confirm_from}
use Rattle.rows.specs.Tables.{Layout, Table}

-- the low half of a word
abbrev pub low : ℕ → ℕ
low x = x % 4294967296

-- ---- unicasts: ten words

abbrev pub unicast_tags : Unicast → ℕ
unicast_tags u = stage_tag u.stage + 8 * (address_tag u.poll_address + 4 * (rank_of u.priority + 8 * (u.attempts_remaining + 256 * u.next_hop)))

-- r is that word; the two numbers in it that are not tags are narrow
pub record UnicastTagged (u : Unicast) (r : ℕ) : Type 0 where
  pub is : r ≡ unicast_tags u
  pub attempts : u.attempts_remaining < 256
  pub hop : u.next_hop < 65536

abbrev pub unicast_words : Unicast → List ℕ
unicast_words u =
    u.id ∷ u.frame ∷ u.waiter ∷ u.deadline ∷ stage_time u.stage ∷ address_word u.poll_address ∷ unicast_tags u ∷ opt32_word u.copy_of
    ∷ confirm_first u.confirm ∷ confirm_second u.confirm ∷ []

abbrev pub unicast_from : ℕ → ℕ → ℕ → ℕ → ℕ → ℕ → ℕ → ℕ → ℕ → ℕ → Unicast
unicast_from id frame waiter deadline time address tags copy first second =
    record {
      id = low id;
      frame = low frame;
      waiter = low waiter;
      priority = priority_from (tags / 32 % 8);
      confirm = confirm_from first second;
      next_hop = tags / 65536 % 65536;
      poll_address = address_from (tags / 8 % 4) address;
      attempts_remaining = tags / 256 % 256;
      stage = stage_from (tags % 8) time;
      deadline = deadline;
      copy_of = opt32_from copy;
    }

unfoldable pub unicast_layout : Layout Unicast
unicast_layout =
    record {
      width = 10;
      words_of = unicast_words;
      record_of =
          λ v. unicast_from (get_or v 0 0) (get_or v 1 0) (get_or v 2 0) (get_or v 3 0) (get_or v 4 0) (get_or v 5 0) (get_or v 6 0) (get_or v 7 0) (get_or v 8 0) (get_or v 9 0);
    }

abbrev pub unicast_table : Table Unicast
unicast_table = record { room = unicast_room; blank = blank_unicast; key = unicast_id; layout = unicast_layout }

-- what a scan reads of a unicast
abbrev pub unicast_head : Unicast → UnicastHead
unicast_head u =
    record {
      id = u.id;
      deadline = u.deadline;
      priority = u.priority;
      poll_address = u.poll_address;
      stage = u.stage;
      copy_of = u.copy_of;
    }

-- ---- unrouted sends: seven words

abbrev pub unrouted_tags : Unrouted → ℕ
unrouted_tags u = rank_of u.priority + 8 * u.destination

abbrev pub unrouted_words : Unrouted → List ℕ
unrouted_words u =
    u.id ∷ u.frame ∷ u.waiter ∷ u.deadline ∷ unrouted_tags u ∷ confirm_first u.confirm ∷ confirm_second u.confirm ∷ []

abbrev pub unrouted_from : ℕ → ℕ → ℕ → ℕ → ℕ → ℕ → ℕ → Unrouted
unrouted_from id frame waiter deadline tags first second =
    record {
      id = low id;
      frame = low frame;
      waiter = low waiter;
      priority = priority_from (tags % 8);
      confirm = confirm_from first second;
      destination = tags / 8 % 65536;
      deadline = deadline;
    }

unfoldable pub unrouted_layout : Layout Unrouted
unrouted_layout =
    record {
      width = 7;
      words_of = unrouted_words;
      record_of = λ v. unrouted_from (get_or v 0 0) (get_or v 1 0) (get_or v 2 0) (get_or v 3 0) (get_or v 4 0) (get_or v 5 0) (get_or v 6 0);
    }

abbrev pub unrouted_table : Table Unrouted
unrouted_table = record { room = unrouted_room; blank = blank_unrouted; key = unrouted_id; layout = unrouted_layout }

abbrev pub unrouted_head : Unrouted → UnroutedHead
unrouted_head u = record { id = u.id; deadline = u.deadline; destination = u.destination }

-- ---- broadcasts: seven words

abbrev pub broadcast_tags : Broadcast → ℕ
broadcast_tags b =
    rank_of b.priority
    + 8 * (copy_tag b.copy
    + 4 * (bit b.handed_off + 2 * (bit b.quorum_heard + 2 * (schedule_tag b.schedule + 4 * (schedule_copies b.schedule + 256 * opt16_word b.last_error)))))

-- r is that word; a schedule has at most 255 copies, and the last error says itself again
pub record BroadcastTagged (b : Broadcast) (r : ℕ) : Type 0 where
  pub is : r ≡ broadcast_tags b
  pub last : Coded opt16_word opt16_from 131072 b.last_error (opt16_word b.last_error)

abbrev pub broadcast_words : Broadcast → List ℕ
broadcast_words b =
    b.id ∷ b.frame ∷ b.waiter ∷ b.deadline ∷ schedule_next b.schedule ∷ schedule_what b.schedule ∷ broadcast_tags b ∷ []

abbrev pub broadcast_from : ℕ → ℕ → ℕ → ℕ → ℕ → ℕ → ℕ → Broadcast
broadcast_from id frame waiter deadline next what tags =
    record {
      id = low id;
      frame = low frame;
      waiter = low waiter;
      priority = priority_from (tags % 8);
      schedule = schedule_from (tags / 128 % 4) (tags / 512 % 256) what next;
      copy = copy_from (tags / 8 % 4);
      handed_off = flag (tags / 32 % 2);
      quorum_heard = flag (tags / 64 % 2);
      last_error = opt16_from (tags / 131072 % 131072);
      deadline = deadline;
    }

unfoldable pub broadcast_layout : Layout Broadcast
broadcast_layout =
    record {
      width = 7;
      words_of = broadcast_words;
      record_of = λ v. broadcast_from (get_or v 0 0) (get_or v 1 0) (get_or v 2 0) (get_or v 3 0) (get_or v 4 0) (get_or v 5 0) (get_or v 6 0);
    }

abbrev pub broadcast_table : Table Broadcast
broadcast_table = record { room = broadcast_room; blank = blank_broadcast; key = broadcast_id; layout = broadcast_layout }

abbrev pub broadcast_head : Broadcast → BroadcastHead
broadcast_head b =
    record {
      id = b.id;
      deadline = b.deadline;
      priority = b.priority;
      schedule = b.schedule;
      copy = b.copy;
      quorum_heard = b.quorum_heard;
    }

-- ---- held destinations: two words

abbrev pub destination_words : Destination → List ℕ
destination_words d = d.address ∷ d.retries ∷ []

abbrev pub destination_from : ℕ → ℕ → Destination
destination_from address retries = record { address = address % 65536; retries = retries % 256 }

unfoldable pub destination_layout : Layout Destination
destination_layout = record { width = 2; words_of = destination_words; record_of = λ v. destination_from (get_or v 0 0) (get_or v 1 0) }

abbrev pub destination_table : Table Destination
destination_table = record { room = destination_room; blank = blank_destination; key = destination_address; layout = destination_layout }
