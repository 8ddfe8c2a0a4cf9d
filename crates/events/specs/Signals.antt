-- Kinds 1, 6 to 11, 13 to 16, 19, 21 and 22.
use Rattle.std.specs.Prelude.{ℕ, List, Option, None, Some}
use Rattle.fields.specs.Bytes.{number}
use Rattle.fields.specs.Parts.{address_at, key_at, opt16_by, opt64_by, result_by, lender_by}
use Rattle.records.specs.declared.Settings.{Settings}
use Rattle.events.specs.Types.{Absent, Short, Extended, Event, OnSettings, OnDequeue, OnReport, OnPoll, OnAck, OnRetry, OnFail, OnDelivered, OnDrop, OnCancel, OnTick, OnPair, OnHasUnrouted, OnHasAwaiting, Malformed}
use Rattle.records.specs.declared.Address.{Address}
use Rattle.records.specs.declared.AckKey.{AckKey}
use Rattle.records.specs.Types.{TxResult}
use Rattle.model.specs.declared.Lender.{Lender}

-- 1: handoff 4, persistence 4, retries 1, attempts 1
abbrev pub settings_in : List ℕ → Settings
settings_in b =
    record { handoff_timeout = number 4 0 b; persistence_time = number 4 4 b; unicast_retries = number 1 8 b; discovery_attempts = number 1 9 b }

unfoldable pub settings_of : List ℕ → Event
settings_of b = OnSettings (settings_in b)

-- 6: now 8
unfoldable pub dequeue_of : List ℕ → Event
dequeue_of b = OnDequeue (number 8 0 b)

-- 7: 1 for broadcast, id 4, frame 4, result 3, now 8, delay 4
abbrev pub report_with : Option Lender → ℕ → ℕ → Option TxResult → ℕ → ℕ → Event
report_with (Some l) id frame (Some x) clock delay = OnReport l id frame x clock delay
report_with (Some l) id frame None clock delay = Malformed
report_with None id frame x clock delay = Malformed

unfoldable pub report_of : List ℕ → Event
report_of b =
    report_with (lender_by (number 1 0 b)) (number 4 1 b) (number 4 5 b) (result_by (number 1 9 b) (number 2 10 b)) (number 8 12 b) (number 4 20 b)

-- 8: now 8, flag 1, extended 8, flag 1, short 2
abbrev pub poll_with : ℕ → Option (Option ℕ) → Option (Option ℕ) → Event
poll_with clock (Some e) (Some s) = OnPoll clock e s
poll_with clock (Some e) None = Malformed
poll_with clock None s = Malformed

unfoldable pub poll_of : List ℕ → Event
poll_of b = poll_with (number 8 0 b) (opt64_by (number 1 8 b) (number 8 9 b)) (opt16_by (number 1 17 b) (number 2 18 b))

-- 9: key 10
abbrev pub ack_event : Option AckKey → Event
ack_event (Some k) = OnAck k
ack_event None = Malformed

unfoldable pub ack_of : List ℕ → Event
ack_of b = ack_event (key_at 0 b)

-- 10 and 11: destination 2
unfoldable pub retry_of : List ℕ → Event
retry_of b = OnRetry (number 2 0 b)

unfoldable pub fail_of : List ℕ → Event
fail_of b = OnFail (number 2 0 b)

-- 13: src 2, sequence 1
unfoldable pub delivered_of : List ℕ → Event
delivered_of b = OnDelivered (record { src = number 2 0 b; sequence = number 1 2 b })

-- 14: flag 1, extended 8, short 2
abbrev pub drop_with : Option (Option ℕ) → ℕ → Event
drop_with (Some e) short = OnDrop e short
drop_with None short = Malformed

unfoldable pub drop_of : List ℕ → Event
drop_of b = drop_with (opt64_by (number 1 0 b) (number 8 1 b)) (number 2 9 b)

-- 15: id 4
unfoldable pub cancel_of : List ℕ → Event
cancel_of b = OnCancel (number 4 0 b)

-- 16: now 8
unfoldable pub tick_of : List ℕ → Event
tick_of b = OnTick (number 8 0 b)

-- 19: extended 8, short 2
unfoldable pub pair_of : List ℕ → Event
pair_of b = OnPair (number 8 0 b) (number 2 8 b)

-- 21: destination 2
unfoldable pub has_unrouted_of : List ℕ → Event
has_unrouted_of b = OnHasUnrouted (number 2 0 b)

-- 22: address 9, not none
abbrev pub awaiting_event : Option Address → Event
awaiting_event (Some Absent) = Malformed
awaiting_event (Some (Short x)) = OnHasAwaiting (Short x)
awaiting_event (Some (Extended x)) = OnHasAwaiting (Extended x)
awaiting_event None = Malformed

unfoldable pub has_awaiting_of : List ℕ → Event
has_awaiting_of b = awaiting_event (address_at 0 b)
