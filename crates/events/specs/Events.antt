-- The event of a record, by its kind and body: 01's list, in its order.
use Rattle.std.specs.Prelude.{ℕ, List, eqb}
use Rattle.records.specs.Pick.{pick}
use Rattle.events.specs.Arrivals.{unicast_of, copy_of, unrouted_of, broadcast_of}
use Rattle.events.specs.Signals.{settings_of, dequeue_of, report_of, poll_of, ack_of, retry_of, fail_of, delivered_of, drop_of, cancel_of, tick_of, pair_of, has_unrouted_of, has_awaiting_of}
use Rattle.events.specs.Routes.{route_of}
use Rattle.events.specs.Types.{Event, OnAbandon, OnNextWake, OnLists, Malformed}

unfoldable pub event_of : ℕ → List ℕ → Event
event_of kind b =
    pick (eqb kind 1) (settings_of b)
    (pick (eqb kind 2) (unicast_of b)
    (pick (eqb kind 3) (copy_of b)
    (pick (eqb kind 4) (unrouted_of b)
    (pick (eqb kind 5) (broadcast_of b)
    (pick (eqb kind 6) (dequeue_of b)
    (pick (eqb kind 7) (report_of b)
    (pick (eqb kind 8) (poll_of b)
    (pick (eqb kind 9) (ack_of b)
    (pick (eqb kind 10) (retry_of b)
    (pick (eqb kind 11) (fail_of b)
    (pick (eqb kind 12) (route_of b)
    (pick (eqb kind 13) (delivered_of b)
    (pick (eqb kind 14) (drop_of b)
    (pick (eqb kind 15) (cancel_of b)
    (pick (eqb kind 16) (tick_of b)
    (pick (eqb kind 17) OnAbandon
    (pick (eqb kind 18) OnNextWake
    (pick (eqb kind 19) (pair_of b)
    (pick (eqb kind 20) OnLists
    (pick (eqb kind 21) (has_unrouted_of b)
    (pick (eqb kind 22) (has_awaiting_of b) Malformed)))))))))))))))))))))
