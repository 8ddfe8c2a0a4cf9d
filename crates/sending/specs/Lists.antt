-- 01's rules of unicasts, on the list of them.
use Rattle.std.specs.Prelude.{ℕ, List, eqb, Option, None, Some, Bool}
use Rattle.records.specs.Pick.{pick}
use Rattle.records.specs.Records.{unicast_entry}
use Rattle.rows.specs.Lists.{fold}
use Rattle.rows.specs.Moves.{first_of, any_of, has_id}
use Rattle.tables.specs.Layouts.{unicast_head}
use Rattle.sending.specs.Types.{Unicast, Refusal, NoSuchSend, InTheRadio, NotInTheRadio, OtherFrame}
use Rattle.sending.specs.Rules.{is_sending, beside, best_head, wake_head}
use Rattle.records.specs.declared.Priority.{Priority}

-- the best of the unexpired queued sends: of highest priority, then of lowest id
abbrev pub best_step : ℕ → Unicast → Option (ℕ × Priority) → Option (ℕ × Priority)
best_step now u b = best_head now (unicast_head u) b

abbrev pub best_of : ℕ → List Unicast → Option (ℕ × Priority)
best_of now us = fold (best_step now) None us

-- next wake: the least over sends not in the radio
abbrev pub wake_step : Unicast → Option ℕ → Option ℕ
wake_step u o = wake_head (unicast_head u) o

abbrev pub wake_of : List Unicast → Option ℕ
wake_of us = fold wake_step None us

-- what goes to the radio: the frame of the send i, its next hop, and whether another frame is pending for its address
abbrev pub loan_by : ℕ → List Unicast → Option Unicast → Option (ℕ × ℕ × Bool)
loan_by i us None = None
loan_by i us (Some u) = Some (u.frame, u.next_hop, any_of (beside i u.poll_address) us)

abbrev pub loan_of : ℕ → List Unicast → Option (ℕ × ℕ × Bool)
loan_of i us = loan_by i us (first_of (has_id unicast_entry i) us)

-- a report is refused: 5 where no send has the id, then 7 where it is not in the radio, then 8 where it has another frame
abbrev pub report_bar : ℕ → Option Unicast → Option Refusal
report_bar frame None = Some NoSuchSend
report_bar frame (Some u) = pick (is_sending u.stage) (pick (eqb u.frame frame) None (Some OtherFrame)) (Some NotInTheRadio)

-- a cancel is refused: 5 where no send has the id, then 6 where it is in the radio
abbrev pub cancel_bar : Option Unicast → Option Refusal
cancel_bar None = Some NoSuchSend
cancel_bar (Some u) = pick (is_sending u.stage) (Some InTheRadio) None
