-- A dequeue in two steps, as the code has it: which send goes first, and then that it is lent. proofs/Chosen says that this is the model's one step.
use Rattle.std.specs.Prelude.{Option, None, Some, ℕ}
use Rattle.records.specs.Pick.{pick}
use Rattle.records.specs.Priorities.{rank_of}
use Rattle.model.specs.Model.{Model, Effect, answers}
use Rattle.model.specs.Calls.{unicast_first, lend_unicast, lend_broadcast}
use Rattle.doing.specs.Types.{NothingQueued}
use Rattle.lending.specs.declared.radio.Chosen.{Chosen}
use Rattle.lending.specs.declared.radio.Chosen.TheVariants.{NoSend, OneUnicast, OneBroadcast}
use Rattle.records.specs.declared.Priority.{Priority}

abbrev pub chosen_of : Option (ℕ × Priority) → Option (ℕ × ℕ) → Chosen
chosen_of None None = NoSend
chosen_of None (Some (j, q)) = OneBroadcast j
chosen_of (Some (i, p)) None = OneUnicast i
chosen_of (Some (i, p)) (Some (j, q)) = pick (unicast_first i (rank_of p) j q) (OneUnicast i) (OneBroadcast j)

abbrev pub lend_chosen : Model → Chosen → Effect
lend_chosen m NoSend = answers m NothingQueued
lend_chosen m (OneUnicast i) = lend_unicast m i
lend_chosen m (OneBroadcast j) = lend_broadcast m j
