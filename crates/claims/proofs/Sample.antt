-- That the claims speak of something: a short history in which each of the five places comes to hold a send, and a refused call and a time that goes back
-- change none of it. By computing; assumes nothing.
use Prim.Native.Nat.{ℕ, ◌+◌}
use mathlib.Core.Path.{◌≡◌, refl}
use mathlib.Core.List.{List, [], ◌∷◌}
use Rattle.records.specs.declared.Address.TheVariants.{Absent}
use Rattle.records.specs.declared.Priority.TheVariants.{UserNormal}
use Rattle.records.specs.declared.Confirm.TheVariants.{OnHandoff}
use Rattle.records.specs.Limits.{last_time}
use Rattle.model.specs.Types.{Settings, Once}
use Rattle.model.specs.declared.NewUnicast.{NewUnicast}
use Rattle.model.specs.declared.NewUnrouted.{NewUnrouted}
use Rattle.model.specs.declared.NewBroadcast.{NewBroadcast}
use Rattle.model.specs.Steps.{Call}
use Rattle.model.specs.Steps.Call.{EnqueueUnicast, EnqueueUnrouted, EnqueueBroadcast, Cancel, Abandon}
use Rattle.claims.specs.Ledger.{past, ever_issued, ever_settled, ever_listed, has, places}

abbrev set : Settings
set = record { handoff_timeout = 8000; persistence_time = 7680; unicast_retries = 3; discovery_attempts = 2 }

-- a waiter and a frame
abbrev unicast : ℕ → ℕ → NewUnicast
unicast w f = record { frame = f; waiter = w; priority = UserNormal; confirm = OnHandoff; next_hop = 1; poll_address = Absent }

abbrev unrouted : ℕ → ℕ → NewUnrouted
unrouted w f = record { frame = f; waiter = w; priority = UserNormal; confirm = OnHandoff; destination = 5 }

abbrev broadcast : ℕ → ℕ → NewBroadcast
broadcast w f = record { frame = f; waiter = w; priority = UserNormal; schedule = Once }

-- two sends, a refused third; the first is cancelled, the second abandoned and then cancelled in vain; three more
abbrev calls : List Call
calls =
    EnqueueUnicast set (unicast 1 21) 100
    ∷ EnqueueBroadcast set (broadcast 2 22) 50
    ∷ EnqueueUnicast set (unicast 3 23) (last_time + 1)
    ∷ Cancel 7
    ∷ Abandon
    ∷ Cancel 8
    ∷ EnqueueUnicast set (unicast 4 24) 10
    ∷ EnqueueUnrouted set (unrouted 5 25) 20
    ∷ EnqueueBroadcast set (broadcast 6 26) 0 ∷ []

pub issues-five : ever_issued (past 7 calls)
    ≡ record { id = 7; waiter = 1; frame = 21 }
    ∷ record { id = 8; waiter = 2; frame = 22 }
    ∷ record { id = 9; waiter = 4; frame = 24 }
    ∷ record { id = 10; waiter = 5; frame = 25 }
    ∷ record { id = 11; waiter = 6; frame = 26 } ∷ []
issues-five = refl

pub settles-one : ever_settled (past 7 calls) ≡ record { id = 7; waiter = 1; frame = 21 } ∷ []
settles-one = refl

pub lists-one : ever_listed (past 7 calls) ≡ record { id = 8; waiter = 2; frame = 22 } ∷ []
lists-one = refl

-- each in its place
pub first-settled : places 7 calls (has 7) ≡ 0 ∷ 0 ∷ 0 ∷ 1 ∷ 0 ∷ []
first-settled = refl

pub second-listed : places 7 calls (has 8) ≡ 0 ∷ 0 ∷ 0 ∷ 0 ∷ 1 ∷ []
second-listed = refl

pub third-unicast : places 7 calls (has 9) ≡ 1 ∷ 0 ∷ 0 ∷ 0 ∷ 0 ∷ []
third-unicast = refl

pub fourth-unrouted : places 7 calls (has 10) ≡ 0 ∷ 1 ∷ 0 ∷ 0 ∷ 0 ∷ []
fourth-unrouted = refl

pub fifth-broadcast : places 7 calls (has 11) ≡ 0 ∷ 0 ∷ 1 ∷ 0 ∷ 0 ∷ []
fifth-broadcast = refl

pub sixth-nowhere : places 7 calls (has 12) ≡ 0 ∷ 0 ∷ 0 ∷ 0 ∷ 0 ∷ []
sixth-nowhere = refl
