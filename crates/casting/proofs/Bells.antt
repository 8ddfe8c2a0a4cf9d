-- The times on either side of which a rule decides, for a passive-ack broadcast with any id, handles, priority and key: by computation. Assumes nothing.
use Rattle.std.specs.Prelude.{None, Some, Ok, Err}
use Prim.Native.Nat.{ℕ}
use mathlib.Core.Path.{◌≡◌, refl}
use mathlib.Core.Bool.{true, false}
use Rattle.rows.specs.declared.Turn.TheVariants.{Keeps, HandsOff, Settles}
use Rattle.casting.specs.Types.{Priority, QuorumKey, PassiveAck, Idle, CopyQueued, Broadcast, HandoffTimeout, BroadcastQuorumNotReached, Success, Failure, Code}
use Rattle.casting.specs.Rules.{remade, admitted_of, lent, tick_turn, report_turn, delivered_turn, ready}

module _ (id frame waiter : ℕ) (p : Priority) (k : QuorumKey) where
  -- one copy, due at once, admitted at 0 with a handoff timeout of 8000
  abbrev fresh : Broadcast
  fresh = admitted_of id frame waiter p (PassiveAck k 1 0) 0 8000

  -- its copy spent, and queued
  abbrev queued : Broadcast
  queued = remade fresh (PassiveAck k 0 0) CopyQueued false false None

  pub spends-its-copy : tick_turn 0 fresh ≡ Keeps queued
  spends-its-copy = refl

  pub dequeued-before : ready 7999 queued ≡ true
  dequeued-before = refl

  pub not-at-deadline : ready 8000 queued ≡ false
  not-at-deadline = refl

  pub waits-before : tick_turn 7999 queued ≡ Keeps queued
  waits-before = refl

  pub lapses-at-deadline : tick_turn 8000 queued ≡ Settles false (Failure HandoffTimeout) None
  lapses-at-deadline = refl

  -- its copy was lost: reported at 10, to go on after 500
  abbrev lost : ℕ → Broadcast
  lost code = remade fresh (PassiveAck k 0 510) Idle false false (Some code)

  pub keeps-the-error : (code : ℕ) → report_turn (Err code) 10 500 (lent queued) ≡ Keeps (lost code)
  keeps-the-error code = refl

  pub nothing-before : (code : ℕ) → tick_turn 509 (lost code) ≡ Keeps (lost code)
  nothing-before code = refl

  pub that-error : (code : ℕ) → tick_turn 510 (lost code) ≡ Settles false (Code code) None
  that-error code = refl

  -- its copy was sent, and no quorum is heard
  abbrev handed : Broadcast
  handed = remade fresh (PassiveAck k 0 510) Idle true false None

  pub hands-off : report_turn (Ok tt) 10 500 (lent queued) ≡ HandsOff handed
  hands-off = refl

  pub no-quorum : tick_turn 510 handed ≡ Settles true (Failure BroadcastQuorumNotReached) None
  no-quorum = refl

  pub quorum-in-time : delivered_turn handed ≡ Settles true Success None
  quorum-in-time = refl

  -- quorum is heard while the copy is in the radio: the report is its handoff and its end
  abbrev heard : Broadcast
  heard = remade (lent queued) (PassiveAck k 0 0) (lent queued).copy false true None

  pub marks : delivered_turn (lent queued) ≡ Keeps heard
  marks = refl

  pub then-success : report_turn (Ok tt) 10 500 heard ≡ Settles true Success None
  then-success = refl
