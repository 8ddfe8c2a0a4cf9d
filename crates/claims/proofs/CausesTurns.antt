-- What ties the flags of a send to the history, and that each rule keeps it or settles for cause. Assumes nothing.
use Rattle.std.specs.Prelude.{Option, None, Some, Ok, Err}
use Prim.Native.Nat.{ℕ, ◌+◌, ◌-◌}
use mathlib.Core.Path.{◌≡◌, refl, sym, ap, subst}
use mathlib.Core.Bool.{Bool, true, false, not, ◌&&◌, ◌||◌}
use lib.Dec.{ltb, leb, eqb}
use Rattle.records.specs.Records.{unicast_entry, unrouted_entry, broadcast_entry}
use Rattle.records.proofs.Cases.{either, either-by, never, both}
use Rattle.records.proofs.Same.{equal-ack-key, equal-quorum-key}
use Rattle.rows.specs.declared.Turn.{Turn}
use Rattle.sending.specs.Rules as uni
use Rattle.unrouted.specs.Rules as unr
use Rattle.casting.specs.Rules as bro
use Rattle.claims.specs.CausesTypes.{Address, Absent, Short, Extended, AckKey, QuorumKey, Confirm, OnHandoff, ApsAck, Stage, Queued, Transmitting, Retrying, AwaitingPoll, AwaitingApsAck, Unicast, Unrouted, Broadcast, Schedule, Once, PassiveAck, FixedInterval, CopyState, Idle, CopyQueued, CopyTransmitting, TxResult, Lapsed, Bound}
use Rattle.claims.specs.Causes.{Fact, Want, confirm_want, schedule_want, Enqueued, Acked, Reported, Heard, Caused}
use Rattle.claims.specs.Causes.Want.{AnAck, AReport, AReportAndQuorum}
use Rattle.claims.proofs.CausesMoves.{IfSuccess, Good}

-- ---- the key by which a send is found is the one that it wants

keyed-wants : (k : AckKey) (c : Confirm) → uni.keyed_by k c ≡ true → confirm_want c ≡ AnAck k
keyed-wants k OnHandoff h = never h
keyed-wants k (ApsAck l wait) h = ap AnAck (equal-ack-key l k h)

heard-wants : (k : QuorumKey) (s : Schedule) → bro.keyed_by k s ≡ true → schedule_want s ≡ AReportAndQuorum k
heard-wants k Once h = never h
heard-wants k (PassiveAck l n t) h = ap AReportAndQuorum (equal-quorum-key l k h)
heard-wants k (FixedInterval i n t) h = never h

out-and-handed : (a b : Bool) → a || not b ≡ false → b ≡ true
out-and-handed true b h = never (sym h)
out-and-handed false true h = refl
out-and-handed false false h = never (sym h)

module _ (E : Fact → Type 0) where
  -- ---- the ties

  -- only a send that wants an ack is marked as acked, and then one came
  abbrev pub AckCame : ℕ → Want → Type 0
  AckCame i (AnAck k) = E (Acked i k)
  AckCame i AReport = ⊥
  AckCame i (AReportAndQuorum k) = ⊥

  abbrev pub StageFor : ℕ → Want → Stage → Type 0
  StageFor i w Queued = Unit {0}
  StageFor i w (Transmitting true) = AckCame i w
  StageFor i w (Transmitting false) = Unit {0}
  StageFor i w (Retrying t) = Unit {0}
  StageFor i w AwaitingPoll = Unit {0}
  StageFor i w AwaitingApsAck = E (Reported i)

  pub record TiedU (u : Unicast) : Type 0 where
    pub enqueued : E (Enqueued u.id (confirm_want u.confirm))
    pub stage : StageFor u.id (confirm_want u.confirm) u.stage

  pub record TiedR (u : Unrouted) : Type 0 where
    pub enqueued : E (Enqueued u.id (confirm_want u.confirm))

  abbrev pub QuorumCame : ℕ → Want → Type 0
  QuorumCame i (AnAck k) = Unit {0}
  QuorumCame i AReport = Unit {0}
  QuorumCame i (AReportAndQuorum k) = E (Heard i k)

  pub record TiedB (b : Broadcast) : Type 0 where
    pub enqueued : E (Enqueued b.id (schedule_want b.schedule))
    pub handed : b.handed_off ≡ true → E (Reported b.id)
    pub heard : b.quorum_heard ≡ true → QuorumCame b.id (schedule_want b.schedule)

  abbrev pub GoodU : Unicast → Turn Unicast → Type 0
  GoodU u t = Good E unicast_entry TiedU u t

  abbrev pub GoodR : Unrouted → Turn Unrouted → Type 0
  GoodR u t = Good E unrouted_entry TiedR u t

  abbrev pub GoodB : Broadcast → Turn Broadcast → Type 0
  GoodB b t = Good E broadcast_entry TiedB b t

  -- a report of success came
  abbrev pub IfSent : TxResult → ℕ → Type 0
  IfSent (Ok _) i = E (Reported i)
  IfSent (Err c) i = Unit {0}

  caused : (i : ℕ) (w : Want) → E (Enqueued i w) → AckCame i w → Caused E i
  caused i (AnAck k) q a = record { want = AnAck k; enqueued = q; met = a }
  caused i AReport q a = absurd a
  caused i (AReportAndQuorum k) q a = absurd a

  -- ---- unicasts

  pub stage-admitted : (i : ℕ) (w : Want) (a : Address) → StageFor i w (uni.stage_for a)
  stage-admitted i w Absent = tt
  stage-admitted i w (Short n) = tt
  stage-admitted i w (Extended n) = tt

  pub lend-good : (u : Unicast) → TiedU u → GoodU u (uni.lend_turn u)
  lend-good u t = record { enqueued = t.enqueued; stage = tt }

  pub poll-good : (u : Unicast) → TiedU u → GoodU u (uni.poll_turn u)
  poll-good u t = record { enqueued = t.enqueued; stage = tt }

  pub ack-good : (k : AckKey) (u : Unicast) → TiedU u → uni.keyed k u ≡ true → E (Acked u.id k) → GoodU u (uni.ack_turn u)
  ack-good k u t h e = go u.stage t.stage
    where
      w : confirm_want u.confirm ≡ AnAck k
      w = keyed-wants k u.confirm h

      came : AckCame u.id (confirm_want u.confirm)
      came = subst (AckCame u.id) (sym w) e

      ok : Caused E u.id
      ok = caused u.id (confirm_want u.confirm) t.enqueued came

      go : (s : Stage) → StageFor u.id (confirm_want u.confirm) s → GoodU u (uni.ack_by u s)
      go Queued f = ((λ x. never x), ok)
      go (Transmitting a) f = record { enqueued = t.enqueued; stage = came }
      go (Retrying x) f = ((λ x. never x), ok)
      go AwaitingPoll f = ((λ x. never x), ok)
      go AwaitingApsAck f = ((λ x. f), ok)

  pub report-good : (x : TxResult) (now delay : ℕ) (u : Unicast) → TiedU u → IfSent x u.id → GoodU u (uni.report_turn x now delay u)
  report-good x now delay u t e = go u.stage t.stage
    where
      handed : (a : Bool) (c : Confirm) → E (Enqueued u.id (confirm_want c)) → StageFor u.id (confirm_want c) (Transmitting a) → E (Reported u.id)
          → ((d : ℕ) → TiedU (uni.remade_of u u.priority u.attempts_remaining AwaitingApsAck d)) → GoodU u (uni.hand_off_by u a now c)
      handed a OnHandoff q f r s = ((λ x. never x), record { want = AReport; enqueued = q; met = r })
      handed true (ApsAck k wait) q f r s = ((λ x. never x), record { want = AnAck k; enqueued = q; met = f })
      handed false (ApsAck k wait) q f r s = (r, s (now + wait))

      -- after an ack any result hands off, and only a send that wants an ack was marked
      marked : (c : Confirm) → E (Enqueued u.id (confirm_want c)) → AckCame u.id (confirm_want c) → GoodU u (uni.hand_off_by u true now c)
      marked OnHandoff q f = absurd f
      marked (ApsAck k wait) q f = ((λ x. never x), record { want = AnAck k; enqueued = q; met = f })

      held : (code : ℕ) → GoodU u (uni.fail_held u code now)
      held code = either (GoodU u) (ltb now u.deadline) (record { enqueued = t.enqueued; stage = tt }) ((λ x. never x), tt)

      failed : (code : ℕ) (a : Address) → GoodU u (uni.fail_by u code now delay a)
      failed code Absent = either (GoodU u) (eqb u.attempts_remaining 0) ((λ x. never x), tt) (record { enqueued = t.enqueued; stage = tt })
      failed code (Short n) = held code
      failed code (Extended n) = held code

      sent : (a : Bool) (y : TxResult) → StageFor u.id (confirm_want u.confirm) (Transmitting a) → IfSent y u.id → GoodU u (uni.report_sent u a y now delay)
      sent a (Ok _) f r = handed a u.confirm t.enqueued f r (λ d. record { enqueued = t.enqueued; stage = r })
      sent true (Err code) f r = marked u.confirm t.enqueued f
      sent false (Err code) f r = failed code u.poll_address

      go : (s : Stage) → StageFor u.id (confirm_want u.confirm) s → GoodU u (uni.report_by u x now delay s)
      go Queued f = t
      go (Transmitting a) f = sent a x f e
      go (Retrying y) f = t
      go AwaitingPoll f = t
      go AwaitingApsAck f = t

  pub tick-good : (now : ℕ) (u : Unicast) → TiedU u → GoodU u (uni.tick_turn now u)
  tick-good now u t = go u.stage t.stage
    where
      kept : (s : Stage) → StageFor u.id (confirm_want u.confirm) s → TiedU (uni.with_stage u s)
      kept s f = record { enqueued = t.enqueued; stage = f }

      lapse : (s : Stage) → StageFor u.id (confirm_want u.confirm) s → GoodU u (uni.lapse_by (uni.with_stage u s) s)
      lapse Queued f = ((λ x. never x), tt)
      lapse (Transmitting a) f = kept (Transmitting a) f
      lapse (Retrying x) f = ((λ x. never x), tt)
      lapse AwaitingPoll f = ((λ x. never x), tt)
      lapse AwaitingApsAck f = ((λ x. f), tt)

      then : (s : Stage) → StageFor u.id (confirm_want u.confirm) s → GoodU u (uni.lapse_turn now (uni.with_stage u s))
      then s f = either (GoodU u) (leb u.deadline now) (lapse s f) (kept s f)

      go : (s : Stage) → StageFor u.id (confirm_want u.confirm) s → GoodU u (uni.lapse_turn now (uni.with_stage u (uni.requeued now s)))
      go Queued f = then Queued f
      go (Transmitting a) f = then (Transmitting a) f
      go (Retrying at) f =
          either (λ (s : Stage). GoodU u (uni.lapse_turn now (uni.with_stage u s))) (leb at now) (then Queued tt) (then (Retrying at) tt)
      go AwaitingPoll f = then AwaitingPoll f
      go AwaitingApsAck f = then AwaitingApsAck f

  -- a failure that repeats the handoff of one that awaits its ack
  settle-good : (u : Unicast) → TiedU u → uni.is_acking u.stage ≡ true → E (Reported u.id)
  settle-good u t h = go u.stage t.stage h
    where
      go : (s : Stage) → StageFor u.id (confirm_want u.confirm) s → uni.is_acking s ≡ true → E (Reported u.id)
      go Queued f h = never h
      go (Transmitting a) f h = never h
      go (Retrying x) f h = never h
      go AwaitingPoll f h = never h
      go AwaitingApsAck f h = f

  pub cancel-good : (u : Unicast) → TiedU u → GoodU u (uni.cancel_turn u)
  cancel-good u t = (settle-good u t, tt)

  pub drop-good : (eui : Option ℕ) (nwk : ℕ) (u : Unicast) → TiedU u → GoodU u (uni.drop_turn eui nwk u)
  drop-good eui nwk u t =
      either (GoodU u) (uni.is_awaiting u.stage && uni.under eui (Some nwk) u.poll_address) (settle-good u t, tt) t

  pub copy-good : (i : ℕ) (u : Unicast) → TiedU u → GoodU u (uni.copy_turn i u)
  copy-good i u t = either (GoodU u) (uni.copies i u) (cancel-good u t) t

  -- ---- unrouted sends

  pub lapsed-good : (now : ℕ) (u : Unrouted) → TiedR u → GoodR u (unr.sweep_turn (Lapsed now) u)
  lapsed-good now u t = either (GoodR u) (unr.chosen (Lapsed now) u) ((λ x. never x), tt) t

  pub bound-good : (d : ℕ) (u : Unrouted) → TiedR u → GoodR u (unr.sweep_turn (Bound d) u)
  bound-good d u t = either (GoodR u) (unr.chosen (Bound d) u) ((λ x. never x), tt) t

  pub withdrawn-good : (u : Unrouted) → TiedR u → GoodR u (unr.cancel_turn u)
  withdrawn-good u t = ((λ x. never x), tt)

  -- ---- broadcasts

  pub dequeue-good : (b : Broadcast) → TiedB b → GoodB b (bro.dequeue_turn b)
  dequeue-good b t = record { enqueued = t.enqueued; handed = t.handed; heard = t.heard }

  pub recall-good : (b : Broadcast) → TiedB b → GoodB b (bro.cancel_turn b)
  recall-good b t = (t.handed, tt)

  -- handed off, and heard where a quorum is wanted
  both-came : (i : ℕ) (s : Schedule) → E (Enqueued i (schedule_want s)) → E (Reported i) → QuorumCame i (schedule_want s) → Caused E i
  both-came i Once q r h = record { want = AReport; enqueued = q; met = r }
  both-came i (PassiveAck k n t) q r h = record { want = AReportAndQuorum k; enqueued = q; met = (r, h) }
  both-came i (FixedInterval x n t) q r h = record { want = AReport; enqueued = q; met = r }

  pub delivered-good : (k : QuorumKey) (b : Broadcast) → TiedB b → bro.keyed k b ≡ true → E (Heard b.id k) → GoodB b (bro.delivered_turn b)
  delivered-good k b t h e =
      let came : QuorumCame b.id (schedule_want b.schedule) = subst (QuorumCame b.id) (sym (heard-wants k b.schedule h)) e in
      either-by (GoodB b) (bro.in_radio b.copy || not b.handed_off) (λ g. record { enqueued = t.enqueued; handed = t.handed; heard = λ x. came })
      (λ g.
      let r : E (Reported b.id) = t.handed (out-and-handed (bro.in_radio b.copy) b.handed_off g) in
      ((λ x. r), both-came b.id b.schedule t.enqueued r came))

  pub broadcast-report-good : (x : TxResult) (now delay : ℕ) (b : Broadcast) → TiedB b → IfSent x b.id → GoodB b (bro.report_turn x now delay b)
  broadcast-report-good x now delay b t e = go b.schedule t.enqueued t.heard
    where
      again : (s : Schedule) → E (Enqueued b.id (schedule_want s)) → (b.quorum_heard ≡ true → QuorumCame b.id (schedule_want s)) → (y : TxResult) → IfSent y b.id
          → GoodB b (bro.repeat_turn b s y)
      again s q hr (Ok _) r =
          let z : TiedB (bro.remade b s Idle true b.quorum_heard b.last_error) = record { enqueued = q; handed = λ g. r; heard = hr } in
          either-by (GoodB b) b.quorum_heard (λ h. ((λ g. r), both-came b.id s q r (hr h))) (λ h. either (GoodB b) b.handed_off z (r, z))
      again s q hr (Err c) r =
          either-by (GoodB b) (b.quorum_heard && b.handed_off)
          (λ h.
          let g = both b.quorum_heard b.handed_off h in
          ((λ x. t.handed g.1), both-came b.id s q (t.handed g.1) (hr g.0)))
          (λ h. record { enqueued = q; handed = t.handed; heard = hr })

      once : (y : TxResult) → E (Enqueued b.id AReport) → IfSent y b.id → IfSuccess E (bro.result_verdict y) b.id
      once (Ok _) q r = record { want = AReport; enqueued = q; met = r }
      once (Err c) q r = tt

      go : (s : Schedule) → E (Enqueued b.id (schedule_want s)) → (b.quorum_heard ≡ true → QuorumCame b.id (schedule_want s)) → GoodB b (bro.report_by b x now delay s)
      go Once q hr = (t.handed, once x q e)
      go (PassiveAck k n at) q hr = again (PassiveAck k n (now + delay)) q hr x e
      go (FixedInterval i n at) q hr = again (FixedInterval i n (now + i)) q hr x e

  over-caused : (i : ℕ) (s : Schedule) → E (Enqueued i (schedule_want s)) → E (Reported i) → IfSuccess E (bro.over_verdict s) i
  over-caused i Once q r = tt
  over-caused i (PassiveAck k n t) q r = tt
  over-caused i (FixedInterval x n t) q r = record { want = AReport; enqueued = q; met = r }

  last-fails : (o : Option ℕ) (i : ℕ) → IfSuccess E (bro.last_verdict o) i
  last-fails None i = tt
  last-fails (Some c) i = tt

  pub broadcast-tick-good : (now : ℕ) (b : Broadcast) → TiedB b → GoodB b (bro.tick_turn now b)
  broadcast-tick-good now b t = go b.copy
    where
      lapse : (s : Schedule) (c : CopyState) → E (Enqueued b.id (schedule_want s)) → (b.quorum_heard ≡ true → QuorumCame b.id (schedule_want s))
          → GoodB b (bro.lapse_turn now (bro.remade b s c b.handed_off b.quorum_heard b.last_error))
      lapse s c q hr =
          either (GoodB b) (leb b.deadline now)
          (either-by (GoodB b) b.handed_off (λ h. ((λ x. t.handed h), over-caused b.id s q (t.handed h))) (λ h. ((λ x. never x), tt)))
          (record { enqueued = q; handed = t.handed; heard = hr })

      over : GoodB b (bro.over_turn b)
      over =
          either-by (GoodB b) b.handed_off (λ h. ((λ x. t.handed h), over-caused b.id b.schedule t.enqueued (t.handed h)))
          (λ h. ((λ x. never x), last-fails b.last_error b.id))

      stays : GoodB b (bro.lapse_turn now b)
      stays = lapse b.schedule b.copy t.enqueued t.heard

      due : (s : Schedule) (n at : ℕ) → E (Enqueued b.id (schedule_want s)) → (b.quorum_heard ≡ true → QuorumCame b.id (schedule_want s)) → GoodB b (bro.due_turn now b s n at)
      due s n at q hr = either (GoodB b) (leb at now) (either (GoodB b) (eqb n 0) over (lapse s CopyQueued q hr)) stays

      idle : (s : Schedule) → E (Enqueued b.id (schedule_want s)) → (b.quorum_heard ≡ true → QuorumCame b.id (schedule_want s)) → GoodB b (bro.idle_turn now b s)
      idle Once q hr = stays
      idle (PassiveAck k n at) q hr = due (PassiveAck k (n - 1) at) n at q hr
      idle (FixedInterval i n at) q hr = due (FixedInterval i (n - 1) at) n at q hr

      go : (c : CopyState) → GoodB b (bro.tick_by now b c)
      go Idle = idle b.schedule t.enqueued t.heard
      go CopyQueued = stays
      go CopyTransmitting = t
