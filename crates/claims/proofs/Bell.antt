-- The table of specs/Bell holds, by computation: only that a frame, a device and a key is the same as itself is no computation. Assumes nothing.
use Rattle.std.specs.Prelude.{Option, None, Some, Ok, Err}
use Prim.Native.Nat.{ℕ}
use mathlib.Core.Path.{◌≡◌, refl, ap, ◌∙◌}
use mathlib.Core.Bool.{Bool, true, false}
use mathlib.Core.List.{List, [], ◌∷◌, ◌++◌}
use lib.Dec.{eqb}
use borrow.Author.Tests.{eq-eqb}
use Rattle.records.specs.Pick.{pick}
use Rattle.records.specs.Records.{unicast_entry, broadcast_entry, broadcast_id}
use Rattle.records.specs.Same.{same_ack_key, same_quorum_key}
use Rattle.records.proofs.Same.{itself-ack-key, itself-quorum-key}
use Rattle.rows.specs.Lists.{All, lookup}
use Rattle.rows.specs.Moves.{kept, told, at_first, at_first_told, first_of, any_of, has_id}
use Rattle.rows.specs.declared.Turn.{Turn}
use Rattle.sending.specs.Rules as uni
use Rattle.sending.specs.Lists as unis
use Rattle.casting.specs.Rules as bro
use Rattle.model.specs.Model.{Model, fresh_of, with_unicasts, with_broadcasts, denied, done, answers}
use Rattle.model.specs.Calls.{late, unless, turn_unicast, turn_broadcast}
use Rattle.model.specs.Steps.{Call, Outcome, acts, step_of, after}
use Rattle.model.specs.Steps.Call.{Dequeue, Transmitted, Poll, AckReceived, Delivered, Tick}
use Rattle.claims.specs.CausesTypes.{Absent, Short, AckKey, QuorumKey, ApsAck, Unicast, Broadcast, TxResult, Refusal, TimeTooLate, OtherFrame, FromUnicasts, FromBroadcasts, Replied}
use Rattle.claims.specs.Bell.{Given, Holds, EitherSide, enqueue, passive, reported, broadcast_reported, c1, c2, c3, c4, c5, c6, c7, c8, c9}

-- ---- a call whose test holds of the first send of its table

module _ {A : Type 0} where
  abbrev head_has : (A → Bool) → List A → Type 0
  head_has q [] = ⊥
  head_has q (x ∷ xs) = q x ≡ true

abbrev unicast_turned : Model → (Unicast → Turn Unicast) → List Unicast → Outcome
unicast_turned m f [] = acts (done m [])
unicast_turned m f (u ∷ us) = acts (done (with_unicasts m (kept (f u) ++ us)) (told (unicast_entry u) (f u)))

abbrev broadcast_turned : Model → (Broadcast → Turn Broadcast) → List Broadcast → Outcome
broadcast_turned m f [] = acts (done m [])
broadcast_turned m f (b ∷ bs) = acts (done (with_broadcasts m (kept (f b) ++ bs)) (told (broadcast_entry b) (f b)))

ack-hits : (m : Model) (k : AckKey) → head_has (uni.keyed k) m.unicasts → step_of m (AckReceived k) ≡ unicast_turned m uni.ack_turn m.unicasts
ack-hits m k h = go m.unicasts h
  where
    go : (us : List Unicast) → head_has (uni.keyed k) us
        → acts (done (with_unicasts m (at_first (uni.keyed k) uni.ack_turn us)) (at_first_told unicast_entry (uni.keyed k) uni.ack_turn us)) ≡ unicast_turned m uni.ack_turn us
    go [] h = absurd h
    go (u ∷ us) h =
        ap
        (λ (b : Bool).
        acts (done (with_unicasts m (pick b (kept (uni.ack_turn u) ++ us) (u ∷ at_first (uni.keyed k) uni.ack_turn us)))
        (pick b (told (unicast_entry u) (uni.ack_turn u)) (at_first_told unicast_entry (uni.keyed k) uni.ack_turn us))))
        h

delivered-hits : (m : Model) (k : QuorumKey) → head_has (bro.keyed k) m.broadcasts → step_of m (Delivered k) ≡ broadcast_turned m bro.delivered_turn m.broadcasts
delivered-hits m k h = go m.broadcasts h
  where
    go : (bs : List Broadcast) → head_has (bro.keyed k) bs
        → acts (done (with_broadcasts m (at_first (bro.keyed k) bro.delivered_turn bs)) (at_first_told broadcast_entry (bro.keyed k) bro.delivered_turn bs))
        ≡ broadcast_turned m bro.delivered_turn bs
    go [] h = absurd h
    go (b ∷ bs) h =
        ap
        (λ (x : Bool).
        acts (done (with_broadcasts m (pick x (kept (bro.delivered_turn b) ++ bs) (b ∷ at_first (bro.keyed k) bro.delivered_turn bs)))
        (pick x (told (broadcast_entry b) (bro.delivered_turn b)) (at_first_told broadcast_entry (bro.keyed k) bro.delivered_turn bs))))
        h

abbrev polled_to : Model → List Unicast → Outcome
polled_to m us = acts (answers (unicast_turned m uni.poll_turn us).model (Replied true))

poll-hits : (m : Model) (eui : Option ℕ) (nwk : Option ℕ) (now : ℕ) → late now ≡ false → head_has (uni.awaits eui nwk now) m.unicasts
    → step_of m (Poll eui nwk now) ≡ polled_to m m.unicasts
poll-hits m eui nwk now l h =
    ap
    (λ (b : Bool).
    acts (pick b (denied m TimeTooLate) (answers (with_unicasts m (at_first (uni.awaits eui nwk now) uni.poll_turn m.unicasts)) (Replied (any_of (uni.awaits eui nwk now) m.unicasts)))))
    l
    ∙ go m.unicasts h
  where
    go : (us : List Unicast) → head_has (uni.awaits eui nwk now) us
        → acts (answers (with_unicasts m (at_first (uni.awaits eui nwk now) uni.poll_turn us)) (Replied (any_of (uni.awaits eui nwk now) us))) ≡ polled_to m us
    go [] h = absurd h
    go (u ∷ us) h =
        ap
        (λ (b : Bool).
        acts (answers (with_unicasts m (pick b (kept (uni.poll_turn u) ++ us) (u ∷ at_first (uni.awaits eui nwk now) uni.poll_turn us)))
        (Replied (pick b true (any_of (uni.awaits eui nwk now) us)))))
        h

-- a report that nothing bars
report-hits : (m : Model) (id frame : ℕ) (r : TxResult) (now delay : ℕ) → late now ≡ false → unis.report_bar frame (first_of (has_id unicast_entry id) m.unicasts) ≡ None
    → step_of m (Transmitted FromUnicasts id frame r now delay) ≡ acts (turn_unicast m (has_id unicast_entry id) (uni.report_turn r now delay))
report-hits m id frame r now delay l h =
    ap
    (λ (b : Bool).
    acts (pick b (denied m TimeTooLate) (unless m (unis.report_bar frame (first_of (has_id unicast_entry id) m.unicasts)) (turn_unicast m (has_id unicast_entry id) (uni.report_turn r now delay)))))
    l
    ∙ ap (λ (o : Option Refusal). acts (unless m o (turn_unicast m (has_id unicast_entry id) (uni.report_turn r now delay)))) h

broadcast-report-hits : (m : Model) (id frame : ℕ) (r : TxResult) (now delay : ℕ) → late now ≡ false → bro.report_bar frame (lookup broadcast_id id m.broadcasts) ≡ None
    → step_of m (Transmitted FromBroadcasts id frame r now delay) ≡ acts (turn_broadcast m (has_id broadcast_entry id) (bro.report_turn r now delay))
broadcast-report-hits m id frame r now delay l h =
    ap
    (λ (b : Bool).
    acts (pick b (denied m TimeTooLate) (unless m (bro.report_bar frame (lookup broadcast_id id m.broadcasts)) (turn_broadcast m (has_id broadcast_entry id) (bro.report_turn r now delay)))))
    l
    ∙ ap (λ (o : Option Refusal). acts (unless m o (turn_broadcast m (has_id broadcast_entry id) (bro.report_turn r now delay)))) h

-- what an outcome says and tells
both_of : {o p : Outcome} → o ≡ p → (o.reply ≡ p.reply) × (o.actions ≡ p.actions)
both_of e = (ap (λ (o : Outcome). o.reply) e, ap (λ (o : Outcome). o.actions) e)

module _ (x : Given) where
  -- each is the same as itself
  same-frame : pick (eqb x.frame x.frame) None (Some OtherFrame) ≡ None
  same-frame = ap (λ (b : Bool). pick b None (Some OtherFrame)) (eq-eqb x.frame x.frame refl)

  same-device : eqb x.device x.device ≡ true
  same-device = eq-eqb x.device x.device refl

  same_key : same_ack_key x.key x.key ≡ true
  same_key = itself-ack-key x.key

  same-quorum : same_quorum_key x.quorum x.quorum ≡ true
  same-quorum = itself-quorum-key x.quorum

  holds1 : All Holds (c1 x)
  holds1 = ((refl, refl), ((refl, refl), ((refl, refl), ((refl, refl), tt))))

  holds2 : All Holds (c2 x)
  holds2 = ((refl, refl), ((refl, refl), tt))

  holds8 : All Holds (c8 x)
  holds8 = ((refl, refl), ((refl, refl), ((refl, refl), tt)))

  holds3 : All Holds (c3 x)
  holds3 =
      let m : Model = after (fresh_of 0) (enqueue x x.priority (ApsAck x.key x.wait) Absent ∷ Dequeue 0 ∷ []) in
      let o : Outcome = unicast_turned m uni.ack_turn m.unicasts in
      let e : step_of m (AckReceived x.key) ≡ o = ack-hits m x.key same_key in (
        both_of e,
        (
          both_of (ap (λ (o : Outcome). step_of o.model (reported x 0 (Err x.code) 10 x.delay)) e ∙ report-hits o.model 0 x.frame (Err x.code) 10 x.delay refl same-frame),
          tt,
        ),
      )

  holds4 : All Holds (c4 x)
  holds4 =
      let m : Model = after (fresh_of 0) (enqueue x x.priority x.confirm (Short x.device) ∷ []) in
      let o : Outcome = polled_to m m.unicasts in
      let e : step_of m (Poll None (Some x.device) 0) ≡ o = poll-hits m None (Some x.device) 0 refl same-device in
      let lent : Model = (step_of o.model (Dequeue 0)).model in
      let failed : (now : ℕ) → Call = λ now. reported x 0 (Err x.code) now x.delay in
      let back : Outcome = acts (turn_unicast lent (has_id unicast_entry 0) (uni.report_turn (Err x.code) 7679 x.delay)) in
      let before : step_of (step_of (step_of m (Poll None (Some x.device) 0)).model (Dequeue 0)).model (failed 7679) ≡ back =
      ap (λ (o : Outcome). step_of (step_of o.model (Dequeue 0)).model (failed 7679)) e
      ∙ report-hits lent 0 x.frame (Err x.code) 7679 x.delay refl same-frame in (
        both_of before,
        (
          both_of
              (ap (λ (o : Outcome). step_of o.model (Poll None (Some x.device) 7679)) before
              ∙ poll-hits back.model None (Some x.device) 7679 refl same-device),
          (
            both_of
                (ap (λ (o : Outcome). step_of (step_of o.model (Dequeue 0)).model (failed 7680)) e
                ∙ report-hits lent 0 x.frame (Err x.code) 7680 x.delay refl same-frame),
            tt,
          ),
        ),
      )

  holds5 : All Holds (c5 x)
  holds5 =
      let m : Model = after (fresh_of 0) (enqueue x x.priority x.confirm Absent ∷ Dequeue 0 ∷ []) in
      let e = report-hits m 0 x.frame (Err x.code) 100 50 refl same-frame in (
        both_of (ap (λ (o : Outcome). step_of o.model (Tick 149)) e),
        (
          both_of (ap (λ (o : Outcome). step_of (step_of o.model (Tick 149)).model (Dequeue 149)) e),
          (
            both_of (ap (λ (o : Outcome). step_of o.model (Tick 150)) e),
            (
              both_of (ap (λ (o : Outcome). step_of (step_of o.model (Tick 150)).model (Dequeue 150)) e),
              tt,
            ),
          ),
        ),
      )

  holds6 : All Holds (c6 x)
  holds6 =
      let send : Call = enqueue x x.priority (ApsAck x.key x.wait) Absent in
      let m : Model = after (fresh_of 3) (send ∷ Dequeue 0 ∷ send ∷ Dequeue 0 ∷ []) in
      let o : Outcome = unicast_turned m uni.ack_turn m.unicasts in
      let p : Outcome = unicast_turned o.model uni.ack_turn o.model.unicasts in
      let e : step_of (step_of m (AckReceived x.key)).model (AckReceived x.key) ≡ p =
      ap (λ (o : Outcome). step_of o.model (AckReceived x.key)) (ack-hits m x.key same_key) ∙ ack-hits o.model x.key same_key in (
        both_of (ap (λ (o : Outcome). step_of o.model (reported x 3 (Err x.code) 10 x.delay)) e ∙ report-hits p.model 3 x.frame (Err x.code) 10 x.delay refl same-frame),
        (
          both_of (ap (λ (o : Outcome). step_of o.model (reported x 4 (Err x.code) 10 x.delay)) e ∙ report-hits p.model 4 x.frame (Err x.code) 10 x.delay refl same-frame),
          tt,
        ),
      )

  holds7 : All Holds (c7 x)
  holds7 =
      let m : Model = after (fresh_of 0) (passive x ∷ Tick 0 ∷ Dequeue 0 ∷ []) in
      let e = broadcast-report-hits m 0 x.frame (Err x.code) 10 500 refl same-frame in
      (both_of (ap (λ (o : Outcome). step_of o.model (Tick 509)) e), (both_of (ap (λ (o : Outcome). step_of o.model (Tick 510)) e), tt))

  holds9 : All Holds (c9 x)
  holds9 =
      let m : Model = after (fresh_of 0) (passive x ∷ Tick 0 ∷ Dequeue 0 ∷ []) in
      let o : Outcome = broadcast_turned m bro.delivered_turn m.broadcasts in
      let e : step_of m (Delivered x.quorum) ≡ o = delivered-hits m x.quorum same-quorum in (
        both_of e,
        (
          both_of (ap (λ (o : Outcome). step_of o.model (broadcast_reported x (Ok tt) 10)) e ∙ broadcast-report-hits o.model 0 x.frame (Ok tt) 10 500 refl same-frame),
          tt,
        ),
      )

pub either_side : EitherSide
either_side x = (holds1 x, (holds2 x, (holds3 x, (holds4 x, (holds5 x, (holds6 x, (holds7 x, (holds8 x, (holds9 x, tt)))))))))
