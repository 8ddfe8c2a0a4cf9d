-- The tests of sameness hold exactly of equals. Assumes nothing.
use Rattle.std.specs.Prelude.{Option, None, Some, ℕ}
use mathlib.Core.Path.{◌≡◌, refl, ap}
use mathlib.Core.Bool.{true}
use borrow.Author.Tests.{eqb-true, eq-eqb}
use Rattle.records.proofs.Cases.{never, both}
use Rattle.records.specs.Types.{Address, Absent, Short, Extended, AckKey, QuorumKey}
use Rattle.records.specs.Same.{same_number, same_address, same_ack_key, same_quorum_key}

pub equal-number : (a b : Option ℕ) → same_number a b ≡ true → a ≡ b
equal-number None None e = refl
equal-number None (Some y) e = never e
equal-number (Some x) None e = never e
equal-number (Some x) (Some y) e = ap Some (eqb-true x y e)

pub equal-address : (a b : Address) → same_address a b ≡ true → a ≡ b
equal-address Absent Absent e = refl
equal-address Absent (Short y) e = never e
equal-address Absent (Extended y) e = never e
equal-address (Short x) Absent e = never e
equal-address (Short x) (Short y) e = ap Short (eqb-true x y e)
equal-address (Short x) (Extended y) e = never e
equal-address (Extended x) Absent e = never e
equal-address (Extended x) (Short y) e = never e
equal-address (Extended x) (Extended y) e = ap Extended (eqb-true x y e)

pub equal-ack-key : (a b : AckKey) → same_ack_key a b ≡ true → a ≡ b
equal-ack-key a b e =
    let s = both _ _ e in
    let c = both _ _ s.1 in
    let d = both _ _ c.1 in
    let l = both _ _ d.1 in
    let p = both _ _ l.1 in
    let es : a.src ≡ b.src = eqb-true a.src b.src s.0 in
    let ec : a.counter ≡ b.counter = eqb-true a.counter b.counter c.0 in
    let ed = equal-number a.destination_endpoint b.destination_endpoint d.0 in
    let el = equal-number a.cluster_id b.cluster_id l.0 in
    let ep = equal-number a.profile_id b.profile_id p.0 in
    let ee = equal-number a.source_endpoint b.source_endpoint p.1 in
    λ k. record {
      src = es k;
      destination_endpoint = ed k;
      cluster_id = el k;
      profile_id = ep k;
      source_endpoint = ee k;
      counter = ec k;
    }

pub equal-quorum-key : (a b : QuorumKey) → same_quorum_key a b ≡ true → a ≡ b
equal-quorum-key a b e =
    let s = both _ _ e in
    let es = eqb-true a.src b.src s.0 in
    let eq = eqb-true a.sequence b.sequence s.1 in
    λ k. record { src = es k; sequence = eq k }

-- ---- and each is the same as itself

pub itself-number : (a : Option ℕ) → same_number a a ≡ true
itself-number None = refl
itself-number (Some x) = eq-eqb x x refl

pub itself-address : (a : Address) → same_address a a ≡ true
itself-address Absent = refl
itself-address (Short x) = eq-eqb x x refl
itself-address (Extended x) = eq-eqb x x refl

pub itself-ack-key : (a : AckKey) → same_ack_key a a ≡ true
itself-ack-key a =
    rw (
      eq-eqb a.src a.src refl,
      eq-eqb a.counter a.counter refl,
      itself-number a.destination_endpoint,
      itself-number a.cluster_id,
      itself-number a.profile_id,
      itself-number a.source_endpoint,
    )

pub itself-quorum-key : (a : QuorumKey) → same_quorum_key a a ≡ true
itself-quorum-key a = rw (eq-eqb a.src a.src refl, eq-eqb a.sequence a.sequence refl)
