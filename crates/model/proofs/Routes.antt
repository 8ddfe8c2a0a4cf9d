-- What the unicasts are after the sends of a route have entered: kept, no longer than before and as many as were reached, and of each id no more than
-- before and entered. Assumes nothing.
use Rattle.std.specs.Prelude.{Ok, Err}
use Prim.Native.Nat.{ℕ, ◌+◌, ◌≤◌}
use native.Mathlib.Omega.{arith}
use mathlib.Core.List.{List, [], ◌∷◌}
use lib.ListN.{length}
use Rattle.records.specs.Records.{unicast_id, unicast_entry, unrouted_entry}
use Rattle.rows.specs.Lists.{Rising, insert_by}
use Rattle.rows.specs.Moves.{count, has_id}
use Rattle.rows.proofs.Promises.{rising-insert}
use Rattle.model.specs.Types.{Settings, Unicast, Unrouted, Resolved}
use Rattle.model.specs.Calls.{reached, routed, entering}
use Rattle.model.proofs.Kepts.{insert-length, insert-fewer}

module _ (s : Settings) (now : ℕ) where
  pub entering-rising : (ts : List Unrouted) (rs : List Resolved) (us : List Unicast) → Rising unicast_id 0 us → Rising unicast_id 0 (entering s now ts rs us)
  entering-rising [] rs us h = h
  entering-rising (u ∷ ts) [] us h = h
  entering-rising (u ∷ ts) (Ok (hop, a) ∷ rs) us h =
      entering-rising ts rs (insert_by unicast_id (routed s now u hop a) us) (rising-insert unicast_id 0 (routed s now u hop a) us (omega arith) h)
  entering-rising (u ∷ ts) (Err c ∷ rs) us h = entering-rising ts rs us h

  pub entering-length : (ts : List Unrouted) (rs : List Resolved) (us : List Unicast) → length (entering s now ts rs us) ≤ count reached rs + length us
  entering-length [] rs us = omega arith
  entering-length (u ∷ ts) [] us = omega arith
  entering-length (u ∷ ts) (Ok (hop, a) ∷ rs) us =
      let v : Unicast = routed s now u hop a in
      omega (arith, entering-length ts rs (insert_by unicast_id v us), insert-length unicast_id v us)
  entering-length (u ∷ ts) (Err c ∷ rs) us = omega (arith, entering-length ts rs us)

  pub entering-fewer : (i : ℕ) (ts : List Unrouted) (rs : List Resolved) (us : List Unicast)
      → count (has_id unicast_entry i) (entering s now ts rs us) ≤ count (has_id unrouted_entry i) ts + count (has_id unicast_entry i) us
  entering-fewer i [] rs us = omega arith
  entering-fewer i (u ∷ ts) [] us = omega arith
  entering-fewer i (u ∷ ts) (Ok (hop, a) ∷ rs) us =
      let v : Unicast = routed s now u hop a in
      omega (arith, entering-fewer i ts rs (insert_by unicast_id v us), insert-fewer unicast_entry i v us)
  entering-fewer i (u ∷ ts) (Err c ∷ rs) us = omega (arith, entering-fewer i ts rs us)
