-- The next wake is the least of the times that sends are to be woken for: specs/Claims. Assumes nothing.
use Rattle.std.specs.Prelude.{Option, None, Some}
use Prim.Native.Nat.{ℕ, ◌≤◌, min}
use native.Mathlib.Omega.{arith}
use mathlib.Core.Path.{◌≡◌, refl, ap}
use mathlib.Core.List.Memᴰ
use mathlib.Core.List.{List, [], ◌∷◌, ◌++◌}
use lib.Dec.{ltb, leb}
use borrow.Author.Tests.{ltb-true, ltb-false, leb-true, leb-false}
use Rattle.records.specs.Pick.{pick}
use Rattle.records.specs.Times.{sooner}
use Rattle.records.specs.declared.Stage.{Stage}
use Rattle.records.specs.declared.Stage.TheVariants.{Queued, Transmitting, Retrying, AwaitingPoll, AwaitingApsAck}
use Rattle.records.specs.declared.CopyState.{CopyState}
use Rattle.records.specs.declared.CopyState.TheVariants.{Idle, CopyQueued, CopyTransmitting}
use Rattle.records.proofs.Cases.{either-by}
use Rattle.rows.specs.Lists.{fold}
use Rattle.rows.specs.Rows.{flat}
use Rattle.tables.specs.Layouts.{broadcast_head}
use Rattle.sending.specs.Rules as uni
use Rattle.sending.specs.Lists as unis
use Rattle.unrouted.specs.Rules as unr
use Rattle.casting.specs.Rules as bro
use Rattle.model.specs.Types.{Schedule, Once, PassiveAck, FixedInterval, Broadcast}
use Rattle.model.specs.Calls.{soonest}
use Rattle.model.specs.Claims.{unicast_times, idle_time, broadcast_times, unicast_wakes, unrouted_wakes, broadcast_wakes, IsLeast, WakeIsLeast}
use Rattle.model.proofs.Looks.{all_map, all_append}

append-nil : (xs : List ℕ) → xs ++ [] ≡ xs
append-nil [] = refl
append-nil (x ∷ xs) = ap (λ (l : List ℕ). x ∷ l) (append-nil xs)

-- ---- the least of two lists is the sooner of their leasts

least-append : (xs ys : List ℕ) (a b : Option ℕ) → IsLeast xs a → IsLeast ys b → IsLeast (xs ++ ys) (soonest a b)
least-append xs ys None b p q = rw p q
least-append xs ys (Some t) None p q = rw (q, append-nil xs) p
least-append xs ys (Some t) (Some u) p q =
    either-by (λ (n : ℕ). IsLeast (xs ++ ys) (Some n)) (leb t u)
    (λ e. (Memᴰ.append_left ys p.0, all_append (λ (y : ℕ). _ ≤ y) xs ys p.1 (all_map (λ y (h : u ≤ y). omega (arith, leb-true t u e)) ys q.1)))
    (λ e. (Memᴰ.append_right xs q.0, all_append (λ (y : ℕ). _ ≤ y) xs ys (all_map (λ y (h : t ≤ y). omega (arith, leb-false t u e)) xs p.1) q.1))

least-one : (t : ℕ) (ys : List ℕ) (o : Option ℕ) → IsLeast ys o → IsLeast (t ∷ ys) (sooner t o)
least-one t ys o q = least-append (t ∷ []) ys (Some t) o (Memᴰ.head refl, (omega arith, tt)) q

-- ---- over a table

least-table : {A : Type 0} (times : A → List ℕ) (step : A → Option ℕ → Option ℕ) → ((x : A) (ys : List ℕ) (o : Option ℕ) → IsLeast ys o → IsLeast (times x ++ ys) (step x o))
    → (xs : List A) → IsLeast (flat times xs) (fold step None xs)
least-table times step f [] = refl
least-table times step f (x ∷ xs) = f x (flat times xs) (fold step None xs) (least-table times step f xs)

sooner-min : (a d : ℕ) → uni.sooner_than a d ≡ min a d
sooner-min a d = either-by (λ (n : ℕ). n ≡ min a d) (ltb a d) (λ e. omega (arith, ltb-true a d e)) (λ e. omega (arith, ltb-false a d e))

attempt-min : (t d : ℕ) → pick (leb t d) t d ≡ min t d
attempt-min t d = either-by (λ (n : ℕ). n ≡ min t d) (leb t d) (λ e. omega (arith, leb-true t d e)) (λ e. omega (arith, leb-false t d e))

attempts : (d : ℕ) (s : Schedule) → bro.attempt_by d s ≡ idle_time d s
attempts d Once = refl
attempts d (PassiveAck k n t) = attempt-min t d
attempts d (FixedInterval i n t) = attempt-min t d

unicast-least : (d : ℕ) (s : Stage) (ys : List ℕ) (o : Option ℕ) → IsLeast ys o → IsLeast (unicast_times d s ++ ys) (uni.wake_by d o s)
unicast-least d Queued ys o q = least-one d ys o q
unicast-least d (Transmitting k) ys o q = q
unicast-least d (Retrying at) ys o q = rw (sooner-min at d) (least-one (min at d) ys o q)
unicast-least d AwaitingPoll ys o q = least-one d ys o q
unicast-least d AwaitingApsAck ys o q = least-one d ys o q

broadcast-least : (b : Broadcast) (c : CopyState) (ys : List ℕ) (o : Option ℕ) → IsLeast ys o
    → IsLeast (broadcast_times b.deadline b.schedule c ++ ys) (bro.wake_by c (broadcast_head b) o)
broadcast-least b Idle ys o q = rw (attempts b.deadline b.schedule) (least-one (idle_time b.deadline b.schedule) ys o q)
broadcast-least b CopyQueued ys o q = least-one b.deadline ys o q
broadcast-least b CopyTransmitting ys o q = q

pub wake-is-least : WakeIsLeast
wake-is-least m =
    least-append (unicast_wakes m) (unrouted_wakes m ++ broadcast_wakes m) (unis.wake_of m.unicasts) (soonest (unr.wake_of m.unrouted) (bro.wake_of m.broadcasts))
    (least-table _ unis.wake_step (λ u. unicast-least u.deadline u.stage) m.unicasts)
    (least-append (unrouted_wakes m) (broadcast_wakes m) (unr.wake_of m.unrouted) (bro.wake_of m.broadcasts)
    (least-table (λ u. u.deadline ∷ []) _ (λ u. least-one u.deadline) m.unrouted)
    (least-table _ bro.wake_step (λ b. broadcast-least b b.copy) m.broadcasts))
