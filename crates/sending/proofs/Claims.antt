-- The best queued, the oldest for a poll and for an ack, and the count of entries over each call. Assumes only that ids rise.
use Rattle.std.specs.Prelude.{Option, None, Some}
use Prim.Native.Nat.{ℕ, suc, ◌+◌, ◌<◌, ◌≤◌}
use native.Mathlib.Omega.{arith}
use mathlib.Core.Path.{◌≡◌, refl, sym, ap, ◌∙◌}
use mathlib.Core.Bool.{Bool, true, false, ◌&&◌}
use mathlib.Core.List.{List, [], ◌∷◌}
use mathlib.Core.Logic.{◌⊎◌, inl, inr, ⊎_elim}
use lib.Dec.{ltb}
use borrow.Author.Tests.{lt-ltb, le-ltb, ltb-true}
use Rattle.records.specs.Pick.{pick}
use Rattle.records.specs.Priorities.{rank_of}
use Rattle.records.specs.Records.{unicast_entry, unicast_id}
use Rattle.records.specs.declared.Entry.{Entry}
use Rattle.records.specs.declared.Action.{Action}
use Rattle.records.proofs.Cases.{lt-or-le, never, both}
use Rattle.rows.specs.Lists.{All, Rising}
use Rattle.rows.specs.Moves.{each, each_told, at_first, at_first_told, first_of, count, settled_of, has_id}
use Rattle.rows.specs.declared.Turn.TheVariants.{Keeps}
use Rattle.rows.proofs.Promises.{entries, each-count, first_count}
use Rattle.tables.specs.Layouts.{unicast_head}
use Rattle.sending.specs.Types.{Address, Priority, AckKey, Stage, Transmitting, Unicast, TxResult}
use Rattle.sending.specs.Rules.{remade_of, with_stage, pends, is_awaiting, lend_turn, poll_turn, polled_of, keyed, ack_turn, report_turn, tick_turn, under, awaits, drop_turn, cancel_turn, copy_turn, ready, better_of}
use Rattle.sending.specs.Lists.{best_of}
use Rattle.sending.specs.Claims.{Tops, IsBest, IsOldest}
use Rattle.sending.proofs.Turns.{ack-same, report-same, cancel-same, tick-same, drop-same, copy-same, poll-same, lend_same}

pub all_map : (P Q : Unicast → Type 0) → ((u : Unicast) → P u → Q u) → (us : List Unicast) → All P us → All Q us
all_map P Q f [] a = tt
all_map P Q f (u ∷ us) a = (f u a.0, all_map P Q f us a.1)

all_both : (P Q : Unicast → Type 0) (us : List Unicast) → All P us → All Q us → All (λ (u : Unicast). P u × Q u) us
all_both P Q [] a b = tt
all_both P Q (u ∷ us) a b = ((a.0, b.0), all_both P Q us a.1 b.1)

-- no lower id than that
abbrev From : ℕ → Unicast → Type 0
From lo u = lo ≤ u.id

-- ids rise, so every send behind has at least that id
above : (lo : ℕ) (us : List Unicast) → Rising unicast_id lo us → All (λ (u : Unicast). lo ≤ u.id) us
above lo [] r = tt
above lo (u ∷ us) r =
    let l : lo ≤ u.id = r.0 in
    (l, all_map (From (suc u.id)) (From lo) (λ v (h : suc u.id ≤ v.id). omega arith) us (above (suc u.id) us r.1))

-- a ready one is of lower priority, or of the same and no lower id
abbrev Under : ℕ → ℕ → Priority → Unicast → Type 0
Under now i p v = ready now v ≡ true → (rank_of v.priority < rank_of p) ⊎ ((rank_of v.priority ≡ rank_of p) × (i ≤ v.id))

-- ---- the best queued is of highest priority and then of lowest id, and nothing exactly when none is

pub best-is-best : (now lo : ℕ) (us : List Unicast) → Rising unicast_id lo us → IsBest now us (best_of now us)
best-is-best now lo [] r = tt
best-is-best now lo (u ∷ us) r =
    go (ready now u) refl (best_of now us) (best-is-best now (suc u.id) us r.1) (above (suc u.id) us r.1)
  where
    -- u is ready, and of no lower priority than the best behind it
    wins : (i : ℕ) (p : Priority) → ready now u ≡ true → rank_of p ≤ rank_of u.priority → Tops now us i p → All (λ (v : Unicast). suc u.id ≤ v.id) us
        → Tops now (u ∷ us) u.id u.priority
    wins i p e l t a =
        record {
          is = inl (e, (refl, refl));
          tops = (
            (λ q. inr (refl, omega arith)),
            all_map (λ (v : Unicast). Under now i p v × From (suc u.id) v) (Under now u.id u.priority)
                (λ v (x : Under now i p v × (suc u.id ≤ v.id)) q.
                let o : suc u.id ≤ v.id = x.1 in
                ⊎_elim
                (λ (m : rank_of v.priority < rank_of p). inl (omega arith))
                (λ (m : (rank_of v.priority ≡ rank_of p) × (i ≤ v.id)).
                let k : rank_of v.priority ≡ rank_of p = m.0 in
                ⊎_elim (λ (z : rank_of v.priority < rank_of u.priority). inl z)
                (λ (z : rank_of u.priority ≤ rank_of v.priority). inr (omega arith, omega arith))
                (lt-or-le (rank_of v.priority) (rank_of u.priority)))
                (x.0 q))
                us (all_both (Under now i p) (From (suc u.id)) us t.tops a),
          );
        }

    loses : (i : ℕ) (p : Priority) → rank_of u.priority < rank_of p → Tops now us i p → Tops now (u ∷ us) i p
    loses i p l t = record { is = inr t.is; tops = ((λ q. inl l), t.tops) }

    alone : ready now u ≡ true → All (λ (v : Unicast). ready now v ≡ false) us → Tops now (u ∷ us) u.id u.priority
    alone e a =
        record {
          is = inl (e, (refl, refl));
          tops = ((λ q. inr (refl, omega arith)), all_map (λ (v : Unicast). ready now v ≡ false) (Under now u.id u.priority) (λ v f q. never (sym f ∙ q)) us a);
        }

    passed : (b : Option (ℕ × Priority)) → ready now u ≡ false → IsBest now us b → IsBest now (u ∷ us) b
    passed None e a = (e, a)
    passed (Some (i, p)) e t = record { is = inr t.is; tops = ((λ q. never (sym e ∙ q)), t.tops) }

    chosen : (b : Option (ℕ × Priority)) → ready now u ≡ true → IsBest now us b → All (λ (v : Unicast). suc u.id ≤ v.id) us → IsBest now (u ∷ us) (better_of (unicast_head u) b)
    chosen None e a o = alone e a
    chosen (Some (i, p)) e t o =
        ⊎_elim
        (λ l. rw (lt-ltb (rank_of u.priority) (rank_of p) l) (loses i p l t))
        (λ l. rw (le-ltb (rank_of u.priority) (rank_of p) l) (wins i p e l t o))
        (lt-or-le (rank_of u.priority) (rank_of p))

    go : (b : Bool) → ready now u ≡ b → (x : Option (ℕ × Priority)) → IsBest now us x → All (λ (v : Unicast). suc u.id ≤ v.id) us
        → IsBest now (u ∷ us) (pick b (better_of (unicast_head u) x) x)
    go true e x a o = chosen x e a o
    go false e x a o = passed x e a

-- ---- the first with a test is the oldest with it

pub first-is-oldest : (q : Unicast → Bool) (lo : ℕ) (us : List Unicast) → Rising unicast_id lo us → IsOldest q us (first_of q us)
first-is-oldest q lo [] r = tt
first-is-oldest q lo (u ∷ us) r = go (q u) refl (first_of q us) (first-is-oldest q (suc u.id) us r.1) (above (suc u.id) us r.1)
  where
    later : (o : Option Unicast) → q u ≡ false → IsOldest q us o → IsOldest q (u ∷ us) o
    later None e a = (e, a)
    later (Some v) e a = record { has = a.has; there = inr a.there; first = ((λ f. never (sym e ∙ f)), a.first) }

    go : (b : Bool) → q u ≡ b → (o : Option Unicast) → IsOldest q us o → All (λ (v : Unicast). suc u.id ≤ v.id) us → IsOldest q (u ∷ us) (pick b (Some u) o)
    go true e o a l = record { has = e; there = inl refl; first = ((λ f. omega arith), all_map (From (suc u.id)) (λ (v : Unicast). q v ≡ true → u.id ≤ v.id) (λ v (h : suc u.id ≤ v.id) f. omega arith) us l) }
    go false e o a l = later o e a

-- a poll takes the oldest awaiting, unexpired frame under either address
pub poll-takes-oldest : (eui : Option ℕ) (nwk : Option ℕ) (now lo : ℕ) (us : List Unicast) → Rising unicast_id lo us
    → IsOldest (awaits eui nwk now) us (first_of (awaits eui nwk now) us)
poll-takes-oldest eui nwk now lo us r = first-is-oldest (awaits eui nwk now) lo us r

pub polled-means : (eui : Option ℕ) (nwk : Option ℕ) (now : ℕ) (u : Unicast) → awaits eui nwk now u ≡ true
    → (is_awaiting u.stage ≡ true) × ((now < u.deadline) × (under eui nwk u.poll_address ≡ true))
polled-means eui nwk now u e =
    let a = both (is_awaiting u.stage) (ltb now u.deadline && under eui nwk u.poll_address) e in
    let b = both (ltb now u.deadline) (under eui nwk u.poll_address) a.1 in
    (a.0, (ltb-true now u.deadline b.0, b.1))

-- an ack goes to the lowest id with that key, in whatever stage
pub ack-takes-oldest : (k : AckKey) (lo : ℕ) (us : List Unicast) → Rising unicast_id lo us → IsOldest (keyed k) us (first_of (keyed k) us)
ack-takes-oldest k lo us r = first-is-oldest (keyed k) lo us r

pub keyed-in-any-stage : (k : AckKey) (u : Unicast) (s : Stage) → keyed k (with_stage u s) ≡ keyed k u
keyed-in-any-stage k u s = refl

-- frame pending asks no deadline
pub pending-at-any-deadline : (a : Address) (u : Unicast) (d : ℕ) → pends a (remade_of u u.priority u.attempts_remaining u.stage d) ≡ pends a u
pending-at-any-deadline a u d = refl

-- ---- the entries before a call are those that stay and those that are settled

-- a turn that only keeps tells nothing
quiet : (q : Unicast → Bool) (g : Unicast → Unicast) (us : List Unicast) → at_first_told unicast_entry q (λ (u : Unicast). Keeps (g u)) us ≡ []
quiet q g [] = refl
quiet q g (u ∷ us) = by (q u) (quiet q g us)
  where
    by : (b : Bool) {l : List Action} → l ≡ [] → pick b [] l ≡ []
    by true e = refl
    by false e = e

module _ (p : Entry → Bool) (us : List Unicast) where
  pub tick-count : (now : ℕ) → entries unicast_entry p us ≡ entries unicast_entry p (each (tick_turn now) us) + count p (settled_of (each_told unicast_entry (tick_turn now) us))
  tick-count now = each-count unicast_entry p (tick_turn now) (tick-same now) us

  pub drop-count : (eui : Option ℕ) (nwk : ℕ)
      → entries unicast_entry p us ≡ entries unicast_entry p (each (drop_turn eui nwk) us) + count p (settled_of (each_told unicast_entry (drop_turn eui nwk) us))
  drop-count eui nwk = each-count unicast_entry p (drop_turn eui nwk) (drop-same eui nwk) us

  pub copy-count : (i : ℕ) → entries unicast_entry p us ≡ entries unicast_entry p (each (copy_turn i) us) + count p (settled_of (each_told unicast_entry (copy_turn i) us))
  copy-count i = each-count unicast_entry p (copy_turn i) (copy-same i) us

  pub ack-count : (k : AckKey)
      → entries unicast_entry p us ≡ entries unicast_entry p (at_first (keyed k) ack_turn us) + count p (settled_of (at_first_told unicast_entry (keyed k) ack_turn us))
  ack-count k = first_count unicast_entry p (keyed k) ack_turn ack-same us

  pub report-count : (i : ℕ) (r : TxResult) (now delay : ℕ)
      → entries unicast_entry p us
      ≡ entries unicast_entry p (at_first (has_id unicast_entry i) (report_turn r now delay) us) + count p (settled_of (at_first_told unicast_entry (has_id unicast_entry i) (report_turn r now delay) us))
  report-count i r now delay = first_count unicast_entry p (has_id unicast_entry i) (report_turn r now delay) (report-same r now delay) us

  pub cancel-count : (i : ℕ)
      → entries unicast_entry p us
      ≡ entries unicast_entry p (at_first (has_id unicast_entry i) cancel_turn us) + count p (settled_of (at_first_told unicast_entry (has_id unicast_entry i) cancel_turn us))
  cancel-count i = first_count unicast_entry p (has_id unicast_entry i) cancel_turn cancel-same us

  -- a poll and a dequeue settle none
  quiet-count : (q : Unicast → Bool) (g : Unicast → Unicast) → ((u : Unicast) → unicast_entry (g u) ≡ unicast_entry u)
      → entries unicast_entry p us ≡ entries unicast_entry p (at_first q (λ (u : Unicast). Keeps (g u)) us)
  quiet-count q g s =
      let e : entries unicast_entry p us
      ≡ entries unicast_entry p (at_first q (λ (u : Unicast). Keeps (g u)) us) + count p (settled_of (at_first_told unicast_entry q (λ (u : Unicast). Keeps (g u)) us)) =
      first_count unicast_entry p q (λ (u : Unicast). Keeps (g u)) s us in
      let z : count p (settled_of (at_first_told unicast_entry q (λ (u : Unicast). Keeps (g u)) us)) ≡ 0 =
      ap (λ (l : List Action). count p (settled_of l)) (quiet q g us) in
      omega arith

  pub poll-count : (eui : Option ℕ) (nwk : Option ℕ) (now : ℕ) → entries unicast_entry p us ≡ entries unicast_entry p (at_first (awaits eui nwk now) poll_turn us)
  poll-count eui nwk now = quiet-count (awaits eui nwk now) polled_of poll-same

  pub dequeue-count : (i : ℕ) → entries unicast_entry p us ≡ entries unicast_entry p (at_first (has_id unicast_entry i) lend_turn us)
  dequeue-count i = quiet-count (has_id unicast_entry i) (λ (u : Unicast). with_stage u (Transmitting false)) lend_same
