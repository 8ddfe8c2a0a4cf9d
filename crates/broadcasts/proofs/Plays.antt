-- A turn at a place: what it asks, and what it makes of a sweep. The laws over any table are generic. Assumes nothing.
use Prim.Native.Nat.{ℕ, zero, suc, ◌+◌, ◌-◌, ◌≤◌, ◌<◌}
use native.Mathlib.Omega.{arith}
use mathlib.Core.Path.{◌≡◌, refl, sym, ap, ◌∙◌, subst}
use mathlib.Core.List.{List, [], ◌∷◌, ◌++◌, append_assoc}
use lib.ListN.{length, get_or, set, length-set}
use Rattle.records.specs.Records.{blank_broadcast, broadcast_id, broadcast_entry}
use Rattle.records.specs.declared.Entry.{Entry}
use Rattle.records.specs.declared.Action.{Action}
use Rattle.rows.specs.Lists.{remove_at}
use Rattle.rows.specs.Tables.{Table, rows_of, live, Held, Holds, Stands}
use Rattle.rows.specs.Moves.{kept, told, placed}
use Rattle.rows.specs.declared.Turn.{Turn}
use Rattle.rows.specs.declared.Turn.TheVariants.{Keeps, HandsOff, Settles}
use Rattle.rows.specs.Moves.{Same}
use Rattle.rows.proofs.Promises.{held-length, held_at, each_from, told_from, each-stays, told-turn, told-stored}
use Rattle.tables.specs.Layouts.{broadcast_table}
use Rattle.actions.specs.Told.{Told}
use Rattle.actions.specs.Calls.{Played}
use Rattle.actions.proofs.Lines.{told-append}
use Rattle.actions.proofs.Sweeps.{Sweeping, sweep-goes}
use Rattle.casting.specs.Types.{Broadcast}
use Rattle.broadcasts.specs.Calls.{Plays}

-- ---- generic: a turn at a place, in a sweep

module _ {A : Type 0} where
  one_less : (i : ℕ) (xs : List A) → i < length xs → length (remove_at i xs) + 1 ≡ length xs
  one_less i [] h = absurd (omega arith)
  one_less zero (x ∷ xs) h = omega arith
  one_less (suc i) (x ∷ xs) h = let r : length (remove_at i xs) + 1 ≡ length xs = one_less i xs (omega arith) in omega arith

module _ {A : Type 0} {t : Table A} {entry : A → Entry} {ws : List ℕ} {n : ℕ} (h : Held t ws n) {i : ℕ} (l : i < n) where
  -- how many are left
  left : {u : A} {buf ws' buf' : List ℕ} {m n' m' : ℕ} (x : Turn A) → Played t entry x i u ws n buf m ws' n' buf' m'
      → n' ≡ length (placed x i (live t ws n))
  left x p = sym (held-length p.table.held) ∙ ap length p.table.live-is

  pub played-count : {u : A} {buf ws' buf' : List ℕ} {m n' m' : ℕ} (x : Turn A) → Played t entry x i u ws n buf m ws' n' buf' m' → (n' ≤ n) × (n ≤ n' + 1)
  played-count (Keeps y) p =
      let e = left (Keeps y) p in
      (omega (arith, e, length-set (live t ws n) i y, held-length h), omega (arith, e, length-set (live t ws n) i y, held-length h))
  played-count (HandsOff y) p =
      let e = left (HandsOff y) p in
      (omega (arith, e, length-set (live t ws n) i y, held-length h), omega (arith, e, length-set (live t ws n) i y, held-length h))
  played-count (Settles again v hop) p =
      let e = left (Settles again v hop) p in
      let r : length (remove_at i (live t ws n)) + 1 ≡ length (live t ws n) = one_less i (live t ws n) (omega (arith, held-length h)) in
      (omega (arith, e, r, held-length h), omega (arith, e, r, held-length h))

module _ {A : Type 0} {t : Table A} {entry : A → Entry} {f : A → Turn A} {ws₀ : List ℕ} {n₀ : ℕ} {buf₀ : List ℕ} {m₀ : ℕ} {ws : List ℕ} {n : ℕ} {buf : List ℕ} {m : ℕ} {i : ℕ} (s : Sweeping t entry f ws₀ n₀ buf₀ m₀ ws n buf m i) (l : i < n) where
  abbrev row : A
  row = get_or (rows_of t ws) i t.blank

  -- the record stays, as y, and something is told of it
  stays_on : {ws' buf' : List ℕ} {m' : ℕ} (y : A) (acts : List Action) → kept (f row) ≡ y ∷ [] → told (entry row) (f row) ≡ acts → length acts ≤ 2
      → Holds t ws' n (set (live t ws n) i y) → Told m acts buf buf' m' → Sweeping t entry f ws₀ n₀ buf₀ m₀ ws' n buf' m' (i + 1)
  stays_on y acts k e few h d =
      let xs : List A = live t ws n in
      let at : get_or xs i t.blank ≡ row = held_at s.held i t.blank l in
      let there : i < length xs = omega (arith, held-length s.held) in
      let says : told (entry (get_or xs i t.blank)) (f (get_or xs i t.blank)) ≡ acts = ap (λ (x : A). told (entry x) (f x)) at ∙ e in
      record {
        held = h.held;
        low = omega arith;
        rows = ap (each_from f (i + 1)) h.live-is ∙ each-stays f y i xs t.blank there (ap (λ (x : A). kept (f x)) at ∙ k) ∙ s.rows;
        done = s.done ++ acts;
        tells = told-append s.tells d;
        rest = ap (λ (ys : List A). (s.done ++ acts) ++ told_from entry f (i + 1) ys) h.live-is
            ∙ ap (λ (a : List Action). (s.done ++ acts) ++ a) (told-stored entry f i xs y)
            ∙ append_assoc s.done acts (told_from entry f (i + 1) xs)
            ∙ ap (λ (a : List Action). s.done ++ (a ++ told_from entry f (i + 1) xs)) (sym says)
            ∙ ap (λ (a : List Action). s.done ++ a) (sym (told-turn entry f i xs t.blank there)) ∙ s.rest;
        space = omega (arith, s.space, d.next, few);
      }

  -- after the turn at place i the next place is i + 1, or i where the record went
  pub sweep-played : {ws' buf' : List ℕ} {n' m' : ℕ} → Played t entry (f row) i row ws n buf m ws' n' buf' m'
      → Sweeping t entry f ws₀ n₀ buf₀ m₀ ws' n' buf' m' (i + 1 + n' - n)
  sweep-played {ws'} {buf'} {n'} {m'} p = go (f row) refl p
    where
      long : length (live t ws n) ≡ n
      long = held-length s.held

      on : n' ≡ n → Sweeping t entry f ws₀ n₀ buf₀ m₀ ws' n buf' m' (i + 1) → Sweeping t entry f ws₀ n₀ buf₀ m₀ ws' n' buf' m' (i + 1 + n' - n)
      on k x =
          let j : i + 1 + n - n ≡ i + 1 = omega arith in
          subst (λ (a : ℕ). Sweeping t entry f ws₀ n₀ buf₀ m₀ ws' a buf' m' (i + 1 + a - n)) (sym k) (rw j x)

      go : (x : Turn A) → f row ≡ x → Played t entry x i row ws n buf m ws' n' buf' m' → Sweeping t entry f ws₀ n₀ buf₀ m₀ ws' n' buf' m' (i + 1 + n' - n)
      go (Keeps y) e p =
          let k : n' ≡ n = left s.held l (Keeps y) p ∙ length-set (live t ws n) i y ∙ long in
          on k (stays_on y [] (ap kept e) (ap (told (entry row)) e) (omega arith) (subst (λ (a : ℕ). Holds t ws' a (set (live t ws n) i y)) k p.table) p.tells)
      go (HandsOff y) e p =
          let k : n' ≡ n = left s.held l (HandsOff y) p ∙ length-set (live t ws n) i y ∙ long in
          on k (stays_on y (told {A = A} (entry row) (HandsOff y)) (ap kept e) (ap (told (entry row)) e) (omega arith) (subst (λ (a : ℕ). Holds t ws' a (set (live t ws n) i y)) k p.table) p.tells)
      go (Settles again v hop) e p =
          let r : length (remove_at i (live t ws n)) + 1 ≡ length (live t ws n) = one_less i (live t ws n) (omega (arith, long)) in
          let k : n' ≡ n - 1 = omega (arith, long, r, left s.held l (Settles again v hop) p) in
          let j : i + 1 + (n - 1) - n ≡ i = omega arith in
          subst (λ (a : ℕ). Sweeping t entry f ws₀ n₀ buf₀ m₀ ws' a buf' m' (i + 1 + a - n)) (sym k)
          (rw j (sweep-goes s again v hop l e (subst (λ (a : ℕ). Holds t ws' a (remove_at i (live t ws n))) k p.table) p.tells))

-- ---- a turn of a broadcast

module _ {ws : List ℕ} {n m i : ℕ} {u : Broadcast} {x : Turn Broadcast} (p : Plays ws n m i u x) where
  stands : {y : Broadcast} → Same broadcast_entry u (Keeps y) → Stands broadcast_table ws n i y
  stands s = record { there = p.there; same = ap (λ (e : Entry). e.id) s ∙ ap broadcast_id p.is }

  pub stands-kept : {y : Broadcast} → x ≡ Keeps y → Stands broadcast_table ws n i y
  stands-kept e = stands (subst (Same broadcast_entry u) e p.same)

  pub stands-handed : {y : Broadcast} → x ≡ HandsOff y → Stands broadcast_table ws n i y
  stands-handed e = stands (subst (Same broadcast_entry u) e p.same)

-- the turn of a rule at the record of a place
module _ {ws : List ℕ} {n i : ℕ} {u : Broadcast} {x : Turn Broadcast} (f : Broadcast → Turn Broadcast) (is : u ≡ get_or (rows_of broadcast_table ws) i blank_broadcast) (e : x ≡ f u) where
  pub plays : {m : ℕ} → i < n → Same broadcast_entry u (f u) → m + 2 ≤ 112 → Plays ws n m i u x
  plays l s r = record { there = l; is = is; same = subst (Same broadcast_entry u) (sym e) s; space = r }

  pub as-played : {buf ws' buf' : List ℕ} {m n' m' : ℕ} → Played broadcast_table broadcast_entry x i u ws n buf m ws' n' buf' m'
      → Played broadcast_table broadcast_entry (f (get_or (rows_of broadcast_table ws) i blank_broadcast)) i (get_or (rows_of broadcast_table ws) i blank_broadcast) ws n buf m ws' n' buf' m'
  as-played {buf} {ws'} {buf'} {m} {n'} {m'} p =
      subst (λ (v : Broadcast). Played broadcast_table broadcast_entry (f v) i v ws n buf m ws' n' buf' m') is
      (subst (λ (y : Turn Broadcast). Played broadcast_table broadcast_entry y i u ws n buf m ws' n' buf' m') e p)
