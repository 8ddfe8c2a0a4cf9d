-- What taking a route does, step by step: one send has its result, and all of them.
use Rattle.std.specs.Prelude.{ℕ, ◌+◌, ◌≤◌, ◌≡◌, not, List, [], ◌∷◌, length, take}
use Rattle.rows.specs.Tables.{live, Holds}
use Rattle.rows.specs.Moves.{count}
use Rattle.tables.specs.Layouts.{unicast_table, unrouted_table}
use Rattle.actions.specs.Told.{Told}
use Rattle.unrouted.specs.Rules.{goes_to}
use Rattle.doing.specs.Types.{Unrouted, Settings, Resolved}
use Rattle.admitting.specs.declared.routes.Entered.{Entered}
use Rattle.admitting.specs.declared.routes.Gone.{Gone}
use Rattle.model.specs.Calls.{only, reached, entering, failing}

-- one send with its result: it enters the unicasts, or is told as failed
pub record RoutedOne (s : Settings) (now : ℕ) (u : Unrouted) (x : Resolved) (ws : List ℕ) (n : ℕ) (buf : List ℕ) (m : ℕ) (ws' buf' : List ℕ) (r : Entered) : Type 0 where
  pub table : Holds unicast_table ws' r.sends (entering s now (u ∷ []) (x ∷ []) (live unicast_table ws n))
  pub tells : Told m (failing (u ∷ []) (x ∷ [])) buf buf' r.told

-- as many results as sends to the destination, a free place for each success, and place to tell the rest
pub record Routable (d : ℕ) (xs : List Unrouted) (unicasts : ℕ) (results : List Resolved) (n at : ℕ) : Type 0 where
  pub many : n ≡ length (only (goes_to d) xs)
  pub there : n ≤ length results
  pub free : unicasts + count reached (take n results) ≤ 32
  pub space : at + n ≤ 112

pub record RoutedAll (s : Settings) (d now : ℕ) (rs : List Resolved) (ws : List ℕ) (n : ℕ) (vs : List ℕ) (k : ℕ) (buf : List ℕ) (m : ℕ) (ws' vs' buf' : List ℕ) (r : Gone) : Type 0 where
  pub unicasts : Holds unicast_table ws' r.unicasts (entering s now (only (goes_to d) (live unrouted_table vs k)) rs (live unicast_table ws n))
  pub unrouted : Holds unrouted_table vs' r.unrouted (only (λ (u : Unrouted). not (goes_to d u)) (live unrouted_table vs k))
  pub tells : Told m (failing (only (goes_to d) (live unrouted_table vs k)) rs) buf buf' r.told
