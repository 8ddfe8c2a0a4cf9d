-- How the code's steps on the lent table make up each call. Assumes nothing.
use Rattle.tables.specs.declared.Counts.{Counts}
use Rattle.std.specs.Prelude.{Option, None, Some, Ok, Err}
use Prim.Native.Nat.{ℕ, ◌<◌}
use mathlib.Core.Path.{◌≡◌, refl, sym, ap, ◌∙◌, subst}
use mathlib.Core.Bool.{Bool}
use mathlib.Core.List.{List}
use Rattle.records.specs.Records.{unicast_entry, unicast_id}
use Rattle.records.specs.declared.Entry.{Entry}
use Rattle.rows.specs.Tables.{Held, Stands}
use Rattle.rows.specs.Moves.{first_at, first_of, any_of, has_id}
use Rattle.rows.specs.declared.Turn.{Turn}
use Rattle.tables.specs.Layouts.{unicast_table}
use Rattle.actions.specs.Calls.{Swept, Played}
use Rattle.actions.proofs.Sweeps.{turn-found}
use Rattle.sending.specs.Types.{Unicast, Refusal}
use Rattle.sending.specs.Rules.{beside}
use Rattle.sending.specs.Lists.{loan_by}
use Rattle.unicasts.specs.Calls.{Called}
use Rattle.scanning.proofs.Scans.{row_at, sends, first-row}

-- ---- a turn at a place

-- the record that a turn keeps stands where the old one stood
pub stands : {ws : List ℕ} {n i : ℕ} {u v : Unicast} → i < n → u ≡ row_at ws i → unicast_entry v ≡ unicast_entry u → Stands unicast_table ws n i v
stands l p e = record { there = l; same = ap (λ (x : Entry). x.id) e ∙ ap unicast_id p }

module _ {ws buf ws' buf' : List ℕ} {n m n' m' i : ℕ} where
  -- what was played is the turn that the rule says, of the record that stands there
  pub played-as : {x y : Turn Unicast} {u v : Unicast} → x ≡ y → u ≡ v → Played unicast_table unicast_entry x i u ws n buf m ws' n' buf' m'
      → Played unicast_table unicast_entry y i v ws n buf m ws' n' buf' m'
  played-as {x} {y} {u} {v} e p s =
      subst (λ (a : Turn Unicast). Played unicast_table unicast_entry a i v ws n buf m ws' n' buf' m') e
      (subst (λ (b : Unicast). Played unicast_table unicast_entry x i b ws n buf m ws' n' buf' m') p s)

module _ {ws buf ws' buf' : List ℕ} {n m n' m' : ℕ} where
  -- a sweep with the same turns
  pub swept_as : {f g : Unicast → Turn Unicast} → ((u : Unicast) → f u ≡ g u) → Swept unicast_table unicast_entry f ws n buf m ws' n' buf' m'
      → Swept unicast_table unicast_entry g ws n buf m ws' n' buf' m'
  swept_as {f} {g} p s = subst (λ (a : Unicast → Turn Unicast). Swept unicast_table unicast_entry a ws n buf m ws' n' buf' m') (λ k u. p u k) s

-- ---- a call by id

pub refused : {bar : Option Unicast → Option Refusal} {f : Unicast → Turn Unicast} {id n m : ℕ} {ws buf : List ℕ} {o : Option Unicast} (e : Refusal)
    → first_of (has_id unicast_entry id) (sends ws n) ≡ o → bar o ≡ Some e → Called bar f id ws n buf m ws buf (Err e)
refused {bar} e p q = record { answer = sym (ap bar p ∙ q); tables = (refl, refl) }

pub done : {bar : Option Unicast → Option Refusal} {f : Unicast → Turn Unicast} {id n m : ℕ} {c : Counts} {ws buf ws' buf' : List ℕ} (h : Held unicast_table ws n) (i : ℕ)
    → first_at (has_id unicast_entry id) (sends ws n) ≡ Some i → bar (Some (row_at ws i)) ≡ None
    → Played unicast_table unicast_entry (f (row_at ws i)) i (row_at ws i) ws n buf m ws' c.sends buf' c.told → Called bar f id ws n buf m ws' buf' (Ok c)
done {bar} {f} {id} h i e q p =
    record { answer = sym (ap bar (first-row h (has_id unicast_entry id) i e) ∙ q); tables = turn-found h (has_id unicast_entry id) f i e p }

-- ---- a loan

pub lent_is : (id : ℕ) (us : List Unicast) {o : Option Unicast} {u v : Unicast} {b : Bool} → o ≡ Some v → u ≡ v → b ≡ any_of (beside id u.poll_address) us
    → Some (u.frame, u.next_hop, b) ≡ loan_by id us o
lent_is id us {o} {u} {v} {b} e p q =
    ap (λ (c : Bool). Some (u.frame, u.next_hop, c)) q ∙ ap (λ (x : Unicast). loan_by id us (Some x)) p ∙ ap (loan_by id us) (sym e)
