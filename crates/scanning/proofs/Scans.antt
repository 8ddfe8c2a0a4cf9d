-- What find and the scans of the lent table say of its list. Assumes nothing.
use Rattle.std.specs.Prelude.{Option, None, Some}
use Prim.Native.Nat.{ℕ, ◌<◌}
use native.Mathlib.Omega.{arith}
use mathlib.Core.Path.{◌≡◌, sym, ap, ◌∙◌}
use mathlib.Core.Bool.{Bool, true, false}
use mathlib.Core.List.{List}
use lib.ListN.{get_or, set}
use Rattle.records.specs.Records.{unicast_entry, unicast_id, blank_unicast}
use Rattle.rows.specs.Lists.{find_by}
use Rattle.rows.specs.Tables.{rows_of, live, words_for, Held, Holds}
use Rattle.rows.specs.Moves.{first_at, first_of, any_of, at_first, has_id}
use Rattle.rows.specs.declared.Turn.{Turn}
use Rattle.rows.specs.declared.Turn.TheVariants.{Keeps}
use Rattle.rows.proofs.Promises.{held-length, held_at, here-some, nowhere-none, find_first, first_found, first-missed}
use Rattle.tables.specs.Layouts.{unicast_table}
use Rattle.sending.specs.Types.{Unicast}

-- the record at a place
abbrev pub row_at : List ℕ → ℕ → Unicast
row_at ws i = get_or (rows_of unicast_table ws) i blank_unicast

abbrev pub sends : List ℕ → ℕ → List Unicast
sends ws n = live unicast_table ws n

-- ---- what find and the scans answer

pub find-here : (ws : List ℕ) (n id : ℕ) {p : Option ℕ} (i : ℕ) → p ≡ find_by unicast_id id (sends ws n) → p ≡ Some i → first_at (has_id unicast_entry id) (sends ws n) ≡ Some i
find-here ws n id i e f = sym (find_first unicast_id id (sends ws n)) ∙ here-some _ _ (sym f ∙ e)

pub find-nowhere : (ws : List ℕ) (n id : ℕ) {p : Option ℕ} → p ≡ find_by unicast_id id (sends ws n) → p ≡ None → first_at (has_id unicast_entry id) (sends ws n) ≡ None
find-nowhere ws n id e f = sym (find_first unicast_id id (sends ws n)) ∙ nowhere-none _ (sym f ∙ e)

pub scan-some : (q : Unicast → Bool) (ws : List ℕ) (n : ℕ) {p : Option ℕ} (i : ℕ) → p ≡ first_at q (sends ws n) → p ≡ Some i → first_at q (sends ws n) ≡ Some i
scan-some q ws n i e f = here-some _ _ (sym f ∙ e)

pub scan-none : (q : Unicast → Bool) (ws : List ℕ) (n : ℕ) {p : Option ℕ} → p ≡ first_at q (sends ws n) → p ≡ None → first_at q (sends ws n) ≡ None
scan-none q ws n e f = nowhere-none _ (sym f ∙ e)

module _ {ws : List ℕ} {n : ℕ} (h : Held unicast_table ws n) (q : Unicast → Bool) where
  -- the place is live, and is below the room
  pub first-lt : (i : ℕ) → first_at q (sends ws n) ≡ Some i → i < n
  first-lt i e =
      let g = first_found q (λ (u : Unicast). Keeps u) blank_unicast (sends ws n) i e in
      omega (arith, g.there, held-length h)

  pub first-room : (i : ℕ) → first_at q (sends ws n) ≡ Some i → i < 32
  first-room i e = omega (arith, first-lt i e, h.within)

  pub first-row : (i : ℕ) → first_at q (sends ws n) ≡ Some i → first_of q (sends ws n) ≡ Some (row_at ws i)
  first-row i e =
      let g = first_found q (λ (u : Unicast). Keeps u) blank_unicast (sends ws n) i e in
      g.is ∙ ap Some (held_at h i blank_unicast (first-lt i e))

  pub first-none : first_at q (sends ws n) ≡ None → first_of q (sends ws n) ≡ None
  first-none e = (first-missed q (λ (u : Unicast). Keeps u) (sends ws n) e).is

  pub any-there : (i : ℕ) → first_at q (sends ws n) ≡ Some i → true ≡ any_of q (sends ws n)
  any-there i e = sym (first_found q (λ (u : Unicast). Keeps u) blank_unicast (sends ws n) i e).any

  pub any_none : first_at q (sends ws n) ≡ None → false ≡ any_of q (sends ws n)
  any_none e = sym (first-missed q (λ (u : Unicast). Keeps u) (sends ws n) e).any

  -- the first was stored changed by g; or there is none, and every word stays
  pub first-stored : (g : Unicast → Unicast) (i : ℕ) {ws' : List ℕ} {v : Unicast} → first_at q (sends ws n) ≡ Some i → v ≡ g (row_at ws i)
      → Holds unicast_table ws' n (set (sends ws n) i v) → Holds unicast_table ws' n (at_first q (λ (u : Unicast). Keeps (g u)) (sends ws n))
  first-stored g i {ws'} {v} e p s =
      let f = first_found q (λ (u : Unicast). Keeps (g u)) blank_unicast (sends ws n) i e in
      let mv : at_first q (λ (u : Unicast). Keeps (g u)) (sends ws n) ≡ set (sends ws n) i v =
      f.move ∙ ap (λ (x : Unicast). set (sends ws n) i (g x)) (held_at h i blank_unicast (first-lt i e)) ∙ ap (set (sends ws n) i) (sym p) in
      rw mv s

  pub first-stays : (f : Unicast → Turn Unicast) → first_at q (sends ws n) ≡ None → Holds unicast_table ws n (at_first q f (sends ws n))
  first-stays f e =
      let g = first-missed q f (sends ws n) e in
      record { is = h.words ∙ ap (words_for unicast_table) (sym g.move); live-is = sym g.move; held = h }
