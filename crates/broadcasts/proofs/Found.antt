-- A call on the broadcast with an id, once that was found or not. Assumes nothing.
use Rattle.std.specs.Prelude.{Option, None, Some, Ok, Err}
use Prim.Native.Nat.{ℕ, ◌<◌}
use mathlib.Core.Path.{◌≡◌, refl, sym, ap, ◌∙◌}
use mathlib.Core.Bool.{true, false}
use mathlib.Core.List.{List, []}
use lib.ListN.{get_or, set}
use borrow.Author.Tests.{eq-eqb, ne_eqb}
use Rattle.records.specs.Records.{blank_broadcast, broadcast_id, broadcast_entry}
use Rattle.rows.specs.Lists.{find_by, lookup}
use Rattle.rows.specs.Tables.{rows_of, live, Held, Holds}
use Rattle.rows.specs.Moves.{first_at, has_id}
use Rattle.rows.specs.declared.Turn.{Turn}
use Rattle.rows.specs.declared.Turn.TheVariants.{Keeps}
use Rattle.rows.proofs.Promises.{here-some, nowhere-none, hit-lt, hit-lookup, miss-lookup, find_first}
use Rattle.tables.specs.Layouts.{broadcast_table}
use Rattle.actions.specs.Calls.{Played}
use Rattle.actions.proofs.Sweeps.{turn-found, turn-missed}
use Rattle.actions.proofs.Lines.{told_none}
use Rattle.casting.specs.Types.{Broadcast, Refusal, NoSuchSend, InTheRadio, NotInTheRadio, OtherFrame}
use Rattle.tables.specs.declared.Counts.{Counts}
use Rattle.broadcasts.specs.Calls.{Answered, Dequeued}
use Rattle.casting.specs.Rules.{in_radio, report_bar, cancel_bar, lent, lent_of, dequeue_turn}
use Rattle.broadcasts.proofs.Plays.{as-played}

-- ---- the refusals

module _ (u : Broadcast) where
  pub cancel-in : in_radio u.copy ≡ true → cancel_bar (Some u) ≡ Some InTheRadio
  cancel-in e = rw e

  pub cancel-out : in_radio u.copy ≡ false → cancel_bar (Some u) ≡ None
  cancel-out e = rw e

  pub report-out : (f : ℕ) → in_radio u.copy ≡ false → report_bar f (Some u) ≡ Some NotInTheRadio
  report-out f e = rw e

  pub report-other : (f : ℕ) → in_radio u.copy ≡ true → (u.frame ≡ f → ⊥) → report_bar f (Some u) ≡ Some OtherFrame
  report-other f e d = rw (e, ne_eqb u.frame f d)

  pub report-in : (f : ℕ) → in_radio u.copy ≡ true → u.frame ≡ f → report_bar f (Some u) ≡ None
  report-in f e d = rw (e, eq-eqb u.frame f d)

-- ---- by what was found

module _ {ws : List ℕ} {n : ℕ} (h : Held broadcast_table ws n) (id : ℕ) where
  -- there is none
  module _ (e : None ≡ find_by broadcast_id id (live broadcast_table ws n)) where
    pub missed-is : lookup broadcast_id id (live broadcast_table ws n) ≡ None
    missed-is = miss-lookup h id (nowhere-none _ e)

    pub missed_first : first_at (has_id broadcast_entry id) (live broadcast_table ws n) ≡ None
    missed_first = sym (find_first broadcast_id id (live broadcast_table ws n)) ∙ nowhere-none _ e

    pub missed-answer : {bar : Option Broadcast → Option Refusal} {f : Broadcast → Turn Broadcast} {buf : List ℕ} {m : ℕ} → bar None ≡ Some NoSuchSend
        → Answered id bar f ws n buf m ws buf (Err NoSuchSend)
    missed-answer {bar} b = record { answer = sym (ap bar missed-is ∙ b); table = (refl, refl) }

    pub missed-lent : Dequeued id ws n ws None
    missed-lent =
        record { answer = sym (ap lent_of missed-is); table = (turn-missed {entry = broadcast_entry} h (has_id broadcast_entry id) dequeue_turn {buf = []} {m = 0} missed_first).table }

  -- it stands at place i, and is u
  module _ {i : ℕ} (e : Some i ≡ find_by broadcast_id id (live broadcast_table ws n)) where
    pub found_lt : i < n
    found_lt = hit-lt h id i (here-some _ i e)

    pub found_first : first_at (has_id broadcast_entry id) (live broadcast_table ws n) ≡ Some i
    found_first = sym (find_first broadcast_id id (live broadcast_table ws n)) ∙ here-some _ i e

    module _ {u : Broadcast} (l : u ≡ get_or (rows_of broadcast_table ws) i blank_broadcast) where
      pub found-is : lookup broadcast_id id (live broadcast_table ws n) ≡ Some u
      found-is = hit-lookup h id i (here-some _ i e) ∙ ap Some (sym l)

      pub barred : {bar : Option Broadcast → Option Refusal} {f : Broadcast → Turn Broadcast} {buf : List ℕ} {m : ℕ} {x : Refusal} → bar (Some u) ≡ Some x
          → Answered id bar f ws n buf m ws buf (Err x)
      barred {bar} b = record { answer = sym (ap bar found-is ∙ b); table = (refl, refl) }

      pub done : {bar : Option Broadcast → Option Refusal} (f : Broadcast → Turn Broadcast) {x : Turn Broadcast} {buf ws' buf' : List ℕ} {m : ℕ} {c : Counts} → bar (Some u) ≡ None → x ≡ f u
          → Played broadcast_table broadcast_entry x i u ws n buf m ws' c.sends buf' c.told → Answered id bar f ws n buf m ws' buf' (Ok c)
      done {bar} f b t p = record { answer = sym (ap bar found-is ∙ b); table = turn-found h (has_id broadcast_entry id) f i found_first (as-played f l t p) }

      pub found-lent : {r : Broadcast} {ws' : List ℕ} → r ≡ lent u → Holds broadcast_table ws' n (set (live broadcast_table ws n) i r) → Dequeued id ws n ws' (Some u.frame)
      found-lent {r} {ws'} t p =
          let x : Played broadcast_table broadcast_entry (Keeps r) i u ws n [] 0 ws' n [] 0 = record { table = p; tells = told_none 0 [] } in
          record {
            answer = sym (ap lent_of found-is);
            table = (turn-found h (has_id broadcast_entry id) dequeue_turn i found_first (as-played dequeue_turn l (ap Keeps t) x)).table;
          }
