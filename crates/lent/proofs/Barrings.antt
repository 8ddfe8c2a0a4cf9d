-- What bars a cancel, and whether a search found a record. Assumes nothing.
use Rattle.std.specs.Prelude.{Option, None, Some, Result}
use Prim.Native.Nat.{ℕ}
use mathlib.Core.Path.{◌≡◌, refl, sym, subst, ◌∙◌}
use mathlib.Core.Bool.{Bool, true, false, ◌||◌}
use mathlib.Core.List.{List}
use lib.Dec.{eqb}
use Rattle.records.specs.Pick.{pick}
use Rattle.records.specs.declared.Refusal.TheVariants.{InTheRadio}
use Rattle.rows.specs.Lists.{find_by}
use Rattle.rows.specs.Moves.{any_of}
use Rattle.rows.specs.declared.Turn.{Turn}
use Rattle.rows.specs.declared.Turn.TheVariants.{Keeps}
use Rattle.rows.proofs.Promises.{here-some, nowhere-none, find_first, first_found, first-missed}
use Rattle.sending.specs.Rules.{sent_copy}
use Rattle.broadcasts.specs.Calls.{Answered}
use Rattle.casting.specs.Rules.{in_radio, cancel_bar}
use Rattle.model.specs.Model.{Effect, lent_model, SoundTables, Does}
use Rattle.model.specs.Calls.{unless, cast_bar}
use Rattle.doing.specs.Types.{Unicast, Broadcast, Refusal, Counts, Did}
use Rattle.tables.specs.declared.Counts as left
use Rattle.doing.specs.Parts.{denied_by}
use Rattle.doing.proofs.Doings.{does-deny}

module _ {c : Counts} {ws vs ds bs : List ℕ} (s : SoundTables c ws vs ds bs) where
  -- something bars it: every lent word stays
  pub does-barred : {o : Option Refusal} {ws' bs' buf buf' : List ℕ} {r : Did} (e : Effect) (x : Refusal) → o ≡ Some x → ws' ≡ ws → bs' ≡ bs → buf' ≡ buf → r ≡ denied_by c x
      → Does (unless (lent_model c ws vs ds bs) o e) buf ws' vs ds bs' buf' r
  does-barred e x p q b t d = rw (p, q, b, t) (does-deny s x d)

-- what a call on a broadcast ensures, once its answer is known
module _ {bar : Option Broadcast → Option Refusal} {f : Broadcast → Turn Broadcast} {id : ℕ} {bs buf bs' buf' : List ℕ} {n m : ℕ} {o : Result left.Counts Refusal}
    (h : Answered id bar f bs n buf m bs' buf' o) where
  pub answered-as : (x : Result left.Counts Refusal) → o ≡ x → Answered id bar f bs n buf m bs' buf' x
  answered-as x e = subst (λ (y : Result left.Counts Refusal). Answered id bar f bs n buf m bs' buf' y) e h

-- whether a search found a record is whether there is one
module _ {A : Type 0} (key : A → ℕ) (k : ℕ) (xs : List A) {p : Option ℕ} (e : p ≡ find_by key k xs) where
  pub found-any : (d : A) (i : ℕ) → p ≡ Some i → any_of (λ (x : A). eqb (key x) k) xs ≡ true
  found-any d i h = (first_found (λ (x : A). eqb (key x) k) Keeps d xs i (sym (find_first key k xs) ∙ here-some _ i (sym h ∙ e))).any

  pub missed-any : p ≡ None → any_of (λ (x : A). eqb (key x) k) xs ≡ false
  missed-any h = (first-missed (λ (x : A). eqb (key x) k) Keeps xs (sym (find_first key k xs) ∙ nowhere-none _ (sym h ∙ e))).any

-- a copy in the radio bars a cancel of the broadcast, where there is one; without one its own stage decides
pub cast-sent : (id : ℕ) (us : List Unicast) (b : Broadcast) → any_of (sent_copy id) us ≡ true → cast_bar id us (Some b) ≡ Some InTheRadio
cast-sent id us b e = rw e (go (in_radio b.copy))
  where
    go : (x : Bool) → pick (x || true) (Some InTheRadio) None ≡ Some InTheRadio
    go true = refl
    go false = refl

pub cast-own : (id : ℕ) (us : List Unicast) (o : Option Broadcast) → any_of (sent_copy id) us ≡ false → cast_bar id us o ≡ cancel_bar o
cast-own id us None e = refl
cast-own id us (Some b) e = rw e (go (in_radio b.copy))
  where
    go : (x : Bool) → pick (x || false) (Some InTheRadio) None ≡ pick x (Some InTheRadio) None
    go true = refl
    go false = refl
