-- What the rules on the list mean: the statements; proofs/Claims.antt proves them.
use Rattle.std.specs.Prelude.{ℕ, ◌<◌, ◌≤◌, ◌≡◌, Bool, true, false, List, [], ◌∷◌, ◌⊎◌, Option, None, Some}
use Rattle.records.specs.Priorities.{rank_of}
use Rattle.rows.specs.Lists.{All}
use Rattle.sending.specs.Types.{Priority, Unicast}
use Rattle.sending.specs.Members.{is_past}
use Rattle.sending.specs.Rules.{ready, wake_head}
use Rattle.tables.specs.Layouts.{unicast_head}

-- some send of the list has the property
abbrev pub Any : (Unicast → Type 0) → List Unicast → Type 0
Any P [] = ⊥
Any P (u ∷ us) = P u ⊎ Any P us

-- a queued, unexpired send with this id and priority is there; and every other such is of lower priority, or of the same and no lower id
pub record Tops (now : ℕ) (us : List Unicast) (i : ℕ) (p : Priority) : Type 0 where
  pub is : Any (λ (u : Unicast). (ready now u ≡ true) × ((u.id ≡ i) × (u.priority ≡ p))) us
  pub tops : All (λ (u : Unicast). ready now u ≡ true → (rank_of u.priority < rank_of p) ⊎ ((rank_of u.priority ≡ rank_of p) × (i ≤ u.id))) us

-- nothing exactly when none is queued and unexpired
abbrev pub IsBest : ℕ → List Unicast → Option (ℕ × Priority) → Type 0
IsBest now us None = All (λ (u : Unicast). ready now u ≡ false) us
IsBest now us (Some (i, p)) = Tops now us i p

-- the first with a test is the oldest with it: it has the test, and no other with the test has a lower id; or none has it
pub record Oldest (q : Unicast → Bool) (us : List Unicast) (u : Unicast) : Type 0 where
  pub has : q u ≡ true
  pub there : Any (λ (v : Unicast). v ≡ u) us
  pub first : All (λ (v : Unicast). q v ≡ true → u.id ≤ v.id) us

abbrev pub IsOldest : (Unicast → Bool) → List Unicast → Option Unicast → Type 0
IsOldest q us None = All (λ (u : Unicast). q u ≡ false) us
IsOldest q us (Some u) = Oldest q us u

-- where each send has a number or none, and the last one is given or not: some send has x, it is past the last one, and no number past that one is less; or
-- none is past it. So it is with the next member of a source-match set, and with the next wake.
pub record Next (m : Unicast → Option ℕ) (last : Option ℕ) (us : List Unicast) (x : ℕ) : Type 0 where
  pub is : Any (λ (u : Unicast). m u ≡ Some x) us
  pub past : is_past last x ≡ true
  pub least : All (λ (u : Unicast). (y : ℕ) → m u ≡ Some y → is_past last y ≡ true → x ≤ y) us

abbrev pub IsNext : (Unicast → Option ℕ) → Option ℕ → List Unicast → Option ℕ → Type 0
IsNext m last us None = All (λ (u : Unicast). (y : ℕ) → m u ≡ Some y → is_past last y ≡ false) us
IsNext m last us (Some x) = Next m last us x

-- when a send wakes: not while it is in the radio; at its retry or its deadline, whichever is sooner
abbrev pub wake_at : Unicast → Option ℕ
wake_at u = wake_head (unicast_head u) None
