-- The best queued broadcast is what it should be: specs/Claims. And a quorum goes to the oldest with its key. Assumes nothing.
use Rattle.std.specs.Prelude.{Option, None, Some}
use Prim.Native.Nat.{ℕ, suc, ◌≤◌, ◌<◌}
use native.Mathlib.Omega.{arith}
use mathlib.Core.Path.{◌≡◌, refl, sym, ap, ◌∙◌}
use mathlib.Core.Bool.{Bool, true, false}
use mathlib.Core.List.{List, [], ◌∷◌}
use mathlib.Core.Logic.{inl, inr, ⊎_elim}
use lib.Dec.{leb}
use borrow.Author.Tests.{eq-eqb, ne_eqb, leb-true, leb-false}
use Rattle.records.specs.Pick.{pick}
use Rattle.records.specs.Priorities.{rank_of}
use Rattle.records.specs.Records.{broadcast_id}
use Rattle.records.proofs.Cases.{lt-or-le, never}
use Rattle.rows.specs.Lists.{All, lookup, Rising}
use Rattle.rows.specs.Moves.{first_of}
use Rattle.rows.proofs.Promises.{lookup-past}
use Rattle.casting.specs.Types.{QuorumKey, Broadcast}
use Rattle.casting.specs.Rules.{ready, better, best_of, keyed}
use Rattle.casting.specs.Claims.{Behind, Tops, Says, BestIsBest, NoneIfNone}

all_map : {A : Type 0} {P Q : A → Type 0} → ((x : A) → P x → Q x) → (xs : List A) → All P xs → All Q xs
all_map f [] a = tt
all_map f (x ∷ xs) a = (f x a.0, all_map f xs a.1)

all_both : {A : Type 0} {P Q R : A → Type 0} → ((x : A) → P x → Q x → R x) → (xs : List A) → All P xs → All Q xs → All R xs
all_both f [] a b = tt
all_both f (x ∷ xs) a b = (f x a.0 b.0, all_both f xs a.1 b.1)

above : (lo : ℕ) (bs : List Broadcast) → Rising broadcast_id lo bs → All (λ (b : Broadcast). lo ≤ b.id) bs
above lo [] r = tt
above lo (b ∷ bs) r = (r.0, all_map (λ (v : Broadcast) (h : suc b.id ≤ v.id). omega (arith, r.0)) bs (above (suc b.id) bs r.1))

module _ (now : ℕ) (b : Broadcast) (bs : List Broadcast) (r : Rising broadcast_id (suc b.id) bs) where
  -- an id that is found behind b is another
  further : {v : Broadcast} (id : ℕ) → lookup broadcast_id id bs ≡ Some v → lookup broadcast_id id (b ∷ bs) ≡ Some v
  further {v} id e =
      ⊎_elim
      (λ (l : id < suc b.id).
      let n : lookup broadcast_id id bs ≡ None = lookup-past broadcast_id (suc b.id) id bs r l in
      let z : ◌≡◌ {A = ℕ} 0 1 = cc in
      absurd (omega arith))
      (λ (l : suc b.id ≤ id). rw (ne_eqb b.id id (λ q. omega arith)) e)
      (lt-or-le id (suc b.id))

  past : {id rank : ℕ} → Tops now bs id rank → (ready now b ≡ true → Behind id rank b) → Tops now (b ∷ bs) id rank
  past {id} {rank} t f =
      record { the = t.the; there = further id t.there; queued = t.queued; ranks = t.ranks; first = (f, t.first) }

  -- b is queued, and those behind it in the list are behind it
  takes : ready now b ≡ true → All (λ (v : Broadcast). ready now v ≡ true → Behind b.id (rank_of b.priority) v) bs → Tops now (b ∷ bs) b.id (rank_of b.priority)
  takes e a =
      record { the = b; there = rw (eq-eqb b.id b.id refl); queued = e; ranks = refl; first = (λ t. inr (refl, omega arith), a) }

  weaker : {id rank : ℕ} → rank ≤ rank_of b.priority → (v : Broadcast)
      → suc b.id ≤ v.id → (ready now v ≡ true → Behind id rank v) → ready now v ≡ true → Behind b.id (rank_of b.priority) v
  weaker l v g p t =
      ⊎_elim
      (λ (h : rank_of v.priority < rank_of b.priority). inl h)
      (λ (h : rank_of b.priority ≤ rank_of v.priority).
      ⊎_elim (λ k. absurd (omega arith)) (λ k. inr (omega (arith, k.0), omega arith)) (p t))
      (lt-or-le (rank_of v.priority) (rank_of b.priority))

  unready : (v : Broadcast) → ready now v ≡ false → ready now v ≡ true → Behind b.id (rank_of b.priority) v
  unready v n t = never (sym n ∙ t)

  turn : (x : Bool) → ready now b ≡ x → (o : Option (ℕ × ℕ)) → Says now bs o → Says now (b ∷ bs) (pick x (better b.id (rank_of b.priority) o) o)
  turn false e None s = (e, s)
  turn false e (Some (id, rank)) s = past s (λ t. never (sym e ∙ t))
  turn true e None s = takes e (all_map unready bs s)
  turn true e (Some (id, rank)) s = go (leb rank (rank_of b.priority)) refl
    where
      go : (y : Bool) → leb rank (rank_of b.priority) ≡ y → Says now (b ∷ bs) (pick y (Some (b.id, (rank_of b.priority))) (Some (id, rank)))
      go true l = takes e (all_both (weaker (leb-true rank (rank_of b.priority) l)) bs (above (suc b.id) bs r) s.first)
      go false l = past s (λ t. inl (leb-false rank (rank_of b.priority) l))

pub best-is-best : BestIsBest
best-is-best now lo [] r = tt
best-is-best now lo (b ∷ bs) r = turn now b bs r.1 (ready now b) refl (best_of now bs) (best-is-best now (suc b.id) bs r.1)

pub none-if-none : NoneIfNone
none-if-none now [] a = refl
none-if-none now (b ∷ bs) a = ap (λ (x : Bool). pick x (better b.id (rank_of b.priority) (best_of now bs)) (best_of now bs)) a.0 ∙ none-if-none now bs a.1

-- ---- the broadcast that a quorum goes to is the oldest with that key

pub delivers-oldest : (k : QuorumKey) (lo : ℕ) (bs : List Broadcast) (b : Broadcast) → Rising broadcast_id lo bs → first_of (keyed k) bs ≡ Some b
    → All (λ (v : Broadcast). keyed k v ≡ true → b.id ≤ v.id) bs
delivers-oldest k lo [] b r e = tt
delivers-oldest k lo (x ∷ bs) b r e = go (keyed k x) refl e (delivers-oldest k (suc x.id) bs b r.1)
  where
    later : x ≡ b → (v : Broadcast) → suc x.id ≤ v.id → keyed k v ≡ true → b.id ≤ v.id
    later i v l t = let j : x.id ≡ b.id = ap broadcast_id i in omega arith

    go : (y : Bool) → keyed k x ≡ y → pick y (Some x) (first_of (keyed k) bs) ≡ Some b
        → (first_of (keyed k) bs ≡ Some b → All (λ (v : Broadcast). keyed k v ≡ true → b.id ≤ v.id) bs)
        → (keyed k x ≡ true → b.id ≤ x.id) × All (λ (v : Broadcast). keyed k v ≡ true → b.id ≤ v.id) bs
    go true q f ih =
        let i : x ≡ b = cc in
        let j : x.id ≡ b.id = ap broadcast_id i in
        ((λ t. omega arith), all_map (later i) bs (above (suc x.id) bs r.1))
    go false q f ih = ((λ t. never (sym q ∙ t)), ih f)
