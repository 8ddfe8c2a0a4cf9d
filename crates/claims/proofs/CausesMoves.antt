-- What the moves of a table keep of every record and say in every action, where each turn keeps it. Over any type of records. Assumes nothing.
use Rattle.std.specs.Prelude.{Some}
use Prim.Native.Nat.{ℕ}
use native.Mathlib.Omega.{arith}
use mathlib.Core.Path.{◌≡◌, refl, subst, sym}
use mathlib.Core.Bool.{Bool, true, false}
use mathlib.Core.List.Memᴰ
use mathlib.Core.List.{List, [], ◌∷◌, ◌++◌, Memᴰ}
use mathlib.Core.Logic.{⊎_elim}
use Rattle.records.specs.Pick.{pick}
use Rattle.claims.specs.CausesTypes.{Verdict, Success, Failure, Code, Entry, Action, HandedOff, Settled}
use Rattle.records.proofs.Cases.{either-by}
use Rattle.rows.specs.Lists.{All, Rising}
use Rattle.rows.specs.Moves.{kept, told, each, at_first, first_of, each_told, at_first_told, id_of}
use Rattle.rows.specs.declared.Turn.{Turn}
use Rattle.rows.specs.declared.Turn.TheVariants.{Keeps, HandsOff, Settles}
use Rattle.rows.proofs.Promises.{first-has, first-oldest}
use Rattle.claims.specs.Causes.{Fact, Oldest, Reported, Caused}

-- ---- lists

pub all_append : {A : Type 0} (P : A → Type 0) (xs ys : List A) → All P xs → All P ys → All P (xs ++ ys)
all_append P [] ys a b = b
all_append P (x ∷ xs) ys a b = (a.0, all_append P xs ys a.1 b)

pub all-at : {A : Type 0} (P : A → Type 0) (xs : List A) (x : A) → All P xs → Memᴰ x xs → P x
all-at P [] x a h = elim h [ ]
all-at P (y ∷ ys) x a h = ⊎_elim (λ e. subst P (sym e) a.0) (λ d. all-at P ys x a.1 d) (Memᴰ.cases_cons h)

-- the first with a test is there, and is the oldest with it
pub first-there : {A : Type 0} (q : A → Bool) (xs : List A) (x : A) → first_of q xs ≡ Some x → Memᴰ x xs
first-there q [] x e = let z : ◌≡◌ {A = ℕ} 0 1 = cc in absurd (omega arith)
first-there q (y ∷ ys) x e = go (q y) e (first-there q ys x)
  where
    go : (b : Bool) → pick b (Some y) (first_of q ys) ≡ Some x → (first_of q ys ≡ Some x → Memᴰ x ys) → Memᴰ x (y ∷ ys)
    go true f ih = let i : y ≡ x = cc in Memᴰ.head (sym i)
    go false f ih = Memᴰ.tail (ih f)

pub is-oldest : {A : Type 0} (entry : A → Entry) (q : A → Bool) (xs : List A) (x : A) → Rising (id_of entry) 0 xs → first_of q xs ≡ Some x → Oldest entry q xs (entry x).id
is-oldest entry q xs x r e =
    record {
      the = x;
      there = first-there q xs x e;
      named = refl;
      has = first-has (id_of entry) q xs x e;
      first = first-oldest (id_of entry) q 0 xs x r e;
    }

-- ---- what a history is known to hold

module _ (E : Fact → Type 0) where
  -- a success is caused; of a failure nothing is asked
  abbrev pub IfSuccess : Verdict → ℕ → Type 0
  IfSuccess Success i = Caused E i
  IfSuccess (Failure f) i = Unit {0}
  IfSuccess (Code c) i = Unit {0}

  abbrev pub ForCause : Action → Type 0
  ForCause (HandedOff i w) = E (Reported i)
  ForCause (Settled e v h) = IfSuccess v e.id

  -- a record of the table has P; what becomes of it has P, and what is told of it is told for cause
  module _ {A : Type 0} (entry : A → Entry) (P : A → Type 0) where
    abbrev pub Good : A → Turn A → Type 0
    Good x (Keeps y) = P y
    Good x (HandsOff y) = E (Reported (entry x).id) × P y
    Good x (Settles again v h) = (again ≡ true → E (Reported (entry x).id)) × IfSuccess v (entry x).id

    turn-kept : (x : A) (xs : List A) (t : Turn A) → Good x t → All P xs → All P (kept t ++ xs)
    turn-kept x xs (Keeps y) g a = (g, a)
    turn-kept x xs (HandsOff y) g a = (g.1, a)
    turn-kept x xs (Settles again v h) g a = a

    turn-told : (x : A) (t : Turn A) → Good x t → All ForCause (told (entry x) t)
    turn-told x (Keeps y) g = tt
    turn-told x (HandsOff y) g = (g.0, tt)
    turn-told x (Settles again v h) g = either-by (All ForCause) again (λ e. (g.0 e, (g.1, tt))) (λ e. (g.1, tt))

    module _ (f : A → Turn A) where
      pub each-kept : ((x : A) → P x → Good x (f x)) → (xs : List A) → All P xs → All P (each f xs)
      each-kept g [] a = tt
      each-kept g (x ∷ xs) a = turn-kept x (each f xs) (f x) (g x a.0) (each-kept g xs a.1)

      pub each-told : ((x : A) → P x → Good x (f x)) → (xs : List A) → All P xs → All ForCause (each_told entry f xs)
      each-told g [] a = tt
      each-told g (x ∷ xs) a = all_append ForCause (told (entry x) (f x)) (each_told entry f xs) (turn-told x (f x) (g x a.0)) (each-told g xs a.1)

      module _ (q : A → Bool) where
        -- of the first with a test, that it is the first is known besides
        pub first-kept : (xs : List A) → ((x : A) → P x → first_of q xs ≡ Some x → Good x (f x)) → All P xs → All P (at_first q f xs)
        first-kept [] g a = tt
        first-kept (x ∷ xs) g a = go (q x) g (λ h. first-kept xs h a.1)
          where
            go : (b : Bool) → ((y : A) → P y → pick b (Some x) (first_of q xs) ≡ Some y → Good y (f y))
                → (((y : A) → P y → first_of q xs ≡ Some y → Good y (f y)) → All P (at_first q f xs)) → All P (pick b (kept (f x) ++ xs) (x ∷ at_first q f xs))
            go true g ih = turn-kept x xs (f x) (g x a.0 refl) a.1
            go false g ih = (a.0, ih g)

        pub first-told : (xs : List A) → ((x : A) → P x → first_of q xs ≡ Some x → Good x (f x)) → All P xs → All ForCause (at_first_told entry q f xs)
        first-told [] g a = tt
        first-told (x ∷ xs) g a = go (q x) g (λ h. first-told xs h a.1)
          where
            go : (b : Bool) → ((y : A) → P y → pick b (Some x) (first_of q xs) ≡ Some y → Good y (f y))
                → (((y : A) → P y → first_of q xs ≡ Some y → Good y (f y)) → All ForCause (at_first_told entry q f xs))
                → All ForCause (pick b (told (entry x) (f x)) (at_first_told entry q f xs))
            go true g ih = turn-told x (f x) (g x a.0 refl)
            go false g ih = ih g
