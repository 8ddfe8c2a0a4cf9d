-- How many actions a move tells: at most two for a record, one for an unrouted send that is swept. Assumes nothing.
use Prim.Native.Nat.{ℕ, ◌*◌, ◌≤◌}
use native.Mathlib.Omega.{arith}
use mathlib.Core.Bool.{Bool, true, false}
use mathlib.Core.List.{List, [], ◌∷◌}
use lib.ListN.{length, length-append}
use Rattle.records.specs.declared.Entry.{Entry}
use Rattle.records.specs.declared.Action.{Action}
use Rattle.records.specs.declared.Unrouted.{Unrouted}
use Rattle.records.specs.Records.{unrouted_entry}
use Rattle.records.proofs.Cases.{either}
use Rattle.rows.specs.Moves.{told, each_told, at_first_told}
use Rattle.rows.specs.declared.Turn.{Turn}
use Rattle.rows.specs.declared.Turn.TheVariants.{Keeps, HandsOff, Settles}
use Rattle.unrouted.specs.declared.Which.{Which}
use Rattle.unrouted.specs.Rules.{chosen, sweep_turn}

module _ {A : Type 0} (entry : A → Entry) where
  told-two : (e : Entry) (t : Turn A) → length (told e t) ≤ 2
  told-two e (Keeps y) = omega arith
  told-two e (HandsOff y) = omega arith
  told-two e (Settles true v h) = omega arith
  told-two e (Settles false v h) = omega arith

  each-few : (k : ℕ) (f : A → Turn A) → ((x : A) → length (told (entry x) (f x)) ≤ k) → (xs : List A) → length (each_told entry f xs) ≤ k * length xs
  each-few k f b [] = omega arith
  each-few k f b (x ∷ xs) = omega (arith, length-append (told (entry x) (f x)) (each_told entry f xs), b x, each-few k f b xs)

  pub each_two : (f : A → Turn A) (xs : List A) → length (each_told entry f xs) ≤ 2 * length xs
  each_two f xs = each-few 2 f (λ x. told-two (entry x) (f x)) xs

  pub first_two : (q : A → Bool) (f : A → Turn A) (xs : List A) → length (at_first_told entry q f xs) ≤ 2
  first_two q f [] = omega arith
  first_two q f (x ∷ xs) = either (λ (l : List Action). length l ≤ 2) (q x) (told-two (entry x) (f x)) (first_two q f xs)

pub sweep-one : (w : Which) (us : List Unrouted) → length (each_told unrouted_entry (sweep_turn w) us) ≤ 1 * length us
sweep-one w us =
    each-few unrouted_entry 1 (sweep_turn w)
    (λ u. either (λ (t : Turn Unrouted). length (told (unrouted_entry u) t) ≤ 1) (chosen w u) (omega arith) (omega arith))
    us
