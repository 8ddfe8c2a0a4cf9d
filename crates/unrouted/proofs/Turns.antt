-- What the tests of the code say of a send's turn, and of the lists. Assumes nothing.
use Rattle.std.specs.Prelude.{None}
use Prim.Native.Nat.{ℕ, ◌+◌, ◌≤◌}
use native.Mathlib.Omega.{arith}
use mathlib.Core.Path.{◌≡◌, refl, sym, ap, ◌∙◌}
use mathlib.Core.Bool.{Bool, true, false}
use mathlib.Core.List.{List, [], ◌∷◌}
use lib.ListN.{get_or}
use Rattle.records.specs.Pick.{pick, bit}
use Rattle.records.specs.Records.{blank_unrouted}
use Rattle.rows.specs.Lists.{fold}
use Rattle.rows.specs.Tables.{rows_of}
use Rattle.rows.specs.Moves.{count}
use Rattle.rows.specs.declared.Turn.TheVariants.{Keeps, Settles}
use Rattle.tables.specs.Layouts.{unrouted_head, unrouted_table}
use Rattle.unrouted.specs.Types.{Unrouted, UnroutedHead, SendFailure, Failure, Which}
use Rattle.unrouted.specs.Rules.{chosen_head, chosen, failure_of, sweep_turn}

-- the record at a place
abbrev pub row_at : List ℕ → ℕ → Unrouted
row_at ws i = get_or (rows_of unrouted_table ws) i blank_unrouted

-- the send of which the head was read is chosen or not
pub tested : (which : Which) (u : Unrouted) {h : UnroutedHead} {r b : Bool} → h ≡ unrouted_head u → r ≡ chosen_head which h → r ≡ b → chosen which u ≡ b
tested which u e f g = ap (chosen_head which) (sym e) ∙ sym f ∙ g

pub turn-chosen : (which : Which) (u : Unrouted) {f : SendFailure} → chosen which u ≡ true → f ≡ failure_of which → sweep_turn which u ≡ Settles false (Failure f) None
turn-chosen which u e g = ap (λ (b : Bool). pick b (Settles false (Failure (failure_of which)) None) (Keeps u)) e ∙ ap (λ (f : SendFailure). Settles false (Failure f) None) (sym g)

pub turn-left : (which : Which) (u : Unrouted) → chosen which u ≡ false → sweep_turn which u ≡ Keeps u
turn-left which u e = ap (λ (b : Bool). pick b (Settles false (Failure (failure_of which)) None) (Keeps u)) e

-- generic: a count is a fold
pub count-fold : {A : Type 0} (p : A → Bool) (xs : List A) → fold (λ (x : A) (a : ℕ). bit (p x) + a) 0 xs ≡ count p xs
count-fold p [] = refl
count-fold p (x ∷ xs) = ap (λ (a : ℕ). bit (p x) + a) (count-fold p xs)

pub bit_le : (b : Bool) → bit b ≤ 1
bit_le true = omega arith
bit_le false = omega arith
