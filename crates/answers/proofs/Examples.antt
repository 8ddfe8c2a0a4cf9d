-- 01's worked output as answers, and three answers that the Rust gave (stored/1-rules.bin). Assumes nothing.
use Rattle.std.specs.Prelude.{None, Some}
use Prim.Native.Nat.{ℕ}
use mathlib.Core.Path.{◌≡◌, refl}
use mathlib.Core.Bool.{true}
use mathlib.Core.List.{[], ◌∷◌}
use Rattle.records.specs.declared.Address.TheVariants.{Extended}
use Rattle.records.specs.declared.SendFailure.TheVariants.{IndirectExpired}
use Rattle.records.specs.declared.Verdict.TheVariants.{Failure, Code}
use Rattle.answers.specs.Types.{Entry, Unicasting, Broadcasting, Done, Id, Settlement, Flight, End}
use Rattle.answers.specs.Items.{item_bytes, items_bytes}

-- 82 00 00 00 00 81 85 00 00 00 00 07 00 00 00 01 00 00 00 81 8D 00 2C 00 00 00
pub worked : items_bytes (Id 0 ∷ Done ∷ Flight 0 7 Broadcasting ∷ Done ∷ End 0 44 ∷ [])
    ≡ 130 ∷ 0 ∷ 0 ∷ 0 ∷ 0 ∷ 129 ∷ 133 ∷ 0 ∷ 0 ∷ 0 ∷ 0 ∷ 7 ∷ 0 ∷ 0 ∷ 0 ∷ 1 ∷ 0 ∷ 0 ∷ 0 ∷ 129 ∷ 141 ∷ 0 ∷ 44 ∷ 0 ∷ 0 ∷ 0 ∷ []
worked = refl

-- a frame to a next hop with another pending
pub flies : item_bytes (Flight 1 17 (Unicasting 113 true)) ≡ 133 ∷ 1 ∷ 0 ∷ 0 ∷ 0 ∷ 17 ∷ 0 ∷ 0 ∷ 0 ∷ 0 ∷ 113 ∷ 0 ∷ 1 ∷ []
flies = refl

abbrev entry : ℕ → ℕ → ℕ → Entry
entry id waiter frame = record { id = id; waiter = waiter; frame = frame }

-- expired under the extended address 0102030405060708
pub expired : item_bytes (Settlement (entry 1 65 17) (Failure (IndirectExpired (Extended 72623859790382856))) None)
    ≡ 132 ∷ 1 ∷ 0 ∷ 0 ∷ 0 ∷ 65 ∷ 0 ∷ 0 ∷ 0 ∷ 17 ∷ 0 ∷ 0 ∷ 0 ∷ 3 ∷ 2 ∷ 8 ∷ 7 ∷ 6 ∷ 5 ∷ 4 ∷ 3 ∷ 2 ∷ 1 ∷ 0 ∷ 0 ∷ 0 ∷ 0 ∷ 0 ∷ []
expired = refl

-- failed with the caller's code 7, its attempts run out at hop 112
pub ran_out : item_bytes (Settlement (entry 0 64 16) (Code 7) (Some 112))
    ≡ 132 ∷ 0 ∷ 0 ∷ 0 ∷ 0 ∷ 64 ∷ 0 ∷ 0 ∷ 0 ∷ 16 ∷ 0 ∷ 0 ∷ 0 ∷ 7 ∷ 0 ∷ 0 ∷ 0 ∷ 0 ∷ 0 ∷ 0 ∷ 0 ∷ 0 ∷ 0 ∷ 7 ∷ 0 ∷ 1 ∷ 112 ∷ 0 ∷ []
ran_out = refl
