-- What a caller of the run reads off its contract. Assumes nothing.
use Prim.Native.Nat.{ℕ, ◌≤◌}
use mathlib.Core.Path.{ap, ◌∙◌}
use mathlib.Core.List.{List}
use native.Mathlib.Omega.{arith}
use lib.ListN.{length, drop, length-append}
use Rattle.runs.specs.Run.{run_bytes, Ran}

-- the count is within the output
pub within : {s d₀ d' : List ℕ} {n : ℕ} → Ran s d₀ n d' → n ≤ length d'
within {s} {d₀} r =
    let l = ap length r.bytes ∙ length-append (run_bytes s (length d₀)) (drop (length (run_bytes s (length d₀))) d₀) in
    omega arith
