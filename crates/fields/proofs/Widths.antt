-- Numbers out of bytes: one law over the width.
use Prim.Native.Nat.{ℕ, ◌+◌, ◌*◌, ◌^◌, ◌≤◌, ◌<◌}
use mathlib.Core.Path.{◌≡◌, sym, ap, ap₂, ◌∙◌}
use mathlib.Core.List.{List, [], ◌∷◌, ◌++◌}
use native.Mathlib.Nat.{zero-add, one-mul, add-zero, add_assoc, mul-add, mul_assoc, mul_comm, pow-suc}
use native.Mathlib.Omega.{arith}
use lib.ListN.{length, get_or, take, drop, length-drop}
use lib.Seq.{take-add, drop-drop, drop-cons, length-take-le}
use Rattle.fields.specs.Bytes.{le}

le-append : (xs ys : List ℕ) → le (xs ++ ys) ≡ le xs + 256 ^ length xs * le ys
le-append [] ys = sym (zero-add _ ∙ one-mul (le ys))
le-append (x ∷ xs) ys =
    ap (λ (n : ℕ). x + 256 * n) (le-append xs ys)
    ∙ ap (λ (n : ℕ). x + n) (mul-add 256 (le xs) (256 ^ length xs * le ys))
    ∙ sym (add_assoc x (256 * le xs) (256 * (256 ^ length xs * le ys)))
    ∙ ap (λ (n : ℕ). x + 256 * le xs + n) (sym (mul_assoc 256 (256 ^ length xs) (le ys)) ∙ ap (λ (n : ℕ). n * le ys) (mul_comm 256 (256 ^ length xs) ∙ sym (pow-suc 256 (length xs))))

-- a number of m + n bytes is one of m bytes and above it one of n
pub le-more : (m n at : ℕ) (s : List ℕ) → at + m ≤ length s → le (take (m + n) (drop at s)) ≡ le (take m (drop at s)) + 256 ^ m * le (take n (drop (at + m) s))
le-more m n at s h =
    let l : m ≤ length (drop at s) = simp length-drop (omega arith) in
    ap le (take-add m n (drop at s)) ∙ le-append (take m (drop at s)) (take n (drop m (drop at s)))
    ∙ ap₂ (λ (k : ℕ) (r : List ℕ). le (take m (drop at s)) + 256 ^ k * le (take n r)) (length-take-le m (drop at s) l) (drop-drop m at s)
