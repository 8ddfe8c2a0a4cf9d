-- Bytes written one after the other: two writings in turn are one of both, and all else of the output stays. Numbers by one law over
-- the width. Assumes nothing.
use Prim.Native.Nat.{ℕ, zero, suc, ◌+◌, ◌^◌, ◌%◌, ◌/◌, ◌≤◌}
use native.Mathlib.Nat.{add-zero, add_assoc, pow-suc, div-one, div-div-eq-div-mul}
use native.Mathlib.Omega.{arith}
use mathlib.Core.Path.{◌≡◌, refl, sym, ap, ap₂, ◌∙◌}
use mathlib.Core.List.{List, [], ◌∷◌, ◌++◌, append_assoc}
use lib.ListN.{length, take, drop, set, length-append}
use lib.Seq.{sets, sets-eq, length-sets, take-set-le, drop-set-lt, take_at, length-take-le}
use Rattle.std.specs.Int.{w64, byte_at, bytes_low_first, to_le_bytes}
use Rattle.std.proofs.lemmas.List.{drop-drop}
use borrow.Rule.Slice.PartMut.{put_mid}
use Rattle.rows.proofs.Sets.{sets-append}
use Rattle.answers.specs.Bytes.{le_bytes, Written}

-- ---- a number over its width

pub le-long : (width n : ℕ) → length (le_bytes width n) ≡ width
le-long zero n = refl
le-long (suc width) n = ap suc (le-long width (n / 256))

-- the quotient by one byte more
quotient-on : (i n : ℕ) → n / 256 ^ suc i ≡ n / 256 ^ i / 256
quotient-on i n = ap (λ (k : ℕ). n / k) (pow-suc 256 i) ∙ sym (div-div-eq-div-mul n (256 ^ i) 256)

byte-is : (i n : ℕ) → byte_at i n ≡ n / 256 ^ i % 256
byte-is zero n = ap (λ (k : ℕ). k % 256) (sym (div-one n))
byte-is (suc i) n = refl

-- the lowest bytes that std gives, from byte i on, are those of the number over the bytes below
bytes-front : (width w i n : ℕ) → width ≤ w → take width (bytes_low_first i w n) ≡ le_bytes width (n / 256 ^ i)
bytes-front zero w i n h = refl
bytes-front (suc width) zero i n h = absurd (omega arith)
bytes-front (suc width) (suc w) i n h =
    ap₂ (λ (b : ℕ) (l : List ℕ). b ∷ l) (byte-is i n) (bytes-front width w (suc i) n (omega arith) ∙ ap (le_bytes width) (quotient-on i n))

pub le-front : (width n : ℕ) → width ≤ 8 → take width (to_le_bytes w64 n) ≡ le_bytes width n
le-front width n h = bytes-front width 8 0 n h ∙ ap (le_bytes width) (div-one n)

-- written in place of as many
pub part-written : (at width : ℕ) (bytes out : List ℕ) → width ≡ length bytes → at + length bytes ≤ length out → put_mid at width out bytes ≡ sets out at bytes
part-written at width bytes out e h =
    ap (λ (k : ℕ). take at out ++ (bytes ++ drop k (drop at out))) e
    ∙ ap (λ (l : List ℕ). take at out ++ (bytes ++ l)) (drop-drop (length bytes) at out)
    ∙ sym (append_assoc (take at out) bytes (drop (at + length bytes) out))
    ∙ sym (sets-eq bytes out at h)

-- ---- in turn

pub written-nothing : (at : ℕ) (out : List ℕ) → Written at [] out out at
written-nothing at out = record { holds = refl; next = sym (add-zero at) }

pub written-append : {at r r' : ℕ} {xs ys out out' out'' : List ℕ} → Written at xs out out' r → Written r ys out' out'' r' → Written at (xs ++ ys) out out'' r'
written-append {at} {r} {r'} {xs} {ys} {out} {out'} {out''} p q =
    record {
      holds = q.holds ∙ ap₂ (λ (l : List ℕ) (k : ℕ). sets l k ys) p.holds p.next ∙ sym (sets-append out at xs ys);
      next = q.next ∙ ap (λ (k : ℕ). k + length ys) p.next ∙ add_assoc at (length xs) (length ys) ∙ ap (λ (k : ℕ). at + k) (sym (length-append xs ys));
    }

-- the same bytes under another name
pub written_as : {at r : ℕ} {xs ys out out' : List ℕ} → xs ≡ ys → Written at xs out out' r → Written at ys out out' r
written_as {at} {r} {xs} {ys} {out} {out'} e p = record { holds = p.holds ∙ ap (sets out at) e; next = p.next ∙ ap (λ (l : List ℕ). at + length l) e }

-- ---- what stays

module _ {A : Type 0} where
  pub take-sets : (n : ℕ) (l : List A) (o : ℕ) (vs : List A) → n ≤ o → take n (sets l o vs) ≡ take n l
  take-sets n l o [] h = refl
  take-sets n l o (v ∷ vs) h = take-sets n (set l o v) (suc o) vs (omega arith) ∙ take-set-le n l o v h

  pub drop-sets : (n : ℕ) (l : List A) (o : ℕ) (vs : List A) → o + length vs ≤ n → drop n (sets l o vs) ≡ drop n l
  drop-sets n l o [] h = refl
  drop-sets n l o (v ∷ vs) h = drop-sets n (set l o v) (suc o) vs (omega arith) ∙ drop-set-lt n l o v (omega arith)

module _ {at r : ℕ} {bytes out out' : List ℕ} (w : Written at bytes out out' r) where
  pub written-long : length out' ≡ length out
  written-long = ap length w.holds ∙ length-sets out at bytes

  -- where the bytes fit, the next place is within the output
  pub written-within : at + length bytes ≤ length out → r ≤ length out'
  written-within h =
      let l = written-long in
      let n = w.next in
      omega arith

  -- what stands before the place
  pub written-before : take at out' ≡ take at out
  written-before = ap (take at) w.holds ∙ take-sets at out at bytes (omega arith)

  -- and any shorter front
  pub written-front : (n : ℕ) → n ≤ at → take n out' ≡ take n out
  written-front n h = ap (take n) w.holds ∙ take-sets n out at bytes h

  -- what stands past the bytes
  pub written-past : drop r out' ≡ drop r out
  written-past =
      let n = w.next in
      ap (drop r) w.holds ∙ drop-sets r out at bytes (omega arith)

  -- the whole, where the bytes fit
  pub written-whole : at + length bytes ≤ length out → out' ≡ take at out ++ bytes ++ drop r out
  written-whole h = w.holds ∙ sets-eq bytes out at h ∙ ap (λ (k : ℕ). take at out ++ bytes ++ drop k out) (sym w.next)

  -- the front grows by the bytes
  pub written_grows : at + length bytes ≤ length out → take r out' ≡ take at out ++ bytes
  written_grows h =
      let l : length (take at out) ≡ at = length-take-le at out (omega arith) in
      let m : length (take at out ++ bytes) ≡ r = length-append (take at out) bytes ∙ ap (λ (k : ℕ). k + length bytes) l ∙ sym w.next in
      ap (take r) (written-whole h) ∙ take_at (take at out ++ bytes) (drop r out) r m
