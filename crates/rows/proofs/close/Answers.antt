use borrow.Rule.Slice.PartMut.{put_mid}
use lib.Seq.{paste, length-take-le}
use Rattle.std.proofs.Common.{◌≡◌, ℕ, ◌+◌, ◌-◌, ◌*◌, ◌≤◌, ◌<◌, List, length, take, drop, replicate, ap, ◌∙◌, arith, rules, length-drop}
use Rattle.std.proofs.lemmas.List.{length-replicate}
use Rattle.rows.specs.Rows.{moved, closed}
use Rattle.rows.proofs.Sets.{length_moved, moved_within, written_over}
use Rattle.rows.proofs.Search.{split_rows}
use Rattle.rows.proofs.close.Goals as goal

-- the rows behind row i are moved, and then the last is cleared
closes : (width n i : ℕ) (w moves clears : List ℕ) → i < n → n * width ≤ length w
    → moves ≡ paste w (i * width) (drop (i * width + width) w) (n * width - (i * width + width))
    → clears ≡ replicate (length (take (n * width - (n * width - width)) (drop (n * width - width) moves))) 0
    → put_mid (n * width - width) (n * width - (n * width - width)) moves clears ≡ closed width n i w
closes width n i w moves clears h fits e z =
    let s = split_rows n i width h in
    let rest : n * width - (i * width + width) ≡ (n - 1 - i) * width = omega arith in
    let last : n * width - width ≡ i * width + (n - 1 - i) * width = omega arith in
    let m : moves ≡ moved (i * width) (i * width + width) ((n - 1 - i) * width) w =
    e ∙ moved_within (i * width) (i * width + width) _ w (omega arith) (omega arith) ∙ ap (λ (k : ℕ). moved (i * width) (i * width + width) k w) rest in
    let long : length moves ≡ length w = ap length m ∙ length_moved (i * width) (i * width + width) ((n - 1 - i) * width) w in
    let part : length (take (n * width - (n * width - width)) (drop (n * width - width) moves)) ≡ width =
    length-take-le _ (drop (n * width - width) moves) (omega (arith, length-drop (n * width - width) moves)) ∙ omega arith in
    written_over moves clears (replicate width 0) (n * width - width) _ (z ∙ ap (λ (k : ℕ). replicate k 0) part) (omega (arith, length-replicate {A = ℕ} width 0))
    (omega arith)
    ∙ rw (last, m)

pub returns : goal.returns
returns c =
    let a = c.args in
    closes a.width a.n a.i a.w.now _ _ c.requires.0 c.requires.1 c.copy_within.ensures.after (c.fill.ensures.after (search rules))
