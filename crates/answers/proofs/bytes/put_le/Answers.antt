use Prim.Native.Nat.{ℕ, ◌+◌, ◌-◌, ◌≤◌}
use native.Mathlib.Omega.{arith}
use mathlib.Core.Path.{◌≡◌, sym, ap, ap₂, ◌∙◌}
use mathlib.Core.List.{List}
use lib.ListN.{length, take}
use borrow.Rule.Slice.PartMut.{put_mid}
use Rattle.answers.specs.Bytes.{le_bytes}
use Rattle.answers.proofs.Writings.{le-long, le-front, part-written}
use Rattle.answers.proofs.bytes.put_le.Goals as goal

pub returns : goal.returns
returns c =
    let a = c.args in
    let bytes : List ℕ = le_bytes a.width a.n in
    let long : length bytes ≡ a.width = le-long a.width a.n in
    let room : a.at + length bytes ≤ length a.out.now = omega (arith, c.requires.room) in
    let many : a.at + a.width - a.at ≡ a.width = omega arith in
    let same : c.copy_from_slice.new.self ≡ bytes = c.copy_from_slice.ensures.after ∙ ap (take a.width) c.to_le_bytes.ensures ∙ le-front a.width a.n c.requires.few in
    record {
      holds = ap₂ (λ (k : ℕ) (bs : List ℕ). put_mid a.at k a.out.now bs) many same ∙ part-written a.at a.width bytes a.out.now (sym long) room;
      next = ap (λ (k : ℕ). a.at + k) (sym long);
    }
