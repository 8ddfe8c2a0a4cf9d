use Prim.Native.Nat.{suc, ◌+◌, ◌*◌, ◌<◌}
use native.Mathlib.Omega.{arith}
use mathlib.Core.Path.{◌≡◌, refl}
use Rattle.actions.proofs.Lines.{settled-exact}
use borrow.Author.Rules.{rules}
use Rattle.actions.proofs.settle.Goals as goal

pub returns : goal.returns
returns c =
    let k = c.args.m * 5 in
    let e1 : k + 1 ≡ suc k = omega arith in
    let e2 : k + 2 ≡ suc (suc k) = omega arith in
    let e3 : k + 3 ≡ suc (suc (suc k)) = omega arith in
    let e4 : k + 4 ≡ suc (suc (suc (suc k))) = omega arith in
    let id : c.args.e.id < 4294967296 = search rules in
    let waiter : c.args.e.waiter < 4294967296 = search rules in
    let frame : c.args.e.frame < 4294967296 = search rules in
    let a = rw c.verdict_address-a.ensures at c.address_word.ensures in
    record {
      words = rw (e1, e2, e3, e4, c.tags_of.ensures.is, a.is);
      next = refl;
      exact = (settled-exact c.args.e c.args.v c.args.hop id waiter frame c.tags_of.ensures a, tt);
    }
