use Prim.Native.Nat.{◌≤◌, ◌<◌}
use native.Mathlib.Omega.{arith}
use mathlib.Core.Path.{◌≡◌, refl, sym, ap, ◌∙◌}
use mathlib.Core.Bool.{Bool, true, false}
use lib.ListN.{length}
use Rattle.records.specs.Pick.{pick}
use Rattle.records.specs.Records.{destination_address}
use Rattle.rows.specs.Lists.{insert_by}
use Rattle.rows.specs.Tables.{live}
use Rattle.tables.specs.Layouts.{unrouted_table, destination_table}
use Rattle.unrouted.specs.Rules.{is_held, newly_held, holding}
use Rattle.rows.proofs.Promises.{held-length, held-holds, holds-count}
use Rattle.unrouted.proofs.Lists.{full-sends, full-held, room-held, room-new, refused, granted}
use Rattle.unrouted.proofs.enqueue.Goals as goal

pub returns-then-n-ge16 : goal.returns-then-n-ge16
returns-then-n-ge16 c =
    let l : 16 ≤ length (live unrouted_table c.args.w.now c.args.n) = omega (arith, held-length c.requires.held) in
    record { answer = refused c.args.u (live unrouted_table c.args.w.now c.args.n) (live destination_table c.args.d.now c.args.k) c.args.attempts (full-sends c.args.u (live unrouted_table c.args.w.now c.args.n) (live destination_table c.args.d.now c.args.k) l); tables = (refl, refl) }

pub returns-then-is_held : goal.returns-then-is_held
returns-then-is_held c =
    let u = c.args.u in
    let l : length (live unrouted_table c.args.w.now c.args.n) < 16 = omega (arith, held-length c.requires.held) in
    let e : is_held u.destination (live destination_table c.args.d.now c.args.k) ≡ true = sym c.is_held.ensures ∙ c.if-is_held.true in
    let h : holding c.args.attempts u.destination (live destination_table c.args.d.now c.args.k) ≡ (live destination_table c.args.d.now c.args.k) = ap (λ (b : Bool). pick b (live destination_table c.args.d.now c.args.k) (insert_by destination_address (newly_held c.args.attempts u.destination) (live destination_table c.args.d.now c.args.k))) e in
    record {
      answer = granted u (live unrouted_table c.args.w.now c.args.n) (live destination_table c.args.d.now c.args.k) c.args.attempts (room-held u (live unrouted_table c.args.w.now c.args.n) (live destination_table c.args.d.now c.args.k) l e) (holds-count c.enter-sends.ensures) (sym (held-length c.requires.held_2) ∙ sym (ap length h));
      tables = (c.enter-sends.ensures, rw h (held-holds c.requires.held_2));
    }

pub returns-then-k-ge16 : goal.returns-then-k-ge16
returns-then-k-ge16 c =
    let l : length (live unrouted_table c.args.w.now c.args.n) < 16 = omega (arith, held-length c.requires.held) in
    let m : 16 ≤ length (live destination_table c.args.d.now c.args.k) = omega (arith, held-length c.requires.held_2) in
    let e : is_held c.args.u.destination (live destination_table c.args.d.now c.args.k) ≡ false = sym c.is_held.ensures ∙ c.if-is_held.false in
    record { answer = refused c.args.u (live unrouted_table c.args.w.now c.args.n) (live destination_table c.args.d.now c.args.k) c.args.attempts (full-held c.args.u (live unrouted_table c.args.w.now c.args.n) (live destination_table c.args.d.now c.args.k) l e m); tables = (refl, refl) }

pub returns : goal.returns
returns c =
    let u = c.args.u in
    let l : length (live unrouted_table c.args.w.now c.args.n) < 16 = omega (arith, held-length c.requires.held) in
    let m : length (live destination_table c.args.d.now c.args.k) < 16 = omega (arith, held-length c.requires.held_2) in
    let e : is_held u.destination (live destination_table c.args.d.now c.args.k) ≡ false = sym c.is_held.ensures ∙ c.if-is_held.false in
    let h : holding c.args.attempts u.destination (live destination_table c.args.d.now c.args.k) ≡ insert_by destination_address (newly_held c.args.attempts u.destination) (live destination_table c.args.d.now c.args.k) =
    ap (λ (b : Bool). pick b (live destination_table c.args.d.now c.args.k) (insert_by destination_address (newly_held c.args.attempts u.destination) (live destination_table c.args.d.now c.args.k))) e in
    let d = c.hold-held.ensures in
    record {
      answer = granted u (live unrouted_table c.args.w.now c.args.n) (live destination_table c.args.d.now c.args.k) c.args.attempts (room-new u (live unrouted_table c.args.w.now c.args.n) (live destination_table c.args.d.now c.args.k) l e m) (holds-count c.enter-sends-2.ensures) (holds-count d ∙ sym (ap length h));
      tables = (c.enter-sends-2.ensures, rw h d);
    }
