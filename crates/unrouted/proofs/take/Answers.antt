use Rattle.std.specs.Prelude.{Some}
use Prim.Native.Nat.{◌<◌}
use native.Mathlib.Omega.{arith}
use mathlib.Core.Path.{refl, sym, ap, ◌∙◌}
use Rattle.records.specs.Records.{blank_unrouted}
use Rattle.rows.specs.Tables.{live}
use Rattle.rows.specs.declared.Turn.TheVariants.{Keeps}
use Rattle.tables.specs.Layouts.{unrouted_table}
use Rattle.unrouted.specs.Rules.{goes_to, took_of}
use Rattle.rows.proofs.Promises.{held-length, held_at, first_found, first-missed}
use Rattle.unrouted.proofs.Lists.{drops}
use Rattle.unrouted.proofs.take.Goals as goal

pub load-u-requires-clause-there : goal.load-u-requires-clause-there
load-u-requires-clause-there c =
    omega (arith, (first_found (goes_to c.args.destination) Keeps blank_unrouted (live unrouted_table c.args.w.now c.args.n) _ (sym c.in_ok-i.ensures)).there, held-length c.requires, c.requires.within)

pub returns-in_err-i : goal.returns-in_err-i
returns-in_err-i c =
    let g = first-missed (goes_to c.args.destination) Keeps (live unrouted_table c.args.w.now c.args.n) (sym c.in_err-i.ensures) in
    rw c.from_residual.ensures (record { answer = sym (ap took_of g.is); table = refl })

pub returns : goal.returns
returns c =
    let us = live unrouted_table c.args.w.now c.args.n in
    let g = first_found (goes_to c.args.destination) Keeps blank_unrouted us _ (sym c.in_ok-i.ensures) in
    let l : c.in_ok-i.i < c.args.n = omega (arith, g.there, held-length c.requires) in
    let e = g.is ∙ ap Some (held_at c.requires _ blank_unrouted l ∙ sym c.load-u.ensures) in
    record { answer = sym (ap took_of e); table = rw (drops (goes_to c.args.destination) us _ (sym c.in_ok-i.ensures)) c.remove_at.ensures }

pub remove_at-requires-clause-i_lt_n : goal.remove_at-requires-clause-i_lt_n
remove_at-requires-clause-i_lt_n c =
    omega (arith, (first_found (goes_to c.args.destination) Keeps blank_unrouted (live unrouted_table c.args.w.now c.args.n) _ (sym c.in_ok-i.ensures)).there, held-length c.requires)
