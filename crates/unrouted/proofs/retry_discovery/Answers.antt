use Rattle.std.specs.Prelude.{Some}
use Prim.Native.Nat.{◌-◌}
use native.Mathlib.Omega.{arith}
use mathlib.Core.Path.{◌≡◌, sym, ap, ◌∙◌}
use lib.Dec.{eqb}
use Rattle.records.specs.Records.{blank_destination, destination_address}
use Rattle.records.specs.declared.Destination.{Destination}
use Rattle.rows.specs.Tables.{live}
use Rattle.rows.specs.Moves.{placed}
use Rattle.rows.specs.declared.Turn.{Turn}
use Rattle.rows.specs.declared.Turn.TheVariants.{Keeps}
use Rattle.tables.specs.Layouts.{unrouted_table, destination_table}
use Rattle.rows.proofs.Promises.{hit-lt, hit-lookup, miss-lookup, held_at, held-holds, find_first, first_found}
use Rattle.unrouted.proofs.Lists.{not-held, none_left, none-waits, spends}
use Rattle.unrouted.specs.Types.{Declined}
use Rattle.unrouted.specs.Rules.{retry_of}
use Rattle.unrouted.proofs.retry_discovery.Goals as goal
use Rattle.unrouted.proofs.retry_discovery.Goals.{then-h-eq0-via-then-h-eq0, then-h-eq0-via-else-h-eq0+then-not-waits}

-- one restart less
abbrev spent : Destination → Turn Destination
spent h = Keeps (record { address = h.address; retries = h.retries - 1 })

pub load-h-requires : goal.load-h-requires
load-h-requires c = omega (arith, hit-lt c.requires.held_2 _ _ ((sym c.find.ensures ∙ c.in-Some.is)), c.requires.held_2.within)

pub returns-then-h-eq0 : goal.returns-then-h-eq0
returns-then-h-eq0 c =
    let e = hit-lookup c.requires.held_2 _ _ ((sym c.find.ensures ∙ c.in-Some.is)) ∙ ap Some (sym c.load-h.ensures) in
    let us = live unrouted_table c.args.w.now c.args.n in
    let hs = live destination_table c.args.d.now c.args.k in
    let no : Declined ≡ retry_of c.args.destination us hs =
    elim c.then-h-eq0.branch [
      | then-h-eq0-via-then-h-eq0 w ↦ none_left c.args.destination us hs _ e w.if-h-eq0.true
      | then-h-eq0-via-else-h-eq0+then-not-waits w ↦ none-waits c.args.destination us hs _ e (sym w.waits.ensures ∙ w.if-not-waits.true)
    ] in
    record { answer = no; table = held-holds c.requires.held_2 }

pub returns-in-None : goal.returns-in-None
returns-in-None c =
    let e = (sym c.find.ensures ∙ c.in-None.is) in
    record { answer = not-held c.args.destination (live unrouted_table c.args.w.now c.args.n) (live destination_table c.args.d.now c.args.k) (miss-lookup c.requires.held_2 _ e); table = held-holds c.requires.held_2 }

pub returns-else-not-waits : goal.returns-else-not-waits
returns-else-not-waits c =
    let f = (sym c.find.ensures ∙ c.in-Some.is) in
    let e = hit-lookup c.requires.held_2 _ _ f ∙ ap Some (sym c.load-h.ensures) in
    let g = first_found (λ (h : Destination). eqb h.address c.args.destination) spent blank_destination (live destination_table c.args.d.now c.args.k) _ (sym (find_first destination_address c.args.destination (live destination_table c.args.d.now c.args.k)) ∙ f) in
    let l = hit-lt c.requires.held_2 _ _ f in
    let at = held_at c.requires.held_2 _ blank_destination l ∙ sym c.load-h.ensures in
    let mv = g.move ∙ ap (λ (h : Destination). placed (spent h) c.in-Some.i (live destination_table c.args.d.now c.args.k)) at in
    record {
      answer = spends c.args.destination (live unrouted_table c.args.w.now c.args.n) (live destination_table c.args.d.now c.args.k) _ e (sym c.waits.ensures ∙ c.if-not-waits.false) c.if-h-eq0.false;
      table = rw mv c.store.ensures;
    }

pub store-requires-clause-stands : goal.store-requires-clause-stands
store-requires-clause-stands c =
    let e = (sym c.find.ensures ∙ c.in-Some.is) in
    record { there = hit-lt c.requires.held_2 _ _ e; same = ap (λ (h : Destination). h.address) c.load-h.ensures }
