use mathlib.Core.Path.{sym, ◌∙◌}
use Rattle.records.specs.Records.{unrouted_id, unrouted_entry}
use Rattle.rows.specs.Tables.{live}
use Rattle.rows.specs.Moves.{has_id}
use Rattle.tables.specs.Layouts.{unrouted_table}
use Rattle.rows.proofs.Promises.{hit-lt, here-some, nowhere-none, find_first}
use Rattle.actions.proofs.Sweeps.{turn-found, turn-missed}
use Rattle.unrouted.specs.Rules.{cancel_turn}
use Rattle.unrouted.proofs.cancel.Goals as goal

pub returns-in-None : goal.returns-in-None
returns-in-None c =
    turn-missed c.requires.held (has_id unrouted_entry c.args.id) cancel_turn
    (sym (find_first unrouted_id c.args.id (live unrouted_table c.args.w.now c.args.n)) ∙ nowhere-none _ (sym c.in-None.is ∙ c.find.ensures))

pub returns-in-Some : goal.returns-in-Some
returns-in-Some c =
    turn-found c.requires.held (has_id unrouted_entry c.args.id) cancel_turn _
    (sym (find_first unrouted_id c.args.id (live unrouted_table c.args.w.now c.args.n)) ∙ here-some _ _ (sym c.in-Some.is ∙ c.find.ensures)) c.drop_at-next.ensures

pub drop_at-next-requires-clause-i_lt_n : goal.drop_at-next-requires-clause-i_lt_n
drop_at-next-requires-clause-i_lt_n c = hit-lt c.requires.held _ _ (here-some _ _ (sym c.in-Some.is ∙ c.find.ensures))
