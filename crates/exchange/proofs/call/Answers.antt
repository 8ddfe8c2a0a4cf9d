-- The call, and its answer if it fits.
use Rattle.events.specs.Events.{event_of}
use Rattle.events.specs.Routes.{results_in}
use Rattle.exchange.proofs.Arms.{event-call}
use Rattle.exchange.proofs.Worlds.{call-few, turned-call}
use Rattle.exchange.proofs.call.Goals as goal

pub returns : goal.returns
returns c =
    turned-call c.requires.ready c.args.s (event_of c.args.kind c.args.body.now) (results_in c.args.body.now) (event-call c.args.kind c.requires.kind_value c.args.body.now) c.act-x.ensures c.answer-wrote.ensures

pub answer-wrote-requires-clause-n_bound : goal.answer-wrote-requires-clause-n_bound
answer-wrote-requires-clause-n_bound c = call-few c.requires.ready c.args.s (event_of c.args.kind c.args.body.now) (results_in c.args.body.now) c.act-x.ensures
