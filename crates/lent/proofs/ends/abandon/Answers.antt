use mathlib.Core.Path.{refl}
use Rattle.lent.proofs.Listings.{listed-append}
use Rattle.lent.proofs.ends.abandon.Goals as goal

pub returns : goal.returns
returns c =
    let x = c.list_unicasts-x.ensures in
    let y = c.list_unrouted-y.ensures in
    let z = c.list_broadcasts-z.ensures in
    let both = c.abandon-2.ensures in
    record {
      next = refl;
      unicasts = c.abandon.ensures;
      unrouted = both.sends;
      held = both.held;
      broadcasts = c.abandon-3.ensures;
      lists = listed-append x (listed-append y z);
    }
