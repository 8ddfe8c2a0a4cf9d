-- There already, and one of two ways where it is not.
use Rattle.listings.proofs.Pairings.{below-room, found, missed, pair-there, pair-full, pair-new}
use Rattle.listings.proofs.maps.put_pair.Goals as goal

pub returns-in-Ok : goal.returns-in-Ok
returns-in-Ok c =
    let f = found c.requires c.args.x c.in-Ok.p c.in-Ok.ensures.position in
    pair-there c.args.x c.args.y c.requires c.in-Ok.p f.0 f.1

pub returns-in-Err : goal.returns-in-Err
returns-in-Err c =
    pair-full c.args.x c.args.y c.requires (missed c.requires c.args.x c.in-Err.field-0 c.in-Err.ensures.position).1 c.if-n-eq32.true

pub returns-in-Err-2 : goal.returns-in-Err-2
returns-in-Err-2 c =
    let f = missed c.requires c.args.x c.in-Err.field-0 c.in-Err.ensures.position in
    pair-new c.args.x c.args.y c.requires c.in-Err.field-0 f.0 f.1 (below-room c.requires c.if-n-eq32.false) c.insert.ensures c.insert-in-Err-2.ensures
