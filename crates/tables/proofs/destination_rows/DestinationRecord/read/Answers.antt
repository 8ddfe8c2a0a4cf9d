use Rattle.std.proofs.Common.{refl}
use Rattle.tables.specs.Layouts.{destination_layout}
use Rattle.tables.proofs.destination_rows.DestinationRecord.read.Goals as goal

pub returns : goal.returns
unfolding destination_layout
returns c = refl
