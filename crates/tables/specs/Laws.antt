-- The layouts are lawful: what each kind of record owes to the functions that serve them all.
use Rattle.std.specs.Prelude.{refl}
use Rattle.std.proofs.Common.{◌≡◌, arith}
use Rattle.rows.proofs.Held.{Lawful}
use Rattle.tables.specs.Layouts.{unicast_layout, unicast_table, unrouted_layout, unrouted_table, broadcast_layout, broadcast_table, destination_layout, destination_table}

pub unicast_lawful : Lawful unicast_table
unfolding unicast_layout
unicast_lawful = record { wide = omega arith; long = λ x. refl; first = λ x. refl; zeros = refl; back = refl }

pub unicast_width : unicast_table.layout.width ≡ 10
unfolding unicast_layout
unicast_width = refl

pub unrouted_lawful : Lawful unrouted_table
unfolding unrouted_layout
unrouted_lawful = record { wide = omega arith; long = λ x. refl; first = λ x. refl; zeros = refl; back = refl }

pub unrouted_width : unrouted_table.layout.width ≡ 7
unfolding unrouted_layout
unrouted_width = refl

pub broadcast_lawful : Lawful broadcast_table
unfolding broadcast_layout
broadcast_lawful = record { wide = omega arith; long = λ x. refl; first = λ x. refl; zeros = refl; back = refl }

pub broadcast_width : broadcast_table.layout.width ≡ 7
unfolding broadcast_layout
broadcast_width = refl

pub destination_lawful : Lawful destination_table
unfolding destination_layout
destination_lawful = record { wide = omega arith; long = λ x. refl; first = λ x. refl; zeros = refl; back = refl }

pub destination_width : destination_table.layout.width ≡ 2
unfolding destination_layout
destination_width = refl
