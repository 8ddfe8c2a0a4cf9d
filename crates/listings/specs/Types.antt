-- The declared types that the listings speak of and their variants, under one name.
pub use Rattle.answers.specs.declared.Item.{Item}
pub use Rattle.answers.specs.declared.Item.TheVariants.{Done, Time, ShortAddress, ExtendedAddress, Key, Abandonment, DestinationAddress}
