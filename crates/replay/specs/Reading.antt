-- What reading on leaves of the counts.
use Rattle.std.specs.Prelude.{ℕ, ◌+◌}
use Rattle.replay.specs.declared.reading.Next.{Next}
use Rattle.replay.specs.declared.reading.Next.TheVariants.{On, Ended, Damaged}
use Rattle.replay.specs.Counting.{Few}

-- one head or case more was read
abbrev pub FewOn : ℕ → Next → Type 0
FewOn k (On t) = Few (k + 1) t
FewOn k Ended = Unit {0}
FewOn k Damaged = Unit {0}
