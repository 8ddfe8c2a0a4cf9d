-- What stands at a place of a trace.
use Rattle.std.specs.Prelude.{ℕ, ◌+◌, List, length, get_or, ltb, leb, eqb}
use Rattle.records.specs.Pick.{pick}
use Rattle.framing.specs.Kinds.{body_of}
use Rattle.framing.specs.declared.Standing.{Standing}
use Rattle.framing.specs.declared.Standing.TheVariants.{Record, Unknown, Cut, End}

-- no byte left: the end; a kind of no event (0, and from 23 on): unknown; a body that runs past the end: cut; else the record
abbrev pub stands_at : List ℕ → ℕ → Standing
stands_at s at =
    pick (leb (length s) at) End
    (pick (eqb (get_or s at 0) 0) Unknown
    (pick (ltb 22 (get_or s at 0)) Unknown
    (pick (ltb (length s) (at + 1 + body_of (get_or s at 0))) Cut
    (Record (get_or s at 0) (at + 1) (at + 1 + body_of (get_or s at 0))))))
