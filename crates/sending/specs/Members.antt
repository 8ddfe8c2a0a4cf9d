-- The source-match sets: which addresses the radio answers a poll from with frame pending. Each is given out in rising order: the next member after one.
use Rattle.std.specs.Prelude.{ℕ, Bool, true, false, ◌&&◌, List, [], ◌∷◌, length, ltb, eqb, Option, None, Some, Result, Ok, Err}
use Rattle.records.specs.Pick.{pick}
use Rattle.records.specs.Times.{sooner}
use Rattle.rows.specs.Lists.{fold}
use Rattle.tables.specs.Layouts.{unicast_head}
use Rattle.sending.specs.Types.{Address, Absent, Short, Extended, Unicast, UnicastHead}
use Rattle.records.specs.declared.Refusal.TheVariants.{MapMalformed}
use Rattle.sending.specs.declared.Book.{Book}
use Rattle.sending.specs.declared.Book.TheVariants.{Shorts, Longs}
use Rattle.sending.specs.Rules.{pending_head}
use Rattle.records.specs.declared.Refusal.{Refusal}

-- ---- the address map, as two slices

-- every number is above the one before it, the first above p
abbrev pub rises_after : ℕ → List ℕ → Bool
rises_after p [] = true
rises_after p (x ∷ xs) = pick (ltb p x) (rises_after x xs) false

abbrev pub rises_all : List ℕ → Bool
rises_all [] = true
rises_all (x ∷ xs) = rises_after x xs

-- the slices are of one length, and the extended addresses strictly rise; else 11
abbrev pub map_fits : List ℕ → List ℕ → Bool
map_fits es ns = eqb (length es) (length ns) && rises_all es

-- the short address that an extended one is mapped to
abbrev pub mapped_in : ℕ → List ℕ → List ℕ → Option ℕ
mapped_in x [] ns = None
mapped_in x (e ∷ es) [] = None
mapped_in x (e ∷ es) (n ∷ ns) = pick (eqb e x) (Some n) (mapped_in x es ns)

-- ---- the members

-- what a send that is pending for an address puts into a set: an extended address also adds its mapped short one
abbrev pub member_by : Book → List ℕ → List ℕ → Address → Option ℕ
member_by Shorts es ns Absent = None
member_by Shorts es ns (Short n) = Some n
member_by Shorts es ns (Extended x) = mapped_in x es ns
member_by Longs es ns Absent = None
member_by Longs es ns (Short n) = None
member_by Longs es ns (Extended x) = Some x

abbrev pub member_head : Book → List ℕ → List ℕ → UnicastHead → Option ℕ
member_head book es ns h = member_by book es ns (pending_head h)

abbrev pub member_of : Book → List ℕ → List ℕ → Unicast → Option ℕ
member_of book es ns u = member_head book es ns (unicast_head u)

-- ---- the next member

-- x comes after the last one given out
abbrev pub is_past : Option ℕ → ℕ → Bool
is_past None x = true
is_past (Some y) x = ltb y x

-- the least of those past the last one
abbrev pub least_with : Option ℕ → Option ℕ → Option ℕ → Option ℕ
least_with last None b = b
least_with last (Some x) b = pick (is_past last x) (sooner x b) b

abbrev pub least_step : (Unicast → Option ℕ) → Option ℕ → Unicast → Option ℕ → Option ℕ
least_step m last u b = least_with last (m u) b

abbrev pub least_of : (Unicast → Option ℕ) → Option ℕ → List Unicast → Option ℕ
least_of m last us = fold (least_step m last) None us

abbrev pub next_member : Book → List ℕ → List ℕ → Option ℕ → List Unicast → Option ℕ
next_member book es ns last us = least_of (member_of book es ns) last us

-- 11 where the slices are no address map
abbrev pub listing_of : Bool → Option ℕ → Result (Option ℕ) Refusal
listing_of true None = Ok None
listing_of true (Some x) = Ok (Some x)
listing_of false o = Err MapMalformed
