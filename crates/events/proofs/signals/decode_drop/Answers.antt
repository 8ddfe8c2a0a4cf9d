use mathlib.Core.Path.{ap, ap₂, ◌∙◌}
use Rattle.fields.specs.Parts.{opt64_by}
use Rattle.events.specs.Signals.{drop_of}
use Rattle.events.specs.Types.{OnDrop}
use Rattle.events.proofs.signals.decode_drop.Goals as goal

pub returns-in-Some : goal.returns-in-Some
unfolding drop_of
returns-in-Some c = let e = c.opt64_by.ensures ∙ ap₂ opt64_by c.byte_at.ensures c.u64_at.ensures in
    rw (← e, c.in-Some.is) (ap (OnDrop c.in-Some.eui) c.u16_at-short.ensures)

pub returns-in-None : goal.returns-in-None
unfolding drop_of
returns-in-None c = let e = c.opt64_by.ensures ∙ ap₂ opt64_by c.byte_at.ensures c.u64_at.ensures in
    rw (← e, c.in-None.is)
