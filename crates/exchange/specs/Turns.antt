-- What one turn of a run does with lent arrays.
use Rattle.std.specs.Prelude.{ℕ, ◌≡◌, List, length}
use Rattle.model.specs.Model.{lent_model, SoundTables}
use Rattle.model.specs.Sound.{SoundModel}
use Rattle.listings.specs.Maps.{MapSound}
use Rattle.exchange.specs.Types.{Counts, Left}
use Rattle.exchange.specs.World.{Step, world_of}
use Rattle.exchange.specs.Answering.{Answering}

-- the arrays hold sound tables and an address map, and the buffer has room for 112 actions
pub record Ready (c : Counts) (ws vs ds bs es ns : List ℕ) (pairs : ℕ) (buf : List ℕ) : Type 0 where
  pub tables : SoundTables c ws vs ds bs
  pub model : SoundModel (lent_model c ws vs ds bs)
  pub map : MapSound es ns pairs
  pub buffer : length buf ≡ 560

-- the arrays hold the step's world, and its answers are written if they fit
pub record Turned (st : Step) (at : ℕ) (out ws' vs' ds' bs' es' ns' buf' out' : List ℕ) (r : Left) : Type 0 where
  pub world : world_of r.counts ws' vs' ds' bs' r.settings es' ns' r.pairs ≡ st.world
  pub ready : Ready r.counts ws' vs' ds' bs' es' ns' r.pairs buf'
  pub answers : Answering st.items at out out' r.wrote
