-- The six levels: which one a host's number means, and their order.
use Rattle.std.specs.Prelude.{ℕ, zero, suc, ℤ, pos, negsuc}
use Rattle.records.specs.Types.{Priority, Background, UserLow, UserNormal, UserHigh, UserCritical, StackCritical}

-- −2 or less the lowest; −1, 0 and 1 the next three; above, UserCritical (negsuc n is −(n + 1))
abbrev pub from_host : ℤ → Priority
from_host (negsuc (suc n)) = Background
from_host (negsuc zero) = UserLow
from_host (pos zero) = UserNormal
from_host (pos (suc zero)) = UserHigh
from_host (pos (suc (suc n))) = UserCritical

-- higher transmits first
abbrev pub rank_of : Priority → ℕ
rank_of Background = 0
rank_of UserLow = 1
rank_of UserNormal = 2
rank_of UserHigh = 3
rank_of UserCritical = 4
rank_of StackCritical = 5
