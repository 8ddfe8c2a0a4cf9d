-- Two replies in full, the first as 01's worked output has it, and a refusal, which tells no action. Assumes nothing.
use mathlib.Core.Path.{◌≡◌, refl}
use mathlib.Core.List.{List, [], ◌∷◌}
use Rattle.records.specs.declared.Refusal.TheVariants.{NoSuchSend}
use Rattle.replies.specs.Types.{Action, HandedOff, Denied, Accepted, Issued}
use Rattle.replies.specs.Replies.{reply_bytes}

-- 82 00 00 00 00 81
pub issued : reply_bytes (Issued 0) [] ≡ 130 ∷ 0 ∷ 0 ∷ 0 ∷ 0 ∷ 129 ∷ []
issued = refl

-- one action told
pub handed : reply_bytes Accepted (HandedOff 1 65 ∷ []) ≡ 131 ∷ 1 ∷ 0 ∷ 0 ∷ 0 ∷ 65 ∷ 0 ∷ 0 ∷ 0 ∷ 129 ∷ []
handed = refl

pub refused : (acts : List Action) → reply_bytes (Denied NoSuchSend) acts ≡ reply_bytes (Denied NoSuchSend) []
refused acts = refl
